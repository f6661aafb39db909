-- The value of an expression with its columns replaced.
use Rattle.std.proofs.Common.{◌≡◌, ℕ, zero, suc, List, [], ◌∷◌, map, cond, Some, unwrap_or, refl, ap, ◌∙◌}
use Rattle.std.specs.Prelude.{slice_index_or}
use Rattle.aqe_values.specs.declared.value.Value.{Value}
use Rattle.aqe_values.specs.declared.value.Value.TheVariants.{Null}
use Rattle.aqe_expr.specs.declared.expr.Expr.{Expr, Column, Literal, Coalesce}
use Rattle.aqe_expr.specs.declared.expr.Operands as list
use Rattle.aqe_expr.specs.declared.expr.CasePairs as pairs
use Rattle.aqe_expr.specs.Shapes.{unary_of, binary_of, between_of, one_of, case_of, switch_of, operand, pair}
use Rattle.aqe_scalar.specs.Truths.{truth_value, between, either, equals, is_true, is_known_true, is_null}
use Rattle.aqe_expr.specs.Meaning.{val, unary_value, binary_value, in_list, first_true, first_equal, first_present}
use Rattle.aqe_expr.proofs.Steps.{val_unary, val_binary, val_between, val_one_of, val_case, val_switch, in_list_more, first_present_more, first_true_more, first_equal_more}
use Rattle.aqe_columns.specs.Replacing.{replaced, replaced_list, replaced_pairs}
use Rattle.aqe_columns.specs.Laws.{ReplacementKeepsTheValue}

-- the value of an item is the item of the values
item_value : (row : List Value) (items : List Expr) (k : ℕ) → val row (slice_index_or items k (Literal Null)) ≡ slice_index_or (map (val row) items) k Null
item_value row [] k = refl
item_value row (item ∷ items) zero = refl
item_value row (item ∷ items) (suc k) = item_value row items k

module _ (row : List Value) (items : List Expr) where
  mutual
    value : (e : Expr) → val row (replaced items e) ≡ val (map (val row) items) e
    value (Column k) = item_value row items k
    value (Literal v) = refl
    value (unary_of op a) = val_unary row op (replaced items a) ∙ ap (unary_value op) (value a)
    value (binary_of op l r) = val_binary row op (replaced items l) (replaced items r) ∙ (λ i. binary_value op (value l i) (value r i))
    value (between_of v l h) = val_between row (replaced items v) (replaced items l) (replaced items h) ∙ (λ i. truth_value (between (value v i) (value l i) (value h i)))
    value (one_of v l) =
        val_one_of row (replaced items v) (replaced_list items l) ∙
        ap truth_value (ap (λ w. in_list row w (replaced_list items l)) (value v) ∙ in_value (val (map (val row) items) v) l)
    value (case_of p o) = val_case row (replaced_pairs items p) (replaced items o) ∙ (λ i. unwrap_or (true_value p i) (value o i))
    value (switch_of v p o) =
        val_switch row (replaced items v) (replaced_pairs items p) (replaced items o) ∙
        (λ i. unwrap_or ((ap (λ w. first_equal row w (replaced_pairs items p)) (value v) ∙ equal_value (val (map (val row) items) v) p) i) (value o i))
    value (Coalesce l) = present_value l

    in_value : (w : Value) (l : list.Operands) → in_list row w (replaced_list items l) ≡ in_list (map (val row) items) w l
    in_value w list.End = refl
    in_value w (operand item rest) = in_list_more row w (replaced items item) (replaced_list items rest) ∙ (λ i. either (equals w (value item i)) (in_value w rest i))

    true_value : (p : pairs.CasePairs) → first_true row (replaced_pairs items p) ≡ first_true (map (val row) items) p
    true_value pairs.End = refl
    true_value (pair t g rest) = first_true_more row (replaced items t) (replaced items g) (replaced_pairs items rest) ∙ (λ i. cond (is_true (value t i)) (Some (value g i)) (true_value rest i))

    equal_value : (w : Value) (p : pairs.CasePairs) → first_equal row w (replaced_pairs items p) ≡ first_equal (map (val row) items) w p
    equal_value w pairs.End = refl
    equal_value w (pair t g rest) = first_equal_more row w (replaced items t) (replaced items g) (replaced_pairs items rest) ∙ (λ i. cond (is_known_true (equals w (value t i))) (Some (value g i)) (equal_value w rest i))

    present_value : (l : list.Operands) → first_present row (replaced_list items l) ≡ first_present (map (val row) items) l
    present_value list.End = refl
    present_value (operand item rest) = first_present_more row (replaced items item) (replaced_list items rest) ∙ (λ i. cond (is_null (value item i)) (present_value rest i) (value item i))

pub keeps_the_value : ReplacementKeepsTheValue
keeps_the_value row items e = value row items e
