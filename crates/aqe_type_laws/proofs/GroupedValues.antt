-- An expression of a grouped query has at a group's row, which is the keys and then the calls, the value that it has at a row of
-- the group with the calls behind it.
use Rattle.std.proofs.Common.{◌≡◌, ℕ, zero, suc, ◌+◌, ◌<◌, List, [], ◌∷◌, ◌++◌, map, length, cond, Some, Ok, unwrap_or, arith, refl, sym, ap, subst, ◌∙◌}
use Rattle.std.specs.Prelude.{All, slice_index_or}
use Rattle.std.proofs.lemmas.List.{length-map, get_or-append-add}
use Rattle.std.proofs.lemmas.List.Elements.{All-head, All-tail}
use Rattle.aqe_values.specs.declared.value.Value.{Value}
use Rattle.aqe_values.specs.declared.value.Value.TheVariants.{Null}
use Rattle.aqe_expr.specs.declared.expr.Expr.{Expr, Column, Literal, Coalesce}
use Rattle.aqe_expr.specs.declared.expr.Operands as list
use Rattle.aqe_expr.specs.declared.expr.CasePairs as pairs
use Rattle.aqe_expr.specs.Shapes.{unary_of, binary_of, between_of, one_of, case_of, switch_of, operand, pair}
use Rattle.aqe_expr.specs.Below.{ColumnsBelow, EachBelow, PairsBelow}
use Rattle.aqe_expr.specs.Truths.{truth_value, between, either, equals, is_true, is_known_true, is_null}
use Rattle.aqe_expr.specs.Meaning.{val, unary_value, binary_value, in_list, first_true, first_equal, first_present}
use Rattle.aqe_rules.specs.Outcomes.{Outcome, upon}
use Rattle.aqe_rules.specs.Equality.{same_expr}
use Rattle.aqe_rules.specs.Grouping.{from_key, call_behind, grouped, grouped_list, grouped_pairs}
use Rattle.aqe_rules.proofs.Gives.{Gives, gives_upon}
use Rattle.aqe_laws.proofs.Same.{equal}
use Rattle.aqe_type_laws.proofs.OperationsTyped.{either_known}

-- Values behind a row are not read by what reads the row's own columns.
module _ (row more : List Value) where
  front_index : (front : List Value) (k : ℕ) → k < length front → slice_index_or (front ++ more) k Null ≡ slice_index_or front k Null
  front_index [] k lt = absurd (let no : ⊥ = omega (arith, lt) in no)
  front_index (v ∷ front) zero lt = refl
  front_index (v ∷ front) (suc k) lt = front_index front k (omega (arith, lt))

  mutual
    pub front-value : (e : Expr) → ColumnsBelow (length row) e → val (row ++ more) e ≡ val row e
    front-value (Column k) h = front_index row k h
    front-value (Literal v) h = refl
    front-value (unary_of op a) h = ap (unary_value op) (front-value a h)
    front-value (binary_of op a b) (h, k) = λ i. binary_value op (front-value a h i) (front-value b k i)
    front-value (between_of a b c) (h, k, l) = λ i. truth_value (between (front-value a h i) (front-value b k i) (front-value c l i))
    front-value (one_of a l) (h, k) = λ i. truth_value (front-in l k (front-value a h i) i)
    front-value (case_of p e) (h, k) = λ i. unwrap_or (front-true p h i) (front-value e k i)
    front-value (switch_of a p e) (h, k, l) = λ i. unwrap_or (front-equal p k (front-value a h i) i) (front-value e l i)
    front-value (Coalesce l) h = front-present l h

    front-in : (l : list.Operands) → EachBelow (length row) l → (v : Value) → in_list (row ++ more) v l ≡ in_list row v l
    front-in list.End h v = refl
    front-in (operand a rest) (h, k) v = λ i. either (equals v (front-value a h i)) (front-in rest k v i)

    front-true : (p : pairs.CasePairs) → PairsBelow (length row) p → first_true (row ++ more) p ≡ first_true row p
    front-true pairs.End h = refl
    front-true (pair t g rest) (h, k, l) = λ i. cond (is_true (front-value t h i)) (Some (front-value g k i)) (front-true rest l i)

    front-equal : (p : pairs.CasePairs) → PairsBelow (length row) p → (v : Value) → first_equal (row ++ more) v p ≡ first_equal row v p
    front-equal pairs.End h v = refl
    front-equal (pair t g rest) (h, k, l) v = λ i. cond (is_known_true (equals v (front-value t h i))) (Some (front-value g k i)) (front-equal rest l v i)

    front-present : (l : list.Operands) → EachBelow (length row) l → first_present (row ++ more) l ≡ first_present row l
    front-present list.End h = refl
    front-present (operand a rest) (h, k) = λ i. cond (is_null (front-value a h i)) (front-present rest k i) (front-value a h i)

-- what stands from place n on
pub from_here : (n : ℕ) → n + 0 ≡ n
from_here n = omega arith

pub one_on : (n k : ℕ) → n + suc k ≡ n + 1 + k
one_on n k = omega arith

-- the values of calls, behind as many keys and as many columns
call-value : (keys : ℕ) (whole values : List Value) → ((k : ℕ) → slice_index_or whole (keys + k) Null ≡ slice_index_or values k Null) → (names : List (List ℕ)) (row : List Value) (n : ℕ) →
    length row ≡ length names → Gives (λ x. val whole x ≡ slice_index_or (row ++ values) n Null) (call_behind keys names n)
call-value keys whole values at [] [] n e = at n
call-value keys whole values at [] (v ∷ row) n e = absurd (let no : ⊥ = omega (arith, e) in no)
call-value keys whole values at (name ∷ names) [] n e = absurd (let no : ⊥ = omega (arith, e) in no)
call-value keys whole values at (name ∷ names) (v ∷ row) zero e = tt
call-value keys whole values at (name ∷ names) (v ∷ row) (suc n) e = call-value keys whole values at names row n (omega (arith, e))

module _ (keys : List Expr) (names : List (List ℕ)) (row values : List Value) (same : length row ≡ length names) (below : All (ColumnsBelow (length row)) keys) where
  -- the group's row, and a row of the group
  abbrev over_group : List Value
  over_group = map (val row) keys ++ values

  abbrev over_row : List Value
  over_row = row ++ values

  abbrev Valued : Expr → Expr → Type 0
  Valued e x = val over_group x ≡ val over_row e

  abbrev ListValued : list.Operands → list.Operands → Type 0
  ListValued l m = ((v : Value) → in_list over_group v m ≡ in_list over_row v l) × (first_present over_group m ≡ first_present over_row l)

  abbrev PairsValued : pairs.CasePairs → pairs.CasePairs → Type 0
  PairsValued p q = (first_true over_group q ≡ first_true over_row p) × ((v : Value) → first_equal over_group v q ≡ first_equal over_row v p)

  key-value : (ks : List Expr) (n : ℕ) (e : Expr) (other : Outcome Expr) → All (ColumnsBelow (length row)) ks →
      ((k : ℕ) → slice_index_or over_group (n + k) Null ≡ slice_index_or (map (val row) ks ++ values) k Null) →
      Gives (Valued e) other → Gives (Valued e) (from_key ks n e other)
  key-value [] n e other b at h = h
  key-value (key ∷ ks) n e other b at h =
      either_known (Gives (Valued e)) (same_expr key e) (Ok (Column n)) (from_key ks (n + 1) e other)
      (λ s. subst (λ m. slice_index_or over_group m Null ≡ val over_row e) (from_here n)
      (at 0 ∙ (sym (front-value row values key (All-head (ColumnsBelow (length row)) key ks b)) ∙ ap (val over_row) (equal key e s))))
      (key-value ks (n + 1) e other (All-tail (ColumnsBelow (length row)) key ks b)
      (λ k. subst (λ m. slice_index_or over_group m Null ≡ slice_index_or (map (val row) ks ++ values) k Null) (one_on n k) (at (suc k))) h)

  zero_on : (k : ℕ) → 0 + k ≡ k
  zero_on k = omega arith

  keyed : (e : Expr) (other : Outcome Expr) → Gives (Valued e) other → Gives (Valued e) (from_key keys 0 e other)
  keyed e other h = key-value keys 0 e other below (λ k. ap (λ m. slice_index_or over_group m Null) (zero_on k)) h

  behind_keys : (k : ℕ) → slice_index_or over_group (length keys + k) Null ≡ slice_index_or values k Null
  behind_keys k = subst (λ n. slice_index_or over_group (n + k) Null ≡ slice_index_or values k Null) (length-map keys (val row)) (get_or-append-add (map (val row) keys) values k Null)

  mutual
    pub grouped-value : (e : Expr) → Gives (Valued e) (grouped keys names e)
    grouped-value (Column n) = keyed (Column n) (call_behind (length keys) names n) (call-value (length keys) over_group values behind_keys names row n same)
    grouped-value (Literal v) = keyed (Literal v) (Ok (Literal v)) refl
    grouped-value (unary_of op a) = keyed (unary_of op a) (upon (grouped keys names a) (λ x. Ok (unary_of op x)))
        (gives_upon (Valued a) (Valued (unary_of op a)) (grouped keys names a) (λ x. Ok (unary_of op x)) (grouped-value a) (λ x p. ap (unary_value op) p))
    grouped-value (binary_of op a b) = keyed (binary_of op a b)
        (upon (grouped keys names a) (λ x. upon (grouped keys names b) (λ y. Ok (binary_of op x y))))
        (gives_upon (Valued a) (Valued (binary_of op a b)) (grouped keys names a) (λ x. upon (grouped keys names b) (λ y. Ok (binary_of op x y))) (grouped-value a) (λ x p.
        gives_upon (Valued b) (Valued (binary_of op a b)) (grouped keys names b) (λ y. Ok (binary_of op x y)) (grouped-value b) (λ y q. (λ i. binary_value op (p i) (q i)))))
    grouped-value (between_of a b c) = keyed (between_of a b c)
        (upon (grouped keys names a) (λ x. upon (grouped keys names b) (λ y. upon (grouped keys names c) (λ z. Ok (between_of x y z)))))
        (gives_upon (Valued a) (Valued (between_of a b c)) (grouped keys names a) (λ x. upon (grouped keys names b) (λ y. upon (grouped keys names c) (λ z. Ok (between_of x y z)))) (grouped-value a) (λ x p.
        gives_upon (Valued b) (Valued (between_of a b c)) (grouped keys names b) (λ y. upon (grouped keys names c) (λ z. Ok (between_of x y z))) (grouped-value b) (λ y q.
        gives_upon (Valued c) (Valued (between_of a b c)) (grouped keys names c) (λ z. Ok (between_of x y z)) (grouped-value c) (λ z r. (λ i. truth_value (between (p i) (q i) (r i)))))))
    grouped-value (one_of a all) = keyed (one_of a all)
        (upon (grouped keys names a) (λ x. upon (grouped_list keys names all) (λ y. Ok (one_of x y))))
        (gives_upon (Valued a) (Valued (one_of a all)) (grouped keys names a) (λ x. upon (grouped_list keys names all) (λ y. Ok (one_of x y))) (grouped-value a) (λ x p.
        gives_upon (ListValued all) (Valued (one_of a all)) (grouped_list keys names all) (λ y. Ok (one_of x y)) (list-value all) (λ y q. (λ i. truth_value (q.0 (p i) i)))))
    grouped-value (case_of arms e) = keyed (case_of arms e)
        (upon (grouped_pairs keys names arms) (λ x. upon (grouped keys names e) (λ y. Ok (case_of x y))))
        (gives_upon (PairsValued arms) (Valued (case_of arms e)) (grouped_pairs keys names arms) (λ x. upon (grouped keys names e) (λ y. Ok (case_of x y))) (pairs-value arms) (λ x p.
        gives_upon (Valued e) (Valued (case_of arms e)) (grouped keys names e) (λ y. Ok (case_of x y)) (grouped-value e) (λ y q. (λ i. unwrap_or (p.0 i) (q i)))))
    grouped-value (switch_of a arms e) = keyed (switch_of a arms e)
        (upon (grouped keys names a) (λ x. upon (grouped_pairs keys names arms) (λ y. upon (grouped keys names e) (λ z. Ok (switch_of x y z)))))
        (gives_upon (Valued a) (Valued (switch_of a arms e)) (grouped keys names a) (λ x. upon (grouped_pairs keys names arms) (λ y. upon (grouped keys names e) (λ z. Ok (switch_of x y z)))) (grouped-value a) (λ x p.
        gives_upon (PairsValued arms) (Valued (switch_of a arms e)) (grouped_pairs keys names arms) (λ y. upon (grouped keys names e) (λ z. Ok (switch_of x y z))) (pairs-value arms) (λ y q.
        gives_upon (Valued e) (Valued (switch_of a arms e)) (grouped keys names e) (λ z. Ok (switch_of x y z)) (grouped-value e) (λ z r. (λ i. unwrap_or (q.1 (p i) i) (r i))))))
    grouped-value (Coalesce all) = keyed (Coalesce all) (upon (grouped_list keys names all) (λ x. Ok (Coalesce x)))
        (gives_upon (ListValued all) (Valued (Coalesce all)) (grouped_list keys names all) (λ x. Ok (Coalesce x)) (list-value all) (λ x p. p.1))

    list-value : (all : list.Operands) → Gives (ListValued all) (grouped_list keys names all)
    list-value list.End = (λ v. refl, refl)
    list-value (operand a rest) =
        gives_upon (Valued a) (ListValued (operand a rest)) (grouped keys names a) (λ x. upon (grouped_list keys names rest) (λ y. Ok (operand x y))) (grouped-value a) (λ x p.
        gives_upon (ListValued rest) (ListValued (operand a rest)) (grouped_list keys names rest) (λ y. Ok (operand x y)) (list-value rest) (λ y q.
        ((λ v. (λ i. either (equals v (p i)) (q.0 v i))), (λ i. cond (is_null (p i)) (q.1 i) (p i)))))

    pairs-value : (all : pairs.CasePairs) → Gives (PairsValued all) (grouped_pairs keys names all)
    pairs-value pairs.End = (refl, λ v. refl)
    pairs-value (pair t g rest) =
        gives_upon (Valued t) (PairsValued (pair t g rest)) (grouped keys names t) (λ x. upon (grouped keys names g) (λ y. upon (grouped_pairs keys names rest) (λ z. Ok (pair x y z)))) (grouped-value t) (λ x p.
        gives_upon (Valued g) (PairsValued (pair t g rest)) (grouped keys names g) (λ y. upon (grouped_pairs keys names rest) (λ z. Ok (pair x y z))) (grouped-value g) (λ y q.
        gives_upon (PairsValued rest) (PairsValued (pair t g rest)) (grouped_pairs keys names rest) (λ z. Ok (pair x y z)) (pairs-value rest) (λ z r.
        ((λ i. cond (is_true (p i)) (Some (q i)) (r.0 i)), (λ v. (λ i. cond (is_known_true (equals v (p i))) (Some (q i)) (r.1 v i)))))))
