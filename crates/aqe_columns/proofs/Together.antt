-- The parts of a condition hold together where the condition does.
use Rattle.std.proofs.Common.{◌≡◌, Bool, true, false, ◌&&◌, List, [], ◌∷◌, ◌++◌, Some, None, refl, ap, sym, ◌∙◌, append_assoc}
use Rattle.std.specs.List.{list_all}
use Rattle.std.proofs.lemmas.List.Folds.{list_all-append}
use Rattle.aqe_values.specs.declared.value.Value.{Value}
use Rattle.aqe_values.specs.declared.value.Value.TheVariants.{Null, Boolean, Int, BigInt, Text}
use Rattle.aqe_expr.specs.declared.expr.Expr.{Expr}
use Rattle.aqe_expr.specs.declared.expr.Expr.TheVariants.{Binary}
use Rattle.aqe_expr.specs.declared.expr.BinaryOp.{BinaryOp}
use Rattle.aqe_expr.specs.declared.expr.BinaryOp.TheVariants as op
use Rattle.aqe_expr.specs.Shapes.{binary_of}
use Rattle.aqe_expr.specs.Meaning.{val, holds}
use Rattle.aqe_expr.proofs.Shapes.{is_binary}
use Rattle.aqe_scalar.specs.Truths.{Truth, both, truth_of, truth_value, is_true}
use Rattle.aqe_columns.specs.Parts.{parts_of, is_and}
use Rattle.aqe_columns.specs.Laws.{PartsHoldTogether}

and_true : (b : Bool) → b ≡ b && true
and_true true = refl
and_true false = refl

-- an AND is true where both are
known : (a b : Truth) → is_true (truth_value (both a b)) ≡ is_true (truth_value a) && is_true (truth_value b)
known (Some true) b = refl
known (Some false) b = refl
known None (Some false) = refl
known None (Some true) = refl
known None None = refl

told : (v : Value) → is_true (truth_value (truth_of v)) ≡ is_true v
told Null = refl
told (Boolean true) = refl
told (Boolean false) = refl
told (Int n) = refl
told (BigInt n) = refl
told (Text text) = refl

both_hold : (v w : Value) → is_true (truth_value (both (truth_of v) (truth_of w))) ≡ is_true v && is_true w
both_hold v w = known (truth_of v) (truth_of w) ∙ (λ i. told v i && told w i)

one : (row : List Value) (e : Expr) → list_all (λ part. holds part row) (e ∷ []) ≡ holds e row
one row e = sym (and_true (holds e row))

pub together : PartsHoldTogether
together row (binary_of op.And l r) =
    list_all-append (λ part. holds part row) (parts_of l) (parts_of r) ∙
    (λ i. together row l i && together row r i) ∙
    sym (both_hold (val row l) (val row r))
together row e = one row e

-- as the code makes it
pub parts_and : (e : Expr) (o : BinaryOp) (l r : Expr) → e ≡ Binary o l r → is_and o ≡ true → parts_of e ≡ parts_of l ++ parts_of r
parts_and e op.And l r is h = ap parts_of (is ∙ is_binary op.And l r)
parts_and e o l r is h = absurd (cc)

pub two_parts : (e : Expr) (o : BinaryOp) (l r : Expr) (old mid new : List Expr) → e ≡ Binary o l r → is_and o ≡ true → mid ≡ old ++ parts_of l → new ≡ mid ++ parts_of r → new ≡ old ++ parts_of e
two_parts e o l r old mid new is h first then =
    then ∙ (ap (λ xs. xs ++ parts_of r) first ∙ (append_assoc old (parts_of l) (parts_of r) ∙ ap (λ xs. old ++ xs) (sym (parts_and e o l r is h))))
