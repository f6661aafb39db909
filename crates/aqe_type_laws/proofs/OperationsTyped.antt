-- An operation on typed expressions gives one whose values are of its type.
use Rattle.std.proofs.Common.{◌≡◌, ℕ, Bool, true, false, cond, not, ◌&&◌, List, [], ◌∷◌, Option, Some, None, Ok, refl, subst}
use Rattle.std.specs.Prelude.{All, unwrap_or}
use Rattle.std.specs.List.{list_all}
use Rattle.std.proofs.lemmas.List.Elements.{All-head, All-tail}
use Rattle.aqe_values.specs.declared.value.Value.{Value}
use Rattle.aqe_values.specs.declared.value.Value.TheVariants as value
use Rattle.aqe_values.specs.declared.sql_type.SqlType.{SqlType}
use Rattle.aqe_values.specs.declared.sql_type.SqlType.TheVariants as sql
use Rattle.aqe_expr.specs.declared.expr.UnaryOp.{UnaryOp}
use Rattle.aqe_expr.specs.declared.expr.UnaryOp.TheVariants as unary
use Rattle.aqe_expr.specs.declared.expr.BinaryOp.{BinaryOp}
use Rattle.aqe_expr.specs.declared.expr.BinaryOp.TheVariants as binary
use Rattle.aqe_expr.specs.declared.expr.Expr.{Expr, Literal, Coalesce}
use Rattle.aqe_expr.specs.Shapes.{unary_of, binary_of, between_of, one_of, case_of, switch_of}
use Rattle.aqe_expr.specs.Numbers.{sum_of, difference_of, product_of, remainder_of}
use Rattle.aqe_expr.specs.Truths.{is_true, is_null, is_known_true, equals, differs, less, at_most, greater, at_least, between as is_between, opposite, truth_of, both, either}
use Rattle.aqe_expr.specs.Casts.{fits_int}
use Rattle.aqe_expr.specs.Meaning.{val, unary_value, binary_value, in_list as is_in_list, first_true, first_equal, first_present}
use Rattle.aqe_trees.specs.declared.expression.CompareOp.{CompareOp}
use Rattle.aqe_trees.specs.declared.expression.CompareOp.TheVariants as compare
use Rattle.aqe_trees.specs.declared.expression.Sign.{Sign}
use Rattle.aqe_trees.specs.declared.expression.Sign.TheVariants as sign
use Rattle.aqe_trees.specs.declared.expression.ProductOp.{ProductOp}
use Rattle.aqe_trees.specs.declared.expression.ProductOp.TheVariants as product
use Rattle.aqe_trees.specs.declared.expression.Truth.{Truth}
use Rattle.aqe_trees.specs.declared.expression.Truth.TheVariants as truth
use Rattle.aqe_rules.specs.Outcomes.{Outcome, upon, present}
use Rattle.aqe_rules.specs.Kinds.{is_same_kind, is_number, is_truth, is_text, wider}
use Rattle.aqe_rules.specs.declared.typed.Typed.{Typed}
use Rattle.aqe_rules.specs.Operations.{typed, mismatch, nearest, number, cast_to, converted, cast, common_kind, signed_by, signed_operation, arithmetic, product_operation, sum_operation, comparing, comparison, between, operands, in_list, like, is_operation, on_truth, negation, logical, otherwise_of, common_of_gives, common_of_tests, tested_as, case_pairs, case, coalesce, length_of}
use Rattle.aqe_rules.proofs.Gives.{Gives, IfAny, gives_upon, gives_all, gives_provided}
use Rattle.aqe_laws.proofs.OperationsBelow.{either_one}
use Rattle.aqe_laws.proofs.Bounds.{passed}
use Rattle.aqe_type_laws.specs.Fits.{IsOf}
use Rattle.aqe_type_laws.proofs.Values.{truth_fits, quotient_fits, length_fits, as_int_fits, as_bigint_fits, as_text_fits, as_boolean_fits, like_fits, same_kind, negated_fits, wider_fits, arithmetic_fits}

-- where the condition holds, the first of two; else the second
pub either_known : {A : Type 0} (P : A → Type 0) (b : Bool) (x y : A) → (b ≡ true → P x) → P y → P (cond b x y)
either_known P true x y h k = h refl
either_known P false x y h k = k

unwrapped : (P : Value → Type 0) (o : Option Value) (d : Value) → IfAny P o → P d → P (unwrap_or o d)
unwrapped P None d h k = k
unwrapped P (Some v) d h k = h

first_of_two : (a b : Bool) → a && b ≡ true → a ≡ true
first_of_two true b h = refl
first_of_two false b h = absurd (let no : ⊥ = cc in no)

second_of_two : (a b : Bool) → a && b ≡ true → b ≡ true
second_of_two true b h = h
second_of_two false b h = absurd (let no : ⊥ = cc in no)

cast_to-fits : (row : List Value) (kind : SqlType) (e : Expr) → IsOf (val row (cast_to kind e)) kind
cast_to-fits row sql.NullType e = tt
cast_to-fits row sql.Boolean e = as_boolean_fits (val row e)
cast_to-fits row sql.Int e = as_int_fits (val row e)
cast_to-fits row sql.BigInt e = as_bigint_fits (val row e)
cast_to-fits row sql.Text e = as_text_fits (val row e)

compared_fits : (op : CompareOp) (v w : Value) → IsOf (binary_value (comparing op) v w) sql.Boolean
compared_fits compare.Equal v w = truth_fits (equals v w)
compared_fits compare.Same v w = tt
compared_fits compare.NotEqual v w = truth_fits (differs v w)
compared_fits compare.Less v w = truth_fits (less v w)
compared_fits compare.AtMost v w = truth_fits (at_most v w)
compared_fits compare.Greater v w = truth_fits (greater v w)
compared_fits compare.AtLeast v w = truth_fits (at_least v w)

-- a kind says nothing of values
abbrev AnyKind : SqlType → Type 0
AnyKind kind = Unit {0}

-- over some rows
module _ (R : List Value → Type 0) where
  -- the values of an expression are of its type
  abbrev pub Typed_over : Typed → Type 0
  Typed_over a = (row : List Value) → R row → IsOf (val row a.expr) a.kind

  with_kind : (o : Outcome SqlType) (made : SqlType → Outcome Typed) → ((kind : SqlType) → Gives Typed_over (made kind)) → Gives Typed_over (upon o made)
  with_kind o made h = gives_upon AnyKind Typed_over o made (gives_all AnyKind (λ k. tt) o) (λ kind u. h kind)

  pub cast-typed : (kind : SqlType) (a : Typed) → Typed_over (cast kind a)
  cast-typed kind a row r = cast_to-fits row kind a.expr

  pub converted-typed : (kind : SqlType) (a : Typed) → Typed_over a → (row : List Value) → R row → IsOf (val row (converted kind a)) kind
  converted-typed kind a h row r =
      either_known (λ e. IsOf (val row e) kind) (is_same_kind a.kind kind) a.expr (cast_to kind a.expr)
      (λ same. subst (λ k. IsOf (val row a.expr) k) (same_kind a.kind kind same) (h row r)) (cast_to-fits row kind a.expr)

  pub number-typed : (negative : Bool) (m : ℕ) (long : Bool) → Typed_over (number negative m long)
  number-typed negative m long =
      either_one Typed_over (not long && fits_int (nearest negative m)) (typed (Literal (value.Int (nearest negative m))) sql.Int)
      (typed (Literal (value.BigInt (nearest negative m))) sql.BigInt) (λ row r. tt) (λ row r. tt)

  signed_by-typed : (op : Sign) (a : Typed) → Typed_over a → is_number a.kind ≡ true → Typed_over (typed (signed_by op a.expr) (wider a.kind a.kind))
  signed_by-typed sign.Plus a h e row r = wider_fits (val row a.expr) a.kind (h row r) e
  signed_by-typed sign.Minus a h e row r = negated_fits (val row a.expr) a.kind (h row r) e

  pub signed-typed : (op : Sign) (a : Typed) → Typed_over a → Gives Typed_over (signed_operation op a)
  signed-typed op a h = passed Typed_over (is_number a.kind) mismatch (Ok (typed (signed_by op a.expr) (wider a.kind a.kind))) (λ e. signed_by-typed op a h e)

  -- an operation on two numbers, where its values are of the kind
  arithmetic-typed : (op : BinaryOp) (kind : SqlType) (a b : Typed) →
      ((v w : Value) → IsOf v a.kind → IsOf w b.kind → is_number a.kind ≡ true → is_number b.kind ≡ true → IsOf (binary_value op v w) kind) →
      Typed_over a → Typed_over b → Gives Typed_over (arithmetic op kind a b)
  arithmetic-typed op kind a b made h k =
      passed Typed_over (is_number a.kind && is_number b.kind) mismatch (Ok (typed (binary_of op a.expr b.expr) kind)) (λ e row r.
      made (val row a.expr) (val row b.expr) (h row r) (k row r) (first_of_two (is_number a.kind) (is_number b.kind) e) (second_of_two (is_number a.kind) (is_number b.kind) e))

  pub product-typed : (op : ProductOp) (a b : Typed) → Typed_over a → Typed_over b → Gives Typed_over (product_operation op a b)
  product-typed product.Times a b h k = arithmetic-typed binary.Mul (wider a.kind b.kind) a b (λ v w. arithmetic_fits product_of v w a.kind b.kind) h k
  product-typed product.Remainder a b h k = arithmetic-typed binary.Rem (wider a.kind b.kind) a b (λ v w. arithmetic_fits remainder_of v w a.kind b.kind) h k
  product-typed product.Divide a b h k = arithmetic-typed binary.Div sql.BigInt a b (λ v w p q s t. quotient_fits v w) h k

  pub sum-typed : (op : Sign) (a b : Typed) → Typed_over a → Typed_over b → Gives Typed_over (sum_operation op a b)
  sum-typed sign.Plus a b h k = arithmetic-typed binary.Add (wider a.kind b.kind) a b (λ v w. arithmetic_fits sum_of v w a.kind b.kind) h k
  sum-typed sign.Minus a b h k = arithmetic-typed binary.Sub (wider a.kind b.kind) a b (λ v w. arithmetic_fits difference_of v w a.kind b.kind) h k

  -- what gives a BOOLEAN whatever it is asked of
  pub comparison-typed : (op : CompareOp) (a b : Typed) → Gives Typed_over (comparison op a b)
  comparison-typed op a b =
      with_kind (common_kind (a ∷ b ∷ [])) (λ kind. Ok (typed (binary_of (comparing op) (converted kind a) (converted kind b)) sql.Boolean))
      (λ kind row r. compared_fits op (val row (converted kind a)) (val row (converted kind b)))

  pub between-typed : (a b c : Typed) → Gives Typed_over (between a b c)
  between-typed a b c =
      with_kind (common_kind (a ∷ b ∷ c ∷ [])) (λ kind. Ok (typed (between_of (converted kind a) (converted kind b) (converted kind c)) sql.Boolean))
      (λ kind row r. truth_fits (is_between (val row (converted kind a)) (val row (converted kind b)) (val row (converted kind c))))

  pub in_list-typed : (a : Typed) (all : List Typed) → Gives Typed_over (in_list a all)
  in_list-typed a all =
      with_kind (common_kind (a ∷ all)) (λ kind. Ok (typed (one_of (converted kind a) (operands kind all)) sql.Boolean))
      (λ kind row r. truth_fits (is_in_list row (val row (converted kind a)) (operands kind all)))

  pub like-typed : (a b : Typed) → Gives Typed_over (like a b)
  like-typed a b =
      gives_provided Typed_over (is_text a.kind && is_text b.kind) mismatch (Ok (typed (binary_of binary.Like a.expr b.expr) sql.Boolean))
      (λ row r. like_fits (val row a.expr) (val row b.expr))

  on_truth-typed : (op : UnaryOp) (a : Typed) → ((v : Value) → IsOf (unary_value op v) sql.Boolean) → Gives Typed_over (on_truth op a)
  on_truth-typed op a h = gives_provided Typed_over (is_truth a.kind) mismatch (Ok (typed (unary_of op a.expr) sql.Boolean)) (λ row r. h (val row a.expr))

  pub is-typed : (t : Truth) (a : Typed) → Gives Typed_over (is_operation t a)
  is-typed truth.Null a = λ row r. tt
  is-typed truth.True a = on_truth-typed unary.IsTrue a (λ v. tt)
  is-typed truth.False a = on_truth-typed unary.IsFalse a (λ v. tt)

  pub negation-typed : (a : Typed) → Gives Typed_over (negation a)
  negation-typed a = on_truth-typed unary.Not a (λ v. truth_fits (opposite (truth_of v)))

  logical-typed : (op : BinaryOp) (a b : Typed) → ((v w : Value) → IsOf (binary_value op v w) sql.Boolean) → Gives Typed_over (logical op a b)
  logical-typed op a b h =
      gives_provided Typed_over (is_truth a.kind && is_truth b.kind) mismatch (Ok (typed (binary_of op a.expr b.expr) sql.Boolean)) (λ row r. h (val row a.expr) (val row b.expr))

  pub both-typed : (a b : Typed) → Gives Typed_over (logical binary.And a b)
  both-typed a b = logical-typed binary.And a b (λ v w. truth_fits (both (truth_of v) (truth_of w)))

  pub either-typed : (a b : Typed) → Gives Typed_over (logical binary.Or a b)
  either-typed a b = logical-typed binary.Or a b (λ v w. truth_fits (either (truth_of v) (truth_of w)))

  -- CASE: the results of its arms, and its ELSE
  abbrev pub ArmTyped : (Typed × Typed) → Type 0
  ArmTyped arm = Typed_over arm.0 × Typed_over arm.1

  otherwise-typed : (kind : SqlType) (a : Option Typed) → IfAny Typed_over a → (row : List Value) → R row → IsOf (val row (otherwise_of kind a)) kind
  otherwise-typed kind None h row r = tt
  otherwise-typed kind (Some a) h row r = converted-typed kind a h row r

  true-typed : (tested : Option SqlType) (gives : SqlType) (arms : List (Typed × Typed)) → All ArmTyped arms → (row : List Value) → R row →
      IfAny (λ v. IsOf v gives) (first_true row (case_pairs tested gives arms))
  true-typed tested gives [] h row r = tt
  true-typed tested gives (arm ∷ arms) h row r =
      either_one (IfAny (λ v. IsOf v gives)) (is_true (val row (tested_as tested arm.0))) (Some (val row (converted gives arm.1))) (first_true row (case_pairs tested gives arms))
      (converted-typed gives arm.1 (All-head ArmTyped arm arms h).1 row r) (true-typed tested gives arms (All-tail ArmTyped arm arms h) row r)

  equal-typed : (tested : Option SqlType) (gives : SqlType) (arms : List (Typed × Typed)) (v : Value) → All ArmTyped arms → (row : List Value) → R row →
      IfAny (λ v. IsOf v gives) (first_equal row v (case_pairs tested gives arms))
  equal-typed tested gives [] v h row r = tt
  equal-typed tested gives (arm ∷ arms) v h row r =
      either_one (IfAny (λ v. IsOf v gives)) (is_known_true (equals v (val row (tested_as tested arm.0)))) (Some (val row (converted gives arm.1))) (first_equal row v (case_pairs tested gives arms))
      (converted-typed gives arm.1 (All-head ArmTyped arm arms h).1 row r) (equal-typed tested gives arms v (All-tail ArmTyped arm arms h) row r)

  pub case-typed : (a : Option Typed) (arms : List (Typed × Typed)) (otherwise : Option Typed) → All ArmTyped arms → IfAny Typed_over otherwise → Gives Typed_over (case a arms otherwise)
  case-typed None arms otherwise k l =
      gives_provided Typed_over (list_all (λ arm. is_truth arm.0.kind) arms) mismatch
      (upon (present (common_of_gives arms otherwise) mismatch) (λ gives. Ok (typed (case_of (case_pairs None gives arms) (otherwise_of gives otherwise)) gives)))
      (with_kind (present (common_of_gives arms otherwise) mismatch) (λ gives. Ok (typed (case_of (case_pairs None gives arms) (otherwise_of gives otherwise)) gives)) (λ gives row r.
      unwrapped (λ v. IsOf v gives) (first_true row (case_pairs None gives arms)) (val row (otherwise_of gives otherwise)) (true-typed None gives arms k row r) (otherwise-typed gives otherwise l row r)))
  case-typed (Some a) arms otherwise k l =
      with_kind (present (common_of_tests a.kind arms) mismatch) (λ tested. upon (present (common_of_gives arms otherwise) mismatch) (λ gives.
      Ok (typed (switch_of (converted tested a) (case_pairs (Some tested) gives arms) (otherwise_of gives otherwise)) gives))) (λ tested.
      with_kind (present (common_of_gives arms otherwise) mismatch) (λ gives. Ok (typed (switch_of (converted tested a) (case_pairs (Some tested) gives arms) (otherwise_of gives otherwise)) gives)) (λ gives row r.
      unwrapped (λ v. IsOf v gives) (first_equal row (val row (converted tested a)) (case_pairs (Some tested) gives arms)) (val row (otherwise_of gives otherwise))
      (equal-typed (Some tested) gives arms (val row (converted tested a)) k row r) (otherwise-typed gives otherwise l row r)))

  present-typed : (kind : SqlType) (all : List Typed) → All Typed_over all → (row : List Value) → R row → IsOf (first_present row (operands kind all)) kind
  present-typed kind [] h row r = tt
  present-typed kind (a ∷ rest) h row r =
      either_one (λ v. IsOf v kind) (is_null (val row (converted kind a))) (first_present row (operands kind rest)) (val row (converted kind a))
      (present-typed kind rest (All-tail Typed_over a rest h) row r) (converted-typed kind a (All-head Typed_over a rest h) row r)

  pub coalesce-typed : (all : List Typed) → All Typed_over all → Gives Typed_over (coalesce all)
  coalesce-typed all h = with_kind (common_kind all) (λ kind. Ok (typed (Coalesce (operands kind all)) kind)) (λ kind row r. present-typed kind all h row r)

  pub length-typed : (a : Typed) → Gives Typed_over (length_of a)
  length-typed a = gives_provided Typed_over (is_text a.kind) mismatch (Ok (typed (unary_of unary.Length a.expr) sql.Int)) (λ row r. length_fits (val row a.expr))
