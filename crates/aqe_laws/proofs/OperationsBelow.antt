-- Operations read no other columns than their operands.
use Rattle.std.proofs.Common.{ℕ, Bool, true, false, cond, not, ◌&&◌, List, [], ◌∷◌, Option, Some, None, Ok}
use Rattle.std.specs.Prelude.{All}
use Rattle.std.specs.List.{list_all}
use Rattle.std.proofs.lemmas.List.Elements.{All-head, All-tail}
use Rattle.aqe_values.specs.declared.sql_type.SqlType.{SqlType}
use Rattle.aqe_values.specs.declared.sql_type.SqlType.TheVariants as sql
use Rattle.aqe_values.specs.declared.value.Value.TheVariants as value
use Rattle.aqe_expr.specs.declared.expr.BinaryOp.{BinaryOp}
use Rattle.aqe_expr.specs.declared.expr.BinaryOp.TheVariants as binary
use Rattle.aqe_expr.specs.declared.expr.Expr.{Expr, Literal, Coalesce}
use Rattle.aqe_expr.specs.Shapes.{binary_of, between_of, one_of, case_of, switch_of}
use Rattle.aqe_expr.specs.Below.{ColumnsBelow, EachBelow, PairsBelow}
use Rattle.aqe_expr.specs.Casts.{fits_int}
use Rattle.aqe_trees.specs.declared.expression.CompareOp.{CompareOp}
use Rattle.aqe_trees.specs.declared.expression.Sign.{Sign}
use Rattle.aqe_trees.specs.declared.expression.Sign.TheVariants as sign
use Rattle.aqe_trees.specs.declared.expression.ProductOp.{ProductOp}
use Rattle.aqe_trees.specs.declared.expression.ProductOp.TheVariants as product
use Rattle.aqe_trees.specs.declared.expression.Truth.{Truth}
use Rattle.aqe_trees.specs.declared.expression.Truth.TheVariants as truth
use Rattle.aqe_rules.specs.Outcomes.{Outcome, upon, present}
use Rattle.aqe_rules.specs.Kinds.{is_same_kind, is_number, is_truth, is_text, wider}
use Rattle.aqe_rules.specs.declared.typed.Typed.{Typed}
use Rattle.aqe_rules.specs.Operations.{typed, mismatch, nearest, number, cast_to, converted, cast, common_kind, signed_by, signed_operation, arithmetic, product_operation, sum_operation, comparing, comparison, between, operands, in_list, like, is_operation, negation, logical, otherwise_of, common_of_gives, common_of_tests, tested_as, case_pairs, case, coalesce, length_of}
use Rattle.aqe_rules.proofs.Gives.{Gives, IfAny, gives_upon, gives_all, gives_provided}

abbrev pub Below : ℕ → Typed → Type 0
Below n a = ColumnsBelow n a.expr

-- a kind says nothing of columns
abbrev AnyKind : SqlType → Type 0
AnyKind kind = Unit {0}

pub either_one : {A : Type 0} (P : A → Type 0) (b : Bool) (x y : A) → P x → P y → P (cond b x y)
either_one P true x y h k = h
either_one P false x y h k = k

cast_to-below : (n : ℕ) (kind : SqlType) (a : Expr) → ColumnsBelow n a → ColumnsBelow n (cast_to kind a)
cast_to-below n sql.NullType a h = tt
cast_to-below n sql.Boolean a h = h
cast_to-below n sql.Int a h = h
cast_to-below n sql.BigInt a h = h
cast_to-below n sql.Text a h = h

pub cast-below : (n : ℕ) (kind : SqlType) (a : Typed) → Below n a → Below n (cast kind a)
cast-below n kind a h = cast_to-below n kind a.expr h

pub converted-below : (n : ℕ) (kind : SqlType) (a : Typed) → Below n a → ColumnsBelow n (converted kind a)
converted-below n kind a h = either_one (ColumnsBelow n) (is_same_kind a.kind kind) a.expr (cast_to kind a.expr) h (cast_to-below n kind a.expr h)

pub number-below : (n : ℕ) (negative : Bool) (m : ℕ) (long : Bool) → Below n (number negative m long)
number-below n negative m long =
    either_one (Below n) (not long && fits_int (nearest negative m)) (typed (Literal (value.Int (nearest negative m))) sql.Int)
    (typed (Literal (value.BigInt (nearest negative m))) sql.BigInt) tt tt

with_kind : (n : ℕ) (o : Outcome SqlType) (made : SqlType → Outcome Typed) → ((kind : SqlType) → Gives (Below n) (made kind)) → Gives (Below n) (upon o made)
with_kind n o made h = gives_upon AnyKind (Below n) o made (gives_all AnyKind (λ k. tt) o) (λ kind u. h kind)

with_common : (n : ℕ) (all : List Typed) (made : SqlType → Outcome Typed) → ((kind : SqlType) → Gives (Below n) (made kind)) → Gives (Below n) (upon (common_kind all) made)
with_common n all made h = with_kind n (common_kind all) made h

signed_by-below : (n : ℕ) (op : Sign) (a : Expr) → ColumnsBelow n a → ColumnsBelow n (signed_by op a)
signed_by-below n sign.Plus a h = h
signed_by-below n sign.Minus a h = h

pub signed-below : (n : ℕ) (op : Sign) (a : Typed) → Below n a → Gives (Below n) (signed_operation op a)
signed-below n op a h = gives_provided (Below n) (is_number a.kind) mismatch (Ok (typed (signed_by op a.expr) (wider a.kind a.kind))) (signed_by-below n op a.expr h)

arithmetic-below : (n : ℕ) (op : BinaryOp) (kind : SqlType) (a b : Typed) → Below n a → Below n b → Gives (Below n) (arithmetic op kind a b)
arithmetic-below n op kind a b h k = gives_provided (Below n) (is_number a.kind && is_number b.kind) mismatch (Ok (typed (binary_of op a.expr b.expr) kind)) (h, k)

pub product-below : (n : ℕ) (op : ProductOp) (a b : Typed) → Below n a → Below n b → Gives (Below n) (product_operation op a b)
product-below n product.Times a b h k = arithmetic-below n binary.Mul (wider a.kind b.kind) a b h k
product-below n product.Remainder a b h k = arithmetic-below n binary.Rem (wider a.kind b.kind) a b h k
product-below n product.Divide a b h k = arithmetic-below n binary.Div sql.BigInt a b h k

pub sum-below : (n : ℕ) (op : Sign) (a b : Typed) → Below n a → Below n b → Gives (Below n) (sum_operation op a b)
sum-below n sign.Plus a b h k = arithmetic-below n binary.Add (wider a.kind b.kind) a b h k
sum-below n sign.Minus a b h k = arithmetic-below n binary.Sub (wider a.kind b.kind) a b h k

pub comparison-below : (n : ℕ) (op : CompareOp) (a b : Typed) → Below n a → Below n b → Gives (Below n) (comparison op a b)
comparison-below n op a b h k =
    with_common n (a ∷ b ∷ []) (λ kind. Ok (typed (binary_of (comparing op) (converted kind a) (converted kind b)) sql.Boolean))
    (λ kind. (converted-below n kind a h, converted-below n kind b k))

pub between-below : (n : ℕ) (a b c : Typed) → Below n a → Below n b → Below n c → Gives (Below n) (between a b c)
between-below n a b c h k l =
    with_common n (a ∷ b ∷ c ∷ []) (λ kind. Ok (typed (between_of (converted kind a) (converted kind b) (converted kind c)) sql.Boolean))
    (λ kind. (converted-below n kind a h, converted-below n kind b k, converted-below n kind c l))

operands-below : (n : ℕ) (kind : SqlType) (all : List Typed) → All (Below n) all → EachBelow n (operands kind all)
operands-below n kind [] h = tt
operands-below n kind (a ∷ rest) h = (converted-below n kind a (All-head (Below n) a rest h), operands-below n kind rest (All-tail (Below n) a rest h))

pub in_list-below : (n : ℕ) (a : Typed) (all : List Typed) → Below n a → All (Below n) all → Gives (Below n) (in_list a all)
in_list-below n a all h k =
    with_common n (a ∷ all) (λ kind. Ok (typed (one_of (converted kind a) (operands kind all)) sql.Boolean))
    (λ kind. (converted-below n kind a h, operands-below n kind all k))

pub like-below : (n : ℕ) (a b : Typed) → Below n a → Below n b → Gives (Below n) (like a b)
like-below n a b h k = gives_provided (Below n) (is_text a.kind && is_text b.kind) mismatch (Ok (typed (binary_of binary.Like a.expr b.expr) sql.Boolean)) (h, k)

pub is-below : (n : ℕ) (truth : Truth) (a : Typed) → Below n a → Gives (Below n) (is_operation truth a)
is-below n truth.Null a h = h
is-below n truth.True a h = gives_provided (Below n) (is_truth a.kind) mismatch _ h
is-below n truth.False a h = gives_provided (Below n) (is_truth a.kind) mismatch _ h

pub negation-below : (n : ℕ) (a : Typed) → Below n a → Gives (Below n) (negation a)
negation-below n a h = gives_provided (Below n) (is_truth a.kind) mismatch _ h

pub logical-below : (n : ℕ) (op : BinaryOp) (a b : Typed) → Below n a → Below n b → Gives (Below n) (logical op a b)
logical-below n op a b h k = gives_provided (Below n) (is_truth a.kind && is_truth b.kind) mismatch (Ok (typed (binary_of op a.expr b.expr) sql.Boolean)) (h, k)

-- both parts of an arm
abbrev pub ArmBelow : ℕ → (Typed × Typed) → Type 0
ArmBelow n arm = Below n arm.0 × Below n arm.1

otherwise-below : (n : ℕ) (kind : SqlType) (a : Option Typed) → IfAny (Below n) a → ColumnsBelow n (otherwise_of kind a)
otherwise-below n kind None h = tt
otherwise-below n kind (Some a) h = converted-below n kind a h

tested-below : (n : ℕ) (kind : Option SqlType) (a : Typed) → Below n a → ColumnsBelow n (tested_as kind a)
tested-below n None a h = h
tested-below n (Some kind) a h = converted-below n kind a h

pairs-below : (n : ℕ) (tested : Option SqlType) (gives : SqlType) (arms : List (Typed × Typed)) → All (ArmBelow n) arms → PairsBelow n (case_pairs tested gives arms)
pairs-below n tested gives [] h = tt
pairs-below n tested gives (arm ∷ arms) h = (
  tested-below n tested arm.0 (All-head (ArmBelow n) arm arms h).0,
  converted-below n gives arm.1 (All-head (ArmBelow n) arm arms h).1,
  pairs-below n tested gives arms (All-tail (ArmBelow n) arm arms h),
)

pub case-below : (n : ℕ) (a : Option Typed) (arms : List (Typed × Typed)) (otherwise : Option Typed) →
    IfAny (Below n) a → All (ArmBelow n) arms → IfAny (Below n) otherwise → Gives (Below n) (case a arms otherwise)
case-below n None arms otherwise h k l =
    gives_provided (Below n) (list_all (λ arm. is_truth arm.0.kind) arms) mismatch _
    (with_kind n (present (common_of_gives arms otherwise) mismatch) (λ gives. Ok (typed (case_of (case_pairs None gives arms) (otherwise_of gives otherwise)) gives))
    (λ gives. (pairs-below n None gives arms k, otherwise-below n gives otherwise l)))
case-below n (Some a) arms otherwise h k l =
    with_kind n (present (common_of_tests a.kind arms) mismatch) (λ tested. upon (present (common_of_gives arms otherwise) mismatch) (λ gives.
    Ok (typed (switch_of (converted tested a) (case_pairs (Some tested) gives arms) (otherwise_of gives otherwise)) gives)))
    (λ tested. with_kind n (present (common_of_gives arms otherwise) mismatch) (λ gives. Ok (typed (switch_of (converted tested a) (case_pairs (Some tested) gives arms) (otherwise_of gives otherwise)) gives))
    (λ gives. (converted-below n tested a h, pairs-below n (Some tested) gives arms k, otherwise-below n gives otherwise l)))

pub coalesce-below : (n : ℕ) (all : List Typed) → All (Below n) all → Gives (Below n) (coalesce all)
coalesce-below n all h = with_common n all (λ kind. Ok (typed (Coalesce (operands kind all)) kind)) (λ kind. operands-below n kind all h)

pub length-below : (n : ℕ) (a : Typed) → Below n a → Gives (Below n) (length_of a)
length-below n a h = gives_provided (Below n) (is_text a.kind) mismatch _ h
