-- Expressions with their types, and the operations on them: what each asks of the types of its operands, and what it gives.
use Rattle.std.specs.Prelude.{ℕ, ℤ, ◌^◌, ◌-◌, min, Bool, true, false, not, cond, ◌&&◌, List, [], ◌∷◌, Option, Some, None, fold, Ok}
use Rattle.std.specs.List.{list_all}
use Rattle.aqe_base.specs.declared.status.AnalysisKind.TheVariants.{TypeMismatch}
use Rattle.aqe_values.specs.declared.sql_type.SqlType.{SqlType}
use Rattle.aqe_values.specs.declared.sql_type.SqlType.TheVariants as sql
use Rattle.aqe_values.specs.declared.value.Value.TheVariants as value
use Rattle.aqe_expr.specs.declared.expr.UnaryOp.{UnaryOp}
use Rattle.aqe_expr.specs.declared.expr.UnaryOp.TheVariants as unary
use Rattle.aqe_expr.specs.declared.expr.BinaryOp.{BinaryOp}
use Rattle.aqe_expr.specs.declared.expr.BinaryOp.TheVariants as binary
use Rattle.aqe_expr.specs.declared.expr.Expr.{Expr, Literal, Coalesce}
use Rattle.aqe_expr.specs.declared.expr.Operands as list
use Rattle.aqe_expr.specs.declared.expr.CasePairs as pairs
use Rattle.aqe_expr.specs.Shapes.{unary_of, binary_of, between_of, one_of, case_of, switch_of, operand, pair}
use Rattle.aqe_expr.specs.Casts.{signed, fits_int}
use Rattle.aqe_trees.specs.declared.expression.CompareOp.{CompareOp}
use Rattle.aqe_trees.specs.declared.expression.CompareOp.TheVariants as compare
use Rattle.aqe_trees.specs.declared.expression.Sign.{Sign}
use Rattle.aqe_trees.specs.declared.expression.Sign.TheVariants as sign
use Rattle.aqe_trees.specs.declared.expression.ProductOp.{ProductOp}
use Rattle.aqe_trees.specs.declared.expression.ProductOp.TheVariants as product
use Rattle.aqe_trees.specs.declared.expression.Truth.{Truth}
use Rattle.aqe_trees.specs.declared.expression.Truth.TheVariants as truth
pub use Rattle.aqe_rules.specs.declared.typed.Typed.{Typed}
use Rattle.aqe_rules.specs.Outcomes.{Check, refused, Outcome, upon, provided, present}
use Rattle.aqe_rules.specs.Kinds.{common_with, is_same_kind, is_number, is_truth, is_text, wider}

-- an expression over the columns of a row, with the type of its values
abbrev pub typed : Expr → SqlType → Typed
typed expr kind = record { expr = expr; kind = kind }

-- no name is told of operands whose types do not fit
abbrev pub mismatch : Check
mismatch = refused TypeMismatch []

-- A literal. A number is INT where its value fits, unless it bears the letter of BIGINT; a number that no BIGINT is counts
-- as the nearest that is one.
abbrev pub nearest : Bool → ℕ → ℤ
nearest true n = signed true (min n (2 ^ 63))
nearest false n = signed false (min n (2 ^ 63 - 1))

abbrev pub number : Bool → ℕ → Bool → Typed
number negative n long =
    cond (not long && fits_int (nearest negative n)) (typed (Literal (value.Int (nearest negative n))) sql.Int)
    (typed (Literal (value.BigInt (nearest negative n))) sql.BigInt)

abbrev pub text : List ℕ → Typed
text content = typed (Literal (value.Text content)) sql.Text

abbrev pub boolean : Bool → Typed
boolean b = typed (Literal (value.Boolean b)) sql.Boolean

abbrev pub null : Typed
null = typed (Literal value.Null) sql.NullType

-- a value of another type is converted by a cast; no cast goes to the type of NULL, whose one value is NULL
abbrev pub cast_to : SqlType → Expr → Expr
cast_to sql.NullType expr = Literal value.Null
cast_to sql.Boolean expr = unary_of unary.CastBoolean expr
cast_to sql.Int expr = unary_of unary.CastInt expr
cast_to sql.BigInt expr = unary_of unary.CastBigInt expr
cast_to sql.Text expr = unary_of unary.CastText expr

abbrev pub converted : SqlType → Typed → Expr
converted wanted a = cond (is_same_kind a.kind wanted) a.expr (cast_to wanted a.expr)

-- CAST is written out also where the value has the type
abbrev pub cast : SqlType → Typed → Typed
cast wanted a = typed (cast_to wanted a.expr) wanted

-- the common type of several, taken from left to right; they must have one
abbrev pub common_of_all : List Typed → Option SqlType
common_of_all all = fold (λ so_far a. common_with so_far a.kind) (Some sql.NullType) all

abbrev pub common_kind : List Typed → Outcome SqlType
common_kind all = present (common_of_all all) mismatch

-- `+ a` leaves no operation behind, `- a` does; both want a number
abbrev pub signed_by : Sign → Expr → Expr
signed_by sign.Plus a = a
signed_by sign.Minus a = unary_of unary.Neg a

abbrev pub signed_operation : Sign → Typed → Outcome Typed
signed_operation op a = provided (is_number a.kind) mismatch (Ok (typed (signed_by op a.expr) (wider a.kind a.kind)))

-- `+ - * %` give BIGINT where one operand is BIGINT, else INT; DIV gives BIGINT
abbrev pub arithmetic : BinaryOp → SqlType → Typed → Typed → Outcome Typed
arithmetic op kind a b = provided (is_number a.kind && is_number b.kind) mismatch (Ok (typed (binary_of op a.expr b.expr) kind))

abbrev pub product_operation : ProductOp → Typed → Typed → Outcome Typed
product_operation product.Times a b = arithmetic binary.Mul (wider a.kind b.kind) a b
product_operation product.Remainder a b = arithmetic binary.Rem (wider a.kind b.kind) a b
product_operation product.Divide a b = arithmetic binary.Div sql.BigInt a b

abbrev pub sum_operation : Sign → Typed → Typed → Outcome Typed
sum_operation sign.Plus a b = arithmetic binary.Add (wider a.kind b.kind) a b
sum_operation sign.Minus a b = arithmetic binary.Sub (wider a.kind b.kind) a b

-- comparisons, BETWEEN and IN convert their operands to one common type and give BOOLEAN
abbrev pub comparing : CompareOp → BinaryOp
comparing compare.Equal = binary.Eq
comparing compare.Same = binary.Same
comparing compare.NotEqual = binary.Ne
comparing compare.Less = binary.Lt
comparing compare.AtMost = binary.Le
comparing compare.Greater = binary.Gt
comparing compare.AtLeast = binary.Ge

abbrev pub comparison : CompareOp → Typed → Typed → Outcome Typed
comparison op a b = upon (common_kind (a ∷ b ∷ [])) (λ kind.
    Ok (typed (binary_of (comparing op) (converted kind a) (converted kind b)) sql.Boolean))

abbrev pub between : Typed → Typed → Typed → Outcome Typed
between a low high = upon (common_kind (a ∷ low ∷ high ∷ [])) (λ kind.
    Ok (typed (between_of (converted kind a) (converted kind low) (converted kind high)) sql.Boolean))

-- expressions in order, each converted
abbrev pub operands : SqlType → List Typed → list.Operands
operands kind [] = list.End
operands kind (a ∷ rest) = operand (converted kind a) (operands kind rest)

abbrev pub in_list : Typed → List Typed → Outcome Typed
in_list a all = upon (common_kind (a ∷ all)) (λ kind.
    Ok (typed (one_of (converted kind a) (operands kind all)) sql.Boolean))

-- LIKE wants two texts
abbrev pub like : Typed → Typed → Outcome Typed
like a pattern = provided (is_text a.kind && is_text pattern.kind) mismatch (Ok (typed (binary_of binary.Like a.expr pattern.expr) sql.Boolean))

-- IS NULL takes each type; IS TRUE, IS FALSE and NOT want a BOOLEAN
abbrev pub on_truth : UnaryOp → Typed → Outcome Typed
on_truth op a = provided (is_truth a.kind) mismatch (Ok (typed (unary_of op a.expr) sql.Boolean))

abbrev pub is_operation : Truth → Typed → Outcome Typed
is_operation truth.Null a = Ok (typed (unary_of unary.IsNull a.expr) sql.Boolean)
is_operation truth.True a = on_truth unary.IsTrue a
is_operation truth.False a = on_truth unary.IsFalse a

abbrev pub negation : Typed → Outcome Typed
negation a = on_truth unary.Not a

-- AND and OR want BOOLEANs
abbrev pub logical : BinaryOp → Typed → Typed → Outcome Typed
logical op a b = provided (is_truth a.kind && is_truth b.kind) mismatch (Ok (typed (binary_of op a.expr b.expr) sql.Boolean))

-- The results of a CASE, its ELSE among them, have one common type. A missing ELSE is NULL, which needs no cast.
abbrev pub common_of_results : List (Typed × Typed) → Option SqlType
common_of_results arms = fold (λ so_far arm. common_with so_far arm.1.kind) (Some sql.NullType) arms

abbrev pub common_of_gives : List (Typed × Typed) → Option Typed → Option SqlType
common_of_gives arms None = common_of_results arms
common_of_gives arms (Some otherwise) = common_with (common_of_results arms) otherwise.kind

abbrev pub otherwise_of : SqlType → Option Typed → Expr
otherwise_of kind None = Literal value.Null
otherwise_of kind (Some a) = converted kind a

-- the common type of an operand and of what it is compared with
abbrev pub common_of_tests : SqlType → List (Typed × Typed) → Option SqlType
common_of_tests kind arms = fold (λ so_far arm. common_with so_far arm.0.kind) (Some kind) arms

-- the arms of a CASE, their tests as they are or converted to a type, and their results converted
abbrev pub tested_as : Option SqlType → Typed → Expr
tested_as None a = a.expr
tested_as (Some kind) a = converted kind a

abbrev pub case_pairs : Option SqlType → SqlType → List (Typed × Typed) → pairs.CasePairs
case_pairs tested gives [] = pairs.End
case_pairs tested gives (arm ∷ arms) = pair (tested_as tested arm.0) (converted gives arm.1) (case_pairs tested gives arms)

-- without an operand each WHEN is a BOOLEAN; with one it and all WHEN values have one common type
abbrev pub case : Option Typed → List (Typed × Typed) → Option Typed → Outcome Typed
case None arms otherwise =
    provided (list_all (λ arm. is_truth arm.0.kind) arms) mismatch (upon (present (common_of_gives arms otherwise) mismatch) (λ gives.
    Ok (typed (case_of (case_pairs None gives arms) (otherwise_of gives otherwise)) gives)))
case (Some a) arms otherwise =
    upon (present (common_of_tests a.kind arms) mismatch) (λ tested. upon (present (common_of_gives arms otherwise) mismatch) (λ gives.
    Ok (typed (switch_of (converted tested a) (case_pairs (Some tested) gives arms) (otherwise_of gives otherwise)) gives)))

-- coalesce gives the common type of its arguments; length wants a text and gives INT
abbrev pub coalesce : List Typed → Outcome Typed
coalesce all = upon (common_kind all) (λ kind. Ok (typed (Coalesce (operands kind all)) kind))

abbrev pub length_of : Typed → Outcome Typed
length_of a = provided (is_text a.kind) mismatch (Ok (typed (unary_of unary.Length a.expr) sql.Int))
