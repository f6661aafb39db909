-- Expressions of a grouped query, over the rows of its Aggregate: the keys, and then the calls.
use Rattle.std.specs.Prelude.{ℕ, zero, suc, ◌+◌, cond, List, [], ◌∷◌, length, Ok, Err}
use Rattle.aqe_base.specs.declared.status.AnalysisKind.TheVariants.{NotGrouped}
use Rattle.aqe_expr.specs.declared.expr.Expr.{Expr, Column, Literal, Coalesce}
use Rattle.aqe_expr.specs.declared.expr.Operands as list
use Rattle.aqe_expr.specs.declared.expr.CasePairs as pairs
use Rattle.aqe_expr.specs.Shapes.{unary_of, binary_of, between_of, one_of, case_of, switch_of, operand, pair}
use Rattle.aqe_rules.specs.Outcomes.{refused, Outcome, upon}
use Rattle.aqe_rules.specs.Equality.{same_expr}

-- an expression that equals a key is the first such key, whatever it is made of
abbrev pub from_key : List Expr → ℕ → Expr → Outcome Expr → Outcome Expr
from_key [] n expr other = other
from_key (key ∷ keys) n expr other = cond (same_expr key expr) (Ok (Column n)) (from_key keys (n + 1) expr other)

-- A column that is no key is not grouped, and is told by its name. Behind the columns, of which the names are given, stand
-- the values of the calls; here they stand behind the keys.
abbrev pub call_behind : ℕ → List (List ℕ) → ℕ → Outcome Expr
call_behind keys [] n = Ok (Column (keys + n))
call_behind keys (name ∷ names) zero = Err (refused NotGrouped name)
call_behind keys (name ∷ names) (suc n) = call_behind keys names n

-- an expression is made of keys, calls and literals
abbrev mutual
  pub grouped : List Expr → List (List ℕ) → Expr → Outcome Expr
  grouped keys names (Column n) = from_key keys 0 (Column n) (call_behind (length keys) names n)
  grouped keys names (Literal v) = from_key keys 0 (Literal v) (Ok (Literal v))
  grouped keys names (unary_of op a) = from_key keys 0 (unary_of op a)
      (upon (grouped keys names a) (λ x. Ok (unary_of op x)))
  grouped keys names (binary_of op a b) = from_key keys 0 (binary_of op a b)
      (upon (grouped keys names a) (λ x. upon (grouped keys names b) (λ y. Ok (binary_of op x y))))
  grouped keys names (between_of a l h) = from_key keys 0 (between_of a l h)
      (upon (grouped keys names a) (λ x. upon (grouped keys names l) (λ y. upon (grouped keys names h) (λ z. Ok (between_of x y z)))))
  grouped keys names (one_of a all) = from_key keys 0 (one_of a all)
      (upon (grouped keys names a) (λ x. upon (grouped_list keys names all) (λ y. Ok (one_of x y))))
  grouped keys names (case_of arms e) = from_key keys 0 (case_of arms e)
      (upon (grouped_pairs keys names arms) (λ x. upon (grouped keys names e) (λ y. Ok (case_of x y))))
  grouped keys names (switch_of a arms e) = from_key keys 0 (switch_of a arms e)
      (upon (grouped keys names a) (λ x. upon (grouped_pairs keys names arms) (λ y. upon (grouped keys names e) (λ z. Ok (switch_of x y z)))))
  grouped keys names (Coalesce all) = from_key keys 0 (Coalesce all)
      (upon (grouped_list keys names all) (λ x. Ok (Coalesce x)))

  pub grouped_list : List Expr → List (List ℕ) → list.Operands → Outcome list.Operands
  grouped_list keys names list.End = Ok list.End
  grouped_list keys names (operand a rest) =
      upon (grouped keys names a) (λ x. upon (grouped_list keys names rest) (λ y. Ok (operand x y)))

  pub grouped_pairs : List Expr → List (List ℕ) → pairs.CasePairs → Outcome pairs.CasePairs
  grouped_pairs keys names pairs.End = Ok pairs.End
  grouped_pairs keys names (pair t g rest) =
      upon (grouped keys names t) (λ x. upon (grouped keys names g) (λ y. upon (grouped_pairs keys names rest) (λ z. Ok (pair x y z))))
