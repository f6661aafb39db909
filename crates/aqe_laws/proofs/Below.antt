-- An expression over some columns is one over more.
use Rattle.std.proofs.Common.{ℕ, ◌≤◌, lt_of_lt_of_le}
use Rattle.aqe_expr.specs.declared.expr.Expr.{Expr, Column, Literal, Coalesce}
use Rattle.aqe_expr.specs.declared.expr.Operands as list
use Rattle.aqe_expr.specs.declared.expr.CasePairs as pairs
use Rattle.aqe_expr.specs.Shapes.{unary_of, binary_of, between_of, one_of, case_of, switch_of, operand, pair}
use Rattle.aqe_expr.specs.Below.{ColumnsBelow, EachBelow, PairsBelow}

module _ (m n : ℕ) (le : m ≤ n) where
  mutual
    pub below_more : (e : Expr) → ColumnsBelow m e → ColumnsBelow n e
    below_more (Column k) h = lt_of_lt_of_le h le
    below_more (Literal v) h = tt
    below_more (unary_of op a) h = below_more a h
    below_more (binary_of op a b) (h, k) = (below_more a h, below_more b k)
    below_more (between_of a b c) (h, k, l) = (below_more a h, below_more b k, below_more c l)
    below_more (one_of a all) (h, k) = (below_more a h, each_more all k)
    below_more (case_of arms e) (h, k) = (pairs_more arms h, below_more e k)
    below_more (switch_of a arms e) (h, k, l) = (below_more a h, pairs_more arms k, below_more e l)
    below_more (Coalesce all) h = each_more all h

    each_more : (all : list.Operands) → EachBelow m all → EachBelow n all
    each_more list.End h = tt
    each_more (operand a rest) (h, k) = (below_more a h, each_more rest k)

    pairs_more : (all : pairs.CasePairs) → PairsBelow m all → PairsBelow n all
    pairs_more pairs.End h = tt
    pairs_more (pair t g rest) (h, k, l) = (below_more t h, below_more g k, pairs_more rest l)
