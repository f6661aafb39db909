-- Expressions of a grouped query read the keys and the calls alone.
use Rattle.std.proofs.Common.{ℕ, zero, suc, ◌+◌, ◌<◌, ◌≤◌, List, [], ◌∷◌, length, Ok, arith}
use Rattle.aqe_expr.specs.declared.expr.Expr.{Expr, Column, Literal, Coalesce}
use Rattle.aqe_expr.specs.declared.expr.Operands as list
use Rattle.aqe_expr.specs.declared.expr.CasePairs as pairs
use Rattle.aqe_expr.specs.Shapes.{unary_of, binary_of, between_of, one_of, case_of, switch_of, operand, pair}
use Rattle.aqe_expr.specs.Below.{ColumnsBelow, EachBelow, PairsBelow}
use Rattle.aqe_rules.specs.Outcomes.{Outcome, upon}
use Rattle.aqe_rules.specs.Equality.{same_expr}
use Rattle.aqe_rules.specs.Grouping.{from_key, call_behind, grouped, grouped_list, grouped_pairs}
use Rattle.aqe_rules.proofs.Gives.{Gives, gives_upon}
use Rattle.aqe_laws.proofs.OperationsBelow.{either_one}

from_key-below : (w : ℕ) (keys : List Expr) (n : ℕ) (e : Expr) (other : Outcome Expr) → n + length keys ≤ w →
    Gives (ColumnsBelow w) other → Gives (ColumnsBelow w) (from_key keys n e other)
from_key-below w [] n e other fits h = h
from_key-below w (key ∷ keys) n e other fits h =
    either_one (Gives (ColumnsBelow w)) (same_expr key e) (Ok (Column n)) (from_key keys (n + 1) e other)
    (omega (arith, fits)) (from_key-below w keys (n + 1) e other (omega (arith, fits)) h)

call_behind-below : (keys : ℕ) (names : List (List ℕ)) (n m : ℕ) → n < length names + m → Gives (ColumnsBelow (keys + m)) (call_behind keys names n)
call_behind-below keys [] n m lt = omega (arith, lt)
call_behind-below keys (name ∷ names) zero m lt = tt
call_behind-below keys (name ∷ names) (suc n) m lt = call_behind-below keys names n m (omega (arith, lt))

module _ (keys : List Expr) (names : List (List ℕ)) (m : ℕ) where
  abbrev Before : Expr → Type 0
  Before e = ColumnsBelow (length names + m) e

  abbrev After : Expr → Type 0
  After e = ColumnsBelow (length keys + m) e

  abbrev AfterList : list.Operands → Type 0
  AfterList l = EachBelow (length keys + m) l

  abbrev AfterPairs : pairs.CasePairs → Type 0
  AfterPairs p = PairsBelow (length keys + m) p

  keyed : (e : Expr) (other : Outcome Expr) → Gives After other → Gives After (from_key keys 0 e other)
  keyed e other h = from_key-below (length keys + m) keys 0 e other (omega arith) h

  mutual
    pub grouped-below : (e : Expr) → Before e → Gives After (grouped keys names e)
    grouped-below (Column n) h = keyed (Column n) (call_behind (length keys) names n) (call_behind-below (length keys) names n m h)
    grouped-below (Literal v) h = keyed (Literal v) (Ok (Literal v)) tt
    grouped-below (unary_of op a) h = keyed (unary_of op a) (upon (grouped keys names a) (λ x. Ok (unary_of op x)))
        (gives_upon After After (grouped keys names a) (λ x. Ok (unary_of op x)) (grouped-below a h) (λ x p. p))
    grouped-below (binary_of op a b) (h, k) = keyed (binary_of op a b)
        (upon (grouped keys names a) (λ x. upon (grouped keys names b) (λ y. Ok (binary_of op x y))))
        (gives_upon After After (grouped keys names a) (λ x. upon (grouped keys names b) (λ y. Ok (binary_of op x y))) (grouped-below a h) (λ x p.
        gives_upon After After (grouped keys names b) (λ y. Ok (binary_of op x y)) (grouped-below b k) (λ y q. (p, q))))
    grouped-below (between_of a b c) (h, k, l) = keyed (between_of a b c)
        (upon (grouped keys names a) (λ x. upon (grouped keys names b) (λ y. upon (grouped keys names c) (λ z. Ok (between_of x y z)))))
        (gives_upon After After (grouped keys names a) (λ x. upon (grouped keys names b) (λ y. upon (grouped keys names c) (λ z. Ok (between_of x y z)))) (grouped-below a h) (λ x p.
        gives_upon After After (grouped keys names b) (λ y. upon (grouped keys names c) (λ z. Ok (between_of x y z))) (grouped-below b k) (λ y q.
        gives_upon After After (grouped keys names c) (λ z. Ok (between_of x y z)) (grouped-below c l) (λ z r. (p, q, r)))))
    grouped-below (one_of a all) (h, k) = keyed (one_of a all)
        (upon (grouped keys names a) (λ x. upon (grouped_list keys names all) (λ y. Ok (one_of x y))))
        (gives_upon After After (grouped keys names a) (λ x. upon (grouped_list keys names all) (λ y. Ok (one_of x y))) (grouped-below a h) (λ x p.
        gives_upon AfterList After (grouped_list keys names all) (λ y. Ok (one_of x y)) (list-below all k) (λ y q. (p, q))))
    grouped-below (case_of arms e) (h, k) = keyed (case_of arms e)
        (upon (grouped_pairs keys names arms) (λ x. upon (grouped keys names e) (λ y. Ok (case_of x y))))
        (gives_upon AfterPairs After (grouped_pairs keys names arms) (λ x. upon (grouped keys names e) (λ y. Ok (case_of x y))) (pairs-below arms h) (λ x p.
        gives_upon After After (grouped keys names e) (λ y. Ok (case_of x y)) (grouped-below e k) (λ y q. (p, q))))
    grouped-below (switch_of a arms e) (h, k, l) = keyed (switch_of a arms e)
        (upon (grouped keys names a) (λ x. upon (grouped_pairs keys names arms) (λ y. upon (grouped keys names e) (λ z. Ok (switch_of x y z)))))
        (gives_upon After After (grouped keys names a) (λ x. upon (grouped_pairs keys names arms) (λ y. upon (grouped keys names e) (λ z. Ok (switch_of x y z)))) (grouped-below a h) (λ x p.
        gives_upon AfterPairs After (grouped_pairs keys names arms) (λ y. upon (grouped keys names e) (λ z. Ok (switch_of x y z))) (pairs-below arms k) (λ y q.
        gives_upon After After (grouped keys names e) (λ z. Ok (switch_of x y z)) (grouped-below e l) (λ z r. (p, q, r)))))
    grouped-below (Coalesce all) h = keyed (Coalesce all) (upon (grouped_list keys names all) (λ x. Ok (Coalesce x)))
        (gives_upon AfterList After (grouped_list keys names all) (λ x. Ok (Coalesce x)) (list-below all h) (λ x p. p))

    list-below : (all : list.Operands) → EachBelow (length names + m) all → Gives AfterList (grouped_list keys names all)
    list-below list.End h = tt
    list-below (operand a rest) (h, k) =
        gives_upon After AfterList (grouped keys names a) (λ x. upon (grouped_list keys names rest) (λ y. Ok (operand x y))) (grouped-below a h) (λ x p.
        gives_upon AfterList AfterList (grouped_list keys names rest) (λ y. Ok (operand x y)) (list-below rest k) (λ y q. (p, q)))

    pairs-below : (all : pairs.CasePairs) → PairsBelow (length names + m) all → Gives AfterPairs (grouped_pairs keys names all)
    pairs-below pairs.End h = tt
    pairs-below (pair t g rest) (h, k, l) =
        gives_upon After AfterPairs (grouped keys names t) (λ x. upon (grouped keys names g) (λ y. upon (grouped_pairs keys names rest) (λ z. Ok (pair x y z)))) (grouped-below t h) (λ x p.
        gives_upon After AfterPairs (grouped keys names g) (λ y. upon (grouped_pairs keys names rest) (λ z. Ok (pair x y z))) (grouped-below g k) (λ y q.
        gives_upon AfterPairs AfterPairs (grouped_pairs keys names rest) (λ z. Ok (pair x y z)) (pairs-below rest l) (λ z r. (p, q, r))))
