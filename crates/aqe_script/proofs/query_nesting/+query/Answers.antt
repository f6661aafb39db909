use Rattle.std.proofs.Common.{◌<◌, ◌∙◌, ap, sym, subst, arith, suc, max, ℕ, map, List, Bool}
use Rattle.aqe_trees.specs.declared.query.CoreTree.{CoreTree}
use Rattle.aqe_trees.specs.declared.query.JoinedTree.{JoinedTree}
use Rattle.aqe_script.specs.Nesting.{over}
use Rattle.aqe_trees.specs.declared.query.QueryTree.{QueryTree}
use Rattle.aqe_script.specs.Measured.{Measured}
use Rattle.aqe_script.specs.QueryLevels as spec
use Rattle.aqe_script.proofs.QueryDepths.{of_joined, of_union, of_core_paren, of_core_select, of_query}
use Rattle.aqe_script.proofs.Turns.{chain_deep, chain_deep_next, chain_deep_first, chain_opened, chain_kept, chain_left}
use Rattle.aqe_script.proofs.query_nesting.+query.Goals as goal

pub union-returns-in_err-depth : goal.union-returns-in_err-depth
union-returns-in_err-depth t c = rw c.from_residual.ensures (chain_deep_first (λ (next : Bool × CoreTree). spec.core_nesting next.1) c.union_parts.result.1.now (ap spec.union_nesting c.union_parts.ensures ∙ of_union c.union_parts.result.0.now c.union_parts.result.1.now) c.in_err-depth.ensures)

pub joined-returns-in_err-depth : goal.joined-returns-in_err-depth
joined-returns-in_err-depth t c = rw c.from_residual.ensures (chain_deep_first spec.step_nesting c.joined_parts.result.1.now (ap spec.joined_nesting c.joined_parts.ensures ∙ of_joined c.joined_parts.result.0.now c.joined_parts.result.1.now) c.in_err-depth.ensures)

pub joined-returns-in_default : goal.joined-returns-in_default
joined-returns-in_default t c = chain_deep_next spec.step_nesting c.joined_parts.result.1.now c.more.next-index c.next-item.result c.more.depth c.more-test.true c.next-item.is c.more.invariant.0 c.in_default.ensures

pub joined-returns-in_default-over : goal.joined-returns-in_default-over
joined-returns-in_default-over t c = chain_deep spec.step_nesting c.joined_parts.result.1.now c.more.next-index c.next-item.result c.more.depth c.more-test.true c.next-item.is c.more.invariant.0
    (subst (λ (n : ℕ). c.args.room < over c.more.depth n) c.in-Some.ensures.0 c.in_default-over.ensures)

pub from-returns-in_err-depth : goal.from-returns-in_err-depth
from-returns-in_err-depth t c = rw c.from_residual.ensures (chain_deep_first spec.joined_nesting c.in-Some.rest.now (ap {B = ℕ} (λ (xs : List JoinedTree). spec.from_depth (map spec.joined_nesting xs)) c.in-Some.ensures.cases.0) c.in_err-depth.ensures)

pub from-returns-in_default-joined : goal.from-returns-in_default-joined
from-returns-in_default-joined t c = chain_deep_next spec.joined_nesting c.in-Some.rest.now c.more.next-index c.next-item.result c.more.depth c.more-test.true c.next-item.is c.more.invariant.0 c.in_default-joined.ensures

pub from-returns-in_default-over : goal.from-returns-in_default-over
from-returns-in_default-over t c = chain_deep spec.joined_nesting c.in-Some.rest.now c.more.next-index c.next-item.result c.more.depth c.more-test.true c.next-item.is c.more.invariant.0
    (subst (λ (n : ℕ). c.args.room < over c.more.depth n) c.in-Some-joined.ensures.0 c.in_default-over.ensures)

pub union-more-init : goal.union-more-init
union-more-init t c = chain_opened (λ (next : Bool × CoreTree). spec.core_nesting next.1) c.union_parts.result.1.now c.in_ok-depth.ensures.0 c.in_ok-depth.ensures.1 (ap spec.union_nesting c.union_parts.ensures ∙ of_union c.union_parts.result.0.now c.union_parts.result.1.now)

pub union-more-preserved : goal.union-more-preserved
union-more-preserved t c = chain_kept (λ (next : Bool × CoreTree). spec.core_nesting next.1) c.union_parts.result.1.now c.more.next-index c.next-item.result c.more.depth c.more-test.true c.next-item.is c.more.invariant c.in-Some.ensures.0 c.in-Some-over.ensures.0 c.in-Some-over.ensures.1

pub union-returns-in_default : goal.union-returns-in_default
union-returns-in_default t c = chain_deep_next (λ (next : Bool × CoreTree). spec.core_nesting next.1) c.union_parts.result.1.now c.more.next-index c.next-item.result c.more.depth c.more-test.true c.next-item.is c.more.invariant.so_far c.in_default.ensures

pub union-returns-in_default-over : goal.union-returns-in_default-over
union-returns-in_default-over t c = chain_deep (λ (next : Bool × CoreTree). spec.core_nesting next.1) c.union_parts.result.1.now c.more.next-index c.next-item.result c.more.depth c.more-test.true c.next-item.is c.more.invariant.so_far
    (subst (λ (n : ℕ). c.args.room < over c.more.depth n) c.in-Some.ensures.0 c.in_default-over.ensures)

pub union-returns : goal.union-returns
union-returns t c = chain_left (λ (next : Bool × CoreTree). spec.core_nesting next.1) c.union_parts.result.1.now c.more.next-index c.more-test.false c.more.invariant

pub core-returns-in_err-depth-in-Paren : goal.core-returns-in_err-depth-in-Paren
core-returns-in_err-depth-in-Paren t c = rw c.from_residual.ensures (omega (arith, (ap spec.core_nesting c.in-Paren.is ∙ of_core_paren c.in-Paren.inner ∙ ap {B = ℕ} (λ (q : QueryTree). suc (spec.query_nesting q)) (sym c.get.ensures)), c.in_err-depth-in-Paren.ensures))

pub core-returns-in_err-depth-in-Select : goal.core-returns-in_err-depth-in-Select
core-returns-in_err-depth-in-Select t c = rw c.from_residual-in_err-depth-in-Select.ensures (omega (arith, (ap spec.core_nesting c.in-Select.is ∙ of_core_select c.in-Select.parts), c.in_err-depth-in-Select.ensures))

pub core-returns-in_ok-depth-in-Paren : goal.core-returns-in_ok-depth-in-Paren
core-returns-in_ok-depth-in-Paren t c = subst (λ (n : ℕ). Measured n c.args.room c.above.result)
    (sym ((ap spec.core_nesting c.in-Paren.is ∙ of_core_paren c.in-Paren.inner ∙ ap {B = ℕ} (λ (q : QueryTree). suc (spec.query_nesting q)) (sym c.get.ensures)) ∙ ap suc (sym c.in_ok-depth-in-Paren.ensures.0))) c.above.ensures

pub core-returns-in_ok-depth-in-Select : goal.core-returns-in_ok-depth-in-Select
core-returns-in_ok-depth-in-Select t c = subst (λ (n : ℕ). Measured n c.args.room c.above-in-Select.result)
    (sym ((ap spec.core_nesting c.in-Select.is ∙ of_core_select c.in-Select.parts) ∙ ap suc (sym c.in_ok-depth-in-Select.ensures.0))) c.above-in-Select.ensures

pub query-returns-in_err-body : goal.query-returns-in_err-body
query-returns-in_err-body t c = let whole = (ap spec.query_nesting c.query_parts.ensures ∙ of_query c.query_parts.result.0.now c.query_parts.result.1.now c.query_parts.result.2 c.query_parts.result.3) in rw c.from_residual.ensures (omega (arith, whole, c.in_err-body.ensures))

pub query-returns : goal.query-returns
query-returns t c = let whole = (ap spec.query_nesting c.query_parts.ensures ∙ of_query c.query_parts.result.0.now c.query_parts.result.1.now c.query_parts.result.2 c.query_parts.result.3) in (
  c.max.ensures ∙ ap {B = ℕ} (λ (n : ℕ). max n c.in_ok-sorts.sorts) c.in_ok-body.ensures.0 ∙ ap {B = ℕ} (λ (n : ℕ). max (spec.union_nesting c.query_parts.result.0.now) n) c.in_ok-sorts.ensures.0 ∙ sym whole,
  omega (arith, c.max.ensures, c.in_ok-body.ensures.1, c.in_ok-sorts.ensures.1),
)
