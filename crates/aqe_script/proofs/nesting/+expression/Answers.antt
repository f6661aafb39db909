use Rattle.std.proofs.Common.{◌<◌, ◌∙◌, ap, subst, ℕ}
use Rattle.aqe_trees.specs.declared.expression.CompareOp.{CompareOp}
use Rattle.aqe_trees.specs.declared.expression.SumTree.{SumTree}
use Rattle.aqe_trees.specs.declared.expression.Sign.{Sign}
use Rattle.aqe_trees.specs.declared.expression.ProductTree.{ProductTree}
use Rattle.aqe_trees.specs.declared.expression.ProductOp.{ProductOp}
use Rattle.aqe_trees.specs.declared.expression.SignTree.{SignTree}
use Rattle.aqe_script.specs.Levels as spec
use Rattle.aqe_script.proofs.Depths.{of_or, of_and, of_comparison, of_sum, of_product}
use Rattle.aqe_script.proofs.Turns.{chain_begun, chain_deep, chain_deep_next, chain_deep_first}
use Rattle.aqe_script.proofs.nesting.+expression.Goals as goal

pub or-returns-in_err-depth : goal.or-returns-in_err-depth
or-returns-in_err-depth t c = rw c.from_residual.ensures (chain_deep_first spec.and_nesting c.or_parts.result.1.now (ap spec.or_nesting c.or_parts.ensures ∙ of_or c.or_parts.result.0.now c.or_parts.result.1.now) c.in_err-depth.ensures)

pub or-returns-in_default : goal.or-returns-in_default
or-returns-in_default t c = chain_deep_next spec.and_nesting c.or_parts.result.1.now c.more.next-index c.next-item.result c.more.depth c.more-test.true c.next-item.is c.more.invariant.0 c.in_default.ensures

pub or-returns-in_default-over : goal.or-returns-in_default-over
or-returns-in_default-over t c = chain_deep spec.and_nesting c.or_parts.result.1.now c.more.next-index c.next-item.result c.more.depth c.more-test.true c.next-item.is c.more.invariant.0
    (subst (λ (n : ℕ). c.args.room < spec.over c.more.depth n) c.in-Some.ensures.0 c.in_default-over.ensures)

pub and-returns-in_err-depth : goal.and-returns-in_err-depth
and-returns-in_err-depth t c = rw c.from_residual.ensures (chain_deep_first spec.not_nesting c.and_parts.result.1.now (ap spec.and_nesting c.and_parts.ensures ∙ of_and c.and_parts.result.0.now c.and_parts.result.1.now) c.in_err-depth.ensures)

pub and-returns-in_default : goal.and-returns-in_default
and-returns-in_default t c = chain_deep_next spec.not_nesting c.and_parts.result.1.now c.more.next-index c.next-item.result c.more.depth c.more-test.true c.next-item.is c.more.invariant.0 c.in_default.ensures

pub and-returns-in_default-over : goal.and-returns-in_default-over
and-returns-in_default-over t c = chain_deep spec.not_nesting c.and_parts.result.1.now c.more.next-index c.next-item.result c.more.depth c.more-test.true c.next-item.is c.more.invariant.0
    (subst (λ (n : ℕ). c.args.room < spec.over c.more.depth n) c.in-Some.ensures.0 c.in_default-over.ensures)

pub comparison-returns-in_err-depth : goal.comparison-returns-in_err-depth
comparison-returns-in_err-depth t c = rw c.from_residual.ensures (chain_deep_first (λ (next : CompareOp × SumTree). spec.sum_nesting next.1) c.comparison_parts.result.1.now (ap spec.comparison_nesting c.comparison_parts.ensures ∙ of_comparison c.comparison_parts.result.0.now c.comparison_parts.result.1.now) c.in_err-depth.ensures)

pub comparison-returns-in_default : goal.comparison-returns-in_default
comparison-returns-in_default t c = chain_deep_next (λ (next : CompareOp × SumTree). spec.sum_nesting next.1) c.comparison_parts.result.1.now c.more.next-index c.next-item.result c.more.depth c.more-test.true c.next-item.is c.more.invariant.0 c.in_default.ensures

pub comparison-returns-in_default-over : goal.comparison-returns-in_default-over
comparison-returns-in_default-over t c = chain_deep (λ (next : CompareOp × SumTree). spec.sum_nesting next.1) c.comparison_parts.result.1.now c.more.next-index c.next-item.result c.more.depth c.more-test.true c.next-item.is c.more.invariant.0
    (subst (λ (n : ℕ). c.args.room < spec.over c.more.depth n) c.in-Some.ensures.0 c.in_default-over.ensures)

pub comparison-more-init : goal.comparison-more-init
comparison-more-init t c = (chain_begun (λ (next : CompareOp × SumTree). spec.sum_nesting next.1) c.comparison_parts.result.1.now c.in_ok-depth.ensures.0 (ap spec.comparison_nesting c.comparison_parts.ensures ∙ of_comparison c.comparison_parts.result.0.now c.comparison_parts.result.1.now), c.in_ok-depth.ensures.1)

pub sum-returns-in_err-depth : goal.sum-returns-in_err-depth
sum-returns-in_err-depth t c = rw c.from_residual.ensures (chain_deep_first (λ (next : Sign × ProductTree). spec.product_nesting next.1) c.sum_parts.result.1.now (ap spec.sum_nesting c.sum_parts.ensures ∙ of_sum c.sum_parts.result.0.now c.sum_parts.result.1.now) c.in_err-depth.ensures)

pub sum-returns-in_default : goal.sum-returns-in_default
sum-returns-in_default t c = chain_deep_next (λ (next : Sign × ProductTree). spec.product_nesting next.1) c.sum_parts.result.1.now c.more.next-index c.next-item.result c.more.depth c.more-test.true c.next-item.is c.more.invariant.0 c.in_default.ensures

pub sum-returns-in_default-over : goal.sum-returns-in_default-over
sum-returns-in_default-over t c = chain_deep (λ (next : Sign × ProductTree). spec.product_nesting next.1) c.sum_parts.result.1.now c.more.next-index c.next-item.result c.more.depth c.more-test.true c.next-item.is c.more.invariant.0
    (subst (λ (n : ℕ). c.args.room < spec.over c.more.depth n) c.in-Some.ensures.0 c.in_default-over.ensures)

pub sum-more-init : goal.sum-more-init
sum-more-init t c = (chain_begun (λ (next : Sign × ProductTree). spec.product_nesting next.1) c.sum_parts.result.1.now c.in_ok-depth.ensures.0 (ap spec.sum_nesting c.sum_parts.ensures ∙ of_sum c.sum_parts.result.0.now c.sum_parts.result.1.now), c.in_ok-depth.ensures.1)

pub product-returns-in_err-depth : goal.product-returns-in_err-depth
product-returns-in_err-depth t c = rw c.from_residual.ensures (chain_deep_first (λ (next : ProductOp × SignTree). spec.sign_nesting next.1) c.product_parts.result.1.now (ap spec.product_nesting c.product_parts.ensures ∙ of_product c.product_parts.result.0.now c.product_parts.result.1.now) c.in_err-depth.ensures)

pub product-returns-in_default : goal.product-returns-in_default
product-returns-in_default t c = chain_deep_next (λ (next : ProductOp × SignTree). spec.sign_nesting next.1) c.product_parts.result.1.now c.more.next-index c.next-item.result c.more.depth c.more-test.true c.next-item.is c.more.invariant.0 c.in_default.ensures

pub product-returns-in_default-over : goal.product-returns-in_default-over
product-returns-in_default-over t c = chain_deep (λ (next : ProductOp × SignTree). spec.sign_nesting next.1) c.product_parts.result.1.now c.more.next-index c.next-item.result c.more.depth c.more-test.true c.next-item.is c.more.invariant.0
    (subst (λ (n : ℕ). c.args.room < spec.over c.more.depth n) c.in-Some.ensures.0 c.in_default-over.ensures)

pub product-more-init : goal.product-more-init
product-more-init t c = (chain_begun (λ (next : ProductOp × SignTree). spec.sign_nesting next.1) c.product_parts.result.1.now c.in_ok-depth.ensures.0 (ap spec.product_nesting c.product_parts.ensures ∙ of_product c.product_parts.result.0.now c.product_parts.result.1.now), c.in_ok-depth.ensures.1)
