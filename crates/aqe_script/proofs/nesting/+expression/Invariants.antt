use Rattle.std.proofs.Common.{◌≡◌, ◌≤◌, drop, map, max}
use Rattle.aqe_trees.specs.declared.expression.CompareOp.{CompareOp}
use Rattle.aqe_trees.specs.declared.expression.SumTree.{SumTree}
use Rattle.aqe_trees.specs.declared.expression.Sign.{Sign}
use Rattle.aqe_trees.specs.declared.expression.ProductTree.{ProductTree}
use Rattle.aqe_trees.specs.declared.expression.ProductOp.{ProductOp}
use Rattle.aqe_trees.specs.declared.expression.SignTree.{SignTree}
use Rattle.aqe_script.specs.Levels as spec
use Rattle.aqe_script.proofs.nesting.+expression.Given as goal

abbrev pub invariant-or-more : goal.invariant-or-more
invariant-or-more l = (spec.chain_depth l.depth (map spec.and_nesting (drop l.next-index l.rest)) ≡ spec.or_nesting l.tree) × (l.depth ≤ l.room)

abbrev pub invariant-and-more : goal.invariant-and-more
invariant-and-more l = (spec.chain_depth l.depth (map spec.not_nesting (drop l.next-index l.rest)) ≡ spec.and_nesting l.tree) × (l.depth ≤ l.room)

abbrev pub invariant-comparison-more : goal.invariant-comparison-more
invariant-comparison-more l = (spec.chain_depth l.depth (map (λ (next : CompareOp × SumTree). spec.sum_nesting next.1) (drop l.next-index l.rest)) ≡ spec.comparison_nesting l.tree) × (l.depth ≤ l.room)

abbrev pub invariant-sum-more : goal.invariant-sum-more
invariant-sum-more l = (spec.chain_depth l.depth (map (λ (next : Sign × ProductTree). spec.product_nesting next.1) (drop l.next-index l.rest)) ≡ spec.sum_nesting l.tree) × (l.depth ≤ l.room)

abbrev pub invariant-product-more : goal.invariant-product-more
invariant-product-more l = (spec.chain_depth l.depth (map (λ (next : ProductOp × SignTree). spec.sign_nesting next.1) (drop l.next-index l.rest)) ≡ spec.product_nesting l.tree) × (l.depth ≤ l.room)

abbrev pub invariant-list-items : goal.invariant-list-items
invariant-list-items l = (max l.depth (spec.deepest (map spec.or_nesting (drop l.next-index l.items))) ≡ spec.deepest (map spec.or_nesting l.items)) × (l.depth ≤ l.room)

abbrev pub invariant-arms-arms : goal.invariant-arms-arms
invariant-arms-arms l = (max l.depth (spec.deepest (map spec.arm_nesting (drop l.next-index l.pairs))) ≡ spec.deepest (map spec.arm_nesting l.pairs)) × (l.depth ≤ l.room)
