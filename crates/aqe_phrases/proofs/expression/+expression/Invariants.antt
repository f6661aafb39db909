use Rattle.std.proofs.Common.{drop}
use Rattle.std.specs.Prelude.{Option}
use Rattle.aqe_trees.specs.declared.expression.OrTree.{OrTree}
use Rattle.aqe_trees.specs.Expressions.{IsOrRest, IsAndRest, IsListRest, IsComparisonRest, IsSumRest, IsProductRest, IsArms}
use Rattle.aqe_phrases.specs.Written.{Going}
use Rattle.aqe_phrases.proofs.expression.+expression.Given as goal

abbrev pub invariant-or-more : goal.invariant-or-more
invariant-or-more l = Going IsOrRest l.rest (drop l.next-index l.rest) l.initial.out.items l.out.items

abbrev pub invariant-and-more : goal.invariant-and-more
invariant-and-more l = Going IsAndRest l.rest (drop l.next-index l.rest) l.initial.out.items l.out.items

abbrev pub invariant-list-more : goal.invariant-list-more
invariant-list-more l = Going IsListRest l.rest (drop l.next-index l.rest) l.initial.out.items l.out.items

abbrev pub invariant-comparison-more : goal.invariant-comparison-more
invariant-comparison-more l = Going IsComparisonRest l.rest (drop l.next-index l.rest) l.initial.out.items l.out.items

abbrev pub invariant-sum-more : goal.invariant-sum-more
invariant-sum-more l = Going IsSumRest l.rest (drop l.next-index l.rest) l.initial.out.items l.out.items

abbrev pub invariant-product-more : goal.invariant-product-more
invariant-product-more l = Going IsProductRest l.rest (drop l.next-index l.rest) l.initial.out.items l.out.items

abbrev pub invariant-arms-arms : goal.invariant-arms-arms
invariant-arms-arms l = (otherwise : Option OrTree) → Going (λ arms. IsArms arms otherwise) l.arms (drop l.next-index l.arms) l.initial.out.items l.out.items
