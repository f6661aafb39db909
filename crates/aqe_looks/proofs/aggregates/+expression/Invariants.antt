use Rattle.std.proofs.Common.{◌≡◌, drop}
use Rattle.std.specs.Prelude.{◌||◌, map}
use Rattle.std.specs.List.{list_any}
use Rattle.aqe_rules.specs.Expressions as spec
use Rattle.aqe_rules.specs.Looks.{aggregates}
use Rattle.aqe_rules.specs.Trees.{made_of_and, made_of_not, made_of_comparison, made_of_sum, made_of_product, made_of_sign, made_of_arm}
use Rattle.aqe_looks.proofs.aggregates.+expression.Given as goal

abbrev pub invariant-has_aggregate-more : goal.invariant-has_aggregate-more
invariant-has_aggregate-more l = list_any (made_of_and aggregates) (drop l.next-index l.rest) ≡ spec.has_aggregate l.tree

abbrev pub invariant-and-more : goal.invariant-and-more
invariant-and-more l = list_any (made_of_not aggregates) (drop l.next-index l.rest) ≡ made_of_and aggregates l.tree

abbrev pub invariant-comparison-more : goal.invariant-comparison-more
invariant-comparison-more l = list_any (λ next. made_of_sum aggregates next.1) (drop l.next-index l.rest) ≡ made_of_comparison aggregates l.tree

abbrev pub invariant-sum-more : goal.invariant-sum-more
invariant-sum-more l = list_any (λ next. made_of_product aggregates next.1) (drop l.next-index l.rest) ≡ made_of_sum aggregates l.tree

abbrev pub invariant-product-more : goal.invariant-product-more
invariant-product-more l = list_any (λ next. made_of_sign aggregates next.1) (drop l.next-index l.rest) ≡ made_of_product aggregates l.tree

abbrev pub invariant-list-items : goal.invariant-list-items
invariant-list-items l = list_any spec.has_aggregate (drop l.next-index l.items) ≡ list_any spec.has_aggregate l.items

abbrev pub invariant-arms-arms : goal.invariant-arms-arms
invariant-arms-arms l = list_any (λ pair. (made_of_arm aggregates pair).0 || (made_of_arm aggregates pair).1) (drop l.next-index l.pairs) ≡
    list_any (λ arm. arm.0 || arm.1) (map (made_of_arm aggregates) l.pairs)
