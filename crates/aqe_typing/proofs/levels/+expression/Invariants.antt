use Rattle.std.proofs.Common.{drop, take}
use Rattle.aqe_typing.specs.Calls.{at_calls}
use Rattle.aqe_typing.specs.Values.{value_of_or, value_of_and, value_of_comparison, value_of_sum, value_of_product, values_of, values_of_arms, SaysAll}
use Rattle.aqe_typing.proofs.Turns.{Left}
use Rattle.aqe_typing.proofs.LevelValues.{or_step, and_step, comparison_step, sum_step, product_step}
use Rattle.aqe_typing.proofs.levels.+expression.Given as goal

abbrev pub invariant-or-more : goal.invariant-or-more
invariant-or-more g l = Left (or_step (at_calls (g.N.Names.place l.names) l.calls)) l.value (drop l.next-index l.rest) (value_of_or l.tree (at_calls (g.N.Names.place l.names) l.calls))

abbrev pub invariant-and-more : goal.invariant-and-more
invariant-and-more g l = Left (and_step (at_calls (g.N.Names.place l.names) l.calls)) l.value (drop l.next-index l.rest) (value_of_and l.tree (at_calls (g.N.Names.place l.names) l.calls))

abbrev pub invariant-comparison-more : goal.invariant-comparison-more
invariant-comparison-more g l = Left (comparison_step (at_calls (g.N.Names.place l.names) l.calls)) l.value (drop l.next-index l.rest) (value_of_comparison l.tree (at_calls (g.N.Names.place l.names) l.calls))

abbrev pub invariant-sum-more : goal.invariant-sum-more
invariant-sum-more g l = Left (sum_step (at_calls (g.N.Names.place l.names) l.calls)) l.value (drop l.next-index l.rest) (value_of_sum l.tree (at_calls (g.N.Names.place l.names) l.calls))

abbrev pub invariant-product-more : goal.invariant-product-more
invariant-product-more g l = Left (product_step (at_calls (g.N.Names.place l.names) l.calls)) l.value (drop l.next-index l.rest) (value_of_product l.tree (at_calls (g.N.Names.place l.names) l.calls))

abbrev pub invariant-several-trees : goal.invariant-several-trees
invariant-several-trees g l = SaysAll l.all (values_of (take l.next-index l.trees) (at_calls (g.N.Names.place l.names) l.calls))

abbrev pub invariant-arms_of-trees : goal.invariant-arms_of-trees
invariant-arms_of-trees g l = SaysAll l.all (values_of_arms (take l.next-index l.trees) (at_calls (g.N.Names.place l.names) l.calls))
