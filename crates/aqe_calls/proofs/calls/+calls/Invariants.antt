use Rattle.std.proofs.Common.{drop}
use Rattle.std.specs.Prelude.{flat_map}
use Rattle.aqe_calls.specs.Calls.{place_of, calls_of_or, calls_of_and, calls_of_not, calls_of_comparison, calls_of_sum, calls_of_product, calls_of_sign, calls_of_arm, calls_of_list, calls_of_arms}
use Rattle.aqe_calls.proofs.AddedSteps.{Left}
use Rattle.aqe_calls.proofs.calls.+calls.Given as goal

abbrev pub invariant-or-more : goal.invariant-or-more
invariant-or-more l = Left l.fn.calls l.calls (flat_map (λ t. calls_of_and t (place_of l.scope)) (drop l.next-index l.rest)) (calls_of_or l.tree (place_of l.scope))

abbrev pub invariant-and-more : goal.invariant-and-more
invariant-and-more l = Left l.fn.calls l.calls (flat_map (λ t. calls_of_not t (place_of l.scope)) (drop l.next-index l.rest)) (calls_of_and l.tree (place_of l.scope))

abbrev pub invariant-list-items : goal.invariant-list-items
invariant-list-items l = Left l.fn.calls l.calls (flat_map (λ t. calls_of_or t (place_of l.scope)) (drop l.next-index l.items)) (calls_of_list l.items (place_of l.scope))

abbrev pub invariant-comparison-more : goal.invariant-comparison-more
invariant-comparison-more l = Left l.fn.calls l.calls (flat_map (λ next. calls_of_sum next.1 (place_of l.scope)) (drop l.next-index l.rest)) (calls_of_comparison l.tree (place_of l.scope))

abbrev pub invariant-sum-more : goal.invariant-sum-more
invariant-sum-more l = Left l.fn.calls l.calls (flat_map (λ next. calls_of_product next.1 (place_of l.scope)) (drop l.next-index l.rest)) (calls_of_sum l.tree (place_of l.scope))

abbrev pub invariant-product-more : goal.invariant-product-more
invariant-product-more l = Left l.fn.calls l.calls (flat_map (λ next. calls_of_sign next.1 (place_of l.scope)) (drop l.next-index l.rest)) (calls_of_product l.tree (place_of l.scope))

abbrev pub invariant-arms-arms : goal.invariant-arms-arms
invariant-arms-arms l = Left l.fn.calls l.calls (flat_map (λ t. calls_of_arm t (place_of l.scope)) (drop l.next-index l.pairs)) (calls_of_arms l.pairs (place_of l.scope))
