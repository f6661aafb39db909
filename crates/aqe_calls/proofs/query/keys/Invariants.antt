use Rattle.std.proofs.Common.{drop}
use Rattle.std.specs.Prelude.{flat_map}
use Rattle.aqe_rules.specs.Expressions.{read}
use Rattle.aqe_rules.specs.Selects.{calls_of_sorts}
use Rattle.aqe_calls.specs.Calls.{place_of}
use Rattle.aqe_calls.proofs.AddedSteps.{Left}
use Rattle.aqe_calls.proofs.query.keys.Given as goal

abbrev pub invariant-sorts : goal.invariant-sorts
invariant-sorts l = Left l.fn.calls l.calls (flat_map (λ sort. (read sort.value (place_of l.scope)).calls) (drop l.next-index l.sorts)) (calls_of_sorts (place_of l.scope) l.sorts)
