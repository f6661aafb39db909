use Rattle.std.proofs.Common.{drop}
use Rattle.std.specs.Prelude.{flat_map}
use Rattle.aqe_rules.specs.Selects.{calls_of_item}
use Rattle.aqe_calls.specs.Calls.{place_of}
use Rattle.aqe_calls.proofs.AddedSteps.{Left}
use Rattle.aqe_calls.proofs.query.items.Given as goal

abbrev pub invariant-items : goal.invariant-items
invariant-items l = Left l.fn.calls l.calls (flat_map (calls_of_item (place_of l.scope)) (drop l.next-index l.list)) (flat_map (calls_of_item (place_of l.scope)) l.list)
