use Rattle.std.proofs.Common.{◌≡◌, map}
use Rattle.aqe_typing.specs.Calls.{calls_seen}
use Rattle.aqe_select.proofs.plans.untyped_calls.Given as goal

abbrev pub invariant-calls : goal.invariant-calls
invariant-calls l = l.made ≡ map (λ c. c.call) (calls_seen l.yielded)
