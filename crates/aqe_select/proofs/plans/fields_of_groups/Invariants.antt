use Rattle.std.proofs.Common.{◌≡◌, ◌++◌, [], map, take}
use Rattle.aqe_rules.specs.Selects.{field}
use Rattle.aqe_rules.specs.Plans.{nameless}
use Rattle.aqe_typing.specs.Calls.{calls_seen}
use Rattle.aqe_select.proofs.plans.fields_of_groups.Given as goal

abbrev pub invariant-keys : goal.invariant-keys
invariant-keys l = l.fields ≡ map nameless (take l.key-index l.keys)

abbrev pub invariant-calls : goal.invariant-calls
invariant-calls l = l.fields ≡ map nameless l.keys ++ map (λ c. field [] c.kind) (calls_seen (take l.call-index l.calls))
