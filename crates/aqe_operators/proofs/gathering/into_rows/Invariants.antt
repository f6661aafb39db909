-- the groups so far are rows
use Rattle.std.proofs.Common.{◌≡◌, map}
use Rattle.aqe_operators.specs.Gathering.{flat}
use Rattle.aqe_operators.proofs.gathering.into_rows.Given as goal

abbrev pub invariant-groups : goal.invariant-groups
invariant-groups l = l.rows ≡ map flat l.yielded
