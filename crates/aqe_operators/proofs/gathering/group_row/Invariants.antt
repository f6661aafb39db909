-- the values so far stand behind the key
use Rattle.std.proofs.Common.{◌≡◌, ◌++◌}
use Rattle.aqe_operators.proofs.gathering.group_row.Given as goal

abbrev pub invariant-values : goal.invariant-values
invariant-values l = l.row ≡ l.fn.key ++ l.yielded
