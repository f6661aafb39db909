-- the row of each pair that came stands in its place
use Rattle.std.proofs.Common.{◌≡◌}
use Rattle.aqe_sorting.specs.Pairs.{rows_in}
use Rattle.aqe_sorting.proofs.sorting.rows_of.Given as goal

abbrev pub invariant-pairs : goal.invariant-pairs
invariant-pairs l = l.rows.items ≡ rows_in l.yielded
