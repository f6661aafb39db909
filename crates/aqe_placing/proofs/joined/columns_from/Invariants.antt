use Rattle.std.proofs.Common.{◌≡◌}
use Rattle.aqe_join_keys.specs.Keys.{columns_from}
use Rattle.aqe_placing.proofs.joined.columns_from.Given as goal

abbrev pub invariant-places : goal.invariant-places
invariant-places l = l.columns ≡ columns_from l.first l.place
