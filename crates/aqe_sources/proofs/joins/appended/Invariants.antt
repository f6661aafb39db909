use Rattle.std.proofs.Common.{◌≡◌, ◌++◌}
use Rattle.aqe_sources.specs.Seen.{items_seen}
use Rattle.aqe_sources.proofs.joins.appended.Given as goal

abbrev pub invariant-items : goal.invariant-items
invariant-items l = items_seen l.all ≡ items_seen l.fn.left ++ items_seen l.yielded
