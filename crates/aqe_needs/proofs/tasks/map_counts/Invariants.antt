use Rattle.std.proofs.Common.{◌≡◌, take}
use Rattle.aqe_needs.specs.Maps.{counts_of}
use Rattle.aqe_needs.proofs.tasks.map_counts.Given as goal

abbrev pub invariant-stages : goal.invariant-stages
invariant-stages l = l.counts ≡ counts_of (take l.stage-index l.stages)
