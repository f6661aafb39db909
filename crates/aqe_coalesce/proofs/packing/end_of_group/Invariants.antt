-- the partitions that were walked make a group that is not too large
use Rattle.std.proofs.Common.{◌-◌, length}
use Rattle.aqe_coalesce.proofs.Filling.{IsFilling}
use Rattle.aqe_coalesce.proofs.packing.end_of_group.Given as goal

abbrev pub invariant-partitions : goal.invariant-partitions
invariant-partitions l = IsFilling l.sizes l.target l.start l.end l.filled

abbrev pub decreases-partitions : goal.decreases-partitions
decreases-partitions l = length l.sizes - l.end
