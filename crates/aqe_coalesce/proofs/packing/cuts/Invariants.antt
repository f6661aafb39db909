-- the groups that were made are as they should be
use Rattle.std.proofs.Common.{◌-◌, length}
use Rattle.aqe_coalesce.proofs.Filling.{ArePacked}
use Rattle.aqe_coalesce.proofs.packing.cuts.Given as goal

abbrev pub invariant-groups : goal.invariant-groups
invariant-groups l = ArePacked l.sizes l.target l.start l.groups

abbrev pub decreases-groups : goal.decreases-groups
decreases-groups l = length l.sizes - l.start
