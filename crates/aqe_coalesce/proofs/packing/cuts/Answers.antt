use Rattle.std.proofs.Common.{rules}
use Rattle.aqe_coalesce.proofs.Filling.{packed_more}
use Rattle.aqe_coalesce.proofs.packing.cuts.Goals as goal

pub groups-preserved : goal.groups-preserved
groups-preserved c =
    packed_more c.args.sizes.now c.args.target c.groups.start c.end_of_group-end.result c.groups.groups _ c.groups.invariant
    c.end_of_group-end.ensures.forward c.end_of_group-end.ensures.end c.end_of_group-end.ensures.within c.end_of_group-end.ensures.full (search rules)
