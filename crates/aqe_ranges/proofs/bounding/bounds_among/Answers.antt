use Rattle.std.proofs.Common.{rules, arith}
use Rattle.aqe_ranges.proofs.Picked.{bound_more}
use Rattle.aqe_ranges.proofs.bounding.bounds_among.Goals as goal

pub bounds-preserved : goal.bounds-preserved
bounds-preserved c = (
  omega arith,
  bound_more c.args.sorted.now c.args.n c.bounds.i c.even_place.result c.index-sorted-even_place.result c.bounds.made c.push_copy.new.made
      c.bounds.invariant.0 c.even_place.ensures.value c.even_place.ensures.within c.index-sorted-even_place.is c.bounds.invariant.1 (search rules),
)
