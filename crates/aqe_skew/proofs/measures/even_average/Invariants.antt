-- the even sizes that were walked are summed and counted
use Rattle.std.proofs.Common.{take}
use Rattle.aqe_skew.proofs.EvenSums.{AreEven}
use Rattle.aqe_skew.proofs.measures.even_average.Given as goal

abbrev pub invariant-sizes : goal.invariant-sizes
invariant-sizes l = AreEven l.median l.rule (take l.size-index l.sizes) l.even.total l.even.count
