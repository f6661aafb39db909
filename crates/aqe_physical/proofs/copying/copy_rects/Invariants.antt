use Rattle.std.proofs.Common.{◌≡◌, take}
use Rattle.aqe_physical.proofs.copying.copy_rects.Given as goal

abbrev pub invariant-items : goal.invariant-items
invariant-items l = l.copied ≡ take l.rect-index l.rect-items
