use Rattle.std.proofs.Common.{◌≡◌, take}
use Rattle.aqe_logical.proofs.parts.copy_calls.Given as goal

abbrev pub invariant-items : goal.invariant-items
invariant-items l = l.copied ≡ take l.item-index l.item-items
