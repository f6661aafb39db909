use Rattle.std.proofs.Common.{◌≡◌, take}
use Rattle.aqe_select.proofs.copies.copy_outputs.Given as goal

abbrev pub invariant-outputs : goal.invariant-outputs
invariant-outputs l = l.copied ≡ take l.output-index l.outputs
