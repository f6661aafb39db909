use Rattle.std.proofs.Common.{◌≡◌, false, take}
use Rattle.std.specs.List.{list_any}
use Rattle.aqe_scheduler.specs.Fates.{names_map}
use Rattle.aqe_scheduler.proofs.fates.any_names.Given as goal

abbrev pub invariant-loop-need : goal.invariant-loop-need
invariant-loop-need l = list_any (names_map l.parent.0 l.map.0) (take l.need-index l.needs) ≡ false
