use Rattle.std.proofs.Common.{[], take, fold, Ok}
use Rattle.aqe_sources.specs.Seen.{SaysSeen}
use Rattle.aqe_outputs.specs.Building.{built_by}
use Rattle.aqe_outputs.specs.Shown.{outputs_seen, next_item}
use Rattle.aqe_outputs.proofs.outputs.output_columns.Given as goal

abbrev pub invariant-items : goal.invariant-items
invariant-items l = SaysSeen outputs_seen l.so_far (fold (next_item (built_by l.building) l.shown) (Ok []) (take l.item-index l.list))
