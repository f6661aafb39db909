use Rattle.std.proofs.Common.{take, filter}
use Rattle.aqe_rules.specs.Readings.{is_of}
use Rattle.aqe_outputs.specs.Building.{built_by}
use Rattle.aqe_outputs.specs.Items.{behind, columns_shown}
use Rattle.aqe_sources.specs.Seen.{SaysSeen}
use Rattle.aqe_outputs.specs.Shown.{outputs_seen}
use Rattle.aqe_outputs.proofs.outputs.with_columns_of.Given as goal

abbrev pub invariant-columns : goal.invariant-columns
invariant-columns l = SaysSeen outputs_seen l.outputs (behind (outputs_seen l.fn.so_far) (columns_shown (built_by l.building) (filter (is_of l.name) (take l.next-index l.columns))))
