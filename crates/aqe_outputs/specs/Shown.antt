-- The program's output columns as the definitions see them.
use Rattle.std.specs.Prelude.{List, map}
use Rattle.aqe_rules.specs.Outcomes.{Outcome}
use Rattle.aqe_rules.specs.Readings.{Place}
use Rattle.aqe_rules.specs.Selects.{Output, output, at, outputs}
use Rattle.aqe_rules.specs.declared.typed.Typed.{Typed}
use Rattle.aqe_trees.specs.declared.query.ItemTree.{ItemTree}
use Rattle.aqe_typing.specs.Calls.{calls_seen}
use Rattle.aqe_sources.specs.Seen.{items_seen}
use Rattle.aqe_outputs.specs.declared.outputs.Shown.{Shown}
use Rattle.aqe_outputs.specs.Items.{with_item}
use Rattle.aqe_outputs.specs.declared.outputs.OutputColumn.{OutputColumn}

abbrev pub output_seen : OutputColumn → Output
output_seen o = output o.name o.value

abbrev pub outputs_seen : List OutputColumn → List Output
outputs_seen outputs = map output_seen outputs

-- where the expressions of a select list stand
abbrev pub place_of : Shown → Place
place_of s = at s.columns (calls_seen s.calls)

-- the output columns of a select list over what FROM shows: with those of an item more, and all of them
abbrev pub next_item : (Typed → Outcome Typed) → Shown → Outcome (List Output) → ItemTree → Outcome (List Output)
next_item built s so_far item = with_item built s.has_from (items_seen s.items) (place_of s) so_far item

abbrev pub outputs_of : (Typed → Outcome Typed) → Shown → List ItemTree → Outcome (List Output)
outputs_of built s list = outputs built s.has_from (items_seen s.items) (place_of s) 0 list
