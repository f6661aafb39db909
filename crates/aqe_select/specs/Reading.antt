-- The clauses of a SELECT from GROUP BY to HAVING, in the steps that the code takes.
use Rattle.std.specs.Prelude.{Bool, List, [], Option, option_map, Result, Ok, Err}
use Rattle.aqe_logical.specs.declared.plan.Logical.{Logical}
use Rattle.aqe_trees.specs.declared.expression.OrTree.{OrTree}
use Rattle.aqe_rules.specs.declared.fault.AnalysisFault.{AnalysisFault}
use Rattle.aqe_rules.specs.declared.typed.Typed.{Typed}
use Rattle.aqe_rules.specs.Outcomes.{Outcome, upon, if_any}
use Rattle.aqe_rules.specs.Readings.{Place}
use Rattle.aqe_rules.specs.Selects.{Output, built, with_aliases, grouping_keys, having_condition}
use Rattle.aqe_typing.specs.Calls.{calls_seen}
use Rattle.aqe_sources.specs.Seen.{items_seen}
use Rattle.aqe_outputs.specs.declared.outputs.OutputColumn.{OutputColumn}
use Rattle.aqe_outputs.specs.declared.outputs.Shown.{Shown}
use Rattle.aqe_outputs.specs.Shown.{outputs_seen, outputs_of}
use Rattle.aqe_select.specs.declared.clauses.Clauses.{Clauses}
use Rattle.aqe_select.specs.declared.plans.Selected.{Selected}
use Rattle.aqe_select.specs.declared.reading.Read.{Read}

-- HAVING, where there is one
abbrev pub having_of : (Typed → Outcome Typed) → Place → Option OrTree → Outcome (Option Typed)
having_of built place having = if_any (option_map (having_condition built place) having)

-- the keys of the groups, the output columns and the condition of HAVING
abbrev pub Parts : Type 0
Parts = List Typed × (List Output × Option Typed)

abbrev pub read_seen : Read → Parts
read_seen r = (r.keys, (outputs_seen r.outputs, r.having))

-- over these keys, and from GROUP BY on
abbrev pub over_keys : Clauses → Bool → Shown → List Typed → Outcome Parts
over_keys c grouped s keys =
    upon (outputs_of (built grouped keys s.columns) s c.list.now) (λ outputs.
    upon (having_of (built grouped keys s.columns) (with_aliases s.columns c.list.now (calls_seen s.calls)) c.having.now) (λ having.
    Ok (keys, (outputs, having))))

abbrev pub read_of : Clauses → Bool → Shown → Outcome Parts
read_of c grouped s =
    upon (grouping_keys s.has_from (items_seen s.items) (with_aliases s.columns c.list.now []) c.list.now c.group.now) (over_keys c grouped s)

-- results that are put together, or the fault in their place
abbrev pub with_keys : List Typed → Result (List OutputColumn × Option Typed) AnalysisFault → Result Read AnalysisFault
with_keys keys (Ok both) = Ok (record { keys = keys; outputs = both.0; having = both.1 })
with_keys keys (Err fault) = Err fault

abbrev pub selected_of : Bool → Bool → Result (Logical × Read) AnalysisFault → Result Selected AnalysisFault
selected_of distinct grouped (Ok both) = Ok (record {
  below = both.0;
  is_grouped = grouped;
  keys = both.1.keys;
  outputs = both.1.outputs;
  having = both.1.having;
  distinct = distinct;
})
selected_of distinct grouped (Err fault) = Err fault
