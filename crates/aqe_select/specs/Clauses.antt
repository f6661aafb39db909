-- The clauses of a SELECT as the rules see them, and the plan that they make.
use Rattle.std.specs.Prelude.{Bool, List, []}
use Rattle.aqe_rules.specs.declared.names.Named.{Named}
use Rattle.aqe_logical.specs.declared.plan.Logical.{Logical}
use Rattle.aqe_rules.specs.Analysis as analysis
use Rattle.aqe_rules.specs.Analysis.{select_parts, select_over}
use Rattle.aqe_rules.specs.Outcomes.{Outcome}
use Rattle.aqe_rules.specs.Readings.{Call}
use Rattle.aqe_rules.specs.Selects as selects
use Rattle.aqe_rules.specs.Selects.{Output}
use Rattle.aqe_rules.specs.Sources.{From, from_of}
use Rattle.aqe_typing.specs.Calls.{calls_seen}
use Rattle.aqe_sources.specs.Seen.{items_seen}
use Rattle.aqe_outputs.specs.declared.outputs.Shown.{Shown}
use Rattle.aqe_outputs.specs.Shown.{outputs_seen}
use Rattle.aqe_select.specs.declared.clauses.Clauses.{Clauses}
use Rattle.aqe_select.specs.declared.plans.Selected.{Selected}

-- what the clauses come to over these columns of FROM
abbrev pub selected_over : List Named → Selected → analysis.Selected
selected_over columns s = record {
  below = s.below;
  columns = columns;
  is_grouped = s.is_grouped;
  keys = s.keys;
  outputs = outputs_seen s.outputs;
  having = s.having;
  distinct = s.distinct;
}

-- its plan with the values of these calls, and with further columns behind its own; the columns of FROM do not matter to it
abbrev pub plan_from : Selected → List Call → List Output → Logical
plan_from s calls more = analysis.plan_of (selected_over [] s) calls more

abbrev pub is_grouped : Clauses → Bool
is_grouped c = selects.is_grouped c.list.now c.group.now c.having.now c.sorts.now

-- what the clauses come to over a plan of FROM and what it shows, before ORDER BY
abbrev pub parts_of : Clauses → Bool → Shown → Logical → Outcome analysis.Selected
parts_of c grouped s plan =
    select_parts c.distinct c.list.now s.has_from c.filter.now c.group.now c.having.now grouped (calls_seen s.calls) (from_of plan (items_seen s.items))

-- what the SELECT comes to over a FROM
abbrev pub select_of : Clauses → From → Outcome Logical
select_of c from = select_over c.distinct c.list.now c.has_from c.filter.now c.group.now c.having.now c.sorts.now from
