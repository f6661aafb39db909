-- Two results that are wanted together.
use Rattle.std.specs.Prelude.{List, Result, Ok, Err}
use Rattle.aqe_rules.specs.declared.fault.AnalysisFault.{AnalysisFault}
use Rattle.aqe_logical.specs.declared.plan.Logical.{Logical}
use Rattle.aqe_sources.specs.declared.scope.FromItem.{FromItem}
use Rattle.aqe_sources.specs.declared.scope.FromPlan.{FromPlan}

-- both values, or the fault of the first result that is one
abbrev pub both_of : {A B : Type 0} → Result A AnalysisFault → Result B AnalysisFault → Result (A × B) AnalysisFault
both_of (Ok a) (Ok b) = Ok (a, b)
both_of (Ok a) (Err fault) = Err fault
both_of (Err fault) b = Err fault

-- a plan with its items, or the fault in their place
abbrev pub with_items : Result (Logical × List FromItem) AnalysisFault → Result FromPlan AnalysisFault
with_items (Ok both) = Ok (record { plan = both.0; items = both.1 })
with_items (Err fault) = Err fault
