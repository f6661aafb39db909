-- The ORDER BY of a union, once its cores are read.
use Rattle.std.specs.Prelude.{Bool, true, false, List}
use Rattle.aqe_logical.specs.declared.plan.Logical.{Logical}
use Rattle.aqe_trees.specs.declared.query.SortTree.{SortTree}
use Rattle.aqe_rules.specs.Outcomes.{Outcome, upon}
use Rattle.aqe_rules.specs.Plans.{ordered}

-- that of a lone core is read with it
abbrev pub union_in_order : Bool → List SortTree → Outcome Logical → Outcome Logical
union_in_order true order o = o
union_in_order false order o = upon o (ordered order)
