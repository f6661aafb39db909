-- The law of planning.
use Rattle.aqe_logical.specs.declared.plan.Logical.{Logical}
use Rattle.aqe_trees.specs.declared.query.QueryTree.{QueryTree}
use Rattle.aqe_rules.specs.Sources.{Catalog}
use Rattle.aqe_rules.specs.Analysis.{Analysed}
use Rattle.aqe_planner.specs.Built.{IsBuilt}

-- the plan of each query that is analysed has only the forms that are planned
abbrev pub QueriesArePlanned : Type 0
QueriesArePlanned = (tree : QueryTree) (catalog : Catalog) (plan : Logical) → Analysed tree catalog plan → IsBuilt plan
