-- The laws of the analysis.
use Rattle.std.specs.Prelude.{◌≤◌, ◌≡◌, ◌↔◌, true, None}
use Rattle.aqe_expr.specs.declared.expr.Expr.{Expr}
use Rattle.aqe_logical.specs.declared.plan.Logical.{Logical}
use Rattle.aqe_logical.specs.WellFormed.{Closed, WellFormed, column_limit}
use Rattle.aqe_trees.specs.declared.query.QueryTree.{QueryTree}
use Rattle.aqe_rules.specs.Equality.{same_expr}
use Rattle.aqe_rules.specs.Limits.{operator_limit, operator_count, most_columns}
use Rattle.aqe_rules.specs.Sources.{Catalog}
use Rattle.aqe_rules.specs.Analysis.{Analysed, first_check}
use Rattle.aqe_laws.specs.Scans.{ScansHaveTheirColumns}

-- a query has at most one plan
abbrev pub OnePlan : Type 0
OnePlan = (tree : QueryTree) (catalog : Catalog) (p q : Logical) → Analysed tree catalog p → Analysed tree catalog q → p ≡ q

-- it has one exactly where no check fails
abbrev pub PlanOrCheck : Type 0
PlanOrCheck = (tree : QueryTree) (catalog : Catalog) → ((p : Logical) × Analysed tree catalog p) ↔ (first_check tree catalog ≡ None)

-- its plan is closed
abbrev pub PlansAreClosed : Type 0
PlansAreClosed = (tree : QueryTree) (catalog : Catalog) (p : Logical) → Analysed tree catalog p → Closed p

-- its plan is well formed
abbrev pub PlansAreWellFormed : Type 0
PlansAreWellFormed = (tree : QueryTree) (catalog : Catalog) (p : Logical) → Analysed tree catalog p → WellFormed p

-- its plan keeps the two limits
abbrev pub PlansAreBounded : Type 0
PlansAreBounded = (tree : QueryTree) (catalog : Catalog) (p : Logical) → Analysed tree catalog p → (operator_count p ≤ operator_limit) × (most_columns p ≤ column_limit)

-- expressions count as equal exactly where they are the same expression
abbrev pub SameIsEqual : Type 0
SameIsEqual = (a b : Expr) → (same_expr a b ≡ true) ↔ (a ≡ b)

-- each scan of its plan has the columns that the catalog has of the table
abbrev pub ScansAreOfTheCatalog : Type 0
ScansAreOfTheCatalog = (tree : QueryTree) (catalog : Catalog) (p : Logical) → Analysed tree catalog p → ScansHaveTheirColumns catalog p
