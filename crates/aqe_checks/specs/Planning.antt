-- What tests of first plans know of their queries.
use Rattle.std.specs.Prelude.{ℕ}
use Rattle.aqe_logical.specs.declared.plan.Logical.{Logical}
use Rattle.aqe_planner.specs.Built.{IsBuilt, LimitsFit, Reaches}

-- a query has a first plan where there are estimates of so many tables
pub record HasFirstPlan (tables : ℕ) (query : Logical) : Type 0 where
  pub built : IsBuilt query
  pub reached : Reaches tables query
  pub limits : LimitsFit query
