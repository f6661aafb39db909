-- Groups, sorts and limits over a plan and the place of its rows.
use Rattle.std.specs.Prelude.{ℕ, ◌+◌, cond, Option, Some, None, List, length}
use Rattle.aqe_expr.specs.declared.expr.Expr.{Expr}
use Rattle.aqe_logical.specs.declared.plan.AggCall.{AggCall}
use Rattle.aqe_logical.specs.declared.plan.Placement.{Placement}
use Rattle.aqe_logical.specs.declared.plan.Placement.TheVariants as place
use Rattle.aqe_logical.specs.declared.plan.SortKey.{SortKey}
use Rattle.aqe_physical.specs.declared.target.Target.{Target}
use Rattle.aqe_physical.specs.declared.target.Target.TheVariants as target
use Rattle.aqe_physical.specs.declared.plan.Plan.{Plan, PartialAgg, FinalAgg, Exchange, Sort, LocalLimit, GlobalLimit}
use Rattle.aqe_fitting.specs.Placing.{serves, one_part, groups_of, order_of, place_of_groups, groups_target, place_of}

-- finished where partial groups stand; or behind an exchange that brings them together
abbrev pub groups_here : List Expr → List AggCall → Plan → Plan
groups_here keys calls p = FinalAgg (length keys) calls (PartialAgg keys calls p)

abbrev pub groups_behind : List Expr → List AggCall → Target → Plan → Plan
groups_behind keys calls to p = FinalAgg (length keys) calls (Exchange to (PartialAgg keys calls p))

abbrev pub groups_moved : ℕ → List Expr → List AggCall → Plan → Plan
groups_moved n keys calls p = groups_behind keys calls (groups_target n (length keys)) p

-- the first, where rows with equal keys stand in one part
abbrev pub groups_plan : ℕ → List Expr → List AggCall → Plan → Placement → Plan
groups_plan n keys calls p w = cond (serves (groups_of keys) p w) (groups_here keys calls p) (groups_moved n keys calls p)

abbrev pub groups_place : ℕ → List Expr → Plan → Placement → Placement
groups_place n keys p w = cond (serves (groups_of keys) p w) (place_of_groups keys p w) (place_of (groups_target n (length keys)))

-- a sort of each part behind an exchange that brings rows to the ranges of their keys; no sample of them was taken
abbrev pub sort_moved : ℕ → List SortKey → Plan → Plan
sort_moved n keys p = Sort keys (Exchange (target.Range keys n None) p)

-- a sort of each part where it stands, where the parts are then in order end to end
abbrev pub sort_plan : ℕ → List SortKey → Plan → Placement → Plan
sort_plan n keys p w = cond (serves (order_of keys) p w) (Sort keys p) (sort_moved n keys p)

abbrev pub sort_place : List SortKey → Plan → Placement → Placement
sort_place keys p w = cond (serves (order_of keys) p w) w (place.Range keys)

-- what each part gives to a limit of all rows: as many of its first rows as are left out and kept, or all of them where all are kept
abbrev pub given_rows : Option ℕ → ℕ → Plan → Plan
given_rows None skip p = p
given_rows (Some count) skip p = LocalLimit (count + skip) p

-- a limit of the rows of one part, or of what each part gives, brought to one part
abbrev pub limit_moved : Option ℕ → ℕ → Plan → Plan
limit_moved count skip p = GlobalLimit count skip (Exchange target.Single (given_rows count skip p))

-- the first, where all rows stand in one part
abbrev pub limit_plan : Option ℕ → ℕ → Plan → Placement → Plan
limit_plan count skip p w = cond (serves one_part p w) (GlobalLimit count skip p) (limit_moved count skip p)

abbrev pub limit_place : Plan → Placement → Placement
limit_place p w = cond (serves one_part p w) w place.Single
