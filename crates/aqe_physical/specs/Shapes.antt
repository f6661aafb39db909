-- The forms of a plan, with the parts that a reader sees.
use Rattle.std.specs.Prelude.{List, Option, ℕ}
use Rattle.aqe_base.specs.declared.join_kind.JoinKind.{JoinKind}
use Rattle.aqe_expr.specs.declared.expr.Expr.{Expr}
use Rattle.aqe_logical.specs.declared.plan.AggCall.{AggCall}
use Rattle.aqe_logical.specs.declared.plan.SortKey.{SortKey}
use Rattle.aqe_join_rows.specs.declared.join_keys.JoinKeys.{JoinKeys}
use Rattle.aqe_physical.specs.declared.target.Target.{Target}
use Rattle.aqe_physical.specs.declared.target.JoinWay.{JoinWay}
use Rattle.aqe_physical.specs.declared.plan.Plan.{Plan, Filter', Project', Exchange', Join', PartialAgg', FinalAgg', Sort', LocalLimit', GlobalLimit', Union', more_of-Plan, end_of-Plan}

pattern abbrev pub kept : Expr → Plan → Plan
kept cond child = Filter' cond tt (more_of-Plan child end_of-Plan)

pattern abbrev pub mapped : List Expr → Plan → Plan
mapped items child = Project' items tt (more_of-Plan child end_of-Plan)

pattern abbrev pub moved : Target → Plan → Plan
moved target child = Exchange' target tt (more_of-Plan child end_of-Plan)

pattern abbrev pub matched : JoinWay → JoinKind → JoinKeys → ℕ → ℕ → Plan → Plan → Plan
matched way kind keys left_width right_width left right =
    Join' way kind keys left_width right_width tt (more_of-Plan left end_of-Plan) tt (more_of-Plan right end_of-Plan)

pattern abbrev pub grouped : List Expr → List AggCall → Plan → Plan
grouped keys calls child = PartialAgg' keys calls tt (more_of-Plan child end_of-Plan)

pattern abbrev pub finished : ℕ → List AggCall → Plan → Plan
finished keys calls child = FinalAgg' keys calls tt (more_of-Plan child end_of-Plan)

pattern abbrev pub ordered : List SortKey → Plan → Plan
ordered keys child = Sort' keys tt (more_of-Plan child end_of-Plan)

pattern abbrev pub cut_locally : ℕ → Plan → Plan
cut_locally count child = LocalLimit' count tt (more_of-Plan child end_of-Plan)

pattern abbrev pub cut_globally : Option ℕ → ℕ → Plan → Plan
cut_globally count skip child = GlobalLimit' count skip tt (more_of-Plan child end_of-Plan)

pattern abbrev pub both_of : Plan → Plan → Plan
both_of left right = Union' tt (more_of-Plan left end_of-Plan) tt (more_of-Plan right end_of-Plan)
