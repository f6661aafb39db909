-- The forms of a plan, with the parts that a reader sees.
use Rattle.std.specs.Prelude.{List, Option, ℕ}
use Rattle.aqe_base.specs.declared.join_kind.JoinKind.{JoinKind}
use Rattle.aqe_base.specs.declared.stage_id.StageId.{StageId}
use Rattle.aqe_values.specs.declared.schema.Field.{Field}
use Rattle.aqe_expr.specs.declared.expr.Expr.{Expr}
use Rattle.aqe_logical.specs.declared.plan.AggCall.{AggCall}
use Rattle.aqe_logical.specs.declared.plan.SortKey.{SortKey}
use Rattle.aqe_logical.specs.declared.plan.Logical.{Logical, Filter', Project', Join', Aggregate', Union', Sort', Limit', Sampled', more_of-Logical, end_of-Logical}

pattern abbrev pub filtered : Expr → Logical → Logical
filtered cond child = Filter' cond tt (more_of-Logical child end_of-Logical)

pattern abbrev pub projected : List Expr → List Field → Logical → Logical
projected items schema child = Project' items schema tt (more_of-Logical child end_of-Logical)

pattern abbrev pub joined : JoinKind → Expr → Logical → Logical → Logical
joined kind cond left right = Join' kind cond tt (more_of-Logical left end_of-Logical) tt (more_of-Logical right end_of-Logical)

pattern abbrev pub aggregated : List Expr → List AggCall → List Field → Logical → Logical
aggregated keys calls schema child = Aggregate' keys calls schema tt (more_of-Logical child end_of-Logical)

pattern abbrev pub united : Logical → Logical → Logical
united left right = Union' tt (more_of-Logical left end_of-Logical) tt (more_of-Logical right end_of-Logical)

pattern abbrev pub sorted : List SortKey → Logical → Logical
sorted keys child = Sort' keys tt (more_of-Logical child end_of-Logical)

pattern abbrev pub limited : Option ℕ → ℕ → Logical → Logical
limited count skip child = Limit' count skip tt (more_of-Logical child end_of-Logical)

pattern abbrev pub sampled : StageId → Logical → Logical
sampled stage child = Sampled' stage tt (more_of-Logical child end_of-Logical)
