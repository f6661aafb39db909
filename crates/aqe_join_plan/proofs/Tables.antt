-- The table that a query scans, form by form, as the code makes it.
use Rattle.std.proofs.Common.{◌≡◌, ℕ, List, Option, None, ap, ◌∙◌}
use Rattle.aqe_base.specs.declared.join_kind.JoinKind.{JoinKind}
use Rattle.aqe_base.specs.declared.stage_id.StageId.{StageId}
use Rattle.aqe_values.specs.declared.schema.Field.{Field}
use Rattle.aqe_expr.specs.declared.expr.Expr.{Expr}
use Rattle.aqe_logical.specs.declared.plan.AggCall.{AggCall}
use Rattle.aqe_logical.specs.declared.plan.SortKey.{SortKey}
use Rattle.aqe_logical.specs.declared.plan.Logical.{Logical}
use Rattle.aqe_logical.specs.declared.plan.Logical.TheVariants.{Filter, Project, Join, Aggregate, Union, Sort, Limit, Sampled}
use Rattle.aqe_logical.proofs.Shapes.{is_filtered, is_projected, is_joined, is_aggregated, is_united, is_sorted, is_limited, is_sampled}
use Rattle.aqe_fitting.specs.Ways.{table_of}

pub table-filter : (p : Logical) (c : Expr) (q : Logical) → p ≡ Filter c q → table_of p ≡ table_of q
table-filter p c q e = ap table_of (e ∙ is_filtered c q)

pub table-project : (p : Logical) (i : List Expr) (s : List Field) (q : Logical) → p ≡ Project i s q → table_of p ≡ table_of q
table-project p i s q e = ap table_of (e ∙ is_projected i s q)

pub table-join : (p : Logical) (k : JoinKind) (c : Expr) (l r : Logical) → p ≡ Join k c l r → table_of p ≡ None
table-join p k c l r e = ap table_of (e ∙ is_joined k c l r)

pub table-aggregate : (p : Logical) (k : List Expr) (c : List AggCall) (s : List Field) (q : Logical) → p ≡ Aggregate k c s q → table_of p ≡ None
table-aggregate p k c s q e = ap table_of (e ∙ is_aggregated k c s q)

pub table-union : (p l r : Logical) → p ≡ Union l r → table_of p ≡ None
table-union p l r e = ap table_of (e ∙ is_united l r)

pub table-sort : (p : Logical) (k : List SortKey) (q : Logical) → p ≡ Sort k q → table_of p ≡ None
table-sort p k q e = ap table_of (e ∙ is_sorted k q)

pub table-limit : (p : Logical) (c : Option ℕ) (s : ℕ) (q : Logical) → p ≡ Limit c s q → table_of p ≡ None
table-limit p c s q e = ap table_of (e ∙ is_limited c s q)

pub table-sampled : (p : Logical) (s : StageId) (q : Logical) → p ≡ Sampled s q → table_of p ≡ None
table-sampled p s q e = ap table_of (e ∙ is_sampled s q)

pub ruleset table_steps = (table-filter, table-project, table-join, table-aggregate, table-union, table-sort, table-limit, table-sampled)
