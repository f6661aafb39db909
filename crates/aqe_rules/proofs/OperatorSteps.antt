-- The operators of each form of a plan, as the code makes it.
use Rattle.std.proofs.Common.{◌≡◌, ℕ, ◌+◌, List, Option, ap, ◌∙◌}
use Rattle.aqe_base.specs.declared.join_kind.JoinKind.{JoinKind}
use Rattle.aqe_base.specs.declared.stage_id.StageId.{StageId}
use Rattle.aqe_values.specs.declared.schema.Field.{Field}
use Rattle.aqe_expr.specs.declared.expr.Expr.{Expr}
use Rattle.aqe_logical.specs.declared.plan.AggCall.{AggCall}
use Rattle.aqe_logical.specs.declared.plan.SortKey.{SortKey}
use Rattle.aqe_logical.specs.declared.plan.Logical.{Logical}
use Rattle.aqe_logical.specs.declared.plan.Logical.TheVariants.{Filter, Project, Join, Aggregate, Union, Sort, Limit, Sampled}
use Rattle.aqe_logical.proofs.Shapes.{is_filtered, is_projected, is_joined, is_aggregated, is_united, is_sorted, is_limited, is_sampled}
use Rattle.aqe_rules.specs.Limits.{operator_count}

pub count-filter : (p : Logical) (c : Expr) (q : Logical) → p ≡ Filter c q → operator_count p ≡ operator_count q + 1
count-filter p c q e = ap operator_count (e ∙ is_filtered c q)

pub count-project : (p : Logical) (i : List Expr) (s : List Field) (q : Logical) → p ≡ Project i s q → operator_count p ≡ operator_count q + 1
count-project p i s q e = ap operator_count (e ∙ is_projected i s q)

pub count-join : (p : Logical) (k : JoinKind) (c : Expr) (l r : Logical) → p ≡ Join k c l r → operator_count p ≡ operator_count l + operator_count r + 1
count-join p k c l r e = ap operator_count (e ∙ is_joined k c l r)

pub count-aggregate : (p : Logical) (k : List Expr) (c : List AggCall) (s : List Field) (q : Logical) → p ≡ Aggregate k c s q → operator_count p ≡ operator_count q + 1
count-aggregate p k c s q e = ap operator_count (e ∙ is_aggregated k c s q)

pub count-union : (p l r : Logical) → p ≡ Union l r → operator_count p ≡ operator_count l + operator_count r + 1
count-union p l r e = ap operator_count (e ∙ is_united l r)

pub count-sort : (p : Logical) (k : List SortKey) (q : Logical) → p ≡ Sort k q → operator_count p ≡ operator_count q + 1
count-sort p k q e = ap operator_count (e ∙ is_sorted k q)

pub count-limit : (p : Logical) (c : Option ℕ) (s : ℕ) (q : Logical) → p ≡ Limit c s q → operator_count p ≡ operator_count q + 1
count-limit p c s q e = ap operator_count (e ∙ is_limited c s q)

pub count-sampled : (p : Logical) (s : StageId) (q : Logical) → p ≡ Sampled s q → operator_count p ≡ operator_count q + 1
count-sampled p s q e = ap operator_count (e ∙ is_sampled s q)

pub ruleset operator_steps = (count-filter, count-project, count-join, count-aggregate, count-union, count-sort, count-limit, count-sampled)
