-- The columns of each form of a plan, as the code makes it.
use Rattle.std.proofs.Common.{◌≡◌, ℕ, List, Option, ap, sym, cond, ◌++◌, ◌∙◌, true, false}
use Rattle.aqe_base.specs.declared.join_kind.JoinKind.{JoinKind}
use Rattle.aqe_base.specs.declared.stage_id.StageId.{StageId}
use Rattle.aqe_values.specs.declared.schema.Field.{Field}
use Rattle.aqe_expr.specs.declared.expr.Expr.{Expr}
use Rattle.aqe_logical.specs.declared.plan.AggCall.{AggCall}
use Rattle.aqe_logical.specs.declared.plan.SortKey.{SortKey}
use Rattle.aqe_logical.specs.declared.plan.Logical.{Logical}
use Rattle.aqe_logical.specs.declared.plan.Logical.TheVariants.{Filter, Project, Join, Aggregate, Union, Sort, Limit, Sampled}
use Rattle.aqe_logical.specs.Columns.{schema_of, shows_right}
use Rattle.aqe_logical.proofs.Shapes.{is_filtered, is_projected, is_joined, is_aggregated, is_united, is_sorted, is_limited, is_sampled}

pub schema-filter : (p : Logical) (c : Expr) (q : Logical) → p ≡ Filter c q → schema_of p ≡ schema_of q
schema-filter p c q e = ap schema_of (e ∙ is_filtered c q)

pub schema-project : (p : Logical) (i : List Expr) (s : List Field) (q : Logical) → p ≡ Project i s q → schema_of p ≡ s
schema-project p i s q e = ap schema_of (e ∙ is_projected i s q)

pub schema-join : (p : Logical) (k : JoinKind) (c : Expr) (l r : Logical) → p ≡ Join k c l r → schema_of p ≡ cond (shows_right k) (schema_of l ++ schema_of r) (schema_of l)
schema-join p k c l r e = ap schema_of (e ∙ is_joined k c l r)

pub schema-aggregate : (p : Logical) (k : List Expr) (c : List AggCall) (s : List Field) (q : Logical) → p ≡ Aggregate k c s q → schema_of p ≡ s
schema-aggregate p k c s q e = ap schema_of (e ∙ is_aggregated k c s q)

pub schema-union : (p : Logical) (l r : Logical) → p ≡ Union l r → schema_of p ≡ schema_of l
schema-union p l r e = ap schema_of (e ∙ is_united l r)

pub schema-sort : (p : Logical) (k : List SortKey) (q : Logical) → p ≡ Sort k q → schema_of p ≡ schema_of q
schema-sort p k q e = ap schema_of (e ∙ is_sorted k q)

pub schema-limit : (p : Logical) (c : Option ℕ) (s : ℕ) (q : Logical) → p ≡ Limit c s q → schema_of p ≡ schema_of q
schema-limit p c s q e = ap schema_of (e ∙ is_limited c s q)

pub schema-sampled : (p : Logical) (s : StageId) (q : Logical) → p ≡ Sampled s q → schema_of p ≡ schema_of q
schema-sampled p s q e = ap schema_of (e ∙ is_sampled s q)

pub ruleset schemas = (schema-filter, schema-project, schema-join, schema-aggregate, schema-union, schema-sort, schema-limit, schema-sampled)

pub left_alone : (p : Logical) (k : JoinKind) (c : Expr) (l r : Logical) (s : List Field) → p ≡ Join k c l r → shows_right k ≡ false → s ≡ schema_of l → s ≡ schema_of p
left_alone p k c l r s e off is = is ∙ sym (schema-join p k c l r e ∙ ap (λ b. cond b (schema_of l ++ schema_of r) (schema_of l)) off)

pub both_sides : (p : Logical) (k : JoinKind) (c : Expr) (l r : Logical) (s : List Field) → p ≡ Join k c l r → shows_right k ≡ true → s ≡ schema_of l ++ schema_of r → s ≡ schema_of p
both_sides p k c l r s e on is = is ∙ sym (schema-join p k c l r e ∙ ap (λ b. cond b (schema_of l ++ schema_of r) (schema_of l)) on)
