-- The width of each form of a query, as the code makes it.
use Rattle.std.proofs.Common.{◌≡◌, ℕ, ◌+◌, cond, Bool, true, false, List, length, Option, ap, refl, ◌∙◌, ◌++◌}
use Rattle.std.proofs.Common.{length-append}
use Rattle.aqe_base.specs.declared.join_kind.JoinKind.{JoinKind}
use Rattle.aqe_base.specs.declared.stage_id.StageId.{StageId}
use Rattle.aqe_values.specs.declared.schema.Field.{Field}
use Rattle.aqe_expr.specs.declared.expr.Expr.{Expr}
use Rattle.aqe_logical.specs.declared.plan.AggCall.{AggCall}
use Rattle.aqe_logical.specs.declared.plan.SortKey.{SortKey}
use Rattle.aqe_logical.specs.declared.plan.Logical.{Logical}
use Rattle.aqe_logical.specs.declared.plan.Logical.TheVariants.{Filter, Project, Join, Aggregate, Union, Sort, Limit, Sampled}
use Rattle.aqe_logical.specs.Columns.{schema_of, width, shows_right}
use Rattle.aqe_logical.proofs.Shapes.{is_filtered, is_projected, is_joined, is_aggregated, is_united, is_sorted, is_limited, is_sampled}
use Rattle.aqe_join_plan.specs.Widths.{shown_width}

pub width-filter : (p : Logical) (c : Expr) (q : Logical) → p ≡ Filter c q → width p ≡ width q
width-filter p c q e = ap width (e ∙ is_filtered c q)

pub width-project : (p : Logical) (i : List Expr) (s : List Field) (q : Logical) → p ≡ Project i s q → width p ≡ length s
width-project p i s q e = ap width (e ∙ is_projected i s q)

joined-width : (b : Bool) (l r : List Field) → length (cond b (l ++ r) l) ≡ cond b (length l + length r) (length l)
joined-width true l r = length-append l r
joined-width false l r = refl

pub width-join : (p : Logical) (k : JoinKind) (c : Expr) (l r : Logical) → p ≡ Join k c l r → width p ≡ shown_width k (width l) (width r)
width-join p k c l r e = ap width (e ∙ is_joined k c l r) ∙ joined-width (shows_right k) (schema_of l) (schema_of r)

pub width-aggregate : (p : Logical) (k : List Expr) (c : List AggCall) (s : List Field) (q : Logical) → p ≡ Aggregate k c s q → width p ≡ length s
width-aggregate p k c s q e = ap width (e ∙ is_aggregated k c s q)

pub width-union : (p l r : Logical) → p ≡ Union l r → width p ≡ width l
width-union p l r e = ap width (e ∙ is_united l r)

pub width-sort : (p : Logical) (k : List SortKey) (q : Logical) → p ≡ Sort k q → width p ≡ width q
width-sort p k q e = ap width (e ∙ is_sorted k q)

pub width-limit : (p : Logical) (c : Option ℕ) (s : ℕ) (q : Logical) → p ≡ Limit c s q → width p ≡ width q
width-limit p c s q e = ap width (e ∙ is_limited c s q)

pub width-sampled : (p : Logical) (s : StageId) (q : Logical) → p ≡ Sampled s q → width p ≡ width q
width-sampled p s q e = ap width (e ∙ is_sampled s q)

pub ruleset width_steps = (width-filter, width-project, width-join, width-aggregate, width-union, width-sort, width-limit, width-sampled)
