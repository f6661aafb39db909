-- The forms of a plan, as the code makes them.
use Rattle.std.proofs.Common.{◌≡◌, ℕ, List, Option, refl}
use denote.Hole.Carrier as hole
use Rattle.aqe_logical.specs.declared.plan.Logical.TheBlock as b
use Rattle.aqe_base.specs.declared.join_kind.JoinKind.{JoinKind}
use Rattle.aqe_base.specs.declared.stage_id.StageId.{StageId}
use Rattle.aqe_values.specs.declared.schema.Field.{Field}
use Rattle.aqe_expr.specs.declared.expr.Expr.{Expr}
use Rattle.aqe_logical.specs.declared.plan.AggCall.{AggCall}
use Rattle.aqe_logical.specs.declared.plan.SortKey.{SortKey}
use Rattle.aqe_logical.specs.declared.plan.Logical.{Logical}
use Rattle.aqe_logical.specs.declared.plan.Logical.TheVariants.{Filter, Project, Join, Aggregate, Union, Sort, Limit, Sampled}
use Rattle.aqe_logical.specs.Shapes.{filtered, projected, joined, aggregated, united, sorted, limited, sampled}

pub is_filtered : (c : Expr) (p : Logical) → Filter c p ≡ filtered c p
unfolding b.shape-the_row-Logical-0 b.hidden-the_row-Logical-0 hole.hidden
is_filtered c p = refl

pub is_projected : (i : List Expr) (s : List Field) (p : Logical) → Project i s p ≡ projected i s p
unfolding b.shape-the_row-Logical-0 b.hidden-the_row-Logical-0 hole.hidden
is_projected i s p = refl

pub is_joined : (k : JoinKind) (c : Expr) (l r : Logical) → Join k c l r ≡ joined k c l r
unfolding b.shape-the_row-Logical-0 b.hidden-the_row-Logical-0 hole.hidden
is_joined k c l r = refl

pub is_aggregated : (k : List Expr) (c : List AggCall) (s : List Field) (p : Logical) → Aggregate k c s p ≡ aggregated k c s p
unfolding b.shape-the_row-Logical-0 b.hidden-the_row-Logical-0 hole.hidden
is_aggregated k c s p = refl

pub is_united : (l r : Logical) → Union l r ≡ united l r
unfolding b.shape-the_row-Logical-0 b.hidden-the_row-Logical-0 hole.hidden
is_united l r = refl

pub is_sorted : (k : List SortKey) (p : Logical) → Sort k p ≡ sorted k p
unfolding b.shape-the_row-Logical-0 b.hidden-the_row-Logical-0 hole.hidden
is_sorted k p = refl

pub is_limited : (c : Option ℕ) (s : ℕ) (p : Logical) → Limit c s p ≡ limited c s p
unfolding b.shape-the_row-Logical-0 b.hidden-the_row-Logical-0 hole.hidden
is_limited c s p = refl

pub is_sampled : (s : StageId) (p : Logical) → Sampled s p ≡ sampled s p
unfolding b.shape-the_row-Logical-0 b.hidden-the_row-Logical-0 hole.hidden
is_sampled s p = refl
