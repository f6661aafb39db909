-- The forms of a plan, as the code makes them.
use Rattle.std.proofs.Common.{◌≡◌, ℕ, List, Option, refl}
use denote.Hole.Carrier as hole
use Rattle.aqe_physical.specs.declared.plan.Plan.TheBlock as b
use Rattle.aqe_base.specs.declared.join_kind.JoinKind.{JoinKind}
use Rattle.aqe_expr.specs.declared.expr.Expr.{Expr}
use Rattle.aqe_logical.specs.declared.plan.AggCall.{AggCall}
use Rattle.aqe_logical.specs.declared.plan.SortKey.{SortKey}
use Rattle.aqe_join_rows.specs.declared.join_keys.JoinKeys.{JoinKeys}
use Rattle.aqe_physical.specs.declared.target.Target.{Target}
use Rattle.aqe_physical.specs.declared.target.JoinWay.{JoinWay}
use Rattle.aqe_physical.specs.declared.plan.Plan.{Plan}
use Rattle.aqe_physical.specs.declared.plan.Plan.TheVariants.{Filter, Project, Exchange, Join, PartialAgg, FinalAgg, Sort, LocalLimit, GlobalLimit, Union}
use Rattle.aqe_physical.specs.Shapes.{kept, mapped, moved, matched, grouped, finished, ordered, cut_locally, cut_globally, both_of}

pub is_kept : (c : Expr) (q : Plan) → Filter c q ≡ kept c q
unfolding b.shape-the_row-Plan-0 b.hidden-the_row-Plan-0 hole.hidden
is_kept c q = refl

pub is_mapped : (i : List Expr) (q : Plan) → Project i q ≡ mapped i q
unfolding b.shape-the_row-Plan-0 b.hidden-the_row-Plan-0 hole.hidden
is_mapped i q = refl

pub is_moved : (t : Target) (q : Plan) → Exchange t q ≡ moved t q
unfolding b.shape-the_row-Plan-0 b.hidden-the_row-Plan-0 hole.hidden
is_moved t q = refl

pub is_matched : (y : JoinWay) (k : JoinKind) (ks : JoinKeys) (v : ℕ) (w : ℕ) (l r : Plan) → Join y k ks v w l r ≡ matched y k ks v w l r
unfolding b.shape-the_row-Plan-0 b.hidden-the_row-Plan-0 hole.hidden
is_matched y k ks v w l r = refl

pub is_grouped : (ks : List Expr) (cs : List AggCall) (q : Plan) → PartialAgg ks cs q ≡ grouped ks cs q
unfolding b.shape-the_row-Plan-0 b.hidden-the_row-Plan-0 hole.hidden
is_grouped ks cs q = refl

pub is_finished : (n : ℕ) (cs : List AggCall) (q : Plan) → FinalAgg n cs q ≡ finished n cs q
unfolding b.shape-the_row-Plan-0 b.hidden-the_row-Plan-0 hole.hidden
is_finished n cs q = refl

pub is_ordered : (ks : List SortKey) (q : Plan) → Sort ks q ≡ ordered ks q
unfolding b.shape-the_row-Plan-0 b.hidden-the_row-Plan-0 hole.hidden
is_ordered ks q = refl

pub is_cut_locally : (n : ℕ) (q : Plan) → LocalLimit n q ≡ cut_locally n q
unfolding b.shape-the_row-Plan-0 b.hidden-the_row-Plan-0 hole.hidden
is_cut_locally n q = refl

pub is_cut_globally : (n : Option ℕ) (s : ℕ) (q : Plan) → GlobalLimit n s q ≡ cut_globally n s q
unfolding b.shape-the_row-Plan-0 b.hidden-the_row-Plan-0 hole.hidden
is_cut_globally n s q = refl

pub is_both_of : (l r : Plan) → Union l r ≡ both_of l r
unfolding b.shape-the_row-Plan-0 b.hidden-the_row-Plan-0 hole.hidden
is_both_of l r = refl
