-- A plan that is planned by some ways is planned by more of them.
use Rattle.std.proofs.Common.{ℕ}
use Rattle.aqe_base.specs.declared.join_kind.Side.TheVariants.{Left, Right}
use Rattle.aqe_logical.specs.declared.plan.Placement.{Placement}
use Rattle.aqe_logical.specs.declared.plan.Logical.{Logical}
use Rattle.aqe_physical.specs.declared.target.JoinWay.TheVariants as way
use Rattle.aqe_physical.specs.declared.plan.Plan.{Plan}
use Rattle.aqe_fitting.specs.Planning.{Planned, a_row, a_scan, a_nothing, a_read, a_whole_read, a_filter, a_project, by_parts, by_whole_right, by_whole_left, by_loop, groups_here, groups_moved, groups_read, a_union, sort_here, sort_moved, limit_here, limit_moved, skip_moved, a_sampled}
use Rattle.aqe_fitting.specs.Laws.{Chooses, LetsAll}

pub grows : (ways more : Chooses) (n : ℕ) (files : ℕ → ℕ) (x : Logical) (p : Plan) (w : Placement) → LetsAll more ways →
    Planned ways n files x p w → Planned more n files x p w
grows a b n f _ _ _ h a_row = a_row
grows a b n f _ _ _ h (a_scan t s c e) = a_scan t s c e
grows a b n f _ _ _ h (a_nothing s ps z e) = a_nothing s ps z e
grows a b n f _ _ _ h (a_read st w s m r rs e) = a_read st w s m r rs e
grows a b n f _ _ _ h (a_whole_read st s) = a_whole_read st s
grows a b n f _ _ _ h (a_filter c x p w d) = a_filter c x p w (grows a b n f x p w h d)
grows a b n f _ _ _ h (a_project i s x p w o d e) = a_project i s x p w o (grows a b n f x p w h d) e
grows a b n f _ _ _ h (by_parts y k c ks v w x z p p1 q q1 u t o d e cut has is chosen g1 g2 out) =
    by_parts y k c ks v w x z p p1 q q1 u t o (grows a b n f x p u h d) (grows a b n f z q t h e) cut has is (h k x z y chosen) g1 g2 out
grows a b n f _ _ _ h (by_whole_right k c ks v w x z p q q1 u t d e cut has chosen g) =
    by_whole_right k c ks v w x z p q q1 u t (grows a b n f x p u h d) (grows a b n f z q t h e) cut has (h k x z (way.Broadcast Right) chosen) g
grows a b n f _ _ _ h (by_whole_left k c ks v w x z p p1 q u t o d e cut has chosen g out) =
    by_whole_left k c ks v w x z p p1 q u t o (grows a b n f x p u h d) (grows a b n f z q t h e) cut has (h k x z (way.Broadcast Left) chosen) g out
grows a b n f _ _ _ h (by_loop k c ks v w x z p p1 q q1 u t d e cut none g1 g2) =
    by_loop k c ks v w x z p p1 q q1 u t (grows a b n f x p u h d) (grows a b n f z q t h e) cut none g1 g2
grows a b n f _ _ _ h (groups_here ks cs s c x p w o d ok e out) = groups_here ks cs s c x p w o (grows a b n f x p w h d) ok e out
grows a b n f _ _ _ h (groups_moved ks cs s c to x p w o d ok e target out) = groups_moved ks cs s c to x p w o (grows a b n f x p w h d) ok e target out
grows a b n f _ _ _ h (groups_read st cs s c m r rs o e out) = groups_read st cs s c m r rs o e out
grows a b n f _ _ _ h (a_union x y p q u t d e) = a_union x y p q u t (grows a b n f x p u h d) (grows a b n f y q t h e)
grows a b n f _ _ _ h (sort_here ks x p w d ok) = sort_here ks x p w (grows a b n f x p w h d) ok
grows a b n f _ _ _ h (sort_moved ks s x p w d ok e) = sort_moved ks s x p w (grows a b n f x p w h d) ok e
grows a b n f _ _ _ h (limit_here c s x p w d ok) = limit_here c s x p w (grows a b n f x p w h d) ok
grows a b n f _ _ _ h (limit_moved c s m x p w d ok e) = limit_moved c s m x p w (grows a b n f x p w h d) ok e
grows a b n f _ _ _ h (skip_moved s x p w d ok) = skip_moved s x p w (grows a b n f x p w h d) ok
grows a b n f _ _ _ h (a_sampled st x p w d) = a_sampled st x p w (grows a b n f x p w h d)
