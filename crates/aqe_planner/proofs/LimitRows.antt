-- The rows of the table of planning that have unions and limits.
use Rattle.std.proofs.Common.{inl, inr, ◌+◌, ◌≡◌, refl, ℕ, Option, Some, None, true, false}
use Rattle.std.proofs.lemmas.Bool.{cases_Bool}
use Rattle.aqe_base.specs.declared.join_kind.JoinKind.{JoinKind}
use Rattle.aqe_logical.specs.declared.plan.Placement.{Placement}
use Rattle.aqe_logical.specs.declared.plan.Placement.TheVariants as place
use Rattle.aqe_logical.specs.declared.plan.Logical as logical
use Rattle.aqe_logical.specs.declared.plan.Logical.{Logical}
use Rattle.aqe_logical.proofs.Shapes as query_shapes
use Rattle.aqe_physical.specs.declared.target.JoinWay.{JoinWay}
use Rattle.aqe_physical.specs.declared.target.Target.TheVariants as target
use Rattle.aqe_physical.specs.declared.plan.Plan as plan
use Rattle.aqe_physical.specs.declared.plan.Plan.{Plan}
use Rattle.aqe_physical.specs.Shapes.{moved, cut_locally}
use Rattle.aqe_physical.proofs.Shapes as shapes
use Rattle.aqe_fitting.specs.Placing.{serves, one_part}
use Rattle.aqe_fitting.specs.Planning as table
use Rattle.aqe_fitting.specs.Planning.{Planned}
use Rattle.aqe_planner.specs.Steps.{limit_moved, limit_plan, limit_place}

module _ (ways : JoinKind → Logical → Logical → JoinWay → Type 0) (n : ℕ) (files : ℕ → ℕ) where
  pub at-union : (x y z : Logical) (p q r : Plan) (u t w : Placement) → x ≡ logical.Union y z → Planned ways n files y p u → Planned ways n files z q t →
      r ≡ plan.Union p q → w ≡ place.Any → Planned ways n files x r w
  at-union x y z p q r u t w e h k is at = rw (e, query_shapes.is_united y z, is, shapes.is_both_of p q, at) (table.a_union y z p q u t h k)

  at-here : (y : Logical) (count : Option ℕ) (skip : ℕ) (p : Plan) (w : Placement) → Planned ways n files y p w → serves one_part p w ≡ true →
      Planned ways n files (logical.Limit count skip y) (plan.GlobalLimit count skip p) w
  at-here y count skip p w h s = rw (query_shapes.is_limited count skip y, shapes.is_cut_globally count skip p) (table.limit_here count skip y p w h s)

  at-moved : (y : Logical) (count : Option ℕ) (skip : ℕ) (p : Plan) (w : Placement) → Planned ways n files y p w → serves one_part p w ≡ false →
      Planned ways n files (logical.Limit count skip y) (limit_moved count skip p) place.Single
  at-moved y None skip p w h s =
      rw (query_shapes.is_limited None skip y, shapes.is_moved target.Single p, shapes.is_cut_globally None skip (moved target.Single p)) (table.skip_moved skip y p w h s)
  at-moved y (Some count) skip p w h s =
      rw (
        query_shapes.is_limited (Some count) skip y,
        shapes.is_cut_locally (count + skip) p,
        shapes.is_moved target.Single (cut_locally (count + skip) p),
        shapes.is_cut_globally (Some count) skip (moved target.Single (cut_locally (count + skip) p)),
      )
      (table.limit_moved count skip (count + skip) y p w h s refl)

  pub at-limit : (x y : Logical) (count : Option ℕ) (skip : ℕ) (p q : Plan) (w u : Placement) → x ≡ logical.Limit count skip y → Planned ways n files y p w →
      q ≡ limit_plan count skip p w → u ≡ limit_place p w → Planned ways n files x q u
  at-limit x y count skip p q w u e h k l = elim (cases_Bool (serves one_part p w)) [
    | inl t ↦ rw (e, k, l, t) (at-here y count skip p w h t)
    | inr f ↦ rw (e, k, l, f) (at-moved y count skip p w h f)
  ]
