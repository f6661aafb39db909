-- The rows of the table of planning that have sorts.
use Rattle.std.proofs.Common.{inl, inr, ◌≡◌, refl, ℕ, List, None, true, false}
use Rattle.std.proofs.lemmas.Bool.{cases_Bool}
use Rattle.aqe_base.specs.declared.join_kind.JoinKind.{JoinKind}
use Rattle.aqe_logical.specs.declared.plan.Placement.{Placement}
use Rattle.aqe_logical.specs.declared.plan.Placement.TheVariants as place
use Rattle.aqe_logical.specs.declared.plan.SortKey.{SortKey}
use Rattle.aqe_logical.specs.declared.plan.Logical as logical
use Rattle.aqe_logical.specs.declared.plan.Logical.{Logical}
use Rattle.aqe_logical.specs.Shapes.{sampled}
use Rattle.aqe_logical.proofs.Shapes as query_shapes
use Rattle.aqe_physical.specs.declared.target.JoinWay.{JoinWay}
use Rattle.aqe_physical.specs.declared.target.Target.TheVariants as target
use Rattle.aqe_physical.specs.declared.plan.Plan as plan
use Rattle.aqe_physical.specs.declared.plan.Plan.{Plan}
use Rattle.aqe_physical.specs.Shapes.{moved}
use Rattle.aqe_physical.proofs.Shapes as shapes
use Rattle.aqe_fitting.specs.Placing.{serves, order_of, sample_of}
use Rattle.aqe_fitting.specs.Planning as table
use Rattle.aqe_fitting.specs.Planning.{Planned}
use Rattle.aqe_planner.specs.Built.{IsBuilt}
use Rattle.aqe_planner.specs.Steps.{sort_moved, sort_plan, sort_place}

not_built : false ≡ true → ⊥
not_built h = cc (h)

-- no sample was taken of a plan that is built
pub no_sample : (x : Logical) → IsBuilt x → None ≡ sample_of x
no_sample (sampled stage child) h = absurd (not_built h)
no_sample node h = refl

module _ (ways : JoinKind → Logical → Logical → JoinWay → Type 0) (n : ℕ) (files : ℕ → ℕ) where
  at-here : (y : Logical) (keys : List SortKey) (p : Plan) (w : Placement) → Planned ways n files y p w → serves (order_of keys) p w ≡ true →
      Planned ways n files (logical.Sort keys y) (plan.Sort keys p) w
  at-here y keys p w h s = rw (query_shapes.is_sorted keys y, shapes.is_ordered keys p) (table.sort_here keys y p w h s)

  at-moved : (y : Logical) (keys : List SortKey) (p : Plan) (w : Placement) → Planned ways n files y p w → serves (order_of keys) p w ≡ false → IsBuilt y →
      Planned ways n files (logical.Sort keys y) (sort_moved n keys p) (place.Range keys)
  at-moved y keys p w h s built =
      rw (query_shapes.is_sorted keys y, shapes.is_moved (target.Range keys n None) p, shapes.is_ordered keys (moved (target.Range keys n None) p))
      (table.sort_moved keys None y p w h s (no_sample y built))

  pub at-sort : (x y : Logical) (keys : List SortKey) (p q : Plan) (w u : Placement) → x ≡ logical.Sort keys y → IsBuilt y → Planned ways n files y p w →
      q ≡ sort_plan n keys p w → u ≡ sort_place keys p w → Planned ways n files x q u
  at-sort x y keys p q w u e built h k l = elim (cases_Bool (serves (order_of keys) p w)) [
    | inl t ↦ rw (e, k, l, t) (at-here y keys p w h t)
    | inr f ↦ rw (e, k, l, f) (at-moved y keys p w h f built)
  ]
