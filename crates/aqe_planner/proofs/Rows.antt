-- The rows of the table of planning, over plans and logical plans as the code has them.
use Rattle.std.proofs.Common.{Result, Ok, Err, IfOk, ap, ◌∙◌, ◌<◌, inl, inr, get_or, ◌≡◌, refl, ℕ, List, length, true, false}
use Rattle.std.proofs.lemmas.Bool.{cases_Bool}
use Rattle.std.proofs.lemmas.List.{get_or_default}
use Rattle.aqe_expr.specs.declared.expr.Expr.{Expr}
use Rattle.aqe_physical.specs.declared.sizes.Estimate.{Estimate}
use Rattle.aqe_fitting.specs.Known.{files_of}
use Rattle.aqe_values.specs.declared.schema.Field.{Field}
use Rattle.aqe_logical.specs.declared.plan.AggCall.{AggCall}
use Rattle.aqe_logical.specs.declared.plan.Placement.{Placement}
use Rattle.aqe_logical.specs.declared.plan.Placement.TheVariants as place
use Rattle.aqe_logical.specs.declared.plan.Logical as logical
use Rattle.aqe_logical.specs.declared.plan.Logical.{Logical}
use Rattle.aqe_logical.proofs.Shapes as query_shapes
use Rattle.aqe_physical.specs.declared.plan.Plan as plan
use Rattle.aqe_physical.specs.declared.plan.Plan.{Plan}
use Rattle.aqe_physical.specs.Shapes.{moved, grouped}
use Rattle.aqe_physical.proofs.Shapes as shapes
use Rattle.aqe_fitting.specs.Placing.{serves, groups_of, place_of_groups, groups_target, place_of, after_project}
use Rattle.aqe_fitting.specs.Planning as table
use Rattle.aqe_fitting.specs.Planning.{Planned}
use Rattle.aqe_base.specs.declared.join_kind.JoinKind.{JoinKind}
use Rattle.aqe_physical.specs.declared.target.JoinWay.{JoinWay}
use Rattle.aqe_planner.specs.Steps.{groups_here, groups_moved, groups_plan, groups_place}

-- two facts of a result, from which a third follows
pub IfOk-both : {T E : Type 0} (r : Result T E) (P Q R : T → Type 0) → ((x : T) → P x → Q x → R x) → IfOk r P → IfOk r Q → IfOk r R
IfOk-both (Ok x) P Q R k p q = k x p q
IfOk-both (Err e) P Q R k p q = tt

module _ (ways : JoinKind → Logical → Logical → JoinWay → Type 0) (n : ℕ) (files : ℕ → ℕ) where
  pub at-row : (x : Logical) → x ≡ logical.OneRow → Planned ways n files x plan.OneRow place.Single
  at-row x e = rw e table.a_row

  pub at-scan : (x : Logical) (t count : ℕ) (schema : List Field) → x ≡ logical.Scan t schema → count ≡ files t → Planned ways n files x (plan.Scan t count) place.Any
  at-scan x t count schema e h = rw e (table.a_scan t schema count h)

  pub at-filter : (x y : Logical) (condition : Expr) (p q : Plan) (w u : Placement) → x ≡ logical.Filter condition y → Planned ways n files y p w →
      q ≡ plan.Filter condition p → u ≡ w → Planned ways n files x q u
  at-filter x y condition p q w u e h k l = rw (e, query_shapes.is_filtered condition y, k, shapes.is_kept condition p, l) (table.a_filter condition y p w h)

  pub at-project : (x y : Logical) (items : List Expr) (schema : List Field) (p q : Plan) (w u : Placement) → x ≡ logical.Project items schema y → Planned ways n files y p w →
      q ≡ plan.Project items p → u ≡ after_project items w → Planned ways n files x q u
  at-project x y items schema p q w u e h k l = rw (e, query_shapes.is_projected items schema y, k, shapes.is_mapped items p) (table.a_project items schema y p w u h l)

  at-here : (y : Logical) (keys : List Expr) (calls : List AggCall) (schema : List Field) (p : Plan) (w : Placement) → Planned ways n files y p w →
      serves (groups_of keys) p w ≡ true → Planned ways n files (logical.Aggregate keys calls schema y) (groups_here keys calls p) (place_of_groups keys p w)
  at-here y keys calls schema p w h s =
      rw (query_shapes.is_aggregated keys calls schema y, shapes.is_grouped keys calls p, shapes.is_finished (length keys) calls (grouped keys calls p))
      (table.groups_here keys calls schema (length keys) y p w (place_of_groups keys p w) h s refl refl)

  at-moved : (y : Logical) (keys : List Expr) (calls : List AggCall) (schema : List Field) (p : Plan) (w : Placement) → Planned ways n files y p w →
      serves (groups_of keys) p w ≡ false → Planned ways n files (logical.Aggregate keys calls schema y) (groups_moved n keys calls p) (place_of (groups_target n (length keys)))
  at-moved y keys calls schema p w h s =
      rw (
        query_shapes.is_aggregated keys calls schema y,
        shapes.is_grouped keys calls p,
        shapes.is_moved (groups_target n (length keys)) (grouped keys calls p),
        shapes.is_finished (length keys) calls (moved (groups_target n (length keys)) (grouped keys calls p)),
      )
      (table.groups_moved keys calls schema (length keys) (groups_target n (length keys)) y p w (place_of (groups_target n (length keys))) h s refl refl refl)

  pub at-groups : (x y : Logical) (keys : List Expr) (calls : List AggCall) (schema : List Field) (p q : Plan) (w u : Placement) → x ≡ logical.Aggregate keys calls schema y →
      Planned ways n files y p w → q ≡ groups_plan n keys calls p w → u ≡ groups_place n keys p w → Planned ways n files x q u
  at-groups x y keys calls schema p q w u e h k l = elim (cases_Bool (serves (groups_of keys) p w)) [
    | inl t ↦ rw (e, k, l, t) (at-here y keys calls schema p w h t)
    | inr f ↦ rw (e, k, l, f) (at-moved y keys calls schema p w h f)
  ]

-- the estimate of a table that is scanned
pub count-scan : (estimates : List Estimate) (t : ℕ) (found : Estimate) → t < length estimates → found ≡ get_or estimates t found → found.files ≡ files_of estimates t
count-scan estimates t found h e = ap (λ (x : Estimate). x.files) (e ∙ get_or_default estimates t found (record { bytes = 0; files = 1 }) h)
