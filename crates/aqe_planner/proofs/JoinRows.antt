-- The rows of the table of planning that have joins.
use Rattle.std.proofs.Common.{Result, Ok, IfOk, subst, inl, inr, ◌≡◌, refl, ℕ, true, false}
use Rattle.std.proofs.lemmas.Bool.{cases_Bool}
use Rattle.aqe_base.specs.declared.join_kind.JoinKind.{JoinKind}
use Rattle.aqe_base.specs.declared.join_kind.Side.TheVariants.{Left, Right}
use Rattle.aqe_expr.specs.declared.expr.Expr.{Expr}
use Rattle.aqe_logical.specs.declared.plan.Placement.{Placement}
use Rattle.aqe_logical.specs.declared.plan.Placement.TheVariants as place
use Rattle.aqe_logical.specs.declared.plan.Logical as logical
use Rattle.aqe_logical.specs.declared.plan.Logical.{Logical}
use Rattle.aqe_logical.specs.Columns.{width}
use Rattle.aqe_logical.proofs.Shapes as query_shapes
use Rattle.aqe_physical.specs.declared.target.Target.{Target}
use Rattle.aqe_physical.specs.declared.target.Target.TheVariants as target
use Rattle.aqe_physical.specs.declared.target.JoinWay.{JoinWay}
use Rattle.aqe_physical.specs.declared.target.JoinWay.TheVariants as way
use Rattle.aqe_physical.specs.declared.plan.Plan as plan
use Rattle.aqe_physical.specs.declared.plan.Plan.{Plan}
use Rattle.aqe_physical.proofs.Shapes as shapes
use Rattle.aqe_join_switch.specs.declared.sizes.JoinChoice.{JoinChoice}
use Rattle.aqe_join_switch.specs.declared.sizes.JoinChoice.TheVariants as chosen
use Rattle.aqe_join_keys.specs.Keys.{keys_of, has_keys}
use Rattle.aqe_join_rows.specs.declared.join_keys.JoinKeys.{JoinKeys}
use Rattle.aqe_fitting.specs.Ways.{way_of}
use Rattle.aqe_fitting.specs.Placing.{Asks, hash_of, whole, one_part, serves, after_join, placed_behind}
use Rattle.aqe_fitting.specs.Planning as table
use Rattle.aqe_fitting.specs.Planning.{Planned, Brought, stays, goes, is_by_parts}
use Rattle.aqe_join_plan.specs.Steps.{brought, joining_by, join_plan, join_place}

-- a fact of a result, of the value that it has
pub of_ok : {T E : Type 0} (r : Result T E) (P : T → Type 0) (x : T) → IfOk r P → r ≡ Ok x → P x
of_ok r P x h e = subst (λ o. IfOk o P) e h

pub is_brought : (asks : Asks) (to : Target) (p : Plan) (w : Placement) → Brought asks to p w (brought asks to p w)
is_brought asks to p w = elim (cases_Bool (serves asks p w)) [
  | inl t ↦ rw t (stays p w t)
  | inr f ↦ rw (f, shapes.is_moved to p) (goes p w f)
]

module _ (ways : JoinKind → Logical → Logical → JoinWay → Type 0) (n : ℕ) (files : ℕ → ℕ) where
  -- parts that are joined with each other
  by-parts : (how : JoinWay) (kind : JoinKind) (c : Expr) (keys : JoinKeys) (x y : Logical) (p q : Plan) (u t : Placement) → keys ≡ keys_of c (width x) → Planned ways n files x p u →
      Planned ways n files y q t → has_keys keys ≡ true → is_by_parts how ≡ true → ways kind x y how →
      Planned ways n files (logical.Join kind c x y)
      (plan.Join how kind keys (width x) (width y) (brought (hash_of keys.left) (target.Hash keys.left n) p u) (brought (hash_of keys.right) (target.Hash keys.right n) q t))
      (after_join kind keys (width x) (width y))
  by-parts how kind c keys x y p q u t is h k has parts w =
      rw (
        query_shapes.is_joined kind c x y,
        shapes.is_matched how kind keys (width x) (width y) (brought (hash_of keys.left) (target.Hash keys.left n) p u) (brought (hash_of keys.right) (target.Hash keys.right n) q t),
      )
      (table.by_parts how kind c keys (width x) (width y) x y p (brought (hash_of keys.left) (target.Hash keys.left n) p u) q
      (brought (hash_of keys.right) (target.Hash keys.right n) q t) u t (after_join kind keys (width x) (width y)) h k (is, refl, refl) has parts w
      (is_brought (hash_of keys.left) (target.Hash keys.left n) p u) (is_brought (hash_of keys.right) (target.Hash keys.right n) q t) refl)

  by-whole-right : (kind : JoinKind) (c : Expr) (keys : JoinKeys) (x y : Logical) (p q : Plan) (u t : Placement) → keys ≡ keys_of c (width x) → Planned ways n files x p u →
      Planned ways n files y q t → has_keys keys ≡ true → ways kind x y (way.Broadcast Right) →
      Planned ways n files (logical.Join kind c x y) (plan.Join (way.Broadcast Right) kind keys (width x) (width y) p (brought whole target.Broadcast q t)) u
  by-whole-right kind c keys x y p q u t is h k has w =
      rw (query_shapes.is_joined kind c x y, shapes.is_matched (way.Broadcast Right) kind keys (width x) (width y) p (brought whole target.Broadcast q t))
      (table.by_whole_right kind c keys (width x) (width y) x y p q (brought whole target.Broadcast q t) u t h k (is, refl, refl) has w (is_brought whole target.Broadcast q t))

  by-whole-left : (kind : JoinKind) (c : Expr) (keys : JoinKeys) (x y : Logical) (p q : Plan) (u t : Placement) → keys ≡ keys_of c (width x) → Planned ways n files x p u →
      Planned ways n files y q t → has_keys keys ≡ true → ways kind x y (way.Broadcast Left) →
      Planned ways n files (logical.Join kind c x y) (plan.Join (way.Broadcast Left) kind keys (width x) (width y) (brought whole target.Broadcast p u) q)
      (placed_behind (width x) (width y) t)
  by-whole-left kind c keys x y p q u t is h k has w =
      rw (query_shapes.is_joined kind c x y, shapes.is_matched (way.Broadcast Left) kind keys (width x) (width y) (brought whole target.Broadcast p u) q)
      (table.by_whole_left kind c keys (width x) (width y) x y p (brought whole target.Broadcast p u) q u t (placed_behind (width x) (width y) t) h k (is, refl, refl) has w
      (is_brought whole target.Broadcast p u) refl)

  by-loop : (kind : JoinKind) (c : Expr) (keys : JoinKeys) (x y : Logical) (p q : Plan) (u t : Placement) → keys ≡ keys_of c (width x) → Planned ways n files x p u →
      Planned ways n files y q t → has_keys keys ≡ false →
      Planned ways n files (logical.Join kind c x y)
      (plan.Join way.NestedLoop kind keys (width x) (width y) (brought one_part target.Single p u) (brought one_part target.Single q t)) place.Single
  by-loop kind c keys x y p q u t is h k none =
      rw (
        query_shapes.is_joined kind c x y,
        shapes.is_matched way.NestedLoop kind keys (width x) (width y) (brought one_part target.Single p u) (brought one_part target.Single q t),
      )
      (table.by_loop kind c keys (width x) (width y) x y p (brought one_part target.Single p u) q (brought one_part target.Single q t) u t h k (is, refl, refl) none
      (is_brought one_part target.Single p u) (is_brought one_part target.Single q t))

  -- the row of the way that is chosen for a join with keys
  by-choice : (choice : JoinChoice) (kind : JoinKind) (c : Expr) (x y : Logical) (p q : Plan) (u t : Placement) → Planned ways n files x p u → Planned ways n files y q t →
      has_keys (keys_of c (width x)) ≡ true → ways kind x y (way_of choice) →
      Planned ways n files (logical.Join kind c x y) (join_plan n (joining_by (way_of choice) kind c x y) p u q t) (join_place (joining_by (way_of choice) kind c x y) u t)
  by-choice chosen.SortMerge kind c x y p q u t h k has w = rw has (by-parts way.SortMerge kind c (keys_of c (width x)) x y p q u t refl h k has refl w)
  by-choice (chosen.ShuffledHash side) kind c x y p q u t h k has w =
      rw has (by-parts (way.ShuffledHash side) kind c (keys_of c (width x)) x y p q u t refl h k has refl w)
  by-choice (chosen.Broadcast Left) kind c x y p q u t h k has w = rw has (by-whole-left kind c (keys_of c (width x)) x y p q u t refl h k has w)
  by-choice (chosen.Broadcast Right) kind c x y p q u t h k has w = rw has (by-whole-right kind c (keys_of c (width x)) x y p q u t refl h k has w)

  at-sides : (choice : JoinChoice) (kind : JoinKind) (c : Expr) (x y : Logical) (p q : Plan) (u t : Placement) → Planned ways n files x p u → Planned ways n files y q t →
      ways kind x y (way_of choice) →
      Planned ways n files (logical.Join kind c x y) (join_plan n (joining_by (way_of choice) kind c x y) p u q t) (join_place (joining_by (way_of choice) kind c x y) u t)
  at-sides choice kind c x y p q u t h k w = elim (cases_Bool (has_keys (keys_of c (width x)))) [
    | inl has ↦ by-choice choice kind c x y p q u t h k has w
    | inr none ↦ rw none (by-loop kind c (keys_of c (width x)) x y p q u t refl h k none)
  ]

  pub at-join : (z x y : Logical) (choice : JoinChoice) (kind : JoinKind) (c : Expr) (p q r : Plan) (u t w : Placement) → z ≡ logical.Join kind c x y → Planned ways n files x p u →
      Planned ways n files y q t → ways kind x y (way_of choice) → r ≡ join_plan n (joining_by (way_of choice) kind c x y) p u q t →
      w ≡ join_place (joining_by (way_of choice) kind c x y) u t → Planned ways n files z r w
  at-join z x y choice kind c p q r u t w e h k by is at = rw (e, is, at) (at-sides choice kind c x y p q u t h k by)
