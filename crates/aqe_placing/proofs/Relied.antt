-- The stages that are relied on, form by form, as the code makes plans.
use Rattle.std.proofs.Common.{◌≡◌, refl, ap, ◌∙◌, sym, ℕ, Bool, true, false, ◌||◌, ◌++◌, List, Option}
use Rattle.std.specs.List.{list_any}
use Rattle.std.proofs.lemmas.List.Folds.{list_any-append}
use Rattle.aqe_base.specs.declared.join_kind.JoinKind.{JoinKind}
use Rattle.aqe_base.specs.declared.join_kind.Side.TheVariants.{Left, Right}
use Rattle.aqe_base.specs.declared.stage_id.StageId.{StageId}
use Rattle.aqe_expr.specs.declared.expr.Expr.{Expr}
use Rattle.aqe_logical.specs.declared.plan.AggCall.{AggCall}
use Rattle.aqe_logical.specs.declared.plan.SortKey.{SortKey}
use Rattle.aqe_join_rows.specs.declared.join_keys.JoinKeys.{JoinKeys}
use Rattle.aqe_physical.specs.declared.target.Target.{Target}
use Rattle.aqe_physical.specs.declared.target.JoinWay.{JoinWay}
use Rattle.aqe_physical.specs.declared.target.JoinWay.TheVariants as way
use Rattle.aqe_physical.specs.declared.plan.Plan.{Plan}
use Rattle.aqe_physical.specs.declared.plan.Plan as plan
use Rattle.aqe_physical.proofs.Shapes as shapes
use Rattle.aqe_fitting.specs.Strands.{relied, relied_join}
use Rattle.aqe_placing.specs.Relying.{side_under}

pub relied-filter : (p : Plan) (c : Expr) (q : Plan) → p ≡ plan.Filter c q → (u : Bool) → relied p u ≡ relied q u
relied-filter p c q e u = ap (λ x. relied x u) (e ∙ shapes.is_kept c q)

pub relied-project : (p : Plan) (items : List Expr) (q : Plan) → p ≡ plan.Project items q → (u : Bool) → relied p u ≡ relied q u
relied-project p items q e u = ap (λ x. relied x u) (e ∙ shapes.is_mapped items q)

pub relied-exchange : (p : Plan) (to : Target) (q : Plan) → p ≡ plan.Exchange to q → (u : Bool) → relied p u ≡ relied q false
relied-exchange p to q e u = ap (λ x. relied x u) (e ∙ shapes.is_moved to q)

pub relied-partial : (p : Plan) (ks : List Expr) (cs : List AggCall) (q : Plan) → p ≡ plan.PartialAgg ks cs q → (u : Bool) → relied p u ≡ relied q u
relied-partial p ks cs q e u = ap (λ x. relied x u) (e ∙ shapes.is_grouped ks cs q)

pub relied-last : (p : Plan) (n : ℕ) (cs : List AggCall) (q : Plan) → p ≡ plan.FinalAgg n cs q → (u : Bool) → relied p u ≡ relied q true
relied-last p n cs q e u = ap (λ x. relied x u) (e ∙ shapes.is_finished n cs q)

pub relied-sort : (p : Plan) (ks : List SortKey) (q : Plan) → p ≡ plan.Sort ks q → (u : Bool) → relied p u ≡ relied q true
relied-sort p ks q e u = ap (λ x. relied x u) (e ∙ shapes.is_ordered ks q)

pub relied-local : (p : Plan) (n : ℕ) (q : Plan) → p ≡ plan.LocalLimit n q → (u : Bool) → relied p u ≡ relied q u
relied-local p n q e u = ap (λ x. relied x u) (e ∙ shapes.is_cut_locally n q)

pub relied-global : (p : Plan) (n : Option ℕ) (s : ℕ) (q : Plan) → p ≡ plan.GlobalLimit n s q → (u : Bool) → relied p u ≡ relied q true
relied-global p n s q e u = ap (λ x. relied x u) (e ∙ shapes.is_cut_globally n s q)

by_sides : (how : JoinWay) (l r : Bool → List StageId) (u : Bool) → relied_join how l r u ≡ l (side_under Left how u) ++ r (side_under Right how u)
by_sides way.SortMerge l r u = refl
by_sides (way.ShuffledHash s) l r u = refl
by_sides (way.Broadcast Left) l r u = refl
by_sides (way.Broadcast Right) l r u = refl
by_sides way.NestedLoop l r u = refl

pub relied-join : (p : Plan) (how : JoinWay) (k : JoinKind) (ks : JoinKeys) (v w : ℕ) (l r : Plan) → p ≡ plan.Join how k ks v w l r → (u : Bool) (t : StageId → Bool) →
    list_any t (relied p u) ≡ (list_any t (relied l (side_under Left how u)) || list_any t (relied r (side_under Right how u)))
relied-join p how k ks v w l r e u t =
    ap (λ x. list_any t (relied x u)) (e ∙ shapes.is_matched how k ks v w l r) ∙ ap (list_any t) (by_sides how (relied l) (relied r) u) ∙
    list_any-append t (relied l (side_under Left how u)) (relied r (side_under Right how u))

pub relied-union : (p l r : Plan) → p ≡ plan.Union l r → (u : Bool) (t : StageId → Bool) → list_any t (relied p u) ≡ (list_any t (relied l false) || list_any t (relied r false))
relied-union p l r e u t = ap (λ x. list_any t (relied x u)) (e ∙ shapes.is_both_of l r) ∙ list_any-append t (relied l false) (relied r false)

-- the first side has the stage, or only the second one counts
first_has : (x a b : Bool) → x ≡ a → x ≡ true → x ≡ (a || b)
first_has x a b h on = on ∙ ap (λ y. y || b) (sym on ∙ h)

second_tells : (x y a b : Bool) → x ≡ a → x ≡ false → y ≡ b → y ≡ (a || b)
second_tells x y a b h off k = k ∙ ap (λ z. z || b) (sym off ∙ h)

pub join-left : (p : Plan) (how : JoinWay) (k : JoinKind) (ks : JoinKeys) (v w : ℕ) (l r : Plan) (u : Bool) (t : StageId → Bool) (x : Bool) → p ≡ plan.Join how k ks v w l r →
    x ≡ list_any t (relied l (side_under Left how u)) → x ≡ true → x ≡ list_any t (relied p u)
join-left p how k ks v w l r u t x e h on =
    first_has x (list_any t (relied l (side_under Left how u))) (list_any t (relied r (side_under Right how u))) h on ∙ sym (relied-join p how k ks v w l r e u t)

pub join-right : (p : Plan) (how : JoinWay) (k : JoinKind) (ks : JoinKeys) (v w : ℕ) (l r : Plan) (u : Bool) (t : StageId → Bool) (x y : Bool) → p ≡ plan.Join how k ks v w l r →
    x ≡ list_any t (relied l (side_under Left how u)) → x ≡ false → y ≡ list_any t (relied r (side_under Right how u)) → y ≡ list_any t (relied p u)
join-right p how k ks v w l r u t x y e h off is =
    second_tells x y (list_any t (relied l (side_under Left how u))) (list_any t (relied r (side_under Right how u))) h off is ∙ sym (relied-join p how k ks v w l r e u t)

pub union-left : (p l r : Plan) (u : Bool) (t : StageId → Bool) (x : Bool) → p ≡ plan.Union l r → x ≡ list_any t (relied l false) → x ≡ true → x ≡ list_any t (relied p u)
union-left p l r u t x e h on = first_has x (list_any t (relied l false)) (list_any t (relied r false)) h on ∙ sym (relied-union p l r e u t)

pub union-right : (p l r : Plan) (u : Bool) (t : StageId → Bool) (x y : Bool) → p ≡ plan.Union l r → x ≡ list_any t (relied l false) → x ≡ false → y ≡ list_any t (relied r false) →
    y ≡ list_any t (relied p u)
union-right p l r u t x y e h off is = second_tells x y (list_any t (relied l false)) (list_any t (relied r false)) h off is ∙ sym (relied-union p l r e u t)

pub ruleset relied_steps = (relied-filter, relied-project, relied-exchange, relied-partial, relied-last, relied-sort, relied-local, relied-global)
