-- A plan that the table of planning gives for a logical plan serves it: one line a node.
use Rattle.std.proofs.Common.{◌≡◌, ℕ, ◌≤◌, true, false, cond, Some, None, List, [], ◌∷◌, length, refl, ap, sym, ◌∙◌, subst}
use Rattle.aqe_base.specs.declared.join_kind.JoinKind.{JoinKind}
use Rattle.aqe_expr.specs.declared.expr.Expr.{Expr}
use Rattle.aqe_logical.specs.declared.plan.AggCall.{AggCall}
use Rattle.aqe_logical.specs.declared.plan.Placement.{Placement}
use Rattle.aqe_logical.specs.declared.plan.Placement.TheVariants as place
use Rattle.aqe_values.specs.declared.schema.Field.{Field}
use Rattle.aqe_logical.specs.declared.plan.Logical.{Logical, Held, HeldPartial}
use Rattle.aqe_logical.specs.Shapes.{filtered, projected, aggregated, limited}
use Rattle.aqe_logical.specs.Answers.{Tables}
use Rattle.aqe_logical.specs.WellFormed.{IsSound, Fits, IsPlaceOver}
use Rattle.aqe_logical.proofs.Nodes.{Each, each}
use Rattle.aqe_physical.specs.declared.target.Target.{Target}
use Rattle.aqe_physical.specs.declared.target.Target.TheVariants as target
use Rattle.aqe_physical.specs.declared.target.JoinWay.{JoinWay}
use Rattle.aqe_physical.specs.declared.plan.Plan.{Plan, Read}
use Rattle.aqe_physical.specs.Shapes.{mapped, moved, grouped, finished, cut_locally, cut_globally}
use Rattle.aqe_physical.proofs.Nodes as physical
use Rattle.aqe_stages.specs.Stages.{Stages}
use Rattle.aqe_stages.specs.Runnable.{OfStage}
use Rattle.aqe_fitting.specs.Placing.{Asks, one_part, hash_of, whole, is_broadcast, after_groups, groups_of, serves, keeps_groups, is_nothing, place_of, place_of_groups, groups_target}
use Rattle.aqe_fitting.specs.Planning.{Planned, Brought, stays, goes, a_row, a_scan, a_nothing, a_read, a_whole_read, a_filter, a_project, by_parts, by_whole_right, by_whole_left, by_loop, groups_here, groups_moved, groups_read, a_union, sort_here, sort_moved, limit_here, limit_moved, skip_moved, a_sampled}
use Rattle.aqe_fit_laws.specs.Leaves.{held_rows, LeafIsRight, IsHeldAs, IsPlainRead, IsPlannedYet}
use Rattle.aqe_fit_laws.specs.Serving.{KeysOver, RunsAt}
use Rattle.aqe_fitting.specs.Laws.{may_be_built}
use Rattle.aqe_fit_laws.specs.Laws.{PlansServe}
use Rattle.aqe_fit_laws.proofs.NodeServes.{Fine, Served, a_row_serves, a_scan_serves, a_filter_serves, a_project_serves, groups_here_serve, groups_in_one_serve, groups_moved_serve}
use Rattle.aqe_fit_laws.proofs.HeldServes.{a_read_serves, a_whole_read_serves, groups_read_serve}
use Rattle.aqe_fit_laws.proofs.JoinSides.{left_side, right_side}
use Rattle.aqe_fit_laws.proofs.SortServes.{sort_child, sort_here_serves, sort_moved_serves}
use Rattle.aqe_fit_laws.proofs.LimitServes.{limit_child, limit_here_serves, limit_moved_serves, skip_moved_serves, union_left, union_right, union_serves}
use Rattle.aqe_fit_laws.proofs.JoinServes.{parts_join_serves, whole_right_serves, whole_left_serves, loop_serves}

-- the keys of a held place are over its columns
held_over : (n : ℕ) (w : Placement) → IsPlaceOver n w → KeysOver n w
held_over n place.Any h = tt
held_over n place.Single h = tt
held_over n (place.Hash keys) h = h.2
held_over n (place.Range keys) h = h.1
held_over n place.Broadcast h = tt

module _ (tables : Tables) (stages : Stages) (n : ℕ) (files : ℕ → ℕ) (some : 1 ≤ n) where
  abbrev Yet : Logical → Type 0
  Yet x = Each IsPlannedYet x

  -- a leaf that a stage holds at a place that is no broadcast
  held_at : (stage : _) (w : Placement) (schema : List Field) → is_broadcast w ≡ false → LeafIsRight tables stages n files (Held stage w schema) → OfStage stages stage.0 (IsHeldAs n w)
  held_at stage place.Any schema e h = h
  held_at stage place.Single schema e h = h
  held_at stage (place.Hash keys) schema e h = h
  held_at stage (place.Range keys) schema e h = h
  held_at stage place.Broadcast schema e h = absurd (cc)

  -- what is known of a node's one child
  filter_child : (condition : Expr) (x : Logical) → Fine tables stages n files some (filtered condition x) → Fine tables stages n files some x
  filter_child condition x fine = record { sound = fine.sound.1; few = fine.few; fits = fine.fits.1; right = fine.right.1 }

  project_child : (items : List Expr) (schema : List Field) (x : Logical) → Fine tables stages n files some (projected items schema x) → Fine tables stages n files some x
  project_child items schema x fine = record { sound = fine.sound.1; few = fine.few; fits = fine.fits.1; right = fine.right.1 }

  groups_child : (keys : List Expr) (calls : List AggCall) (schema : List Field) (x : Logical) → Fine tables stages n files some (aggregated keys calls schema x) → Fine tables stages n files some x
  groups_child keys calls schema x fine = record { sound = fine.sound.1; few = fine.few; fits = fine.fits.1; right = fine.right.1 }

  -- no plan of the nodes that are planned so far is the plan of no row
  not_nothing : (ways : JoinKind → Logical → Logical → JoinWay → Type 0) (x : Logical) (p : Plan) (w : Placement) → Planned ways n files x p w → Yet x → is_nothing p ≡ false
  not_nothing ways _ _ _ a_row y = refl
  not_nothing ways _ _ _ (a_scan table schema count e) y = refl
  not_nothing ways _ _ _ (a_nothing schema parts size e) y = absurd y
  not_nothing ways _ _ _ (a_read stage w schema maps reducers rects e) y = refl
  not_nothing ways _ _ _ (a_whole_read stage schema) y = refl
  not_nothing ways _ _ _ (a_filter condition x p w d) y = refl
  not_nothing ways _ _ _ (a_project items schema x p w out d e) y = refl
  not_nothing ways _ _ _ (by_parts how kind condition keys v w x y p p1 q q1 u t out d e cut k h m b c o) z = refl
  not_nothing ways _ _ _ (by_whole_right kind condition keys v w x y p q q1 u t d e cut k m b) z = refl
  not_nothing ways _ _ _ (by_whole_left kind condition keys v w x y p p1 q u t out d e cut k m b o) z = refl
  not_nothing ways _ _ _ (by_loop kind condition keys v w x y p p1 q q1 u t d e cut k b c) z = refl
  not_nothing ways _ _ _ (groups_here keys calls schema count x p w out d s c o) y = refl
  not_nothing ways _ _ _ (groups_moved keys calls schema count to x p w out d s c t o) y = refl
  not_nothing ways _ _ _ (groups_read stage calls schema count maps reducers rects out c o) y = refl
  not_nothing ways _ _ _ (a_union x y p q u t d e) z = refl
  not_nothing ways _ _ _ (sort_here keys x p w d s) y = refl
  not_nothing ways _ _ _ (sort_moved keys sample x p w d s m) y = refl
  not_nothing ways _ _ _ (limit_here count skip x p w d s) y = refl
  not_nothing ways _ _ _ (limit_moved count skip first x p w d s e) y = refl
  not_nothing ways _ _ _ (skip_moved skip x p w d s) y = refl
  not_nothing ways _ _ _ (a_sampled stage x p w d) y = absurd y.0

  -- groups that are finished where they are made
  here : (keys : List Expr) (calls : List AggCall) (schema : List Field) (count : ℕ) (x : Logical) (p : Plan) (w out : Placement) → is_nothing p ≡ false → serves (groups_of keys) p w ≡ true → count ≡ length keys → out ≡ place_of_groups keys p w →
      Fine tables stages n files some (aggregated keys calls schema x) → Served tables stages n files some x p w → Served tables stages n files some (aggregated keys calls schema x) (finished count calls (grouped keys calls p)) out
  here keys calls schema count x p w out some_row s c o fine child =
      let keeps : keeps_groups keys w ≡ true = sym (ap (λ b. cond b true (keeps_groups keys w)) some_row) ∙ s in
      let at : out ≡ after_groups keys w = o ∙ ap (λ b. cond b place.Single (after_groups keys w)) some_row in
      subst (λ (k : ℕ). Served tables stages n files some (aggregated keys calls schema x) (finished k calls (grouped keys calls p)) out) (sym c)
      (subst (λ (v : Placement). Served tables stages n files some (aggregated keys calls schema x) (finished (length keys) calls (grouped keys calls p)) v) (sym at)
      (groups_here_serve tables stages n files some keys calls schema x p fine w keeps child))

  -- groups whose partial rows are moved
  by_target : (keys : List Expr) (calls : List AggCall) (schema : List Field) (x : Logical) (p : Plan) (w : Placement) →
      Fine tables stages n files some (aggregated keys calls schema x) → Served tables stages n files some x p w →
      Served tables stages n files some (aggregated keys calls schema x) (finished (length keys) calls (moved (groups_target n (length keys)) (grouped keys calls p))) (place_of (groups_target n (length keys)))
  by_target [] calls schema x p w fine child = groups_in_one_serve tables stages n files some calls schema x p w fine child
  by_target (key ∷ keys) calls schema x p w fine child = groups_moved_serve tables stages n files some key keys calls schema x p w fine child

  elsewhere : (keys : List Expr) (calls : List AggCall) (schema : List Field) (count : ℕ) (to : Target) (x : Logical) (p : Plan) (w out : Placement) → count ≡ length keys → to ≡ groups_target n count → out ≡ place_of to →
      Fine tables stages n files some (aggregated keys calls schema x) → Served tables stages n files some x p w → Served tables stages n files some (aggregated keys calls schema x) (finished count calls (moved to (grouped keys calls p))) out
  elsewhere keys calls schema count to x p w out c t o fine child =
      subst (λ (v : Placement). Served tables stages n files some (aggregated keys calls schema x) (finished count calls (moved to (grouped keys calls p))) v) (sym o)
      (subst (λ (a : Target). Served tables stages n files some (aggregated keys calls schema x) (finished count calls (moved a (grouped keys calls p))) (place_of a)) (sym t)
      (subst (λ (k : ℕ). Served tables stages n files some (aggregated keys calls schema x) (finished k calls (moved (groups_target n k) (grouped keys calls p))) (place_of (groups_target n k))) (sym c)
      (by_target keys calls schema x p w fine child)))

  -- the reads of a side, beneath the exchange that may stand over it
  beneath : (asks : Asks) (to : Target) (p : Plan) (w : Placement) (p1 : Plan) → Brought asks to p w p1 → physical.Each (IsPlainRead stages) p1 → physical.Each (IsPlainRead stages) p
  beneath asks to _ _ _ (stays p w s) r = r
  beneath asks to _ _ _ (goes p w s) r = r.1

  serve : (x : Logical) (p : Plan) (w : Placement) → Planned may_be_built n files x p w → Yet x → Fine tables stages n files some x → physical.Each (IsPlainRead stages) p → Served tables stages n files some x p w
  serve _ _ _ a_row y fine r = a_row_serves tables stages n files some fine
  serve _ _ _ (a_scan table schema count e) y fine r = a_scan_serves tables stages n files some table schema count e fine
  serve _ _ _ (a_nothing schema parts size e) y fine r = absurd y
  serve _ _ _ (a_read stage w schema maps reducers rects e) y fine r =
      a_read_serves tables stages n files some stage maps reducers rects r w schema fine (held_at stage w schema e fine.right) (held_over (length schema) w fine.sound.1)
  serve _ _ _ (a_whole_read stage schema) y fine r = a_whole_read_serves tables stages n files some stage schema fine
  serve _ _ _ (a_filter condition x p w d) y fine r = a_filter_serves tables stages n files some condition x p w fine (serve x p w d y.1 (filter_child condition x fine) r.1)
  serve _ _ _ (a_project items schema x p w out d e) y fine r =
      subst (λ (v : Placement). Served tables stages n files some (projected items schema x) (mapped items p) v) (sym e)
      (a_project_serves tables stages n files some items schema x p w fine (serve x p w d y.1 (project_child items schema x fine) r.1))
  serve _ _ _ (by_parts how kind condition keys v w x y p p1 q q1 u t out d e cut k h m b c o) z fine r =
      parts_join_serves tables stages n files some kind condition keys v w x y fine cut how p p1 q q1 u t out h m b c o (not_nothing may_be_built x p u d z.1) (not_nothing may_be_built y q t e z.2)
      (serve x p u d z.1 (left_side tables stages n files some kind condition x y fine) (beneath (hash_of keys.left) (target.Hash keys.left n) p u p1 b r.1))
      (serve y q t e z.2 (right_side tables stages n files some kind condition x y fine) (beneath (hash_of keys.right) (target.Hash keys.right n) q t q1 c r.2))
  serve _ _ _ (by_whole_right kind condition keys v w x y p q q1 u t d e cut k m b) z fine r =
      whole_right_serves tables stages n files some kind condition keys v w x y fine cut p q q1 u t m b (not_nothing may_be_built y q t e z.2)
      (serve x p u d z.1 (left_side tables stages n files some kind condition x y fine) r.1)
      (serve y q t e z.2 (right_side tables stages n files some kind condition x y fine) (beneath whole target.Broadcast q t q1 b r.2))
  serve _ _ _ (by_whole_left kind condition keys v w x y p p1 q u t out d e cut k m b o) z fine r =
      whole_left_serves tables stages n files some kind condition keys v w x y fine cut p p1 q u t out m b o (not_nothing may_be_built x p u d z.1)
      (serve x p u d z.1 (left_side tables stages n files some kind condition x y fine) (beneath whole target.Broadcast p u p1 b r.1))
      (serve y q t e z.2 (right_side tables stages n files some kind condition x y fine) r.2)
  serve _ _ _ (by_loop kind condition keys v w x y p p1 q q1 u t d e cut k b c) z fine r =
      loop_serves tables stages n files some kind condition keys v w x y fine cut p p1 q q1 u t b c (not_nothing may_be_built x p u d z.1) (not_nothing may_be_built y q t e z.2)
      (serve x p u d z.1 (left_side tables stages n files some kind condition x y fine) (beneath one_part target.Single p u p1 b r.1))
      (serve y q t e z.2 (right_side tables stages n files some kind condition x y fine) (beneath one_part target.Single q t q1 c r.2))
  serve _ _ _ (groups_here keys calls schema count x p w out d s c o) y fine r =
      here keys calls schema count x p w out (not_nothing may_be_built x p w d y.1) s c o fine (serve x p w d y.1 (groups_child keys calls schema x fine) r.1.1)
  serve _ _ _ (groups_moved keys calls schema count to x p w out d s c t o) y fine r =
      elsewhere keys calls schema count to x p w out c t o fine (serve x p w d y.1 (groups_child keys calls schema x fine) r.1.1.1)
  serve _ _ _ (groups_read stage calls schema count maps reducers rects out c o) y fine r =
      subst (λ (v : Placement). Served tables stages n files some (HeldPartial stage calls schema) (finished count calls (Read stage maps reducers rects)) v) (sym o)
      (groups_read_serve tables stages n files some stage maps reducers rects r.1 calls schema fine count c)
  serve _ _ _ (a_union x y p q u t d e) z fine r =
      union_serves tables stages n files some x y fine p q u t
      (serve x p u d z.1 (union_left tables stages n files some x y fine) r.1)
      (serve y q t e z.2 (union_right tables stages n files some x y fine) r.2)
  serve _ _ _ (sort_here keys x p w d s) y fine r =
      sort_here_serves tables stages n files some keys x fine p w (not_nothing may_be_built x p w d y.1) s (serve x p w d y.1 (sort_child tables stages n files some keys x fine) r.1)
  serve _ _ _ (sort_moved keys sample x p w d s m) y fine r =
      sort_moved_serves tables stages n files some keys x fine sample p w (serve x p w d y.1 (sort_child tables stages n files some keys x fine) r.1.1)
  serve _ _ _ (limit_here count skip x p w d s) y fine r =
      limit_here_serves tables stages n files some count skip x fine p w (not_nothing may_be_built x p w d y.1) s (serve x p w d y.1 (limit_child tables stages n files some count skip x fine) r.1)
  serve _ _ _ (limit_moved count skip first x p w d s e) y fine r =
      subst (λ (k : ℕ). Served tables stages n files some (limited (Some count) skip x) (cut_globally (Some count) skip (moved target.Single (cut_locally k p))) place.Single) (sym e)
      (limit_moved_serves tables stages n files some count skip x p w fine (serve x p w d y.1 (limit_child tables stages n files some (Some count) skip x fine) r.1.1.1))
  serve _ _ _ (skip_moved skip x p w d s) y fine r =
      skip_moved_serves tables stages n files some skip x p w fine (serve x p w d y.1 (limit_child tables stages n files some None skip x fine) r.1.1)
  serve _ _ _ (a_sampled stage x p w d) y fine r = absurd y.0

pub plans_serve : PlansServe
plans_serve tables stages n files x p w some formed yet fits right plain planned =
    let served = serve tables stages n files some x p w planned (each IsPlannedYet x yet)
    (record { sound = each IsSound x formed.0; few = formed.1; fits = each (Fits tables (held_rows tables stages)) x fits; right = each (LeafIsRight tables stages n files) x right })
    (physical.each (IsPlainRead stages) p plain) in
    record { answers = served.answers; stands = served.stands; over = served.over; runs = physical.all_nodes (RunsAt tables stages) p served.runs }
