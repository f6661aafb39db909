-- Where each join has one way, two plans of one logical plan are alike, and their rows stand at one place.
use Rattle.std.proofs.Common.{◌≡◌, refl, sym, ◌∙◌, ap, subst, ℕ, Bool, true, false, cond, Some, None, List}
use Rattle.aqe_base.specs.declared.join_kind.JoinKind.{JoinKind}
use Rattle.aqe_base.specs.declared.join_kind.Side.TheVariants.{Left, Right}
use Rattle.aqe_expr.specs.declared.expr.Expr.{Expr}
use Rattle.aqe_logical.specs.declared.plan.AggCall.{AggCall}
use Rattle.aqe_logical.specs.declared.plan.Placement.{Placement}
use Rattle.aqe_logical.specs.declared.plan.Placement.TheVariants as place
use Rattle.aqe_logical.specs.declared.plan.Logical.{Logical}
use Rattle.aqe_join_rows.specs.declared.join_keys.JoinKeys.{JoinKeys}
use Rattle.aqe_physical.specs.declared.target.Target.{Target}
use Rattle.aqe_physical.specs.declared.target.Target.TheVariants as target
use Rattle.aqe_physical.specs.declared.target.JoinWay.{JoinWay}
use Rattle.aqe_physical.specs.declared.target.JoinWay.TheVariants as way
use Rattle.aqe_physical.specs.declared.plan.Plan.{Plan, Scan, Nothing, Read}
use Rattle.aqe_physical.specs.Shapes.{moved, matched, grouped, finished, cut_locally}
use Rattle.aqe_join_keys.specs.Keys.{has_keys}
use Rattle.aqe_fitting.specs.Placing.{Asks, one_part, hash_of, groups_of, order_of, whole, gives, serves, is_single, is_hash_of, keeps_groups, keeps_order, after_project, after_groups, after_join, placed_behind, place_of, groups_target}
use Rattle.aqe_fitting.specs.Planning.{Brought, stays, goes, is_by_parts, Planned, a_row, a_scan, a_nothing, a_read, a_whole_read, a_filter, a_project, by_parts, by_whole_right, by_whole_left, by_loop, groups_here, groups_moved, groups_read, a_union, sort_here, sort_moved, limit_here, limit_moved, skip_moved, a_sampled}
use Rattle.aqe_fitting.specs.Laws.{Chooses, ChoosesOne}
use Rattle.aqe_fitting.proofs.Alike.{Alike, one_rows, scans, nothings, reads, whole_reads, filters, projects, exchanges, joins, partials, finals, sorts, local_limits, global_limits, unions, alike_nothing, alike_kept_whole}

-- plans that are alike serve alike
gives_same : (asks : Asks) (p q : Plan) (u w : Placement) → Alike p q → u ≡ w → gives asks p u ≡ gives asks q w
gives_same one_part p q u w h e = ap is_single e
gives_same (hash_of ks) p q u w h e = ap (is_hash_of ks) e
gives_same (groups_of ks) p q u w h e = ap (keeps_groups ks) e
gives_same (order_of ks) p q u w h e = ap (keeps_order ks) e
gives_same whole p q u w h e = alike_kept_whole p q h

serves_same : (asks : Asks) (p q : Plan) (u w : Placement) → Alike p q → u ≡ w → serves asks p u ≡ serves asks q w
serves_same asks p q u w h e = λ i. cond (alike_nothing p q h i) true (gives_same asks p q u w h e i)

not_both : (a b : Bool) → a ≡ b → a ≡ true → b ≡ false → ⊥
not_both a b e t f = absurd (cc)

brought_same : (asks : Asks) (to : Target) (p q : Plan) (u w : Placement) (p1 q1 : Plan) → Alike p q → u ≡ w →
    Brought asks to p u p1 → Brought asks to q w q1 → Alike p1 q1
brought_same asks to p q u w _ _ h e (stays _ _ a) (stays _ _ b) = h
brought_same asks to p q u w _ _ h e (stays _ _ a) (goes _ _ b) = absurd (not_both (serves asks p u) (serves asks q w) (serves_same asks p q u w h e) a b)
brought_same asks to p q u w _ _ h e (goes _ _ a) (stays _ _ b) = absurd (not_both (serves asks q w) (serves asks p u) (sym (serves_same asks p q u w h e)) b a)
brought_same asks to p q u w _ _ h e (goes _ _ a) (goes _ _ b) = exchanges to p q h

hash_same : (n : ℕ) (ks ls : List Expr) (p q : Plan) (u w : Placement) (p1 q1 : Plan) → ks ≡ ls → Alike p q → u ≡ w →
    Brought (hash_of ks) (target.Hash ks n) p u p1 → Brought (hash_of ls) (target.Hash ls n) q w q1 → Alike p1 q1
hash_same n ks ls p q u w p1 q1 same h e a b =
    brought_same (hash_of ks) (target.Hash ks n) p q u w p1 q1 h e a (subst (λ (k : List Expr). Brought (hash_of k) (target.Hash k n) q w q1) (sym same) b)

joins_same : (kind : JoinKind) (how how2 : JoinWay) (keys keys2 : JoinKeys) (v v2 w w2 : ℕ) (p q p2 q2 : Plan) →
    how ≡ how2 → keys ≡ keys2 → v ≡ v2 → w ≡ w2 → Alike p p2 → Alike q q2 →
    Alike (matched how kind keys v w p q) (matched how2 kind keys2 v2 w2 p2 q2)
joins_same kind how how2 keys keys2 v v2 w w2 p q p2 q2 e1 e2 e3 e4 h g =
    subst (λ (t : Plan). Alike (matched how kind keys v w p q) t) (λ i. matched (e1 i) kind (e2 i) (e3 i) (e4 i) p2 q2) (joins how kind keys v w p q p2 q2 h g)

finals_same : (count count2 : ℕ) (calls : List AggCall) (p q : Plan) → count ≡ count2 → Alike p q → Alike (finished count calls p) (finished count2 calls q)
finals_same count count2 calls p q e h =
    subst (λ (t : Plan). Alike (finished count calls p) t) (λ i. finished (e i) calls q) (finals count calls p q h)

exchanges_same : (to to2 : Target) (p q : Plan) → to ≡ to2 → Alike p q → Alike (moved to p) (moved to2 q)
exchanges_same to to2 p q e h = subst (λ (t : Plan). Alike (moved to p) t) (λ i. moved (e i) q) (exchanges to p q h)

module _ (ways : Chooses) (n : ℕ) (files : ℕ → ℕ) (one : ChoosesOne ways) where
  pub same : (x : Logical) (p q : Plan) (u w : Placement) → Planned ways n files x p u → Planned ways n files x q w → Alike p q × (u ≡ w)
  same _ _ _ _ _ a_row a_row = (one_rows, refl)
  same _ _ _ _ _ (a_scan t s c e) (a_scan _ _ c2 e2) =
      (subst (λ (k : ℕ). Alike (Scan t c) (Scan t k)) (e ∙ sym e2) (scans t c), refl)
  same _ _ _ _ _ (a_nothing s ps z e) (a_nothing _ ps2 z2 e2) =
      (subst (λ (k : ℕ). Alike (Nothing ps z) (Nothing ps2 k)) (e ∙ sym e2) (nothings ps ps2 z), refl)
  same _ _ _ _ _ (a_read st w s m r rs e) (a_read _ _ _ m2 r2 rs2 e2) = (reads st m r rs m2 r2 rs2, refl)
  same _ _ _ _ _ (a_read st w s m r rs e) (a_whole_read _ _) = absurd (cc)
  same _ _ _ _ _ (a_whole_read st s) (a_read _ _ _ m2 r2 rs2 e2) = absurd (cc)
  same _ _ _ _ _ (a_whole_read st s) (a_whole_read _ _) = (whole_reads st, refl)
  same _ _ _ _ _ (a_filter c x p u d) (a_filter _ _ q w e) =
      let r = same x p q u w d e in (filters c p q r.0, r.1)
  same _ _ _ _ _ (a_project i s x p u o d a) (a_project _ _ _ q w o2 e b) =
      let r = same x p q u w d e in (projects i p q r.0, a ∙ ap (after_project i) r.1 ∙ sym b)
  same _ _ _ _ _ (by_parts y k c ks v w x z p p1 q q1 u t o d e cut has is ch g1 g2 out) (by_parts y2 _ _ ks2 v2 w2 _ _ p2 p3 q2 q3 u2 t2 o2 d2 e2 cut2 has2 is2 ch2 g3 g4 out2) =
      let r = same x p p2 u u2 d d2 in
      let s = same z q q2 t t2 e e2 in
      let ek : ks ≡ ks2 = cut.0 ∙ sym cut2.0 in
      let ev : v ≡ v2 = cut.1 ∙ sym cut2.1 in
      let ew : w ≡ w2 = cut.2 ∙ sym cut2.2 in (
        joins_same k y y2 ks ks2 v v2 w w2 p1 q1 p3 q3 (one k x z y y2 ch ch2) ek ev ew
            (hash_same n ks.left ks2.left p p2 u u2 p1 p3 (λ i. (ek i).left) r.0 r.1 g1 g3)
            (hash_same n ks.right ks2.right q q2 t t2 q1 q3 (λ i. (ek i).right) s.0 s.1 g2 g4),
        out ∙ (λ i. after_join k (ek i) (ev i) (ew i)) ∙ sym out2,
      )
  same _ _ _ _ _ (by_parts y k c ks v w x z p p1 q q1 u t o d e cut has is ch g1 g2 out) (by_whole_right _ _ ks2 v2 w2 _ _ p2 q2 q3 u2 t2 d2 e2 cut2 has2 ch2 g3) =
      absurd (not_both (is_by_parts y) (is_by_parts (way.Broadcast Right)) (ap is_by_parts (one k x z y (way.Broadcast Right) ch ch2)) is refl)
  same _ _ _ _ _ (by_parts y k c ks v w x z p p1 q q1 u t o d e cut has is ch g1 g2 out) (by_whole_left _ _ ks2 v2 w2 _ _ p2 p3 q2 u2 t2 o2 d2 e2 cut2 has2 ch2 g3 out2) =
      absurd (not_both (is_by_parts y) (is_by_parts (way.Broadcast Left)) (ap is_by_parts (one k x z y (way.Broadcast Left) ch ch2)) is refl)
  same _ _ _ _ _ (by_parts y k c ks v w x z p p1 q q1 u t o d e cut has is ch g1 g2 out) (by_loop _ _ ks2 v2 w2 _ _ p2 p3 q2 q3 u2 t2 d2 e2 cut2 none g3 g4) =
      absurd (not_both (has_keys ks) (has_keys ks2) (ap has_keys (cut.0 ∙ sym cut2.0)) has none)
  same _ _ _ _ _ (by_whole_right k c ks v w x z p q q1 u t d e cut has ch g) (by_parts y2 _ _ ks2 v2 w2 _ _ p2 p3 q2 q3 u2 t2 o2 d2 e2 cut2 has2 is2 ch2 g3 g4 out2) =
      absurd (not_both (is_by_parts y2) (is_by_parts (way.Broadcast Right)) (ap is_by_parts (one k x z y2 (way.Broadcast Right) ch2 ch)) is2 refl)
  same _ _ _ _ _ (by_whole_right k c ks v w x z p q q1 u t d e cut has ch g) (by_whole_right _ _ ks2 v2 w2 _ _ p2 q2 q3 u2 t2 d2 e2 cut2 has2 ch2 g3) =
      let r = same x p p2 u u2 d d2 in
      let s = same z q q2 t t2 e e2 in (
        joins_same k (way.Broadcast Right) (way.Broadcast Right) ks ks2 v v2 w w2 p q1 p2 q3 refl (cut.0 ∙ sym cut2.0) (cut.1 ∙ sym cut2.1) (cut.2 ∙ sym cut2.2)
            r.0 (brought_same whole target.Broadcast q q2 t t2 q1 q3 s.0 s.1 g g3),
        r.1,
      )
  same _ _ _ _ _ (by_whole_right k c ks v w x z p q q1 u t d e cut has ch g) (by_whole_left _ _ ks2 v2 w2 _ _ p2 p3 q2 u2 t2 o2 d2 e2 cut2 has2 ch2 g3 out2) =
      let wrong = one k x z (way.Broadcast Right) (way.Broadcast Left) ch ch2 in absurd (cc)
  same _ _ _ _ _ (by_whole_right k c ks v w x z p q q1 u t d e cut has ch g) (by_loop _ _ ks2 v2 w2 _ _ p2 p3 q2 q3 u2 t2 d2 e2 cut2 none g3 g4) =
      absurd (not_both (has_keys ks) (has_keys ks2) (ap has_keys (cut.0 ∙ sym cut2.0)) has none)
  same _ _ _ _ _ (by_whole_left k c ks v w x z p p1 q u t o d e cut has ch g out) (by_parts y2 _ _ ks2 v2 w2 _ _ p2 p3 q2 q3 u2 t2 o2 d2 e2 cut2 has2 is2 ch2 g3 g4 out2) =
      absurd (not_both (is_by_parts y2) (is_by_parts (way.Broadcast Left)) (ap is_by_parts (one k x z y2 (way.Broadcast Left) ch2 ch)) is2 refl)
  same _ _ _ _ _ (by_whole_left k c ks v w x z p p1 q u t o d e cut has ch g out) (by_whole_right _ _ ks2 v2 w2 _ _ p2 q2 q3 u2 t2 d2 e2 cut2 has2 ch2 g3) =
      let wrong = one k x z (way.Broadcast Left) (way.Broadcast Right) ch ch2 in absurd (cc)
  same _ _ _ _ _ (by_whole_left k c ks v w x z p p1 q u t o d e cut has ch g out) (by_whole_left _ _ ks2 v2 w2 _ _ p2 p3 q2 u2 t2 o2 d2 e2 cut2 has2 ch2 g3 out2) =
      let r = same x p p2 u u2 d d2 in
      let s = same z q q2 t t2 e e2 in
      let ev : v ≡ v2 = cut.1 ∙ sym cut2.1 in
      let ew : w ≡ w2 = cut.2 ∙ sym cut2.2 in (
        joins_same k (way.Broadcast Left) (way.Broadcast Left) ks ks2 v v2 w w2 p1 q p3 q2 refl (cut.0 ∙ sym cut2.0) ev ew
            (brought_same whole target.Broadcast p p2 u u2 p1 p3 r.0 r.1 g g3) s.0,
        out ∙ (λ i. placed_behind (ev i) (ew i) (s.1 i)) ∙ sym out2,
      )
  same _ _ _ _ _ (by_whole_left k c ks v w x z p p1 q u t o d e cut has ch g out) (by_loop _ _ ks2 v2 w2 _ _ p2 p3 q2 q3 u2 t2 d2 e2 cut2 none g3 g4) =
      absurd (not_both (has_keys ks) (has_keys ks2) (ap has_keys (cut.0 ∙ sym cut2.0)) has none)
  same _ _ _ _ _ (by_loop k c ks v w x z p p1 q q1 u t d e cut none g1 g2) (by_parts y2 _ _ ks2 v2 w2 _ _ p2 p3 q2 q3 u2 t2 o2 d2 e2 cut2 has2 is2 ch2 g3 g4 out2) =
      absurd (not_both (has_keys ks2) (has_keys ks) (ap has_keys (cut2.0 ∙ sym cut.0)) has2 none)
  same _ _ _ _ _ (by_loop k c ks v w x z p p1 q q1 u t d e cut none g1 g2) (by_whole_right _ _ ks2 v2 w2 _ _ p2 q2 q3 u2 t2 d2 e2 cut2 has2 ch2 g3) =
      absurd (not_both (has_keys ks2) (has_keys ks) (ap has_keys (cut2.0 ∙ sym cut.0)) has2 none)
  same _ _ _ _ _ (by_loop k c ks v w x z p p1 q q1 u t d e cut none g1 g2) (by_whole_left _ _ ks2 v2 w2 _ _ p2 p3 q2 u2 t2 o2 d2 e2 cut2 has2 ch2 g3 out2) =
      absurd (not_both (has_keys ks2) (has_keys ks) (ap has_keys (cut2.0 ∙ sym cut.0)) has2 none)
  same _ _ _ _ _ (by_loop k c ks v w x z p p1 q q1 u t d e cut none g1 g2) (by_loop _ _ ks2 v2 w2 _ _ p2 p3 q2 q3 u2 t2 d2 e2 cut2 none2 g3 g4) =
      let r = same x p p2 u u2 d d2 in
      let s = same z q q2 t t2 e e2 in (
        joins_same k way.NestedLoop way.NestedLoop ks ks2 v v2 w w2 p1 q1 p3 q3 refl (cut.0 ∙ sym cut2.0) (cut.1 ∙ sym cut2.1) (cut.2 ∙ sym cut2.2)
            (brought_same one_part target.Single p p2 u u2 p1 p3 r.0 r.1 g1 g3) (brought_same one_part target.Single q q2 t t2 q1 q3 s.0 s.1 g2 g4),
        refl,
      )
  same _ _ _ _ _ (groups_here ks cs s c x p u o d ok e out) (groups_here _ _ _ c2 _ q w o2 d2 ok2 e2 out2) =
      let r = same x p q u w d d2 in (
        finals_same c c2 cs (grouped ks cs p) (grouped ks cs q) (e ∙ sym e2) (partials ks cs p q r.0),
        out ∙ (λ i. cond (alike_nothing p q r.0 i) place.Single (after_groups ks (r.1 i))) ∙ sym out2,
      )
  same _ _ _ _ _ (groups_here ks cs s c x p u o d ok e out) (groups_moved _ _ _ c2 to2 _ q w o2 d2 ok2 e2 t2 out2) =
      let r = same x p q u w d d2 in
      absurd (not_both (serves (groups_of ks) p u) (serves (groups_of ks) q w) (serves_same (groups_of ks) p q u w r.0 r.1) ok ok2)
  same _ _ _ _ _ (groups_moved ks cs s c to x p u o d ok e t out) (groups_here _ _ _ c2 _ q w o2 d2 ok2 e2 out2) =
      let r = same x p q u w d d2 in
      absurd (not_both (serves (groups_of ks) q w) (serves (groups_of ks) p u) (sym (serves_same (groups_of ks) p q u w r.0 r.1)) ok2 ok)
  same _ _ _ _ _ (groups_moved ks cs s c to x p u o d ok e t out) (groups_moved _ _ _ c2 to2 _ q w o2 d2 ok2 e2 t2 out2) =
      let r = same x p q u w d d2 in
      let ec : c ≡ c2 = e ∙ sym e2 in
      let et : to ≡ to2 = t ∙ ap (groups_target n) ec ∙ sym t2 in (
        finals_same c c2 cs (moved to (grouped ks cs p)) (moved to2 (grouped ks cs q)) ec
            (exchanges_same to to2 (grouped ks cs p) (grouped ks cs q) et (partials ks cs p q r.0)),
        out ∙ ap place_of et ∙ sym out2,
      )
  same _ _ _ _ _ (groups_read st cs s c m r rs o e out) (groups_read _ _ _ c2 m2 r2 rs2 o2 e2 out2) =
      let ec : c ≡ c2 = e ∙ sym e2 in (
        finals_same c c2 cs (Read st m r rs) (Read st m2 r2 rs2) ec (reads st m r rs m2 r2 rs2),
        out ∙ ap (λ k. place_of (groups_target n k)) ec ∙ sym out2,
      )
  same _ _ _ _ _ (a_union x y p q u t d e) (a_union _ _ p2 q2 u2 t2 d2 e2) =
      (unions p q p2 q2 (same x p p2 u u2 d d2).0 (same y q q2 t t2 e e2).0, refl)
  same _ _ _ _ _ (sort_here ks x p u d ok) (sort_here _ _ q w d2 ok2) =
      let r = same x p q u w d d2 in (sorts ks p q r.0, r.1)
  same _ _ _ _ _ (sort_here ks x p u d ok) (sort_moved _ s2 _ q w d2 ok2 e2) =
      let r = same x p q u w d d2 in
      absurd (not_both (serves (order_of ks) p u) (serves (order_of ks) q w) (serves_same (order_of ks) p q u w r.0 r.1) ok ok2)
  same _ _ _ _ _ (sort_moved ks s x p u d ok e) (sort_here _ _ q w d2 ok2) =
      let r = same x p q u w d d2 in
      absurd (not_both (serves (order_of ks) q w) (serves (order_of ks) p u) (sym (serves_same (order_of ks) p q u w r.0 r.1)) ok2 ok)
  same _ _ _ _ _ (sort_moved ks s x p u d ok e) (sort_moved _ s2 _ q w d2 ok2 e2) =
      let r = same x p q u w d d2 in (
        sorts ks (moved (target.Range ks n s) p) (moved (target.Range ks n s2) q)
            (exchanges_same (target.Range ks n s) (target.Range ks n s2) p q (ap (λ k. target.Range ks n k) (e ∙ sym e2)) r.0),
        refl,
      )
  same _ _ _ _ _ (limit_here c s x p u d ok) (limit_here _ _ _ q w d2 ok2) =
      let r = same x p q u w d d2 in (global_limits c s p q r.0, r.1)
  same _ _ _ _ _ (limit_here _ s x p u d ok) (limit_moved c2 _ f2 _ q w d2 ok2 e2) =
      let r = same x p q u w d d2 in
      absurd (not_both (serves one_part p u) (serves one_part q w) (serves_same one_part p q u w r.0 r.1) ok ok2)
  same _ _ _ _ _ (limit_here _ s x p u d ok) (skip_moved _ _ q w d2 ok2) =
      let r = same x p q u w d d2 in
      absurd (not_both (serves one_part p u) (serves one_part q w) (serves_same one_part p q u w r.0 r.1) ok ok2)
  same _ _ _ _ _ (limit_moved c s f x p u d ok e) (limit_here _ _ _ q w d2 ok2) =
      let r = same x p q u w d d2 in
      absurd (not_both (serves one_part q w) (serves one_part p u) (sym (serves_same one_part p q u w r.0 r.1)) ok2 ok)
  same _ _ _ _ _ (limit_moved c s f x p u d ok e) (limit_moved _ _ f2 _ q w d2 ok2 e2) =
      let r = same x p q u w d d2 in (
        global_limits (Some c) s (moved target.Single (cut_locally f p)) (moved target.Single (cut_locally f2 q))
            (exchanges target.Single (cut_locally f p) (cut_locally f2 q)
            (subst (λ (t : Plan). Alike (cut_locally f p) t) (λ i. cut_locally ((e ∙ sym e2) i) q) (local_limits f p q r.0))),
        refl,
      )
  same _ _ _ _ _ (skip_moved s x p u d ok) (limit_here _ _ _ q w d2 ok2) =
      let r = same x p q u w d d2 in
      absurd (not_both (serves one_part q w) (serves one_part p u) (sym (serves_same one_part p q u w r.0 r.1)) ok2 ok)
  same _ _ _ _ _ (skip_moved s x p u d ok) (skip_moved _ _ q w d2 ok2) =
      let r = same x p q u w d d2 in
      (global_limits None s (moved target.Single p) (moved target.Single q) (exchanges target.Single p q r.0), refl)
  same _ _ _ _ _ (a_sampled st x p u d) (a_sampled _ _ q w d2) = same x p q u w d d2
