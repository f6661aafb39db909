-- Each stage that a run has made can be carried out.
use Rattle.std.proofs.Common.{◌≡◌, refl, ap, sym, subst, ◌∙◌, ◌≤◌, zero, suc, ℕ, Bool, true, false, cond, List, [], ◌∷◌, ◌++◌, length, fold, arith, Option, Some, None, length-append, inl, inr}
use Rattle.std.specs.Prelude.{All, ◌&&◌, not}
use Rattle.std.proofs.lemmas.Bool.{cases_Bool}
use Rattle.std.proofs.lemmas.List.{append-nil}
use Rattle.std.proofs.lemmas.List.Elements.{All-nil, All-cons, All-head, All-append, All-weaker}
use Rattle.aqe_base.specs.declared.event.Event.{Event}
use Rattle.aqe_base.specs.declared.stage_id.StageId.{StageId}
use Rattle.aqe_base.specs.declared.join_kind.JoinKind.{JoinKind}
use Rattle.aqe_logical.specs.declared.plan.Logical.{Logical}
use Rattle.aqe_logical.specs.declared.plan.Placement.{Placement}
use Rattle.aqe_logical.specs.Answers.{Tables}
use Rattle.aqe_logical.specs.WellFormed.{IsOfAQuery}
use Rattle.aqe_logical.proofs.Nodes as logical_walk
use Rattle.aqe_settings.specs.Values.{partitions}
use Rattle.aqe_physical.specs.declared.target.Target.{Target}
use Rattle.aqe_physical.specs.declared.target.Target.TheVariants as target
use Rattle.aqe_physical.specs.declared.target.JoinWay.{JoinWay}
use Rattle.aqe_physical.specs.declared.target.StageKind.TheVariants as kind
use Rattle.aqe_physical.specs.declared.plan.Plan.{Plan, OneRow, Scan, Nothing, Read, ReadBroadcast}
use Rattle.aqe_physical.specs.Shapes.{kept, mapped, moved, matched, grouped, finished, ordered, cut_locally, cut_globally, both_of}
use Rattle.aqe_physical.specs.Nodes.{nodes}
use Rattle.aqe_physical.proofs.Nodes.{Each, each, all_nodes}
use Rattle.aqe_stages.specs.Stages.{Stage, Stages}
use Rattle.aqe_stages.specs.Parts.{all, parts}
use Rattle.aqe_partial.specs.PartialRows.{joined_parts}
use Rattle.aqe_stages.specs.Reads.{ReadsBelow, ReadsBelowAt, SampleBelow}
use Rattle.aqe_stages.specs.Making.{Made, shuffled, broadcasted, sampled, in_kept, in_mapped, in_moved, in_left, in_right, in_grouped, in_finished, in_ordered, in_cut_locally, in_cut_globally, in_first, in_second}
use Rattle.aqe_stages.specs.Runnable.{Runnable}
use Rattle.aqe_stages.proofs.Later.{parts_stay}
use Rattle.aqe_stages.proofs.Made.{made_reads_below}
use Rattle.aqe_making.specs.Makings.{Making, makings, result_of}
use Rattle.aqe_making.specs.Ready.{is_ready}
use Rattle.aqe_making.specs.After.{after, stage_at, exchange_replaced, read_after}
use Rattle.aqe_fitting.specs.Planning as table
use Rattle.aqe_fitting.specs.Planning.{Planned, Brought, stays, goes}
use Rattle.aqe_fitting.specs.Placing.{Asks, groups_target}
use Rattle.aqe_fitting.specs.Known.{files_of}
use Rattle.aqe_fitting.specs.InForce.{in_force}
use Rattle.aqe_fitting.specs.Ways.{ways_by_sizes}
use Rattle.aqe_making.proofs.Lists.{and_left, and_right}
use Rattle.aqe_making.proofs.Standing.{standing, are_ready, made_at}
use Rattle.aqe_making.proofs.Stepping.{one_by_one, none_other}
use Rattle.aqe_fit_laws.specs.Serving.{RunsAt, IsNoExchange, WithoutExchange}
use Rattle.aqe_fit_laws.specs.Leaves.{IsPlannedYet}
use Rattle.aqe_fit_laws.proofs.Bodies.{bodies_run}
use Rattle.aqe_fit_laws.proofs.FittingServes.{fitting_stand}
use Rattle.aqe_bodies.specs.Laws.{RunsOver, NamesSamplesAt, RangesNameSamples}
use Rattle.aqe_bodies.proofs.Carried.{later_runs}
use Rattle.aqe_bodies.proofs.MadeRuns.{made_runs, bodies, first_of}
use Rattle.aqe_bodies.proofs.Named.{later_samples, made_samples}
use Rattle.aqe_journal.specs.Asked.{Asked}
use Rattle.aqe_journal.specs.States.{State, first_state, with_stage, with_event, with_marks, is_materialised, number_of}
use Rattle.aqe_journal.specs.LegalRecord.{IsFirst, PlansAgain, never, keeps, adopts, Takes, goes_on, turns, settled, has_result, SoFar, begun, one_on}
use Rattle.aqe_journal.specs.Laws.{IsSound, CanBeCarriedOut, StagesOfRunsRun}
use Rattle.aqe_journal.specs.Steady.{Kept, Steady}
use Rattle.aqe_journal.proofs.Born.{stage_born, event_born, marks_born, not_materialised}
use Rattle.aqe_journal.proofs.Samples.{no_sample, stage_named, keep_more}

-- a plan that is ready holds no exchange
pub no_exchange : (whole : ℕ → Bool) (p : Plan) → is_ready whole p ≡ true → Each IsNoExchange p
no_exchange whole OneRow h = tt
no_exchange whole (Scan table files) h = tt
no_exchange whole (Nothing count width) h = tt
no_exchange whole (Read stage maps reducers rects) h = tt
no_exchange whole (ReadBroadcast stage) h = tt
no_exchange whole (kept c p) h = (tt, no_exchange whole p h)
no_exchange whole (mapped items p) h = (tt, no_exchange whole p h)
no_exchange whole (moved to p) h = absurd (no_truth h)
  where
    no_truth : false ≡ true → ⊥
    no_truth e = cc (e)
no_exchange whole (matched how k keys v w p q) h =
    (tt, no_exchange whole p (and_left (is_ready whole p) (is_ready whole q) h), no_exchange whole q (and_right (is_ready whole p) (is_ready whole q) h))
no_exchange whole (grouped keys calls p) h = (tt, no_exchange whole p h)
no_exchange whole (finished n calls p) h = (tt, no_exchange whole p h)
no_exchange whole (ordered keys p) h = (tt, no_exchange whole p h)
no_exchange whole (cut_locally n p) h = (tt, no_exchange whole p h)
no_exchange whole (cut_globally n s p) h = (tt, no_exchange whole p h)
no_exchange whole (both_of p q) h =
    (tt, no_exchange whole p (and_left (is_ready whole p) (is_ready whole q) h), no_exchange whole q (and_right (is_ready whole p) (is_ready whole q) h))

-- what holds of each plan within a plan holds of the body of a stage that is made of it
pub body_each : (P : Plan → Type 0) (number : StageId) (p q : Plan) (stage : Stage) → Made number p stage q → Each P p → Each P stage.body
body_each P number p q stage (shuffled to child s) h = h.1
body_each P number p q stage (broadcasted child) h = h.1
body_each P number p q stage (sampled keys n child) h = h.1
body_each P number p q stage (in_kept c x y st m) h = body_each P number x y st m h.1
body_each P number p q stage (in_mapped items x y st m) h = body_each P number x y st m h.1
body_each P number p q stage (in_moved to x y st m) h = body_each P number x y st m h.1
body_each P number p q stage (in_left how k keys v w x y other st m) h = body_each P number x y st m h.1
body_each P number p q stage (in_right how k keys v w other x y st m) h = body_each P number x y st m h.2
body_each P number p q stage (in_grouped keys calls x y st m) h = body_each P number x y st m h.1
body_each P number p q stage (in_finished n calls x y st m) h = body_each P number x y st m h.1
body_each P number p q stage (in_ordered keys x y st m) h = body_each P number x y st m h.1
body_each P number p q stage (in_cut_locally n x y st m) h = body_each P number x y st m h.1
body_each P number p q stage (in_cut_globally n k x y st m) h = body_each P number x y st m h.1
body_each P number p q stage (in_first x y other st m) h = body_each P number x y st m h.1
body_each P number p q stage (in_second other x y st m) h = body_each P number x y st m h.2

-- what is read below a number is read below a greater one
sample_up : (m n : ℕ) → m ≤ n → (to : Target) → SampleBelow m to → SampleBelow n to
sample_up m n le (target.Hash keys k) h = tt
sample_up m n le (target.Range keys k None) h = tt
sample_up m n le (target.Range keys k (Some stage)) h = omega (arith, le, h)
sample_up m n le target.Single h = tt
sample_up m n le target.Broadcast h = tt

pub below_up : (m n : ℕ) → m ≤ n → (p : Plan) → ReadsBelowAt m p → ReadsBelowAt n p
below_up m n le OneRow h = tt
below_up m n le (Scan table files) h = tt
below_up m n le (Nothing count width) h = tt
below_up m n le (Read stage maps reducers rects) h = omega (arith, le, h)
below_up m n le (ReadBroadcast stage) h = omega (arith, le, h)
below_up m n le (kept c p) h = tt
below_up m n le (mapped items p) h = tt
below_up m n le (moved to p) h = sample_up m n le to h
below_up m n le (matched how k keys v w p q) h = tt
below_up m n le (grouped keys calls p) h = tt
below_up m n le (finished k calls p) h = tt
below_up m n le (ordered keys p) h = tt
below_up m n le (cut_locally k p) h = tt
below_up m n le (cut_globally k s p) h = tt
below_up m n le (both_of p q) h = tt

kept_more : (tables : Tables) (stages more : Stages) (stage : Stage) → Kept tables stages stage → Kept tables (stages ++ more) stage
kept_more tables stages more stage k =
    let long = length-append stages more in
    record {
      runs = later_runs tables stages more stage.body k.below k.runs;
      none = k.none;
      below = All-weaker (ReadsBelowAt (length stages)) (ReadsBelowAt (length (stages ++ more))) (below_up (length stages) (length (stages ++ more)) (omega (arith, long))) (nodes stage.body) k.below;
      keeps = keep_more stages more stage.kind (all tables stages stage.body) (all tables (stages ++ more) stage.body)
          (sym (ap joined_parts (parts_stay tables stages more stage.body k.below))) k.keeps;
    }

all_more : (tables : Tables) (stages : Stages) (stage : Stage) → All (Kept tables stages) stages → Kept tables (stages ++ stage ∷ []) stage →
    All (Kept tables (stages ++ stage ∷ [])) (stages ++ stage ∷ [])
all_more tables stages stage h k =
    All-append (Kept tables (stages ++ stage ∷ [])) stages (stage ∷ [])
    (All-weaker (Kept tables stages) (Kept tables (stages ++ stage ∷ [])) (kept_more tables stages (stage ∷ [])) stages h)
    (All-cons (Kept tables (stages ++ stage ∷ [])) stage [] k (All-nil (Kept tables (stages ++ stage ∷ []))))

-- a stage that is made of an exchange
pub step : (asked : Asked) (now : State) (making : Making) → Steady asked now → stage_at making.place now.plan ≡ Some making.stage → WithoutExchange making.stage.body →
    Steady asked (with_stage now making)
step asked now making s at none =
    let number = number_of (length now.stages) in
    let next = after number making.place now.plan in
    let m : Made number now.plan making.stage next = made_at number making.place now.plan making.stage at in
    let run = bodies asked.tables now.stages number now.plan next making.stage m none (stage_named making.place now.plan making.stage at) s.ranges s.runs in
    let old : Kept asked.tables now.stages making.stage = record {
      runs = all_nodes (RunsAt asked.tables now.stages) making.stage.body
          (body_each (RunsAt asked.tables now.stages) number now.plan next making.stage m (each (RunsAt asked.tables now.stages) now.plan s.runs));
      none = none;
      below = all_nodes (ReadsBelowAt (length now.stages)) making.stage.body
          (body_each (ReadsBelowAt (length now.stages)) number now.plan next making.stage m (each (ReadsBelowAt (length now.stages)) now.plan s.below));
      keeps = run.1;
    } in
    record {
      runs = made_runs asked.tables now.stages number now.plan next making.stage refl s.below m none s.runs;
      below = made_reads_below now.stages number now.plan next making.stage refl s.below m;
      ranges = made_samples now.stages number now.plan next making.stage refl m s.ranges;
      made = all_more asked.tables now.stages making.stage s.made (kept_more asked.tables now.stages (making.stage ∷ []) making.stage old);
      born = stage_born now making s.born;
    }

-- nothing stands at the top but an exchange, or nothing is replaced there
pub stays_put : (new : Target → Plan → Plan) (p : Plan) → IsNoExchange p → exchange_replaced new [] p ≡ p
stays_put new OneRow h = refl
stays_put new (Scan table files) h = refl
stays_put new (Nothing count width) h = refl
stays_put new (Read stage maps reducers rects) h = refl
stays_put new (ReadBroadcast stage) h = refl
stays_put new (kept c p) h = refl
stays_put new (mapped items p) h = refl
stays_put new (moved to p) h = absurd h
stays_put new (matched how k keys v w p q) h = refl
stays_put new (grouped keys calls p) h = refl
stays_put new (finished n calls p) h = refl
stays_put new (ordered keys p) h = refl
stays_put new (cut_locally n p) h = refl
stays_put new (cut_globally n s p) h = refl
stays_put new (both_of p q) h = refl

-- the result stage
result_kept : (tables : Tables) (stages : Stages) (p : Plan) → RunsOver tables stages p → ReadsBelow (length stages) p → WithoutExchange p →
    Kept tables stages (record { kind = kind.Result; body = p })
result_kept tables stages p runs below none = record { runs = runs; none = none; below = below; keeps = tt }

pub result_step : (asked : Asked) (now : State) → Steady asked now → WithoutExchange now.plan → Steady asked (with_stage now (result_of now.plan))
result_step asked now s none =
    let more : Stages = record { kind = kind.Result; body = now.plan } ∷ [] in
    let put : after (number_of (length now.stages)) [] now.plan ≡ now.plan =
    stays_put (read_after (number_of (length now.stages))) now.plan (first_of IsNoExchange now.plan (each IsNoExchange now.plan none)) in
    let long = length-append now.stages more in
    record {
      runs = subst (RunsOver asked.tables (now.stages ++ more)) (sym put) (later_runs asked.tables now.stages more now.plan s.below s.runs);
      below = subst (ReadsBelow (length (now.stages ++ more))) (sym put)
          (All-weaker (ReadsBelowAt (length now.stages)) (ReadsBelowAt (length (now.stages ++ more))) (below_up (length now.stages) (length (now.stages ++ more)) (omega (arith, long))) (nodes now.plan) s.below);
      ranges = subst (RangesNameSamples (now.stages ++ more)) (sym put) (later_samples now.stages more now.plan s.ranges);
      made = all_more asked.tables now.stages (record { kind = kind.Result; body = now.plan }) s.made
          (kept_more asked.tables now.stages more (record { kind = kind.Result; body = now.plan }) (result_kept asked.tables now.stages now.plan s.runs s.below none));
      born = stage_born now (result_of now.plan) s.born;
    }

-- all stages that can be made at a position
all_steps : (asked : Asked) (whole : ℕ → Bool) (ms : List Making) (now : State) → Steady asked now → ((s : ℕ) → length now.stages ≤ s → whole s ≡ false) →
    makings whole now.plan ≡ ms → Steady asked (fold with_stage now ms)
all_steps asked whole [] now s unborn e = s
all_steps asked whole (m ∷ ms) now s unborn e =
    let at = All-head (λ (making : Making). stage_at making.place now.plan ≡ Some making.stage) m ms
    (subst (All (λ (making : Making). stage_at making.place now.plan ≡ Some making.stage)) e (standing whole now.plan)) in
    let ready = All-head (λ (making : Making). is_ready whole making.stage.body ≡ true) m ms
    (subst (All (λ (making : Making). is_ready whole making.stage.body ≡ true)) e (are_ready whole now.plan)) in
    let next = step asked now m s at (all_nodes IsNoExchange m.stage.body (no_exchange whole m.stage.body ready)) in
    let long = length-append now.stages (m.stage ∷ []) in
    all_steps asked whole ms (with_stage now m) next (λ k le. unborn k (omega (arith, long, le)))
    (one_by_one whole (number_of (length now.stages)) now.plan m ms (unborn (length now.stages) (omega arith)) e)

settle_ready : (asked : Asked) (now : State) (has : Bool) → Steady asked now → WithoutExchange now.plan →
    Steady asked (fold with_stage now (cond (not has) (result_of now.plan ∷ []) []))
settle_ready asked now true s none = s
settle_ready asked now false s none = result_step asked now s none

settle : (asked : Asked) (now : State) → Steady asked now → Steady asked (settled now)
settle asked now s = elim (cases_Bool (is_ready (is_materialised now) now.plan)) [
  | inl t ↦ subst (λ (ms : List Making). Steady asked (fold with_stage now ms))
      (sym (λ i. none_other (is_materialised now) now.plan t i ++ cond (t i && not (has_result now.stages)) (result_of now.plan ∷ []) []))
      (settle_ready asked now (has_result now.stages) s (all_nodes IsNoExchange now.plan (no_exchange (is_materialised now) now.plan t)))
  | inr f ↦ subst (λ (ms : List Making). Steady asked (fold with_stage now ms))
      (sym ((λ i. makings (is_materialised now) now.plan ++ cond (f i && not (has_result now.stages)) (result_of now.plan ∷ []) []) ∙ append-nil (makings (is_materialised now) now.plan)))
      (all_steps asked (is_materialised now) (makings (is_materialised now) now.plan) now s (not_materialised now s.born) refl)
]

pub marked : (asked : Asked) (now : State) → Steady asked now → Steady asked (with_marks now)
marked asked now s = record { runs = s.runs; below = s.below; ranges = s.ranges; made = s.made; born = marks_born now s.born }

pub happened : (asked : Asked) (now : State) (event : Event) → Steady asked now → Steady asked (with_event now event)
happened asked now event s = record { runs = s.runs; below = s.below; ranges = s.ranges; made = s.made; born = event_born now event s.born }

-- the first plan of a query names no sample and reads no stage
module _ (ways : JoinKind → Logical → Logical → JoinWay → Type 0) (n : ℕ) (files : ℕ → ℕ) where
  abbrev Quiet : Plan → Type 0
  Quiet p = Each (NamesSamplesAt []) p × Each (ReadsBelowAt 0) p

  -- an exchange that is brought keeps that where it names no sample
  abbrev IsFree : Target → Plan → Type 0
  IsFree to p = NamesSamplesAt [] (moved to p) × ReadsBelowAt 0 (moved to p)

  quiet_brought : (asks : Asks) (to : Target) (p : Plan) (w : Placement) (q : Plan) → IsFree to p → Brought asks to p w q → Quiet p → Quiet q
  quiet_brought asks to p w q free (stays r u s) h = h
  quiet_brought asks to p w q free (goes r u s) h = ((free.0, h.0), (free.1, h.1))

  sends_free : (k : ℕ) (p : Plan) → IsFree (groups_target n k) p
  sends_free zero p = (tt, tt)
  sends_free (suc k) p = (tt, tt)

  quiet : (x : Logical) (p : Plan) (w : Placement) → Planned ways n files x p w → logical_walk.Each IsPlannedYet x → logical_walk.Each IsOfAQuery x → Quiet p
  quiet x p w table.a_row y q = (tt, tt)
  quiet x p w (table.a_scan t schema count e) y q = (tt, tt)
  quiet x p w (table.a_nothing schema parts size e) y q = absurd y
  quiet x p w (table.a_read stage u schema maps reducers rects e) y q = absurd q
  quiet x p w (table.a_whole_read stage schema) y q = absurd q
  quiet x p w (table.a_filter c z r u d) y q = let s = quiet z r u d y.1 q.1 in ((tt, s.0), (tt, s.1))
  quiet x p w (table.a_project items schema z r u out d e) y q = let s = quiet z r u d y.1 q.1 in ((tt, s.0), (tt, s.1))
  quiet x p w (table.by_parts how k c keys v l a b r r1 t t1 u z out d e cut h m o b1 b2 f) y q =
      let i = quiet_brought _ _ r u r1 (tt, tt) b1 (quiet a r u d y.1 q.1) in
      let j = quiet_brought _ _ t z t1 (tt, tt) b2 (quiet b t z e y.2 q.2) in
      ((tt, i.0, j.0), (tt, i.1, j.1))
  quiet x p w (table.by_whole_right k c keys v l a b r t t1 u z d e cut h m b1) y q =
      let i = quiet a r u d y.1 q.1 in
      let j = quiet_brought _ _ t z t1 (tt, tt) b1 (quiet b t z e y.2 q.2) in
      ((tt, i.0, j.0), (tt, i.1, j.1))
  quiet x p w (table.by_whole_left k c keys v l a b r r1 t u z out d e cut h m b1 o) y q =
      let i = quiet_brought _ _ r u r1 (tt, tt) b1 (quiet a r u d y.1 q.1) in
      let j = quiet b t z e y.2 q.2 in
      ((tt, i.0, j.0), (tt, i.1, j.1))
  quiet x p w (table.by_loop k c keys v l a b r r1 t t1 u z d e cut h b1 b2) y q =
      let i = quiet_brought _ _ r u r1 (tt, tt) b1 (quiet a r u d y.1 q.1) in
      let j = quiet_brought _ _ t z t1 (tt, tt) b2 (quiet b t z e y.2 q.2) in
      ((tt, i.0, j.0), (tt, i.1, j.1))
  quiet x p w (table.groups_here keys calls schema count z r u out d s c o) y q = let i = quiet z r u d y.1 q.1 in ((tt, (tt, i.0)), (tt, (tt, i.1)))
  quiet x p w (table.groups_moved keys calls schema count to z r u out d s c t o) y q =
      let i = quiet z r u d y.1 q.1 in
      let free = subst (λ (to : Target). IsFree to (grouped keys calls r)) (sym t) (sends_free count (grouped keys calls r)) in
      ((tt, (free.0, (tt, i.0))), (tt, (free.1, (tt, i.1))))
  quiet x p w (table.groups_read stage calls schema count maps reducers rects out c o) y q = absurd q
  quiet x p w (table.a_union a b r t u z d e) y q =
      let i = quiet a r u d y.1 q.1 in
      let j = quiet b t z e y.2 q.2 in
      ((tt, i.0, j.0), (tt, i.1, j.1))
  quiet x p w (table.sort_here keys z r u d s) y q = let i = quiet z r u d y.1 q.1 in ((tt, i.0), (tt, i.1))
  quiet x p w (table.sort_moved keys sample z r u d s m) y q =
      let i = quiet z r u d y.1 q.1 in
      let free = subst (λ (named : Option StageId). IsFree (target.Range keys n named) r) (sym (m ∙ no_sample z q.1)) (tt, tt) in
      ((tt, (free.0, i.0)), (tt, (free.1, i.1)))
  quiet x p w (table.limit_here count skip z r u d s) y q = let i = quiet z r u d y.1 q.1 in ((tt, i.0), (tt, i.1))
  quiet x p w (table.limit_moved count skip first z r u d s e) y q = let i = quiet z r u d y.1 q.1 in ((tt, (tt, (tt, i.0))), (tt, (tt, (tt, i.1))))
  quiet x p w (table.skip_moved skip z r u d s) y q = let i = quiet z r u d y.1 q.1 in ((tt, (tt, i.0)), (tt, (tt, i.1)))
  quiet x p w (table.a_sampled stage z r u d) y q = absurd y.0

pub start : (asked : Asked) (plan : Plan) → IsSound asked → IsFirst asked plan → Steady asked (first_state asked.query plan)
start asked plan sound first =
    let q = quiet (ways_by_sizes asked.estimates [] (in_force asked.settings)) (partitions asked.settings) (files_of asked.estimates) asked.query plan first.0.0 first.0.1
    (logical_walk.each IsPlannedYet asked.query sound.planned) (logical_walk.each IsOfAQuery asked.query sound.closed) in
    record {
      runs = (fitting_stand asked.tables [] plan asked.query asked.estimates [] asked.settings sound.parts sound.formed sound.closed sound.planned sound.wide sound.files first).1;
      below = all_nodes (ReadsBelowAt 0) plan q.1;
      ranges = all_nodes (NamesSamplesAt []) plan q.0;
      made = All-nil (Kept asked.tables []);
      born = refl;
    }

clash : false ≡ true → ⊥
clash h = cc (h)

planned_steady : (asked : Asked) (now next : State) → PlansAgain asked now next → Steady asked now → Steady asked next
planned_steady asked now next (never n h) s = s
planned_steady asked now next (keeps n x p k c w) s = s
planned_steady asked now next (adopts n x p k c w) s = absurd (clash k)

taken : (asked : Asked) (now next : State) (event : Event) → Takes asked now event next → Steady asked now → Steady asked next
taken asked now next event (goes_on n e h) s = marked asked (with_event now event) (happened asked now event s)
taken asked now next event (turns n planned e h t) s =
    marked asked (settled planned) (settle asked planned (planned_steady asked (with_event now event) planned t (happened asked now event s)))

steady : (asked : Asked) (now : State) → IsSound asked → SoFar asked now → Steady asked now
steady asked now sound (begun plan first) =
    marked asked (settled (first_state asked.query plan)) (settle asked (first_state asked.query plan) (start asked plan sound first))
steady asked now sound (one_on before next event far r n t) = taken asked before next event t (steady asked before sound far)

pub carried_out : (tables : Tables) (stages : Stages) (stage : Stage) → Kept tables stages stage → CanBeCarriedOut tables stages stage
carried_out tables stages stage k = (
  first_of (λ body. WithoutExchange body → Runnable tables stages body) stage.body
      (each (λ body. WithoutExchange body → Runnable tables stages body) stage.body (bodies_run tables stages stage.body k.runs)) k.none,
  k.keeps,
)

pub stages_run : StagesOfRunsRun
stages_run asked now sound far =
    All-weaker (Kept asked.tables now.stages) (CanBeCarriedOut asked.tables now.stages) (carried_out asked.tables now.stages) now.stages (steady asked now sound far).made
