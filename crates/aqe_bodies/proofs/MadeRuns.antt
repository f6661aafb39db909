-- What runs before a stage is made runs after it, and so does what the stage is made of.
use Rattle.std.proofs.Common.{◌≡◌, refl, sym, subst, ◌≤◌, ℕ, [], ◌∷◌, ◌++◌, length, Some, None}
use Rattle.std.specs.Prelude.{All}
use Rattle.std.specs.List.{range_with_len}
use Rattle.std.proofs.lemmas.List.{append-nil}
use Rattle.aqe_base.specs.declared.stage_id.StageId.{StageId}
use Rattle.aqe_values.specs.Bounds.{row_limit}
use Rattle.aqe_logical.specs.Answers.{Row, Tables}
use Rattle.aqe_rects.specs.Rectangles.{LiesWithin, plain_rects}
use Rattle.aqe_physical.specs.declared.target.Target.{Target}
use Rattle.aqe_physical.specs.declared.target.Target.TheVariants as target
use Rattle.aqe_physical.specs.declared.target.StageKind.TheVariants as kind
use Rattle.aqe_physical.specs.declared.plan.Plan.{Plan, OneRow, Scan, Nothing, Read, ReadBroadcast}
use Rattle.aqe_physical.specs.Shapes.{kept, mapped, moved, matched, grouped, finished, ordered, cut_locally, cut_globally, both_of}
use Rattle.aqe_physical.specs.Counts.{part_count, target_count}
use Rattle.aqe_physical.proofs.Nodes.{Each, each, all_nodes}
use Rattle.aqe_stages.specs.Stages.{Stage, Stages}
use Rattle.aqe_stages.specs.Parts.{parts, given_by, all}
use Rattle.aqe_stages.specs.Places.{place}
use Rattle.aqe_stages.specs.Reads.{ReadsBelowAt, NamesSample, KindNamesSample}
use Rattle.aqe_stages.specs.Making.{Made, shuffle, broadcast, sampling, plain_read, shuffled, broadcasted, sampled, in_kept, in_mapped, in_moved, in_left, in_right, in_grouped, in_finished, in_ordered, in_cut_locally, in_cut_globally, in_first, in_second}
use Rattle.aqe_stages.specs.Runnable.{OfStage, Narrow, Runnable, CanKeep, reducers_of}
use Rattle.aqe_stages.proofs.Made.{made_keeps}
use Rattle.aqe_fit_laws.specs.Serving.{RunsAt, CanMove, IsNoExchange, WithoutExchange}
use Rattle.aqe_fit_laws.proofs.Widths.{exchanged_all, plain_lie}
use Rattle.aqe_fit_laws.proofs.Bodies.{bodies_run}
use Rattle.aqe_bodies.specs.Laws.{MakingsKeepRunning, BodiesOfStagesRun, NamesSamplesAt}
use Rattle.aqe_bodies.proofs.Carried.{Same, carry_kept, carry_mapped, carry_moved, carry_matched, carry_grouped, carry_finished, carry_ordered, carry_cut_locally, carry_cut_globally, carry_both_of, same_narrow, same_later, later}

-- the newest stage is that of its number
pub newest : (stages : Stages) (stage : Stage) (n : ℕ) (P : Stage → Type 0) → n ≡ length stages → P stage → OfStage (stages ++ stage ∷ []) n P
newest stages stage n P e h = subst (λ (m : ℕ). OfStage (stages ++ stage ∷ []) m P) (sym e) (at_end stages)
  where
    at_end : (front : Stages) → OfStage (front ++ stage ∷ []) (length front) P
    at_end [] = h
    at_end (first ∷ front) = at_end front

module _ (tables : Tables) (stages : Stages) where
  -- the rows of a plan that is no exchange are narrow
  narrow : (p : Plan) → IsNoExchange p → Each (RunsAt tables stages) p → Narrow (all tables stages p)
  narrow OneRow n h = h.1
  narrow (Scan table files) n h = h.1
  narrow (Nothing count width) n h = h.1
  narrow (Read stage maps reducers rects) n h = h.1
  narrow (ReadBroadcast stage) n h = h.1
  narrow (kept c p) n h = h.0.1
  narrow (mapped items p) n h = h.0.1
  narrow (moved to p) n h = absurd n
  narrow (matched how k keys v w p q) n h = h.0.1
  narrow (grouped keys calls p) n h = h.0.1
  narrow (finished m calls p) n h = h.0.1
  narrow (ordered keys p) n h = h.0.1
  narrow (cut_locally m p) n h = h.0.1
  narrow (cut_globally m s p) n h = h.0.1
  narrow (both_of p q) n h = h.0.1

  abbrev Thin : Row → Type 0
  Thin row = length row ≤ row_limit

  -- so are those that an exchange sends on
  narrow_moved : (to : Target) (p : Plan) → Narrow (all tables stages p) → Narrow (all tables stages (moved to p))
  narrow_moved (target.Hash keys n) p h =
      exchanged_all Thin (place (given_by tables stages) (target.Hash keys n) (parts tables (given_by tables stages) p)) (all tables stages p) h (range_with_len 0 n)
  narrow_moved (target.Range keys n sample) p h =
      exchanged_all Thin (place (given_by tables stages) (target.Range keys n sample) (parts tables (given_by tables stages) p)) (all tables stages p) h (range_with_len 0 n)
  narrow_moved target.Single p h =
      exchanged_all Thin (place (given_by tables stages) target.Single (parts tables (given_by tables stages) p)) (all tables stages p) h (range_with_len 0 1)
  narrow_moved target.Broadcast p h = subst Narrow (sym (append-nil (all tables stages p))) h

-- what holds of each plan within a plan holds of the plan
pub first_of : (P : Plan → Type 0) (p : Plan) → Each P p → P p
first_of P OneRow h = h
first_of P (Scan table files) h = h
first_of P (Nothing count width) h = h
first_of P (Read stage maps reducers rects) h = h
first_of P (ReadBroadcast stage) h = h
first_of P (kept c p) h = h.0
first_of P (mapped items p) h = h.0
first_of P (moved to p) h = h.0
first_of P (matched how k keys v w p q) h = h.0
first_of P (grouped keys calls p) h = h.0
first_of P (finished m calls p) h = h.0
first_of P (ordered keys p) h = h.0
first_of P (cut_locally m p) h = h.0
first_of P (cut_globally m s p) h = h.0
first_of P (both_of p q) h = h.0

module _ (tables : Tables) (stages : Stages) (number : StageId) (e : number.0 ≡ length stages) where
  abbrev Below : Plan → Type 0
  Below p = Each (ReadsBelowAt (length stages)) p

  abbrev Runs : Plan → Type 0
  Runs p = Each (RunsAt tables stages) p

  abbrev After : Stage → Plan → Type 0
  After stage q = Each (RunsAt tables (stages ++ stage ∷ [])) q

  same_made : (p q : Plan) (stage : Stage) → Made number p stage q → Below p → Same tables stages (stages ++ stage ∷ []) p q
  same_made p q stage m b = sym (made_keeps tables stages number p q stage e (all_nodes (ReadsBelowAt (length stages)) p b) m)

  sent : (to : Target) (child : Plan) → WithoutExchange child → Runs child → Narrow (all tables stages (moved to child))
  sent to child none h = narrow_moved tables stages to child (narrow tables stages child (first_of IsNoExchange child (each IsNoExchange child none)) h)

  made : (p q : Plan) (stage : Stage) → Made number p stage q → WithoutExchange stage.body → Below p → Runs p → After stage q
  made p q stage (shuffled to child s) none b h = (
    newest stages (shuffle to child) number.0
        (λ read. All (LiesWithin (part_count read.body) (reducers_of read.kind)) (plain_rects (part_count child) (target_count to))) e (plain_lie (part_count child) (target_count to)),
    same_narrow tables stages (stages ++ shuffle to child ∷ []) (moved to child) (plain_read number to child)
        (same_made (moved to child) (plain_read number to child) (shuffle to child) (shuffled to child s) b) (sent to child none h.1),
  )
  made p q stage (broadcasted child) none b h = (
    newest stages (broadcast child) number.0 (λ read. read.kind ≡ kind.Broadcast) e refl,
    same_narrow tables stages (stages ++ broadcast child ∷ []) (moved target.Broadcast child) (ReadBroadcast number)
        (same_made (moved target.Broadcast child) (ReadBroadcast number) (broadcast child) (broadcasted child) b) (sent target.Broadcast child none h.1),
  )
  made p q stage (sampled keys n child) none b h = (
    carry_moved tables stages (stages ++ sampling keys child ∷ []) (target.Range keys n None) child child (same_later tables stages (sampling keys child ∷ []) child b.1) h.0,
    later tables stages (sampling keys child ∷ []) child b.1 h.1,
  )
  made p q stage (in_kept c x y st m) none b h =
      (carry_kept tables stages (stages ++ st ∷ []) c x y (same_made (kept c x) (kept c y) st (in_kept c x y st m) b) h.0, made x y st m none b.1 h.1)
  made p q stage (in_mapped items x y st m) none b h =
      (carry_mapped tables stages (stages ++ st ∷ []) items x y (same_made (mapped items x) (mapped items y) st (in_mapped items x y st m) b) h.0, made x y st m none b.1 h.1)
  made p q stage (in_moved to x y st m) none b h =
      (carry_moved tables stages (stages ++ st ∷ []) to x y (same_made x y st m b.1) h.0, made x y st m none b.1 h.1)
  made p q stage (in_left how k keys v w x y other st m) none b h = (
    carry_matched tables stages (stages ++ st ∷ []) how k keys v w x other y other (same_made x y st m b.1) (same_later tables stages (st ∷ []) other b.2)
        (same_made (matched how k keys v w x other) (matched how k keys v w y other) st (in_left how k keys v w x y other st m) b) h.0,
    made x y st m none b.1 h.1,
    later tables stages (st ∷ []) other b.2 h.2,
  )
  made p q stage (in_right how k keys v w other x y st m) none b h = (
    carry_matched tables stages (stages ++ st ∷ []) how k keys v w other x other y (same_later tables stages (st ∷ []) other b.1) (same_made x y st m b.2)
        (same_made (matched how k keys v w other x) (matched how k keys v w other y) st (in_right how k keys v w other x y st m) b) h.0,
    later tables stages (st ∷ []) other b.1 h.1,
    made x y st m none b.2 h.2,
  )
  made p q stage (in_grouped keys calls x y st m) none b h = (
    carry_grouped tables stages (stages ++ st ∷ []) keys calls x y (same_made x y st m b.1) (same_made (grouped keys calls x) (grouped keys calls y) st (in_grouped keys calls x y st m) b) h.0,
    made x y st m none b.1 h.1,
  )
  made p q stage (in_finished n calls x y st m) none b h = (
    carry_finished tables stages (stages ++ st ∷ []) n calls x y (same_made x y st m b.1) (same_made (finished n calls x) (finished n calls y) st (in_finished n calls x y st m) b) h.0,
    made x y st m none b.1 h.1,
  )
  made p q stage (in_ordered keys x y st m) none b h = (
    carry_ordered tables stages (stages ++ st ∷ []) keys x y (same_made x y st m b.1) (same_made (ordered keys x) (ordered keys y) st (in_ordered keys x y st m) b) h.0,
    made x y st m none b.1 h.1,
  )
  made p q stage (in_cut_locally n x y st m) none b h =
      (carry_cut_locally tables stages (stages ++ st ∷ []) n x y (same_made (cut_locally n x) (cut_locally n y) st (in_cut_locally n x y st m) b) h.0, made x y st m none b.1 h.1)
  made p q stage (in_cut_globally n k x y st m) none b h =
      (carry_cut_globally tables stages (stages ++ st ∷ []) n k x y (same_made (cut_globally n k x) (cut_globally n k y) st (in_cut_globally n k x y st m) b) h.0, made x y st m none b.1 h.1)
  made p q stage (in_first x y other st m) none b h = (
    carry_both_of tables stages (stages ++ st ∷ []) x other y other (same_made (both_of x other) (both_of y other) st (in_first x y other st m) b) h.0,
    made x y st m none b.1 h.1,
    later tables stages (st ∷ []) other b.2 h.2,
  )
  made p q stage (in_second other x y st m) none b h = (
    carry_both_of tables stages (stages ++ st ∷ []) other x other y (same_made (both_of other x) (both_of other y) st (in_second other x y st m) b) h.0,
    later tables stages (st ∷ []) other b.1 h.1,
    made x y st m none b.2 h.2,
  )

pub made_runs : MakingsKeepRunning
made_runs tables stages number before after stage e below m none h =
    all_nodes (RunsAt tables (stages ++ stage ∷ [])) after
    (made tables stages number e before after stage m none (each (ReadsBelowAt (length stages)) before below) (each (RunsAt tables stages) before h))

module _ (tables : Tables) (stages : Stages) (number : StageId) where
  abbrev Body : Stage → Type 0
  Body stage = Runnable tables stages stage.body × CanKeep stages stage.kind (all tables stages stage.body)

  runs : (p : Plan) → WithoutExchange p → Each (RunsAt tables stages) p → Runnable tables stages p
  runs p none h =
      first_of (λ body. WithoutExchange body → Runnable tables stages body) p
      (each (λ body. WithoutExchange body → Runnable tables stages body) p (bodies_run tables stages p (all_nodes (RunsAt tables stages) p h))) none

  -- what an exchange can move its target can keep, where a range names its sample
  keeps : (to : Target) (child : Plan) → NamesSample to → NamesSamplesAt stages (moved to child) → CanMove to (all tables stages child) →
      CanKeep stages (kind.Shuffle to) (all tables stages child)
  keeps (target.Hash keys n) child named r h = h
  keeps (target.Range keys n None) child named r h = absurd named
  keeps (target.Range keys n (Some sample)) child named r h = (h.0, r, h.1)
  keeps target.Single child named r h = tt
  keeps target.Broadcast child named r h = tt

  body : (p q : Plan) (stage : Stage) → Made number p stage q → WithoutExchange stage.body → KindNamesSample stage.kind →
      Each (NamesSamplesAt stages) p → Each (RunsAt tables stages) p → Body stage
  body p q stage (shuffled to child s) none named r h = (runs child none h.1, keeps to child named r.0 h.0)
  body p q stage (broadcasted child) none named r h = (runs child none h.1, tt)
  body p q stage (sampled keys n child) none named r h = (runs child none h.1, h.0.1)
  body p q stage (in_kept c x y st m) none named r h = body x y st m none named r.1 h.1
  body p q stage (in_mapped items x y st m) none named r h = body x y st m none named r.1 h.1
  body p q stage (in_moved to x y st m) none named r h = body x y st m none named r.1 h.1
  body p q stage (in_left how k keys v w x y other st m) none named r h = body x y st m none named r.1 h.1
  body p q stage (in_right how k keys v w other x y st m) none named r h = body x y st m none named r.2 h.2
  body p q stage (in_grouped keys calls x y st m) none named r h = body x y st m none named r.1 h.1
  body p q stage (in_finished n calls x y st m) none named r h = body x y st m none named r.1 h.1
  body p q stage (in_ordered keys x y st m) none named r h = body x y st m none named r.1 h.1
  body p q stage (in_cut_locally n x y st m) none named r h = body x y st m none named r.1 h.1
  body p q stage (in_cut_globally n k x y st m) none named r h = body x y st m none named r.1 h.1
  body p q stage (in_first x y other st m) none named r h = body x y st m none named r.1 h.1
  body p q stage (in_second other x y st m) none named r h = body x y st m none named r.2 h.2

pub bodies : BodiesOfStagesRun
bodies tables stages number before after stage m none named ranges h =
    body tables stages number before after stage m none named (each (NamesSamplesAt stages) before ranges) (each (RunsAt tables stages) before h)
