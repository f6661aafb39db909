-- A board that stands for a history gives each event its fate, and stands for the history with the event.
use Rattle.std.proofs.Common.{◌&&◌, ◌≡◌, ℕ, Bool, true, false, cond, List, [], ◌∷◌, ◌++◌, refl, ap, ◌∙◌, sym, subst, Option, Some, None, is_some, slice_get, option_to_list}
use Rattle.std.specs.Option.{option_and_then}
use Rattle.std.specs.List.{list_all, range_with_len}
use Rattle.std.proofs.lemmas.List.Sums.{fold-append}
use Rattle.aqe_base.specs.declared.stage_id.StageId.{StageId}
use Rattle.aqe_base.specs.declared.ids.TaskId.{TaskId}
use Rattle.aqe_base.specs.declared.ids.MapId.{MapId}
use Rattle.aqe_base.specs.declared.ids.ExecId.{ExecId}
use Rattle.aqe_base.specs.declared.event.Event.{Event}
use Rattle.aqe_base.specs.declared.event.Event.TheVariants.{Ended, Failed, Lost, Fetch}
use Rattle.aqe_scheduler.specs.declared.fate.Fate.{Fate}
use Rattle.aqe_scheduler.specs.declared.fate.Fate.TheVariants as fate
use Rattle.aqe_scheduler.specs.declared.need.Need.{Need}
use Rattle.aqe_scheduler.specs.declared.task.Task.{Task}
use Rattle.aqe_scheduler.specs.declared.stage.Stage.{Stage}
use Rattle.aqe_scheduler.specs.History.{Birth, Entry, Happens, Step, Happened}
use Rattle.aqe_scheduler.specs.Looks.{births, needed, counted, available, done, shuffles, task_count, whole}
use Rattle.aqe_scheduler.specs.Fates.{task_reads, has_inputs, can_fetch, judged, fate_by, fate_of, step_of, noted}
use Rattle.aqe_scheduler.specs.Tables.{births_on, needed_on, task_on, found_on, done_on, whole_on}
use Rattle.aqe_scheduler.specs.Changes.{settled}
use Rattle.aqe_scheduler.specs.Rest.{rest_by, rest_of}
use Rattle.aqe_scheduler.specs.Stands.{StandsAt, Stands, StandsFor}
use Rattle.aqe_scheduler.proofs.Behind.{held, holders_none}
use Rattle.aqe_scheduler.proofs.Follow.{stands_behind}
use Rattle.aqe_scheduler.proofs.Events.{Fair, event_followed}

-- what is done on the board is what the history says is done
pub done_stands : (board : List Stage) (h : List Step) → Stands board h → (s t : ℕ) → done_on board s t ≡ done h s t
done_stands board h stands s t =
    ap (λ bs. cond (shuffles bs s) (is_some (task_on board s t).on) (task_on board s t).counted) stands.births
    ∙ ap (λ b. cond (shuffles (births h) s) b (task_on board s t).counted) (sym (held h s t (task_on board s t).on (stands.tasks s t).on))
    ∙ ap (λ b. cond (shuffles (births h) s) (available h s t) b) (stands.tasks s t).counted

-- and so are the fates
pub fate_stands : (board : List Stage) (h : List Step) → Stands board h → (event : Event) → fate_by (births_on board) (needed_on board) (done_on board) event ≡ fate_of h event
fate_stands board h stands event = λ i. fate_by (stands.births i) (λ s. stands.needed s i) (λ s t. done_stands board h stands s t i) event

-- a task that is not done has no output
free_at : (h : List Step) (s t : ℕ) (y : Task) → StandsAt h s t y → done h s t ≡ false → y.on ≡ None
free_at h s t y stands free = at (shuffles (births h) s) free
  where
    none_of : (o : Option ExecId) → is_some o ≡ false → o ≡ None
    none_of None gone = refl
    none_of (Some e) gone = absurd (cc)

    empty_of : (o : Option ExecId) → option_to_list o ≡ [] → o ≡ None
    empty_of None gone = refl
    empty_of (Some e) gone = absurd (cc)

    at : (b : Bool) → cond b (available h s t) (counted h s t) ≡ false → y.on ≡ None
    at true gone = none_of y.on (sym (held h s t y.on stands.on) ∙ gone)
    at false gone = empty_of y.on (sym stands.on ∙ holders_none h s t gone)

end_fair : (board : List Stage) (s : StageId) (t : TaskId) (e : ExecId) (reads : Option (List Need)) (n d : Bool) (all_done : ℕ → ℕ → Bool) →
    is_some (found_on board s.0 t.0) ≡ is_some reads → (d ≡ false → (task_on board s.0 t.0).on ≡ None) → Fair board (Ended s t e) (judged reads n d all_done fate.Counted)
end_fair board s t e None n d all_done born free = tt
end_fair board s t e (Some needs) false d all_done born free = tt
end_fair board s t e (Some needs) true true all_done born free = tt
end_fair board s t e (Some needs) true false all_done born free = inputs (has_inputs all_done needs)
  where
    inputs : (i : Bool) → Fair board (Ended s t e) (cond i fate.Counted fate.Starved)
    inputs true = (born, free refl)
    inputs false = tt

fail_fair : (board : List Stage) (s : StageId) (t : TaskId) (e : ExecId) (reads : Option (List Need)) (n d : Bool) (all_done : ℕ → ℕ → Bool) →
    is_some (found_on board s.0 t.0) ≡ is_some reads → Fair board (Failed s t e) (judged reads n d all_done fate.FailCounted)
fail_fair board s t e None n d all_done born = tt
fail_fair board s t e (Some needs) false d all_done born = tt
fail_fair board s t e (Some needs) true true all_done born = tt
fail_fair board s t e (Some needs) true false all_done born = inputs (has_inputs all_done needs)
  where
    inputs : (i : Bool) → Fair board (Failed s t e) (cond i fate.FailCounted fate.Starved)
    inputs true = born
    inputs false = tt

fetch_fair : (board : List Stage) (s : StageId) (t : TaskId) (e : ExecId) (p : StageId) (m : MapId) (reads : Option (List Need)) (n d : Bool) (all_done : ℕ → ℕ → Bool) →
    (is_some reads ≡ true → is_some (slice_get board s.0) ≡ true) → Fair board (Fetch s t e p m) (judged reads n d all_done fate.FetchCounted)
fetch_fair board s t e p m None n d all_done born = tt
fetch_fair board s t e p m (Some needs) false d all_done born = tt
fetch_fair board s t e p m (Some needs) true true all_done born = tt
fetch_fair board s t e p m (Some needs) true false all_done born = inputs (has_inputs all_done needs)
  where
    inputs : (i : Bool) → Fair board (Fetch s t e p m) (cond i fate.FetchCounted fate.Starved)
    inputs true = born refl
    inputs false = tt

-- a task of which a fetch may fail is born, and so is its stage
fetch_born : (born : List Birth) (p m : ℕ) (reads : Option (List Need)) → is_some (can_fetch born p m reads) ≡ true → is_some reads ≡ true
fetch_born born p m (Some needs) so = refl
fetch_born born p m None so = so

stage_born : (board : List Stage) (s t : ℕ) → is_some (found_on board s t) ≡ true → is_some (slice_get board s) ≡ true
stage_born board s t so = at (slice_get board s) so
  where
    at : (o : Option Stage) → is_some (option_and_then (λ stage. slice_get stage.tasks t) o) ≡ true → is_some o ≡ true
    at (Some x) so = refl
    at None so = so

-- the fate of an event is fair
pub fate_fair : (board : List Stage) (h : List Step) → Stands board h → (event : Event) → Fair board event (fate_of h event)
fate_fair board h stands (Ended s t e) =
    end_fair board s t e (task_reads (births h) s.0 t.0) (needed h s.0) (done h s.0 t.0) (done h)
    (stands.room s.0 t.0 ∙ ap (λ bs. is_some (task_reads bs s.0 t.0)) stands.births) (free_at h s.0 t.0 (task_on board s.0 t.0) (stands.tasks s.0 t.0))
fate_fair board h stands (Failed s t e) =
    fail_fair board s t e (task_reads (births h) s.0 t.0) (needed h s.0) (done h s.0 t.0) (done h)
    (stands.room s.0 t.0 ∙ ap (λ bs. is_some (task_reads bs s.0 t.0)) stands.births)
fate_fair board h stands (Lost e) = tt
fate_fair board h stands (Fetch s t e p m) =
    fetch_fair board s t e p m (can_fetch (births h) p.0 m.0 (task_reads (births h) s.0 t.0)) (needed h s.0) (done h s.0 t.0) (done h)
    (λ so. stage_born board s.0 t.0 (stands.room s.0 t.0 ∙ ap (λ bs. is_some (task_reads bs s.0 t.0)) stands.births
    ∙ fetch_born (births h) p.0 m.0 (task_reads (births h) s.0 t.0) so))

pub noted_more : (entries : List Entry) (entry : Entry) → noted (entries ++ entry ∷ []) ≡ noted entries ++ step_of (noted entries) entry ∷ []
noted_more entries entry = fold-append (λ h x. h ++ step_of h x ∷ []) [] entries (entry ∷ [])

-- what `take` promises
pub taken : (before after : List Stage) (event : Event) (f : Fate) → f ≡ fate_by (births_on before) (needed_on before) (done_on before) event → after ≡ settled event f before →
    (entries : List Entry) → StandsFor before entries → (f ≡ fate_of (noted entries) event) × StandsFor after (entries ++ Happens event ∷ [])
taken before after event f fate_is after_is entries stands =
    let right : f ≡ fate_of (noted entries) event = fate_is ∙ fate_stands before (noted entries) stands event in
    let made : after ≡ settled event (fate_of (noted entries) event) before = after_is ∙ ap (λ g. settled event g before) right in
    let behind : Stands (settled event (fate_of (noted entries) event) before) (noted entries ++ Happened event (fate_of (noted entries) event) ∷ []) =
    stands_behind before _ (noted entries) (Happened event (fate_of (noted entries) event)) stands
    (event_followed before event (fate_of (noted entries) event) (fate_fair before (noted entries) stands event)) in (
      right,
      subst (λ b. Stands b (noted (entries ++ Happens event ∷ []))) (sym made)
          (subst (λ h. Stands (settled event (fate_of (noted entries) event) before) h) (sym (noted_more entries (Happens event))) behind),
    )

-- and so is the rest
pub rest_stands : (board : List Stage) (h : List Step) → Stands board h → rest_by (births_on board) (needed_on board) (done_on board) ≡ rest_of h
rest_stands board h stands = λ i. rest_by (stands.births i) (λ s. stands.needed s i) (λ s t. done_stands board h stands s t i)

-- and which stages are whole
pub whole_stands : (board : List Stage) (h : List Step) → Stands board h → (s : ℕ) → whole_on board s ≡ whole h s
whole_stands board h stands s = λ i. is_some (slice_get (stands.births i) s) && list_all (λ t. done_stands board h stands s t i) (range_with_len 0 (task_count (stands.births i) s))
