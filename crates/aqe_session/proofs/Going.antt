-- A session goes from a state of a query to a later one.
use Rattle.std.proofs.Common.{◌≡◌, refl, ap, sym, ◌∙◌, ℕ, Bool, true, false, cond, Some, None, slice_get}
use Rattle.std.specs.Option.{option_map}
use Rattle.aqe_base.specs.declared.stage_id.StageId.{StageId}
use Rattle.aqe_base.specs.declared.ids.TaskId.{TaskId}
use Rattle.aqe_base.specs.declared.event.Event.{Event}
use Rattle.aqe_scheduler.specs.Rest.{rest_of, rest_ending}
use Rattle.aqe_endings.proofs.Endings.{next_may_end}
use Rattle.aqe_journal.specs.Asked.{Asked}
use Rattle.aqe_journal.specs.States.{State, history, position, with_event, with_marks, is_turning}
use Rattle.aqe_journal.specs.LegalRecord.{one_on, Takes, goes_on, turns, never, is_done, reached, next_event, event_or_rest}
use Rattle.aqe_journal.specs.declared.record.Finish.TheVariants.{Done}
use Rattle.aqe_calm.specs.Laws.{Reaches}
use Rattle.aqe_calm.proofs.CalmStates.{calm_event}
use Rattle.aqe_calm.proofs.RestRuns.{rest_runs_calm, whole_turn, end_done}
use Rattle.aqe_steps.specs.declared.run.Run.{Run}
use Rattle.aqe_session.specs.Query.{Stands, Ends}
use Rattle.aqe_steps.proofs.Ended.{shows_ended}
use Rattle.aqe_steps.proofs.Turned.{shows_turned, turned_to}

-- the next event of a run in which nothing but the rest ends tasks
rest_next : (asked : Asked) (now : State) (place : ℕ × ℕ) → Reaches asked now → rest_of (history now) ≡ Some place → next_event asked now ≡ Some (rest_ending place)
rest_next asked now place r next =
    (λ i. event_or_rest (slice_get (r.alone.0 i) (position now)) (r.alone.1 i) (history now)) ∙ ap (option_map rest_ending) next

taken : (asked : Asked) (now : State) (event : Event) (turned : Bool) → is_turning now event ≡ turned → Takes asked now event (with_marks (turned_to turned (with_event now event)))
taken asked now event true e = turns now (with_event now event) event e (never (with_event now event) refl)
taken asked now event false e = goes_on now event e

pub goes : (asked : Asked) (run new : Run) (stage : StageId) (task : TaskId) (s : Stands asked run) → rest_of (history s.now) ≡ Some (stage.0, task.0) → is_done s.now ≡ false → Ends asked.tables run new stage task → Stands asked new
goes asked run new stage task s next undone e =
    let now = s.now in
    let place : ℕ × ℕ = (stage.0, task.0) in
    let event = rest_ending place in
    let calm = rest_runs_calm asked now s.reaches in
    let first = calm.0 in
    let m = next_may_end (history now) place next in
    let ended = shows_ended asked first now stage task run e.ended e.noted e.is_turning calm.2 m s.shows e.ends e.notes in
    let turning : is_turning now event ≡ e.is_turning = whole_turn asked now place s.reaches next ∙ sym ended.1 in
    let unreached : reached asked now ≡ None = end_done asked now s.range s.reaches ∙ ap (λ b. cond b (Some Done) None) undone in
    record {
      now = with_marks (turned_to e.is_turning (with_event now event));
      range = s.range;
      reaches = record {
        sound = s.reaches.sound;
        alone = s.reaches.alone;
        runs = one_on now (with_marks (turned_to e.is_turning (with_event now event))) event s.reaches.runs unreached (rest_next asked now place s.reaches next) (taken asked now event e.is_turning turning);
      };
      shows = shows_turned asked first (with_event now event) e.noted new e.is_turning (calm_event asked first now place calm.2 m) ended.0 e.turns;
    }
