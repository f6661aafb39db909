-- A query from its plan to its record.
use Rattle.std.proofs.Common.{◌≡◌, refl, ap, sym, subst, ◌∙◌, true, cond, ℕ, List, [], ◌++◌, map, length, Some, None, Result, Ok, Err, inl, inr}
use Rattle.std.proofs.lemmas.List.{append-nil}
use Rattle.std.specs.Prelude.{IfOk}
use Rattle.aqe_base.specs.declared.stage_id.StageId.{StageId}
use Rattle.aqe_base.specs.declared.ids.TaskId.{TaskId}
use Rattle.aqe_base.specs.declared.event.Event.{Event}
use Rattle.aqe_base.specs.declared.memory.Memory.{Memory}
use Rattle.aqe_logical.specs.declared.plan.Logical.{Logical}
use Rattle.aqe_logical.specs.Answers.{Tables}
use Rattle.aqe_settings.specs.declared.entry.Value.{Value}
use Rattle.aqe_settings.specs.Ranges.{InRange}
use Rattle.aqe_tables.specs.Loaded.{Slots}
use Rattle.aqe_estimates.specs.LoadedTables.{tables_of}
use Rattle.aqe_estimates.specs.Estimates.{estimates_of}
use Rattle.aqe_journal.specs.declared.record.QueryRecord.{QueryRecord}
use Rattle.aqe_journal.specs.declared.record.Finish.TheVariants as finish
use Rattle.aqe_journal.specs.Asked.{Asked}
use Rattle.aqe_journal.specs.LegalRecord.{Finishes, Legal}
use Rattle.aqe_journal.specs.LegalRecord.Finishes.{at_end}
use Rattle.aqe_journal.specs.LegalRecord as legal
use Rattle.aqe_journal.proofs.Answers.{rows_answer, versions_stand}
use Rattle.aqe_calm.proofs.RestRuns.{end_done}
use Rattle.aqe_steps.specs.declared.run.Run.{Run}
use Rattle.aqe_steps.specs.Begun.{Begins}
use Rattle.aqe_steps.specs.Runs.{IsSteadyRun, Turns}
use Rattle.aqe_session.specs.declared.query.Rest.{Rest}
use Rattle.aqe_session.specs.declared.query.Rest.TheVariants as rest
use Rattle.aqe_session.specs.declared.query.QueryEnd.{QueryEnd}
use Rattle.aqe_session.specs.declared.query.QueryEnd.TheVariants as end
use Rattle.aqe_session.specs.Finished as spec
use Rattle.aqe_session.specs.Query.{AnswersReady, CanBeAsked, CarriesOut, EndsQuery, HasRunAll, IsAddedOf, IsAlone, IsAnswered, IsDone, IsDoneFor, IsDoneOrMemory, IsReady, IsReadyFor, IsRunning, Stands, asked_of, ran_of}
use Rattle.aqe_session.proofs.Begun.{begun_steady, stands_begun}
use Rattle.aqe_session.proofs.Finished.{can_finish, shows_done}
use Rattle.aqe_session.proofs.Looping.{turns_runs}
use Rattle.aqe_session.proofs.Sound.{plan_few, sound}

-- the first turn of a query for which the session is ready
pub ready_steady : (tables : Tables) (run : Run) → IsReady tables run → IsSteadyRun run
ready_steady tables run r = begun_steady r.asked run r.ready.begins r.ready.few

stands_ready : (asked : Asked) (run new : Run) → IsReadyFor asked run → Turns run new true → Stands asked new
stands_ready asked run new r t = stands_begun asked run new r.sound r.alone r.range r.begins r.few t

pub ready_running : (tables : Tables) (run new : Run) → IsReady tables run → Turns run new true → IsRunning tables new
ready_running tables run new r t = record { asked = r.asked; over = r.over; stands = stands_ready r.asked run new r.ready t }

pub carries_out : (tables : Tables) (run turned new : Run) → Turns run turned true → IsDone tables turned new → CarriesOut tables run new
carries_out tables run turned new t done asked over ready = done asked over (stands_ready asked run turned ready t)

pub ran_turned : (run turned new : Run) (before after : List (StageId × TaskId)) → Turns run turned true → HasRunAll before turned.runs after new.runs → HasRunAll before run.runs after new.runs
ran_turned run turned new before after t ran front e = ran front (e ∙ ap (λ runs. front ++ map ran_of runs) (sym (turns_runs run turned true t)))

-- what holds of one record holds of another that is the same
module _ (asked : Asked) (run : Run) (query : ℕ) (note : QueryRecord) (d : IsDoneFor asked run) (is : note ≡ spec.record_of query run) where
  shown : note ≡ legal.record_of query asked d.stands.now finish.Done
  shown = is ∙ shows_done asked d.stands.now run d.stands.shows d.stands.reaches d.done query

  number_is : note.query ≡ query
  number_is = ap (λ (n : QueryRecord). n.query) shown

  finish_is : note.finish ≡ finish.Done
  finish_is = ap (λ (n : QueryRecord). n.finish) shown

  legal_is : Legal note asked
  legal_is = record {
    last = d.stands.now;
    runs = d.stands.reaches.runs;
    ends = subst (λ f. Finishes asked d.stands.now f) (sym finish_is) (at_end finish.Done (end_done asked d.stands.now d.stands.range d.stands.reaches ∙ ap (λ b. cond b (Some finish.Done) None) d.done));
    shows = shown ∙ (λ i. legal.record_of (sym number_is i) asked d.stands.now (sym finish_is i));
  }

  runs_are : note.runs ≡ run.runs
  runs_are = ap (λ (n : QueryRecord). n.runs) is

  pub answered_done : (before after : List (StageId × TaskId)) → after ≡ before ++ map ran_of run.runs → IsAnswered asked query before after note
  answered_done before after ran = record {
    number = number_is;
    finish = finish_is;
    answers = record {
      legal = legal_is;
      versions = versions_stand asked note d.stands.reaches.sound legal_is;
      rows = rows_answer asked note d.stands.reaches.sound legal_is;
    };
    ran = ran ∙ ap (λ runs. before ++ map ran_of runs) (sym runs_are);
  }

-- a query for which the session is ready, and which was carried out, has its record
pub answers_ready : (tables : Tables) (run new : Run) (query : ℕ) (before after : List (StageId × TaskId)) (r : Result QueryRecord Memory) → CarriesOut tables run new → HasRunAll before run.runs after new.runs →
    IfOk r (λ note. note ≡ spec.record_of query new) → IfOk r (AnswersReady tables run query before after)
answers_ready tables run new query before after (Err e) out ran is = tt
answers_ready tables run new query before after (Ok note) out ran is = λ asked over ready.
    answered_done asked new query note (out asked over ready) is before after (ran before (sym (append-nil before) ∙ ap (λ runs. before ++ map ran_of runs) (sym ready.begins.runs)))

pub can_finish_ready : (tables : Tables) (run new : Run) → IsReady tables run → CarriesOut tables run new → spec.CanFinish new
can_finish_ready tables run new r out =
    let d = out r.asked r.over r.ready in
    can_finish r.asked d.stands.now new d.stands.shows d.stands.reaches d.done

-- a query that may be asked
module _ (query : Logical) (slots : Slots) (settings : List Value) (can : CanBeAsked query slots) where
  abbrev asked : Asked
  asked = asked_of query slots settings [] rest.Run

  pub ready : (run : Run) → InRange settings → Begins query (estimates_of slots query) settings run → IsReadyFor asked run
  ready run range begins = record {
    sound = sound asked slots refl refl can.built can.formed can.loaded can.wide range;
    alone = (refl, refl);
    range = range;
    begins = begins;
    few = plan_few slots query can.loaded settings run.versions.plan range can.built can.formed begins.fits;
  }

  pub is_ready : (run : Run) → InRange settings → Begins query (estimates_of slots query) settings run → IsReady (tables_of slots) run
  is_ready run range begins = record { asked = asked; over = refl; ready = ready run range begins }

  pub answered_is : (run : Run) (number : ℕ) (before after : List (StageId × TaskId)) (r : Result QueryRecord Memory) → InRange settings → Begins query (estimates_of slots query) settings run →
      IfOk r (AnswersReady (tables_of slots) run number before after) → IfOk r (IsAnswered asked number before after)
  answered_is run number before after (Err e) range begins h = tt
  answered_is run number before after (Ok note) range begins h = h asked refl (ready run range begins)

  -- it adds its record
  pub ends_query : (events : List Event) (left : Rest) (old new : List QueryRecord) (before after : List (StageId × TaskId)) (r : Result QueryRecord Memory) (told : QueryEnd) → IsAlone events left →
      IfOk r (IsAnswered asked (length old) before after) → IsAddedOf r old new told → EndsQuery (asked_of query slots settings events left) old new before after told
  ends_query events left old new before after r told (none, run) h added =
      subst (λ l. EndsQuery (asked_of query slots settings events l) old new before after told) (sym run) (subst (λ es. EndsQuery (asked_of query slots settings es rest.Run) old new before after told) (sym none) (by r told h added))
    where
      by : (r : Result QueryRecord Memory) (told : QueryEnd) → IfOk r (IsAnswered asked (length old) before after) → IsAddedOf r old new told → EndsQuery asked old new before after told
      by (Ok note) end.Done h is = record { note = note; grown = is; number = h.number; finish = h.finish; answers = h.answers; ran = h.ran }
      by (Ok note) end.Memory h is = is
      by (Ok note) (end.Aborted s t) h is = absurd is
      by (Ok note) (end.StageAborted s) h is = absurd is
      by (Ok note) (end.Unfinished s t) h is = absurd is
      by (Err e) told h (same, memory) = subst (λ t. EndsQuery asked old new before after t) (sym memory) same

pub done_or_memory : (r : Result QueryRecord Memory) (old new : List QueryRecord) (told : QueryEnd) → IsAddedOf r old new told → IsDoneOrMemory told
done_or_memory (Ok note) old new end.Done is = inl refl
done_or_memory (Ok note) old new end.Memory is = inr refl
done_or_memory (Ok note) old new (end.Aborted s t) is = absurd is
done_or_memory (Ok note) old new (end.StageAborted s) is = absurd is
done_or_memory (Ok note) old new (end.Unfinished s t) is = absurd is
done_or_memory (Err e) old new told (same, memory) = inr memory
