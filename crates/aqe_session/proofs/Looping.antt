-- From one ending to the next, up to the end.
use Rattle.std.proofs.Common.{◌≡◌, refl, ap, sym, subst, ◌∙◌, ◌<◌, zero, suc, ℕ, Bool, true, false, List, [], ◌∷◌, ◌++◌, map, length, arith, Option, Some, None, slice_get}
use Rattle.std.specs.Option.{option_map}
use Rattle.std.proofs.lemmas.List.{append_assoc, map_push}
use Rattle.aqe_base.specs.declared.stage_id.StageId.{StageId}
use Rattle.aqe_base.specs.declared.ids.TaskId.{TaskId}
use Rattle.aqe_logical.specs.Answers.{Tables}
use Rattle.aqe_making.specs.Makings.{Making}
use Rattle.aqe_task.specs.Tasks.{HasRun}
use Rattle.aqe_scheduler.specs.History.{Entry}
use Rattle.aqe_scheduler.specs.Fates.{noted}
use Rattle.aqe_scheduler.specs.Rest.{rest_of}
use Rattle.aqe_scheduler.specs.Stands.{StandsFor}
use Rattle.aqe_endings.proofs.Endings.{next_may_end}
use Rattle.aqe_journal.specs.declared.record.RunNote.{RunNote}
use Rattle.aqe_journal.specs.Asked.{Asked}
use Rattle.aqe_journal.specs.States.{history}
use Rattle.aqe_journal.specs.LegalRecord.{is_done}
use Rattle.aqe_calm.proofs.RestRuns.{rest_runs_calm}
use Rattle.aqe_calm.proofs.Progress.{tasks_left}
use Rattle.aqe_steps.specs.declared.run.Run.{Run}
use Rattle.aqe_steps.specs.Endings.{CanEnd, EndsTask, NotesWhole}
use Rattle.aqe_steps.specs.Runs.{IsSteadyRun, MakesAll, none, one_more, Turns}
use Rattle.aqe_session.specs.Query.{ran_of, HasRunAll, is_whole_in, Stands, IsRunning, IsOpen, IsNext, Ends, Goes, IsDone}
use Rattle.aqe_steps.proofs.Ended.{can_end, shows_ended}
use Rattle.aqe_session.proofs.Finished.{done_is}
use Rattle.aqe_session.proofs.Going.{goes}

made_runs : (run new : Run) (done : List Making) → MakesAll run done new → new.runs ≡ run.runs
made_runs run new done none = refl
made_runs run new done (one_more makings making rest mid last made ready m) = m.stays.runs ∙ made_runs run mid makings made

pub turns_runs : (old new : Run) (is_turning : Bool) → Turns old new is_turning → new.runs ≡ old.runs
turns_runs old new true t = t.marks.stays.runs ∙ made_runs old t.between _ t.makes
turns_runs old new false t = t.marks.stays.runs ∙ ap (λ r. r.runs) (sym t.makes)

-- what a runner ran for one ending
pub ran_once : (tables : Tables) (old ended noted new : Run) (stage : StageId) (task : TaskId) (is_turning : Bool) (before after : List (StageId × TaskId)) → EndsTask tables old ended stage task →
    NotesWhole ended noted stage is_turning → Turns noted new is_turning → HasRun before after stage task.0 → HasRunAll before old.runs after new.runs
ran_once tables old ended noted new stage task is_turning before after e n t has front is =
    let note : RunNote = record { position = length ended.fates; stage = stage; task = task } in
    has ∙ ap (λ r. r ++ (stage, task) ∷ []) is ∙ append_assoc front (map ran_of old.runs) ((stage, task) ∷ [])
    ∙ ap (λ r. front ++ r) (sym (ap (map ran_of) (turns_runs noted new is_turning t ∙ n.runs ∙ e.runs) ∙ map_push ran_of old.runs note))

pub next_can_end : (tables : Tables) (run : Run) (stage : StageId) (task : TaskId) → IsNext tables run stage task → CanEnd tables run stage task.0
next_can_end tables run stage task n =
    let asked = n.running.asked in
    let s = n.running.stands in
    let calm = rest_runs_calm asked s.now s.reaches in
    subst (λ t. CanEnd t run stage task.0) n.running.over (can_end asked calm.0 s.now stage task run calm.2 (next_may_end (history s.now) (stage.0, task.0) n.next) s.shows)

get_below : {X : Type 0} (xs : List X) (i : ℕ) (x : X) → slice_get xs i ≡ Some x → i < length xs
get_below [] i x e = absurd (never e)
  where
    never : None ≡ Some x → ⊥
    never c = cc (c)
get_below (y ∷ ys) zero x e = omega arith
get_below (y ∷ ys) (suc i) x e = let rest = get_below ys i x e in omega (arith, rest)

pub ended_below : (tables : Tables) (run ended : Run) (stage : StageId) (task : TaskId) → IsNext tables run stage task → EndsTask tables run ended stage task → stage.0 < length ended.stages.items
ended_below tables run ended stage task n e =
    let can = next_can_end tables run stage task n in
    subst (λ stages. stage.0 < length stages.items) (sym e.stages) (get_below run.stages.items stage.0 can.note can.there)

pub steady_noted : (tables : Tables) (run ended noted : Run) (stage : StageId) (task : TaskId) (is_turning : Bool) → IsNext tables run stage task → EndsTask tables run ended stage task → NotesWhole ended noted stage is_turning →
    IsSteadyRun noted
steady_noted tables run ended noted stage task is_turning n e w =
    let asked = n.running.asked in
    let s = n.running.stands in
    let calm = rest_runs_calm asked s.now s.reaches in
    (shows_ended asked calm.0 s.now stage task run ended noted is_turning calm.2 (next_may_end (history s.now) (stage.0, task.0) n.next) s.shows (subst (λ t. EndsTask t run ended stage task) (sym n.running.over) e) w).0.steady

abbrev pub place_of : StageId × TaskId → ℕ × ℕ
place_of p = (p.0.0, p.1.0)

-- what the board answers is the rest of each history that it stands for
abbrev pub TellsNext : Run → Option (StageId × TaskId) → Type 0
TellsNext run told = (h : List Entry) → StandsFor run.board h → option_map place_of told ≡ rest_of (noted h)

pub is_next : (tables : Tables) (run : Run) (told : Option (StageId × TaskId)) (stage : StageId) (task : TaskId) → IsOpen tables run → TellsNext run told → told ≡ Some (stage, task) → IsNext tables run stage task
is_next tables run told stage task o next is = record {
  running = o.running;
  next = sym (next o.running.stands.now.entries o.running.stands.shows.board) ∙ ap (option_map place_of) is;
}

pub never_none : (tables : Tables) (run : Run) (told : Option (StageId × TaskId)) → IsOpen tables run → TellsNext run told → told ≡ None → ⊥
never_none tables run told o next is =
    let s = o.running.stands in
    tasks_left o.running.asked s.now s.reaches o.undone (sym (next s.now.entries s.shows.board) ∙ ap (option_map place_of) is)

pub goes_on : (tables : Tables) (run new : Run) (told : Option (StageId × TaskId)) (stage : StageId) (task : TaskId) → TellsNext run told → told ≡ Some (stage, task) → Ends tables run new stage task → Goes tables run new
goes_on tables run new told stage task next is ends asked over stands undone =
    goes asked run new stage task stands (sym (next stands.now.entries stands.shows.board) ∙ ap (option_map place_of) is) undone (subst (λ t. Ends t run new stage task) (sym over) ends)

-- a session that began with a run came to another one
pub record RunsTo (tables : Tables) (entry now : Run) (before after : List (StageId × TaskId)) : Type 0 where
  pub running : IsRunning tables now
  pub stays : (asked : Asked) → asked.tables ≡ tables → Stands asked entry → Stands asked now
  pub ran : HasRunAll before entry.runs after now.runs

-- what is told of the result is told of each history that the board stands for
abbrev pub TellsDone : Run → Bool → Type 0
TellsDone run told = (h : List Entry) → StandsFor run.board h → told ≡ is_whole_in (noted h) run.result

done_by : (run : Run) (told : Bool) (asked : Asked) (s : Stands asked run) → TellsDone run told → is_done s.now ≡ told
done_by run told asked s tells = sym (done_is asked s.now run s.shows) ∙ sym (tells s.now.entries s.shows.board)

pub runs_begun : (tables : Tables) (run : Run) (ran : List (StageId × TaskId)) → IsRunning tables run → RunsTo tables run run ran ran
runs_begun tables run ran r = record { running = r; stays = λ asked over s. s; ran = λ before is. is }

pub runs_open : (tables : Tables) (entry now : Run) (before after : List (StageId × TaskId)) (told : Bool) → RunsTo tables entry now before after → TellsDone now told → told ≡ false → IsOpen tables now
runs_open tables entry now before after told r tells is = record { running = r.running; undone = done_by now told r.running.asked r.running.stands tells ∙ is }

pub runs_more : (tables : Tables) (entry now new : Run) (before after later : List (StageId × TaskId)) (told : Bool) → RunsTo tables entry now before after → TellsDone now told → told ≡ false →
    Goes tables now new → HasRunAll after now.runs later new.runs → RunsTo tables entry new before later
runs_more tables entry now new before after later told r tells is going ran = record {
  running = record {
    asked = r.running.asked;
    over = r.running.over;
    stands = going r.running.asked r.running.over r.running.stands (done_by now told r.running.asked r.running.stands tells ∙ is);
  };
  stays = λ asked over s. going asked over (r.stays asked over s) (done_by now told asked (r.stays asked over s) tells ∙ is);
  ran = λ front e. ran front (r.ran front e);
}

pub runs_done : (tables : Tables) (entry now : Run) (before after : List (StageId × TaskId)) (told : Bool) → RunsTo tables entry now before after → TellsDone now told → told ≡ true → IsDone tables entry now
runs_done tables entry now before after told r tells is asked over s = record {
  stands = r.stays asked over s;
  done = done_by now told asked (r.stays asked over s) tells ∙ is;
}
