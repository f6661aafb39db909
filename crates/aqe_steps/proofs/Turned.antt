-- A session shows the state behind a turn: stages are made where the position is a turning point, and each stage is marked.
use Rattle.std.proofs.Common.{◌≡◌, refl, ap, sym, subst, ◌∙◌, ◌≤◌, ◌^◌, ◌||◌, ℕ, Bool, true, false, List, [], ◌∷◌, ◌++◌, length, fold, slice_index_or, slice_get, cond, Some, None}
use Rattle.std.proofs.lemmas.List.Sums.{fold-append}
use Rattle.aqe_blocks.specs.Kept.{output_at, kept_of}
use Rattle.aqe_physical.specs.declared.plan.Plan.{Plan}
use Rattle.aqe_physical.specs.Counts.{PartsFit}
use Rattle.aqe_stages.specs.Stages.{Stage}
use Rattle.aqe_stages.specs.Parts.{cells}
use Rattle.aqe_making.specs.Makings.{Making, all_makings}
use Rattle.aqe_scheduler.specs.History.{Step, Marked}
use Rattle.aqe_scheduler.specs.Looks.{counted, whole}
use Rattle.aqe_scheduler.specs.Fates.{fates}
use Rattle.aqe_scheduler.specs.Stands.{StandsFor}
use Rattle.aqe_scheduler.proofs.Behind.{counted_more}
use Rattle.aqe_endings.specs.Peace.{first_whole}
use Rattle.aqe_endings.proofs.Wholes.{first_quiet, fates_quiet, whole_marked}
use Rattle.aqe_replan.specs.Seen.{listed}
use Rattle.aqe_replan.specs.Versions.{ready_of}
use Rattle.aqe_journal.specs.Asked.{Asked}
use Rattle.aqe_journal.specs.Needed.{needed_stages}
use Rattle.aqe_journal.specs.States.{State, history, is_whole, materialised_at, with_stage, with_marks, marks_of}
use Rattle.aqe_journal.specs.LegalRecord.{settled, births_from, runs_from}
use Rattle.aqe_needs.specs.Noted.{stages_of, BodiesFit}
use Rattle.aqe_calm.specs.Calm.{Calm}
use Rattle.aqe_calm.proofs.CalmStates.{calm_with_marks}
use Rattle.aqe_calm.proofs.Progress.{marks_keep}
use Rattle.aqe_calm.proofs.Consequences.{materialised_whole}
use Rattle.aqe_steps.specs.declared.run.Run.{Run}
use Rattle.aqe_steps.specs.Runs.{MakesAll, none, one_more, Marks, Turns, made_stages}
use Rattle.aqe_steps.specs.Shows.{Shows, KeptOf, is_at, bare_note}
use Rattle.aqe_steps.proofs.Made.{shows_made}
use Rattle.aqe_steps.proofs.Notes.{noted_same, stages_noted}
use Rattle.aqe_steps.proofs.Recorded.{births_marked, runs_marked}

or_false : (b : Bool) → (b || false) ≡ b
or_false true = refl
or_false false = refl

module _ (asked : Asked) (first : Plan) (now : State) (run new : Run) (c : Calm asked first now) (shows : Shows asked now run) (m : Marks run new) where
  abbrev next : State
  next = with_marks now

  keeps : {X : Type 0} (f : List Step → X) → ((h : List Step) (s : ℕ) (mark : Bool) → f (h ++ Marked s mark ∷ []) ≡ f h) → f (history next) ≡ f (history now)
  keeps f one = marks_keep f one 0 (needed_stages (is_whole now) now.plan now.stages) now.entries

  made_are : made_stages run ≡ now.stages
  made_are = ap stages_of shows.stages ∙ stages_noted (bare_note now) 0 now.stages (λ s stage. refl)

  whole_same : (s : ℕ) → is_whole next s ≡ is_whole now s
  whole_same s = keeps (λ h. whole h s) (λ h k mark. whole_marked h k mark s)

  done_same : (s : ℕ) → materialised_at next s ≡ materialised_at now s
  done_same s = keeps (λ h. first_whole h s) (λ h k mark. first_quiet h (Marked k mark) s tt (whole_marked h k mark s))

  note_same : (s : ℕ) (stage : Stage) → bare_note now s stage ≡ bare_note next s stage
  note_same s stage =
      λ i. record { kind = stage.kind; body = stage.body; born = slice_index_or (sym (keeps (births_from 0) (λ h k mark. births_marked 0 h k mark)) i) s 0; done = sym (done_same s) i; outputs = [] }

  counted_same : (s t : ℕ) → counted (history next) s t ≡ counted (history now) s t
  counted_same s t = keeps (λ h. counted h s t) (λ h k mark. counted_more h (Marked k mark) s t ∙ or_false (counted h s t))

  shows_marked : Shows asked next new
  shows_marked = record {
    steady = record {
      born = ap (λ bs. length bs) m.births ∙ shows.steady.born ∙ sym (ap (λ stages. length stages.items) m.stages);
      few = subst (λ stages. length stages.items ≤ 2 ^ 32) (sym m.stages) shows.steady.few;
      parts = subst (λ v. PartsFit v.plan) (sym m.versions) shows.steady.parts;
      bodies = subst (λ stages. BodiesFit stages.items) (sym m.stages) shows.steady.bodies;
      fresh = λ n le. ap (λ list. listed list n) m.stays.whole ∙ shows.steady.fresh n (subst (λ stages. length stages.items ≤ n) m.stages le);
    };
    plan = ap (λ v. v.plan) m.versions ∙ shows.plan;
    has_result = ap (λ v. v.has_result) m.versions ∙ shows.has_result;
    adopted = m.stays.adopted ∙ shows.adopted;
    board = subst (λ marks. StandsFor new.board (now.entries ++ marks_of 0 marks)) (λ i. needed_stages (is_whole now) (shows.plan i) (made_are i)) (m.stands now.entries shows.board);
    stages = ap (λ stages. stages.items) m.stages ∙ shows.stages ∙ noted_same (bare_note now) (bare_note next) 0 now.stages (λ s stage low high. note_same s stage);
    whole = λ s. ap (λ list. listed list s) m.stays.whole ∙ shows.whole s ∙ materialised_whole asked first now c s
        ∙ sym (materialised_whole asked first next (calm_with_marks asked first now c) s ∙ whole_same s);
    result = λ s. shows.result s ∙ ap (λ o. is_at o s) (sym m.result);
    outputs = λ s t. ap (λ outputs. output_at outputs s t) m.stays.outputs ∙ shows.outputs s t ∙ ap (λ b. cond b (Some (slice_index_or (cells asked.tables now.stages s) t [])) None) (sym (counted_same s t));
    cells = λ s. subst (λ outputs. KeptOf (slice_get now.stages s) (kept_of outputs s)) (sym m.stays.outputs) (shows.cells s);
    fates = m.stays.fates ∙ shows.fates ∙ sym (keeps fates (λ h k mark. fates_quiet h (Marked k mark) tt));
    runs = m.stays.runs ∙ shows.runs ∙ sym (keeps (runs_from 0) (λ h k mark. runs_marked 0 h k mark));
  }

-- stages were made one after the other
all_made : (asked : Asked) (first : Plan) (now : State) (run new : Run) (done : List Making) → Calm asked first now → Shows asked now run → MakesAll run done new →
    Calm asked first (fold with_stage now done) × Shows asked (fold with_stage now done) new
all_made asked first now run new done c shows none = (c, shows)
all_made asked first now run new done c shows (one_more makings making rest mid last made ready m) =
    let before = all_made asked first now run mid makings c shows made in
    let next = shows_made asked first (fold with_stage now makings) making rest mid new before.0 before.1 ready m in
    subst (λ (s : State). Calm asked first s × Shows asked s new) (sym (fold-append with_stage now makings (making ∷ []))) next

settled_is : (asked : Asked) (now : State) (run : Run) → Shows asked now run → fold with_stage now (ready_of run.whole run.versions) ≡ settled now
settled_is asked now run shows = λ i. fold with_stage now (all_makings (λ s. shows.whole s i) (shows.has_result i) (shows.plan i))

-- the state behind a turn
abbrev pub turned_to : Bool → State → State
turned_to true now = settled now
turned_to false now = now

pub shows_turned : (asked : Asked) (first : Plan) (now : State) (run new : Run) (is_turning : Bool) → Calm asked first now → Shows asked now run → Turns run new is_turning → Shows asked (with_marks (turned_to is_turning now)) new
shows_turned asked first now run new true c shows t =
    let made = all_made asked first now run t.between (ready_of run.whole run.versions) c shows t.makes in
    let there = subst (λ (s : State). Calm asked first s × Shows asked s t.between) (settled_is asked now run shows) made in
    shows_marked asked first (settled now) t.between new there.0 there.1 t.marks
shows_turned asked first now run new false c shows t =
    shows_marked asked first now t.between new c (subst (Shows asked now) t.makes shows) t.marks
