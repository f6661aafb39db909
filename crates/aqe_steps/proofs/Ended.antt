-- A session shows the state behind the ending of the task that may end next.
use Rattle.std.proofs.Common.{◌≡◌, refl, ap, sym, subst, ◌∙◌, ◌≤◌, ◌<◌, ◌+◌, ◌==◌, zero, suc, ℕ, Bool, true, false, cond, ◌&&◌, ◌||◌, List, [], ◌∷◌, ◌++◌, length, arith, Option, Some, None, is_some, slice_get, slice_index_or, length-append, inl, inr}
use Rattle.std.specs.Prelude.{All, ◌⊎◌}
use Rattle.std.specs.Option.{unwrap_or, option_or, option_map}
use Rattle.std.specs.Ordering.{nat_cmp}
use Rattle.std.proofs.lemmas.Bool.{cases_Bool, cases_eq, eqb-true}
use Rattle.std.proofs.lemmas.List.Elements.{All-cons, All-head, All-tail, filter_map-append}
use Rattle.std.proofs.lemmas.Map.Views.{All-values-insert_entry}
use Rattle.aqe_base.specs.declared.stage_id.StageId.{StageId}
use Rattle.aqe_base.specs.declared.ids.TaskId.{TaskId}
use Rattle.aqe_blocks.specs.Cells.{CellData}
use Rattle.aqe_blocks.specs.Kept.{HaveCells, kept_of, output_at, with_output}
use Rattle.aqe_physical.specs.declared.plan.Plan.{Plan}
use Rattle.aqe_physical.specs.Counts.{PartsFit}
use Rattle.aqe_stages.specs.Stages.{Stage, Stages}
use Rattle.aqe_stages.specs.Parts.{cells, parts, given_by, out}
use Rattle.aqe_stages.specs.Runnable.{reducers_of}
use Rattle.aqe_task.specs.Tasks.{IsServedTask, GivesTask}
use Rattle.aqe_scheduler.specs.declared.fate.Fate.TheVariants as fate
use Rattle.aqe_scheduler.specs.History.{Step, Happens, Happened}
use Rattle.aqe_scheduler.specs.Looks.{counted, whole}
use Rattle.aqe_scheduler.specs.Fates.{fates, fate_in}
use Rattle.aqe_scheduler.specs.Rest.{rest_ending}
use Rattle.aqe_scheduler.specs.Stands.{StandsFor}
use Rattle.aqe_scheduler.specs.Tables.{births_on, edited}
use Rattle.aqe_scheduler.proofs.Behind.{any_more, counted_more}
use Rattle.aqe_scheduler.proofs.Edits.{length_edited}
use Rattle.aqe_endings.specs.Peace.{happened, first_whole}
use Rattle.aqe_endings.proofs.Wholes.{first_event}
use Rattle.aqe_endings.proofs.Endings.{MayEnd, next_counts, whole_other}
use Rattle.aqe_replan.specs.Seen.{listed}
use Rattle.aqe_journal.specs.declared.record.StageNote.{StageNote}
use Rattle.aqe_journal.specs.Asked.{Asked}
use Rattle.aqe_journal.specs.States.{State, history, with_event, is_whole, is_materialised, materialised_at}
use Rattle.aqe_journal.specs.LegalRecord.{births_from, runs_from}
use Rattle.aqe_needs.specs.Noted.{BodyFits, BodiesFit}
use Rattle.aqe_calm.specs.Calm.{Calm}
use Rattle.aqe_calm.specs.Forms.{IsCarriedOut}
use Rattle.aqe_calm.proofs.Calm.{stage_there, not_whole}
use Rattle.aqe_calm.proofs.CalmStates.{calm_event}
use Rattle.aqe_calm.proofs.Consequences.{materialised_whole, history_behind}
use Rattle.aqe_calm.proofs.Served.{served, all_at}
use Rattle.aqe_calm.specs.Calm.{IsAnswerAt}
use Rattle.aqe_steps.specs.declared.run.Run.{Run}
use Rattle.aqe_steps.specs.Runs.{IsSteadyRun}
use Rattle.aqe_steps.specs.Endings.{CanEnd, GivesNoted, EndsTask, NotesWhole, done_at, notes_with, whole_with}
use Rattle.aqe_steps.specs.Shows.{Shows, KeptOf, is_at, bare_note, noted_from, kept_in}
use Rattle.aqe_steps.proofs.Cells.{cells_at, cells_count}
use Rattle.aqe_steps.proofs.Notes.{note_of, count_noted}
use Rattle.aqe_steps.proofs.Recorded.{births_event, runs_counted}

or_false : (b : Bool) → (b || false) ≡ b
or_false true = refl
or_false false = refl

self : (k : ℕ) → (k == k) ≡ true
self k = grind (arith)

not_same : (m n : ℕ) → (m ≡ n → ⊥) → (m == n) ≡ false
not_same m n differs = elim (cases_Bool (m == n)) as (λ w. (m == n) ≡ false) [
  | inl so ↦ absurd (differs (eqb-true m n so))
  | inr not_so ↦ not_so
]

some_one : {X : Type 0} (a b : X) → Some a ≡ Some b → a ≡ b
some_one a b h = ap (λ o. unwrap_or o a) h

-- what holds of each item, also behind a change that keeps it
all_edited : {X : Type 0} (P : X → Type 0) (change : X → X) (xs : List X) (i : ℕ) → ((x : X) → P x → P (change x)) → All P xs → All P (edited i change xs)
all_edited P change [] i keeps all = all
all_edited P change (x ∷ xs) zero keeps all = All-cons P (change x) xs (keeps x (All-head P x xs all)) (All-tail P x xs all)
all_edited P change (x ∷ xs) (suc i) keeps all = All-cons P x (edited i change xs) (All-head P x xs all) (all_edited P change xs i keeps (All-tail P x xs all))

-- notes of which one is changed
edited_notes : (f g : ℕ → Stage → StageNote) (change : StageNote → StageNote) (n i : ℕ) (stages : Stages) →
    ((k : ℕ) (stage : Stage) → (k ≡ n + i → ⊥) → f k stage ≡ g k stage) → ((stage : Stage) → change (f (n + i) stage) ≡ g (n + i) stage) → edited i change (noted_from f n stages) ≡ noted_from g n stages
edited_notes f g change n i [] others one = refl
edited_notes f g change n zero (x ∷ xs) others one =
    let same : n + 0 ≡ n = omega arith in
    λ j. subst (λ k. change (f k x) ≡ g k x) same (one x) j ∷ rest (suc n) xs (omega arith) j
  where
    rest : (m : ℕ) (stages : Stages) → n < m → noted_from f m stages ≡ noted_from g m stages
    rest m [] lt = refl
    rest m (y ∷ ys) lt = λ j. others m y (λ e. absurd (omega (arith, e, lt))) j ∷ rest (suc m) ys (omega (arith, lt)) j
edited_notes f g change n (suc i) (x ∷ xs) others one =
    let same : n + suc i ≡ suc n + i = omega arith in
    λ j. others n x (λ e. absurd (omega (arith, e))) j
    ∷ edited_notes f g change (suc n) i xs (λ k stage differs. others k stage (λ e. differs (e ∙ same))) (λ stage. subst (λ k. change (f k stage) ≡ g k stage) same (one stage)) j

same_notes : (f g : ℕ → Stage → StageNote) (n : ℕ) (stages : Stages) → ((k : ℕ) (stage : Stage) → f k stage ≡ g k stage) → noted_from f n stages ≡ noted_from g n stages
same_notes f g n [] each = refl
same_notes f g n (x ∷ xs) each = λ j. each n x j ∷ same_notes f g (suc n) xs each j

none_of : {X : Type 0} (o : Option X) → is_some o ≡ false → o ≡ None
none_of None e = refl
none_of (Some x) e = absurd (clash e)
  where
    clash : true ≡ false → ⊥
    clash c = cc (c)

module _ (asked : Asked) (first : Plan) (now : State) (stage : StageId) (task : TaskId) (c : Calm asked first now) (m : MayEnd (history now) (stage.0, task.0)) where
  abbrev place : ℕ × ℕ
  place = (stage.0, task.0)

  abbrev h : List Step
  h = history now

  abbrev x : Step
  x = Happened (rest_ending place) fate.Counted

  abbrev next : State
  next = with_event now (rest_ending place)

  behind : history next ≡ h ++ x ∷ []
  behind = history_behind now place m

  calm : Calm asked first next
  calm = calm_event asked first now place c m

  there : stage.0 < length now.stages
  there = (stage_there now.stages h place c.events m).0

  open_before : whole h stage.0 ≡ false
  open_before = not_whole now.stages h place c.events m

  whole_next : (s : ℕ) → is_whole next s ≡ whole (h ++ x ∷ []) s
  whole_next s = ap (λ g. whole g s) behind

  done_next : (s : ℕ) → materialised_at next s ≡ option_or (materialised_at now s) (cond (whole (h ++ x ∷ []) s) (Some (suc (happened h))) None)
  done_next s = ap (λ g. first_whole g s) behind ∙ first_event h (rest_ending place) fate.Counted s

  -- a stage that is whole was noted before, or it is the one of the task
  done_other : (s : ℕ) → (s ≡ stage.0 → ⊥) → materialised_at now s ≡ materialised_at next s
  done_other s differs = at (first_whole h s) refl ∙ sym (done_next s)
    where
      at : (o : Option ℕ) → first_whole h s ≡ o → first_whole h s ≡ option_or (first_whole h s) (cond (whole (h ++ x ∷ []) s) (Some (suc (happened h))) None)
      at None e =
          let same : whole (h ++ x ∷ []) s ≡ false = whole_other h place fate.Counted s (λ d. differs (sym d)) ∙ c.events.whole s ∙ ap is_some e in
          sym ((λ i. option_or (e i) (cond (same i) (Some (suc (happened h))) None)) ∙ sym e)
      at (Some k) e = sym (ap (λ o. option_or o (cond (whole (h ++ x ∷ []) s) (Some (suc (happened h))) None)) e ∙ sym e)

  done_here : materialised_at next stage.0 ≡ cond (whole (h ++ x ∷ []) stage.0) (Some (suc (happened h))) None
  done_here = done_next stage.0 ∙ ap (λ o. option_or o (cond (whole (h ++ x ∷ []) stage.0) (Some (suc (happened h))) None)) (none_of (first_whole h stage.0) (sym (c.events.whole stage.0) ∙ open_before))

  not_done_here : materialised_at now stage.0 ≡ None
  not_done_here = none_of (first_whole h stage.0) (sym (c.events.whole stage.0) ∙ open_before)

  born_next : (s : ℕ) → slice_index_or (births_from 0 h) s 0 ≡ slice_index_or (births_from 0 (history next)) s 0
  born_next s = sym (ap (λ bs. slice_index_or bs s 0) (ap (births_from 0) behind ∙ births_event 0 h (rest_ending place) fate.Counted))

  note_other : (s : ℕ) (st : Stage) → (s ≡ stage.0 → ⊥) → bare_note now s st ≡ bare_note next s st
  note_other s st differs = λ i. record { kind = st.kind; body = st.body; born = born_next s i; done = done_other s differs i; outputs = [] }

  notes_next : (turned : Bool) → turned ≡ whole (h ++ x ∷ []) stage.0 → notes_with turned (suc (happened h)) stage.0 (noted_from (bare_note now) 0 now.stages) ≡ noted_from (bare_note next) 0 now.stages
  notes_next true is =
      edited_notes (bare_note now) (bare_note next) (done_at (suc (happened h))) 0 stage.0 now.stages (λ s st differs. note_other s st (λ e. differs (e ∙ sym none)))
      (λ st. subst (λ k. done_at (suc (happened h)) (bare_note now k st) ≡ bare_note next k st) (sym none) (note_here st))
    where
      none : 0 + stage.0 ≡ stage.0
      none = omega arith

      note_here : (st : Stage) → done_at (suc (happened h)) (bare_note now stage.0 st) ≡ bare_note next stage.0 st
      note_here st = λ i. record { kind = st.kind; body = st.body; born = born_next stage.0 i; done = sym (done_here ∙ ap (λ b. cond b (Some (suc (happened h))) None) (sym is)) i; outputs = [] }
  notes_next false is =
      same_notes (bare_note now) (bare_note next) 0 now.stages (λ s st. by s st (cases_eq s stage.0))
    where
      by : (s : ℕ) (st : Stage) → (s ≡ stage.0) ⊎ (s ≡ stage.0 → ⊥) → bare_note now s st ≡ bare_note next s st
      by s st (inl same) = subst (λ k. bare_note now k st ≡ bare_note next k st) (sym same)
          (λ i. record { kind = st.kind; body = st.body; born = born_next stage.0 i; done = (not_done_here ∙ sym (done_here ∙ ap (λ b. cond b (Some (suc (happened h))) None) (sym is))) i; outputs = [] })
      by s st (inr differs) = note_other s st differs

  whole_listed : (turned : Bool) (list : List StageId) → turned ≡ whole (h ++ x ∷ []) stage.0 → ((s : ℕ) → listed list s ≡ is_materialised now s) → (s : ℕ) → listed (whole_with turned stage list) s ≡ is_materialised next s
  whole_listed turned list is same s = at turned is (cases_eq s stage.0) ∙ sym (materialised_whole asked first next calm s ∙ whole_next s)
    where
      before : listed list s ≡ whole h s
      before = same s ∙ materialised_whole asked first now c s

      at : (t : Bool) → t ≡ whole (h ++ x ∷ []) stage.0 → (s ≡ stage.0) ⊎ (s ≡ stage.0 → ⊥) → listed (whole_with t stage list) s ≡ whole (h ++ x ∷ []) s
      at true is (inl e) = any_more (λ (st : StageId). st.0 == s) list stage ∙ or_true (listed list s) (stage.0 == s) ((λ i. stage.0 == e i) ∙ self stage.0) ∙ is ∙ sym (ap (λ k. whole (h ++ x ∷ []) k) e)
        where
          or_true : (a b : Bool) → b ≡ true → (a || b) ≡ true
          or_true true b t = refl
          or_true false b t = t
      at true is (inr differs) =
          any_more (λ (st : StageId). st.0 == s) list stage ∙ ap (λ b. listed list s || b) (not_same stage.0 s (λ e. differs (sym e))) ∙ or_false (listed list s) ∙ before
          ∙ sym (whole_other h place fate.Counted s (λ e. differs (sym e)))
      at false is (inl e) = before ∙ ap (λ k. whole h k) e ∙ open_before ∙ is ∙ sym (ap (λ k. whole (h ++ x ∷ []) k) e)
      at false is (inr differs) = before ∙ sym (whole_other h place fate.Counted s (λ e. differs (sym e)))

  fates_next : fates h ++ fate.Counted ∷ [] ≡ fates (history next)
  fates_next = sym (ap fates behind ∙ filter_map-append fate_in h (x ∷ []))

  runs_next : runs_from 0 h ++ record { position = suc (happened h); stage = stage; task = task } ∷ [] ≡ runs_from 0 (history next)
  runs_next =
      let none : 0 + suc (happened h) ≡ suc (happened h) = omega arith in
      sym (ap (runs_from 0) behind ∙ runs_counted 0 h stage task (record { 0 = 10000 }) ∙ ap (λ k. runs_from 0 h ++ record { position = k; stage = stage; task = task } ∷ []) none)

  module _ (run : Run) (shows : Shows asked now run) where
    noted_there : (st : Stage) → slice_get now.stages stage.0 ≡ Some st → slice_get run.stages.items stage.0 ≡ Some (bare_note now stage.0 st)
    noted_there st is = ap (λ notes. slice_get notes stage.0) shows.stages ∙ note_of (bare_note now) now.stages stage.0 ∙ ap (option_map (bare_note now stage.0)) is

    task_served : (st : Stage) → slice_get now.stages stage.0 ≡ Some st → IsServedTask asked.tables now.stages run.outputs st.kind st.body task.0
    task_served st is = served asked first now place st run.outputs c m is shows.outputs

    gives_cells : (st : Stage) (made : List CellData) → slice_get now.stages stage.0 ≡ Some st → GivesTask asked.tables run.outputs st.kind st.body task.0 made →
        made ≡ slice_index_or (cells asked.tables now.stages stage.0) task.0 []
    gives_cells st made is gives =
        let serving = task_served st is in
        let a = subst (IsAnswerAt asked first now.stages stage.0) is (c.answers stage.0) in
        gives now.stages serving ∙ cells_at asked.tables now.stages stage.0 st task.0 is a.0 a.1 serving.within

    gives_count : (st : Stage) (made : List CellData) → slice_get now.stages stage.0 ≡ Some st → GivesTask asked.tables run.outputs st.kind st.body task.0 made → length made ≡ reducers_of st.kind
    gives_count st made is gives =
        let all = given_by asked.tables now.stages in
        ap (λ made. length made) (gives now.stages (task_served st is))
        ∙ cells_count all st.kind (parts asked.tables all st.body) (out asked.tables now.stages st.body task.0)

    can_end_at : (st : Stage) → slice_get now.stages stage.0 ≡ Some st → CanEnd asked.tables run stage task.0
    can_end_at st is =
        let forms = all_at IsCarriedOut now.stages stage.0 st c.carried is in
        record {
          note = bare_note now stage.0 st;
          there = noted_there st is;
          body = forms.0;
          stages = now.stages;
          served = task_served st is;
          alike = λ made gives. subst (λ n. HaveCells n (kept_of run.outputs stage.0)) (sym (gives_count st made is gives)) (subst (λ o. KeptOf o (kept_of run.outputs stage.0)) is (shows.cells stage.0));
        }

    module _ (mid new : Run) (turned : Bool) (e : EndsTask asked.tables run mid stage task) (n : NotesWhole mid new stage turned) where
      told : (e.fate ≡ fate.Counted) × StandsFor mid.board (now.entries ++ Happens (rest_ending place) ∷ [])
      told = let b = e.board now.entries shows.board in (b.0 ∙ next_counts h place m, b.1)

      fates_mid : mid.fates ≡ fates h ++ fate.Counted ∷ []
      fates_mid = e.fates ∙ (λ i. shows.fates i ++ told.0 i ∷ [])

      position : length mid.fates ≡ suc (happened h)
      position = let long = length-append (fates h) (fate.Counted ∷ []) in ap (λ fs. length fs) fates_mid ∙ omega (arith, long)

      turned_is : turned ≡ whole (h ++ x ∷ []) stage.0
      turned_is = n.is (now.entries ++ Happens (rest_ending place) ∷ []) told.1 ∙ whole_next stage.0

      outputs_next : (st : Stage) → slice_get now.stages stage.0 ≡ Some st → GivesTask asked.tables run.outputs st.kind st.body task.0 e.made → (s t : ℕ) → output_at mid.outputs s t ≡ kept_in asked next s t
      outputs_next st is gives s t = e.changes s t ∙ at (cases_Bool (stage.0 == s && task.0 == t))
        where
          kept : Bool → Option (List CellData)
          kept b = cond b (Some (slice_index_or (cells asked.tables now.stages s) t [])) None

          both_left : (a b : Bool) → (a && b) ≡ true → a ≡ true
          both_left true b y = refl
          both_left false b y = y

          both_right : (a b : Bool) → (a && b) ≡ true → b ≡ true
          both_right true b y = y
          both_right false true y = refl
          both_right false false y = y

          or_true : (a b : Bool) → b ≡ true → (a || b) ≡ true
          or_true true b y = refl
          or_true false b y = y

          more : counted (history next) s t ≡ (counted h s t || (stage.0 == s && task.0 == t))
          more = ap (λ g. counted g s t) behind ∙ counted_more h x s t

          at : ((stage.0 == s && task.0 == t) ≡ true) ⊎ ((stage.0 == s && task.0 == t) ≡ false) → cond (stage.0 == s && task.0 == t) (Some e.made) (output_at run.outputs s t) ≡ kept_in asked next s t
          at (inl so) =
              let same_s : stage.0 ≡ s = eqb-true stage.0 s (both_left (stage.0 == s) (task.0 == t) so) in
              let same_t : task.0 ≡ t = eqb-true task.0 t (both_right (stage.0 == s) (task.0 == t) so) in
              ap (λ b. cond b (Some e.made) (output_at run.outputs s t)) so
              ∙ ap (λ (made : List CellData). Some made) (gives_cells st e.made is gives ∙ (λ i. slice_index_or (cells asked.tables now.stages (same_s i)) (same_t i) []))
              ∙ sym (ap kept (more ∙ or_true (counted h s t) (stage.0 == s && task.0 == t) so))
          at (inr not_so) =
              ap (λ b. cond b (Some e.made) (output_at run.outputs s t)) not_so ∙ shows.outputs s t ∙ sym (ap kept (more ∙ ap (λ b. counted h s t || b) not_so ∙ or_false (counted h s t)))

      cells_next : (st : Stage) → slice_get now.stages stage.0 ≡ Some st → GivesTask asked.tables run.outputs st.kind st.body task.0 e.made → (s : ℕ) → KeptOf (slice_get now.stages s) (kept_of mid.outputs s)
      cells_next st is gives s = subst (KeptOf (slice_get now.stages s)) (sym (e.becomes s)) (at (cases_eq s stage.0))
        where
          at : (s ≡ stage.0) ⊎ (s ≡ stage.0 → ⊥) → KeptOf (slice_get now.stages s) (cond (stage.0 == s) (with_output (kept_of run.outputs stage.0) task.0 e.made) (kept_of run.outputs s))
          at (inl same) =
              let p : (λ (cells : List CellData). length cells ≡ reducers_of st.kind) e.made = gives_count st e.made is gives in
              let here : HaveCells (reducers_of st.kind) (kept_of run.outputs stage.0) = subst (λ o. KeptOf o (kept_of run.outputs stage.0)) is (shows.cells stage.0) in
              subst (λ k. KeptOf (slice_get now.stages k) (cond (stage.0 == k) (with_output (kept_of run.outputs stage.0) task.0 e.made) (kept_of run.outputs k))) (sym same)
              (subst (λ b. KeptOf (slice_get now.stages stage.0) (cond b (with_output (kept_of run.outputs stage.0) task.0 e.made) (kept_of run.outputs stage.0))) (sym (self stage.0))
              (subst (λ o. KeptOf o (with_output (kept_of run.outputs stage.0) task.0 e.made)) (sym is)
              (All-values-insert_entry nat_cmp task.0 e.made (λ cells. length cells ≡ reducers_of st.kind) (kept_of run.outputs stage.0) here p)))
          at (inr differs) =
              subst (λ b. KeptOf (slice_get now.stages s) (cond b (with_output (kept_of run.outputs stage.0) task.0 e.made) (kept_of run.outputs s))) (sym (not_same stage.0 s (λ d. differs (sym d)))) (shows.cells s)

      stages_count : length new.stages.items ≡ length run.stages.items
      stages_count = ap (λ notes. length notes) n.stages ∙ counted_notes turned ∙ ap (λ st. length st.items) e.stages
        where
          counted_notes : (t : Bool) → length (notes_with t (length mid.fates) stage.0 mid.stages.items) ≡ length mid.stages.items
          counted_notes true = length_edited (done_at (length mid.fates)) mid.stages.items stage.0
          counted_notes false = refl

      steady_next : IsSteadyRun new
      steady_next =
          let steady = shows.steady in
          let born = steady.born in
          let few = steady.few in
          let counts = stages_count in
          let births_are : length (births_on new.board) ≡ length (births_on run.board) = ap (λ b. length (births_on b)) n.board ∙ ap (λ bs. length bs) e.births in
          let versions = n.versions ∙ e.versions in
          record {
            born = omega (arith, born, counts, births_are);
            few = omega (arith, few, counts);
            parts = subst (λ v. PartsFit v.plan) (sym versions) steady.parts;
            bodies = subst BodiesFit (sym n.stages) (bodies turned (subst (λ st. BodiesFit st.items) (sym e.stages) steady.bodies));
            fresh = λ k le. ap (λ list. listed list k) (n.whole ∙ ap (whole_with turned stage) e.whole) ∙ fresh turned k (omega (arith, le, counts));
          }
        where
          bodies : (t : Bool) → BodiesFit mid.stages.items → BodiesFit (notes_with t (length mid.fates) stage.0 mid.stages.items)
          bodies true all = all_edited BodyFits (done_at (length mid.fates)) mid.stages.items stage.0 (λ note fits. fits) all
          bodies false all = all

          fresh : (t : Bool) (k : ℕ) → length run.stages.items ≤ k → listed (whole_with t stage run.whole) k ≡ false
          fresh true k le =
              let count = count_is in
              let lt = there in
              any_more (λ (st : StageId). st.0 == k) run.whole stage ∙ (λ i. shows.steady.fresh k le i || not_same stage.0 k (λ d. absurd (omega (arith, d, le, count, lt))) i)
            where
              count_is : length run.stages.items ≡ length now.stages
              count_is = ap (λ notes. length notes) shows.stages ∙ count_noted (bare_note now) 0 now.stages
          fresh false k le = shows.steady.fresh k le

      shows_next_at : (st : Stage) → slice_get now.stages stage.0 ≡ Some st → Shows asked next new
      shows_next_at st is =
          let gives : GivesTask asked.tables run.outputs st.kind st.body task.0 e.made = subst (λ o. GivesNoted asked.tables run o task.0 e.made) (noted_there st is) e.gives in
          record {
            steady = steady_next;
            plan = ap (λ v. v.plan) (n.versions ∙ e.versions) ∙ shows.plan;
            has_result = ap (λ v. v.has_result) (n.versions ∙ e.versions) ∙ shows.has_result;
            adopted = n.adopted ∙ e.adopted ∙ shows.adopted;
            board = subst (λ b. StandsFor b (now.entries ++ Happens (rest_ending place) ∷ [])) (sym n.board) told.1;
            stages = n.stages ∙ (λ i. notes_with turned (position i) stage.0 ((ap (λ sts. sts.items) e.stages ∙ shows.stages) i)) ∙ notes_next turned turned_is;
            whole = λ s. ap (λ list. listed list s) (n.whole ∙ ap (whole_with turned stage) e.whole) ∙ whole_listed turned run.whole turned_is shows.whole s;
            result = λ s. shows.result s ∙ ap (λ o. is_at o s) (sym (n.result ∙ e.result));
            outputs = λ s t. ap (λ outputs. output_at outputs s t) n.outputs ∙ outputs_next st is gives s t;
            cells = λ s. subst (λ outputs. KeptOf (slice_get now.stages s) (kept_of outputs s)) (sym n.outputs) (cells_next st is gives s);
            fates = n.fates ∙ fates_mid ∙ fates_next;
            runs = n.runs ∙ e.runs ∙ (λ i. shows.runs i ++ record { position = position i; stage = stage; task = task } ∷ []) ∙ runs_next;
          }

-- the stage of a task that may end
there_is : (stages : Stages) (s : ℕ) → s < length stages → (stage : Stage) × (slice_get stages s ≡ Some stage)
there_is [] s lt = absurd (omega (arith, lt))
there_is (y ∷ ys) zero lt = (y, refl)
there_is (y ∷ ys) (suc s) lt = there_is ys s (omega (arith, lt))

-- the task that may end next can end
pub can_end : (asked : Asked) (first : Plan) (now : State) (stage : StageId) (task : TaskId) (run : Run) → Calm asked first now → MayEnd (history now) (stage.0, task.0) → Shows asked now run → CanEnd asked.tables run stage task.0
can_end asked first now stage task run c m shows =
    let st = there_is now.stages stage.0 (there asked first now stage task c m) in
    can_end_at asked first now stage task c m run shows st.0 st.1

-- behind its ending the session shows the next state
pub shows_ended : (asked : Asked) (first : Plan) (now : State) (stage : StageId) (task : TaskId) (run mid new : Run) (turned : Bool) → Calm asked first now → MayEnd (history now) (stage.0, task.0) → Shows asked now run →
    EndsTask asked.tables run mid stage task → NotesWhole mid new stage turned → Shows asked (with_event now (rest_ending (stage.0, task.0))) new × (turned ≡ is_whole (with_event now (rest_ending (stage.0, task.0))) stage.0)
shows_ended asked first now stage task run mid new turned c m shows e n =
    let st = there_is now.stages stage.0 (there asked first now stage task c m) in
    (shows_next_at asked first now stage task c m run shows mid new turned e n st.0 st.1, n.is (now.entries ++ Happens (rest_ending (stage.0, task.0)) ∷ []) (told asked first now stage task c m run shows mid new turned e n).1)
