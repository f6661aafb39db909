-- The record that a session makes of a query that is done shows the state in which it is.
use Rattle.std.proofs.Common.{◌≡◌, refl, ap, sym, subst, ◌∙◌, ◌≤◌, ◌<◌, ◌+◌, ◌==◌, zero, suc, ℕ, Bool, true, false, cond, ◌&&◌, ◌||◌, List, [], ◌∷◌, ◌++◌, map, filter, flat_map, take, length, arith, Option, Some, None, is_some, IsSome, slice_get, slice_index_or, inl, inr}
use Rattle.std.specs.Prelude.{filter_map}
use Rattle.std.specs.List.{list_any, list_all, range_with_len, cons_option}
use Rattle.std.specs.Option.{unwrap_or, option_map}
use Rattle.std.proofs.lemmas.Bool.{cases_Bool, cases_eq, cases_lt, eqb-true}
use Rattle.std.proofs.lemmas.Option.{slice_get_past}
use Rattle.std.proofs.lemmas.List.{length-map}
use Rattle.aqe_base.specs.declared.stage_id.StageId.{StageId}
use Rattle.aqe_base.specs.declared.ids.MapId.{MapId}
use Rattle.aqe_blocks.specs.Cells.{CellData}
use Rattle.aqe_blocks.specs.Kept.{output_at}
use Rattle.aqe_logical.specs.Answers.{Row}
use Rattle.aqe_physical.specs.declared.plan.Plan.{Plan}
use Rattle.aqe_physical.specs.Counts.{part_count}
use Rattle.aqe_partial.specs.PartialRows.{joined_parts}
use Rattle.aqe_stages.specs.Stages.{Stage, Stages}
use Rattle.aqe_stages.specs.Parts.{cells}
use Rattle.aqe_stages.specs.Cells.{all_rows}
use Rattle.aqe_scheduler.specs.Looks.{births, counted, whole, done, task_count, tasks_in}
use Rattle.aqe_endings.proofs.Endings.{both_left, both_right}
use Rattle.aqe_endings.proofs.Histories.{done_counted}
use Rattle.aqe_journal.specs.Asked.{Asked}
use Rattle.aqe_journal.specs.Needed.{is_result, map_count, birth_over}
use Rattle.aqe_journal.specs.States.{State, history, is_whole}
use Rattle.aqe_journal.specs.LegalRecord.{is_result_in, is_done, outputs_of, note_of, notes_from, rows_of}
use Rattle.aqe_journal.specs.LegalRecord as legal
use Rattle.aqe_journal.specs.declared.record.Finish.TheVariants.{Done}
use Rattle.aqe_calm.specs.Calm.{parts_over}
use Rattle.aqe_calm.specs.Laws.{Reaches}
use Rattle.aqe_calm.proofs.CalmStates.{reads_many}
use Rattle.aqe_calm.proofs.RestRuns.{rest_runs_calm, results_rows}
use Rattle.aqe_calm.proofs.ResultCells.{result_cells, all_single}
use Rattle.aqe_calm.proofs.Served.{births_at}
use Rattle.aqe_calm.proofs.HeldCells.{cells_many}
use Rattle.aqe_steps.specs.declared.run.Run.{Run}
use Rattle.aqe_session.specs.Finished as spec
use Rattle.aqe_session.specs.Finished.{CanFinish, ResultIsKept, first_cell, kept_at, all_filled, filled, maps_of, maps_in, rows_at, result_rows}
use Rattle.aqe_session.specs.Query.{is_whole_in}
use Rattle.aqe_steps.specs.Shows.{Shows, is_at, bare_note, noted_from}
use Rattle.aqe_steps.proofs.Notes.{note_of as note_at, count_noted}

clash : false ≡ true → ⊥
clash c = cc (c)

none_more : (n : ℕ) → 0 + n ≡ n
none_more n = omega arith

self : (k : ℕ) → (k == k) ≡ true
self k = grind (arith)

-- only the item of a number may pass
any_only : (p : ℕ → Bool) (a n k : ℕ) → a ≤ k → k < a + n → ((j : ℕ) → (k ≡ j → ⊥) → p j ≡ false) → list_any p (range_with_len a n) ≡ p k
any_only p a zero k low high others = absurd (omega (arith, low, high))
any_only p a (suc n) k low high others = elim (cases_eq k a) as (λ w. list_any p (range_with_len a (suc n)) ≡ p k) [
  | inl same ↦ subst (λ j. (p j || list_any p (range_with_len (a + 1) n)) ≡ p k) same
      (ap (λ b. p k || b) (none_behind p (a + 1) n (λ j le. others j (λ e. omega (arith, same, le, e)))) ∙ or_false (p k))
  | inr apart ↦ ap (λ b. b || list_any p (range_with_len (a + 1) n)) (others a apart) ∙ any_only p (a + 1) n k (omega (arith, low, apart)) (omega (arith, high)) others
]
  where
    or_false : (b : Bool) → (b || false) ≡ b
    or_false true = refl
    or_false false = refl

    none_behind : (p : ℕ → Bool) (b m : ℕ) → ((j : ℕ) → b ≤ j → p j ≡ false) → list_any p (range_with_len b m) ≡ false
    none_behind p b zero all = refl
    none_behind p b (suc m) all = ap (λ c. c || list_any p (range_with_len (b + 1) m)) (all b (omega arith)) ∙ none_behind p (b + 1) m (λ j le. all j (omega (arith, le)))

none_any : (p : ℕ → Bool) (a n : ℕ) → ((j : ℕ) → p j ≡ false) → list_any p (range_with_len a n) ≡ false
none_any p a zero all = refl
none_any p a (suc n) all = ap (λ c. c || list_any p (range_with_len (a + 1) n)) (all a) ∙ none_any p (a + 1) n all

-- a stage that is the result is there
in_range : (stages : Stages) (s : ℕ) → is_result_in (slice_get stages s) ≡ true → s < length stages
in_range stages s is = elim (cases_lt s (length stages)) [
  | inl lt ↦ lt
  | inr ge ↦ absurd (clash (sym (ap is_result_in (slice_get_past stages s ge)) ∙ is))
]

record IsThere (stages : Stages) (s : ℕ) : Type 0 where
  stage : Stage
  at : slice_get stages s ≡ Some stage

is_there : (stages : Stages) (s : ℕ) → s < length stages → IsThere stages s
is_there [] s lt = absurd (omega (arith, lt))
is_there (y ∷ ys) zero lt = record { stage = y; at = refl }
is_there (y ∷ ys) (suc s) lt = let r = is_there ys s (omega (arith, lt)) in record { stage = r.stage; at = r.at }

-- the session looks at the result alone
pub done_is : (asked : Asked) (now : State) (run : Run) → Shows asked now run → is_whole_in (history now) run.result ≡ is_done now
done_is asked now run shows = at run.result shows.result
  where
    at : (o : Option StageId) → ((s : ℕ) → is_result_in (slice_get now.stages s) ≡ is_at o s) → is_whole_in (history now) o ≡ is_done now
    at None all = sym (none_any (λ s. is_result_in (slice_get now.stages s) && is_whole now s) 0 (length now.stages) (λ j. ap (λ b. b && is_whole now j) (all j)))
    at (Some r) all =
        let here : is_result_in (slice_get now.stages r.0) ≡ true = all r.0 ∙ self r.0 in
        let lt = in_range now.stages r.0 here in
        sym (any_only (λ s. is_result_in (slice_get now.stages s) && is_whole now s) 0 (length now.stages) r.0 (omega arith) (omega (arith, lt))
        (λ j differs. ap (λ b. b && is_whole now j) (all j ∙ apart r.0 j differs)) ∙ ap (λ b. b && is_whole now r.0) here)
      where
        apart : (m n : ℕ) → (m ≡ n → ⊥) → (m == n) ≡ false
        apart m n differs = elim (cases_Bool (m == n)) as (λ w. (m == n) ≡ false) [
          | inl so ↦ absurd (differs (eqb-true m n so))
          | inr not_so ↦ not_so
        ]

list_all_at : (p : ℕ → Bool) (a n m : ℕ) → list_all p (range_with_len a n) ≡ true → a ≤ m → m < a + n → p m ≡ true
list_all_at p a zero m all low high = absurd (omega (arith, low, high))
list_all_at p a (suc n) m all low high = elim (cases_eq a m) as (λ w. p m ≡ true) [
  | inl same ↦ ap p (sym same) ∙ both_left (p a) (list_all p (range_with_len (a + 1) n)) all
  | inr apart ↦ list_all_at p (a + 1) n m (both_right (p a) (list_all p (range_with_len (a + 1) n)) all) (omega (arith, low, apart)) (omega (arith, high))
]

-- the rows of parts along their numbers
rows_along : (ps : List (List Row)) (a : ℕ) (g : ℕ → List Row) → ((m : ℕ) → m < length ps → g (a + m) ≡ slice_index_or ps m []) → flat_map g (range_with_len a (length ps)) ≡ joined_parts ps
rows_along [] a g each = refl
rows_along (p ∷ ps) a g each =
    let same : a + 0 ≡ a = omega arith in
    λ i. (ap g (sym same) ∙ each 0 (omega arith)) i ++ rows_along ps (a + 1) g (λ m lt. let more : a + 1 + m ≡ a + suc m = omega arith in ap g more ∙ each (suc m) (omega (arith, lt))) i

single_at : (ps : List (List Row)) (m : ℕ) → m < length ps → slice_index_or (slice_index_or (map (λ part. part ∷ []) ps) m []) 0 [] ≡ slice_index_or ps m []
single_at [] m lt = absurd (omega (arith, lt))
single_at (p ∷ ps) zero lt = refl
single_at (p ∷ ps) (suc m) lt = single_at ps m (omega (arith, lt))

-- the outputs of a stage are those that the record wants
abbrev kept_pair : ℕ → List CellData → MapId × List CellData
kept_pair m cells = (record { 0 = m }, cells)

kept_list : (p : ℕ → Bool) (f : ℕ → List CellData) (g : ℕ → Option (List CellData)) (ms : List ℕ) → ((m : ℕ) → g m ≡ cond (p m) (Some (f m)) None) →
    filter_map (λ m. option_map (kept_pair m) (g m)) ms ≡ map (λ m. kept_pair m (f m)) (filter p ms)
kept_list p f g [] each = refl
kept_list p f g (m ∷ ms) each = by (p m) (g m) (each m) (kept_list p f g ms each)
  where
    by : (b : Bool) (o : Option (List CellData)) → o ≡ cond b (Some (f m)) None →
        filter_map (λ m. option_map (kept_pair m) (g m)) ms ≡ map (λ m. kept_pair m (f m)) (filter p ms) →
        cons_option (option_map (kept_pair m) o) (filter_map (λ m. option_map (kept_pair m) (g m)) ms) ≡ map (λ m. kept_pair m (f m)) (cond b (m ∷ filter p ms) (filter p ms))
    by true o e rest = λ i. cons_option (option_map (kept_pair m) (e i)) (rest i)
    by false o e rest = λ i. cons_option (option_map (kept_pair m) (e i)) (rest i)

module _ (asked : Asked) (now : State) (run : Run) (shows : Shows asked now run) where
  -- the notes of the stages behind n others
  notes_are : (n : ℕ) (rest : Stages) → ((k : ℕ) → slice_get now.stages (n + k) ≡ slice_get rest k) → all_filled run.outputs n (noted_from (bare_note now) n rest) ≡ notes_from asked now n rest
  notes_are n [] same = refl
  notes_are n (stage ∷ rest) same =
      let zero_more : n + 0 ≡ n = omega arith in
      let here : slice_get now.stages n ≡ Some stage = ap (λ k. slice_get now.stages k) (sym zero_more) ∙ same 0 in
      let count : map_count now.stages n ≡ part_count stage.body = ap maps here in
      let outputs : filter_map (kept_at run.outputs n) (range_with_len 0 (part_count stage.body)) ≡ outputs_of asked now n =
      kept_list (counted (history now) n) (λ m. slice_index_or (cells asked.tables now.stages n) m []) (λ m. output_at run.outputs n m) (range_with_len 0 (part_count stage.body)) (λ m. shows.outputs n m)
      ∙ ap (λ c. map (λ m. kept_pair m (slice_index_or (cells asked.tables now.stages n) m [])) (filter (counted (history now) n) (range_with_len 0 c))) (sym count) in
      λ i. record { kind = stage.kind; body = stage.body; born = (note_of asked now n stage).born; done = (note_of asked now n stage).done; outputs = outputs i }
      ∷ notes_are (suc n) rest (λ k. let more : suc n + k ≡ n + suc k = omega arith in ap (λ j. slice_get now.stages j) more ∙ same (suc k)) i
    where
      maps : Option Stage → ℕ
      maps None = 0
      maps (Some st) = part_count st.body

  stages_are : all_filled run.outputs 0 run.stages.items ≡ notes_from asked now 0 now.stages
  stages_are = ap (all_filled run.outputs 0) shows.stages ∙ notes_are 0 now.stages (λ k. let none : 0 + k ≡ k = omega arith in ap (λ j. slice_get now.stages j) none)

  -- where the query is done its result stage is whole
  record Result (r : StageId) : Type 0 where
    stage : Stage
    at : slice_get now.stages r.0 ≡ Some stage
    result : is_result stage.kind ≡ true

  result_at : (r : StageId) → run.result ≡ Some r → Result r
  result_at r is =
      let here : is_result_in (slice_get now.stages r.0) ≡ true = shows.result r.0 ∙ ap (λ o. is_at o r.0) is ∙ self r.0 in
      let there = is_there now.stages r.0 (in_range now.stages r.0 here) in
      record { stage = there.stage; at = there.at; result = sym (ap is_result_in there.at) ∙ here }

  module _ (reaches : Reaches asked now) (is : is_done now ≡ true) where
    -- each output of the result is kept
    counted_all : (r : StageId) (e : run.result ≡ Some r) (res : Result r) (m : ℕ) → m < part_count res.stage.body → counted (history now) r.0 m ≡ true
    counted_all r e res m lt =
        let c = (rest_runs_calm asked now reaches).2 in
        let h = history now in
        let whole_is : whole h r.0 ≡ true = sym (ap (is_whole_in h) e) ∙ done_is asked now run shows ∙ is in
        let birth : slice_get (births h) r.0 ≡ Some (birth_over (take r.0 now.stages) res.stage) = ap (λ bs. slice_get bs r.0) c.events.births ∙ births_at [] now.stages r.0 res.stage res.at in
        let many : task_count (births h) r.0 ≡ part_count res.stage.body = ap tasks_in birth ∙ reads_many (take r.0 now.stages) res.stage in
        done_counted h r.0 m (list_all_at (done h r.0) 0 (task_count (births h) r.0) m
        (both_right (is_some (slice_get (births h) r.0)) (list_all (done h r.0) (range_with_len 0 (task_count (births h) r.0))) whole_is) (omega arith) (omega (arith, many, lt)))

    maps_are : (r : StageId) (res : Result r) → maps_of run.stages.items r.0 ≡ part_count res.stage.body
    maps_are r res = ap (λ notes. maps_of notes r.0) shows.stages ∙ ap maps_in (note_at (bare_note now) now.stages r.0 ∙ ap (option_map (bare_note now r.0)) res.at)

    kept_all : (r : StageId) (e : run.result ≡ Some r) (res : Result r) (m : ℕ) → m < part_count res.stage.body → output_at run.outputs r.0 m ≡ Some (slice_index_or (cells asked.tables now.stages r.0) m [])
    kept_all r e res m lt = shows.outputs r.0 m ∙ ap (λ b. cond b (Some (slice_index_or (cells asked.tables now.stages r.0) m [])) None) (counted_all r e res m lt)

    kept_result : (o : Option StageId) → run.result ≡ o → ResultIsKept run o
    kept_result None e = tt
    kept_result (Some r) e =
        let res = result_at r e in
        let count : length run.stages.items ≡ length now.stages = ap (λ notes. length notes) shows.stages ∙ count_noted (bare_note now) 0 now.stages in
        let lt = in_range now.stages r.0 (ap is_result_in res.at ∙ res.result) in
        let maps = maps_are r res in
        (omega (arith, count, lt), λ m below. subst (λ o. IsSome o) (sym (kept_all r e res m (omega (arith, maps, below)))) refl)

    pub can_finish : CanFinish run
    can_finish = record { steady = shows.steady; kept = kept_result run.result refl }

    rows_at_are : (o : Option StageId) → run.result ≡ o → rows_at run o ≡ rows_of asked now now.versions
    rows_at_are None e = absurd (clash (sym (ap (is_whole_in (history now)) e) ∙ done_is asked now run shows ∙ is))
    rows_at_are (Some r) e =
        let calm = rest_runs_calm asked now reaches in
        let res = result_at r e in
        let out = cells asked.tables now.stages r.0 in
        let ps = parts_over asked now.stages calm.0 in
        let single : out ≡ map (λ part. part ∷ []) ps = result_cells asked calm.0 now r.0 res.stage calm.2 res.at res.result in
        let many : length ps ≡ part_count res.stage.body = length_is r res calm.0 ps single in
        let maps = maps_are r res in
        ap (λ n. flat_map (first_cell run.outputs r.0) (range_with_len 0 n)) (maps ∙ sym many)
        ∙ rows_along ps 0 (first_cell run.outputs r.0)
        (λ m lt. ap (first_cell run.outputs r.0) (none_more m) ∙ ap (λ o. slice_index_or (unwrap_or o []) 0 []) (kept_all r e res m (omega (arith, many, lt))) ∙ ap (λ (c : List (List (List Row))). slice_index_or (slice_index_or c m []) 0 []) single ∙ single_at ps m lt)
        ∙ sym (all_single ps) ∙ ap all_rows (sym single) ∙ sym (results_rows asked now r.0 res.stage reaches res.at res.result)
      where
        length_is : (r : StageId) (res : Result r) (first : Plan) (ps : List (List Row)) → cells asked.tables now.stages r.0 ≡ map (λ part. part ∷ []) ps → length ps ≡ part_count res.stage.body
        length_is r res first ps single = sym (length-map ps (λ part. part ∷ [])) ∙ ap (λ out. length out) (sym single) ∙ cells_many asked.tables now.stages r.0 res.stage res.at

    pub shows_done : (query : ℕ) → spec.record_of query run ≡ legal.record_of query asked now Done
    shows_done query = λ i. record {
      query = query;
      stages = stages_are i;
      versions = shows.adopted i;
      fates = shows.fates i;
      runs = shows.runs i;
      rows = rows_at_are run.result refl i;
      finish = Done;
    }
