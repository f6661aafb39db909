-- The tasks at the front of a stage that are all done, behind an event.
use Rattle.std.proofs.Common.{◌≡◌, ℕ, ◌+◌, ◌<◌, ◌≤◌, Bool, true, false, cond, ◌&&◌, ◌==◌, List, [], ◌∷◌, ◌++◌, zero, suc, map, length, set, get_or, refl, ap, ◌∙◌, sym, subst, Option, Some, None, is_some, slice_get, unwrap_or, arith, get_or-set_same, get_or-set_other, inl, inr, min}
use Rattle.std.specs.Option.{option_map, option_and_then}
use Rattle.std.proofs.lemmas.List.{get_or_past}
use Rattle.std.proofs.lemmas.Bool.{eqb-true, cases_eq, cases_lt}
use Rattle.aqe_base.specs.declared.stage_id.StageId.{StageId}
use Rattle.aqe_base.specs.declared.ids.TaskId.{TaskId}
use Rattle.aqe_base.specs.declared.ids.MapId.{MapId}
use Rattle.aqe_base.specs.declared.ids.ExecId.{ExecId}
use Rattle.aqe_base.specs.declared.event.Event.{Event}
use Rattle.aqe_base.specs.declared.event.Event.TheVariants.{Ended, Failed, Lost, Fetch}
use Rattle.aqe_scheduler.specs.declared.fate.Fate.{Fate}
use Rattle.aqe_scheduler.specs.declared.fate.Fate.TheVariants as fate
use Rattle.aqe_scheduler.specs.declared.task.Task.{Task}
use Rattle.aqe_scheduler.specs.declared.stage.Stage.{Stage}
use Rattle.aqe_scheduler.specs.Looks.{shuffles}
use Rattle.aqe_scheduler.specs.Tables.{edited, fresh, ended, failed, emptied, births_on, birth_of, found_on, done_on}
use Rattle.aqe_scheduler.specs.Changes.{ending_of, failure_of, fetch_of, bereft, loss_of, marking, settled}
use Rattle.aqe_scheduler.specs.Cursors.{AllDone, AreDone, GoesBack}
use Rattle.aqe_scheduler.proofs.Edits.{get_edited, map_edited}
use Rattle.aqe_scheduler.proofs.Tables.{found_edited}
use Rattle.aqe_scheduler.proofs.Events.{fetched}

-- whether a task is done, by what is kept of it
abbrev done_of : Bool → Option Task → Bool
done_of is_shuffle o = cond is_shuffle (is_some (unwrap_or o fresh).on) (unwrap_or o fresh).counted

ended_stays : (sh b : Bool) (e : ExecId) (o : Option Task) → done_of sh o ≡ true → done_of sh (cond b (option_map (ended e) o) o) ≡ true
ended_stays sh false e o so = so
ended_stays true true e (Some x) so = refl
ended_stays false true e (Some x) so = refl
ended_stays sh true e None so = so

failed_stays : (sh b : Bool) (o : Option Task) → done_of sh (cond b (option_map failed o) o) ≡ done_of sh o
failed_stays sh false o = refl
failed_stays sh true (Some x) = refl
failed_stays sh true None = refl

-- what is done stays done behind an ending and a failure
ended_front : (s : StageId) (t : TaskId) (e : ExecId) (f : Fate) (before : List Stage) (i j : ℕ) → done_on before i j ≡ true → done_on (settled (Ended s t e) f before) i j ≡ true
ended_front s t e fate.Counted before i j so =
    ap (λ bs. done_of (shuffles bs i) (found_on (edited s.0 (ending_of t.0 e) before) i j)) (map_edited birth_of (ending_of t.0 e) before s.0 (λ x. refl))
    ∙ ap (λ o. done_of (shuffles (births_on before) i) o) (found_edited (ending_of t.0 e) (ended e) before s.0 t.0 i j (λ x. refl))
    ∙ ended_stays (shuffles (births_on before) i) ((s.0 == i) && (t.0 == j)) e (found_on before i j) so
ended_front s t e f before i j so = so

failed_front : (s : StageId) (t : TaskId) (e : ExecId) (f : Fate) (before : List Stage) (i j : ℕ) → done_on before i j ≡ true → done_on (settled (Failed s t e) f before) i j ≡ true
failed_front s t e fate.FailCounted before i j so =
    ap (λ bs. done_of (shuffles bs i) (found_on (edited s.0 (failure_of t.0) before) i j)) (map_edited birth_of (failure_of t.0) before s.0 (λ x. refl))
    ∙ ap (λ o. done_of (shuffles (births_on before) i) o) (found_edited (failure_of t.0) failed before s.0 t.0 i j (λ x. refl))
    ∙ failed_stays (shuffles (births_on before) i) ((s.0 == i) && (t.0 == j)) (found_on before i j) ∙ so
failed_front s t e f before i j so = so

not_both : (a b i j : ℕ) → (a ≡ i → b ≡ j → ⊥) → ((a == i) && (b == j)) ≡ false
not_both a b i j never = at (a == i) (b == j) (eqb-true a i) (eqb-true b j)
  where
    at : (x y : Bool) → (x ≡ true → a ≡ i) → (y ≡ true → b ≡ j) → (x && y) ≡ false
    at false y first second = refl
    at true false first second = refl
    at true true first second = absurd (never (first refl) (second refl))

-- a failed fetch leaves each other task as it was
fetch_front : (s : StageId) (t : TaskId) (e : ExecId) (p : StageId) (m : MapId) (f : Fate) (before : List Stage) (i j : ℕ) → (p.0 ≡ i → m.0 ≡ j → ⊥) →
    done_on before i j ≡ true → done_on (settled (Fetch s t e p m) f before) i j ≡ true
fetch_front s t e p m fate.FetchCounted before i j other so =
    ap (λ bs. done_of (shuffles bs i) (found_on (edited p.0 (bereft m.0) (edited s.0 fetch_of before)) i j))
    (map_edited birth_of (bereft m.0) (edited s.0 fetch_of before) p.0 (λ x. refl) ∙ map_edited birth_of fetch_of before s.0 (λ x. refl))
    ∙ ap (λ o. done_of (shuffles (births_on before) i) o)
    (found_edited (bereft m.0) emptied (edited s.0 fetch_of before) p.0 m.0 i j (λ x. refl)
    ∙ ap (λ b. cond b (option_map emptied (found_on (edited s.0 fetch_of before) i j)) (found_on (edited s.0 fetch_of before) i j)) (not_both p.0 m.0 i j other)
    ∙ fetched before s.0 i j)
    ∙ so
fetch_front s t e p m f before i j other so = so

-- the numbers behind an ending or a failure: where they serve behind what was before, they still do
pub fronts_ended : (s : StageId) (t : TaskId) (e : ExecId) (f : Fate) (before after : List Stage) (firsts : List ℕ) → after ≡ settled (Ended s t e) f before → AreDone before firsts → AreDone after firsts
fronts_ended s t e f before after firsts is was = subst (λ b. AreDone b firsts) (sym is) (λ i j below. ended_front s t e f before i j (was i j below))

pub fronts_failed : (s : StageId) (t : TaskId) (e : ExecId) (f : Fate) (before after : List Stage) (firsts : List ℕ) → after ≡ settled (Failed s t e) f before → AreDone before firsts → AreDone after firsts
fronts_failed s t e f before after firsts is was = subst (λ b. AreDone b firsts) (sym is) (λ i j below. failed_front s t e f before i j (was i j below))

-- and behind a failed fetch, where the number of the parent goes back to the map
pub fronts_fetched : (s : StageId) (t : TaskId) (e : ExecId) (p : StageId) (m : MapId) (f : Fate) (before after : List Stage) (firsts moved : List ℕ) →
    GoesBack firsts p.0 m.0 moved → after ≡ settled (Fetch s t e p m) f before → AreDone before firsts → AreDone after moved
fronts_fetched s t e p m f before after firsts moved back is was =
    subst (λ b. AreDone b moved) (sym is) (λ i j below. let kept = back i j below in fetch_front s t e p m f before i j kept.1 (was i j kept.0))

-- one number written anew
pub front_written : (board : List Stage) (firsts : List ℕ) (s first : ℕ) → s < length firsts → AreDone board firsts → AllDone board s first → AreDone board (set firsts s first)
front_written board firsts s first below was all i =
    elim (cases_eq i s) as (λ w. AllDone board i (get_or (set firsts s first) i 0)) [
      | inl same ↦ subst (λ k. AllDone board k (get_or (set firsts s first) k 0)) (sym same)
          (subst (λ n. AllDone board s n) (sym (get_or-set_same firsts s first 0 below)) all)
      | inr other ↦ subst (λ n. AllDone board i n) (sym (get_or-set_other firsts s i first 0 other)) (was i)
    ]

-- the numbers up to one stage
pub fronts_more : (board : List Stage) (firsts : List ℕ) (s first : ℕ) → s < length firsts → ((i : ℕ) → i < s → AllDone board i (get_or firsts i 0)) → AllDone board s first →
    (i : ℕ) → i < s + 1 → AllDone board i (get_or (set firsts s first) i 0)
fronts_more board firsts s first below was all i within =
    elim (cases_eq i s) as (λ w. AllDone board i (get_or (set firsts s first) i 0)) [
      | inl same ↦ subst (λ k. AllDone board k (get_or (set firsts s first) k 0)) (sym same)
          (subst (λ n. AllDone board s n) (sym (get_or-set_same firsts s first 0 below)) all)
      | inr other ↦ subst (λ n. AllDone board i n) (sym (get_or-set_other firsts s i first 0 other)) (was i (omega arith))
    ]

past_end : (xs : List ℕ) (i : ℕ) → length xs ≤ i → get_or xs i 0 ≡ 0
past_end xs i past = get_or_past xs i 0 past

-- and beyond all of them
pub fronts_all : (board : List Stage) (firsts : List ℕ) → ((i : ℕ) → i < length firsts → AllDone board i (get_or firsts i 0)) → AreDone board firsts
fronts_all board firsts was i =
    elim (cases_lt i (length firsts)) as (λ w. AllDone board i (get_or firsts i 0)) [
      | inl below ↦ was i below
      | inr past ↦ subst (λ n. AllDone board i n) (sym (past_end firsts i past)) (λ t never. absurd (omega (arith, never)))
    ]

-- a number that goes back
pub goes_back : (firsts : List ℕ) (s task : ℕ) → s < length firsts → GoesBack firsts s task (set firsts s (min (get_or firsts s 0) task))
goes_back firsts s task below i j within =
    elim (cases_eq i s) as (λ w. (j < get_or firsts i 0) × (s ≡ i → task ≡ j → ⊥)) [
      | inl same ↦
          let here : get_or (set firsts s (min (get_or firsts s 0) task)) i 0 ≡ min (get_or firsts s 0) task =
          ap (λ k. get_or (set firsts s (min (get_or firsts s 0) task)) k 0) same ∙ get_or-set_same firsts s (min (get_or firsts s 0) task) 0 below in
          let less : j < min (get_or firsts s 0) task = subst (λ n. j < n) here within in
          let low : j < get_or firsts s 0 = omega arith in
          (subst (λ k. j < get_or firsts k 0) (sym same) low, λ a b. omega arith)
      | inr other ↦
          let there : get_or (set firsts s (min (get_or firsts s 0) task)) i 0 ≡ get_or firsts i 0 = get_or-set_other firsts s i (min (get_or firsts s 0) task) 0 other in
          (subst (λ n. j < n) there within, λ a b. other (sym a))
    ]

pub stays_back : (firsts : List ℕ) (s task : ℕ) → length firsts ≤ s → GoesBack firsts s task firsts
stays_back firsts s task past i j within =
    (within, λ a b. let none : get_or firsts i 0 ≡ 0 = past_end firsts i (subst (λ k. length firsts ≤ k) a past) in omega arith)

-- a mark of need leaves what is done
pub marked_front : (s : ℕ) (is_needed : Bool) (before : List Stage) (i j : ℕ) → done_on (edited s (marking is_needed) before) i j ≡ done_on before i j
marked_front s is_needed before i j =
    ap (λ bs. done_of (shuffles bs i) (found_on (edited s (marking is_needed) before) i j)) (map_edited birth_of (marking is_needed) before s (λ x. refl))
    ∙ ap (λ o. done_of (shuffles (births_on before) i) (option_and_then (λ stage. slice_get stage.tasks j) o)) (get_edited (marking is_needed) before s i)
    ∙ ap (λ o. done_of (shuffles (births_on before) i) o) (found_at (s == i) (slice_get before i))
  where
    found_at : (b : Bool) (o : Option Stage) → option_and_then (λ stage. slice_get stage.tasks j) (cond b (option_map (marking is_needed) o) o) ≡ option_and_then (λ stage. slice_get stage.tasks j) o
    found_at false o = refl
    found_at true None = refl
    found_at true (Some x) = refl

-- and so does a birth
pub born_front : (board : List Stage) (x : Stage) (s t : ℕ) → done_on board s t ≡ true → done_on (board ++ x ∷ []) s t ≡ true
born_front [] x s t so = absurd (cc)
born_front (y ∷ ys) x zero t so = so
born_front (y ∷ ys) x (suc s) t so = born_front ys x s t so

-- no event changes the births
births_lost : (e : ExecId) (xs : List Stage) → births_on (map (loss_of e) xs) ≡ births_on xs
births_lost e [] = refl
births_lost e (x ∷ xs) = ap (λ bs. birth_of x ∷ bs) (births_lost e xs)

pub settled_births : (event : Event) (f : Fate) (board : List Stage) → births_on (settled event f board) ≡ births_on board
settled_births (Ended s t e) fate.Counted board = map_edited birth_of (ending_of t.0 e) board s.0 (λ x. refl)
settled_births (Failed s t e) fate.FailCounted board = map_edited birth_of (failure_of t.0) board s.0 (λ x. refl)
settled_births (Lost e) f board = births_lost e board
settled_births (Fetch s t e p m) fate.FetchCounted board =
    map_edited birth_of (bereft m.0) (edited s.0 fetch_of board) p.0 (λ x. refl) ∙ map_edited birth_of fetch_of board s.0 (λ x. refl)
settled_births event f board = refl
