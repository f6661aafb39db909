-- A board behind a birth or a mark of need.
use Rattle.std.proofs.Common.{◌≡◌, ℕ, zero, suc, Bool, true, false, cond, ◌==◌, List, [], ◌∷◌, ◌++◌, length, replicate, refl, ap, ◌∙◌, sym, subst, Option, Some, None, is_some, slice_get, unwrap_or}
use Rattle.std.specs.Option.{option_map, option_and_then}
use Rattle.std.proofs.lemmas.Bool.{eqb-true}
use Rattle.std.proofs.lemmas.List.{map-append}
use Rattle.aqe_scheduler.specs.declared.stage.Stage.{Stage}
use Rattle.aqe_scheduler.specs.History.{Birth, Entry, Adds, Marks, Added, Marked}
use Rattle.aqe_scheduler.specs.Fates.{task_reads, noted}
use Rattle.aqe_scheduler.specs.Tables.{edited, fresh, births_on, birth_of, needed_at, streak_at, task_on, found_on}
use Rattle.aqe_scheduler.specs.Changes.{newborn, marking}
use Rattle.aqe_scheduler.specs.Stands.{Stands, StandsFor}
use Rattle.aqe_scheduler.proofs.Edits.{get_edited, map_edited}
use Rattle.aqe_scheduler.proofs.Follow.{Followed, stands_behind}
use Rattle.aqe_scheduler.proofs.Events.{all_kept, or_false, with_task, same_births}
use Rattle.aqe_scheduler.proofs.Taken.{noted_more}

-- a look at a stage, where one more that looks like none is born
looked : {Y : Type 0} (look : Option Stage → Y) (x : Stage) → look (Some x) ≡ look None → (board : List Stage) (s : ℕ) → look (slice_get (board ++ x ∷ []) s) ≡ look (slice_get board s)
looked look x same [] zero = same
looked look x same [] (suc s) = refl
looked look x same (y ∷ ys) zero = refl
looked look x same (y ∷ ys) (suc s) = looked look x same ys s

all_fresh : (n t : ℕ) → unwrap_or (slice_get (replicate n fresh) t) fresh ≡ fresh
all_fresh zero t = refl
all_fresh (suc n) zero = refl
all_fresh (suc n) (suc t) = all_fresh n t

as_many : {X : Type 0} (xs : List X) (t : ℕ) → is_some (slice_get (replicate (length xs) fresh) t) ≡ is_some (slice_get xs t)
as_many [] t = refl
as_many (x ∷ xs) zero = refl
as_many (x ∷ xs) (suc t) = as_many xs t

Room : List Stage → Type 0
Room board = (s t : ℕ) → is_some (found_on board s t) ≡ is_some (task_reads (births_on board) s t)

room_more : (board : List Stage) (x : Stage) → ((t : ℕ) → is_some (slice_get x.tasks t) ≡ is_some (slice_get x.reads t)) →
    ((s t : ℕ) → is_some (found_on board s t) ≡ is_some (task_reads (births_on board) s t)) →
    (s t : ℕ) → is_some (found_on (board ++ x ∷ []) s t) ≡ is_some (task_reads (births_on (board ++ x ∷ [])) s t)
room_more [] x own room zero t = own t
room_more [] x own room (suc s) t = refl
room_more (y ∷ ys) x own room zero t = room zero t
room_more (y ∷ ys) x own room (suc s) t = room_more ys x own (λ i j. room (suc i) j) s t

birth_followed : (board : List Stage) (birth : Birth) → Followed board (Added birth) (board ++ newborn birth ∷ [])
birth_followed board birth = record {
  births = map-append birth_of board (newborn birth ∷ []);
  room = room_more board (newborn birth) (as_many birth.reads);
  needed = looked needed_at (newborn birth) refl board;
  streaks = looked streak_at (newborn birth) refl board;
  tasks = λ s t. with_task s t (Added birth) (task_on board s t) (task_on board s t) (task_on (board ++ newborn birth ∷ []) s t)
      (looked (λ o. unwrap_or (option_and_then (λ stage. slice_get stage.tasks t) o) fresh) (newborn birth) (all_fresh (length birth.reads) t) board s)
      (record { counted = or_false (task_on board s t).counted; on = all_kept (task_on board s t).on; fails = refl });
}

mark_followed : (board : List Stage) (s : ℕ) (is_needed : Bool) → is_some (slice_get board s) ≡ true → Followed board (Marked s is_needed) (edited s (marking is_needed) board)
mark_followed board s is_needed there = record {
  births = same_births (marking is_needed) board s (λ x. refl);
  room = λ room i j. ap (λ o. is_some o) (found i j) ∙ room i j ∙ ap (λ bs. is_some (task_reads bs i j)) (sym (map_edited birth_of (marking is_needed) board s (λ x. refl)));
  needed = λ i. ap needed_at (get_edited (marking is_needed) board s i) ∙ need_at (s == i) (slice_get board i) (λ same. ap (λ k. is_some (slice_get board k)) (sym (eqb-true s i same)) ∙ there);
  streaks = λ i. ap streak_at (get_edited (marking is_needed) board s i) ∙ streak_same (s == i) (slice_get board i);
  tasks = λ i j. with_task i j (Marked s is_needed) (task_on board i j) (task_on board i j) (task_on (edited s (marking is_needed) board) i j) (ap (λ o. unwrap_or o fresh) (found i j))
      (record { counted = or_false (task_on board i j).counted; on = all_kept (task_on board i j).on; fails = refl });
}
  where
    found_at : (j : ℕ) (b : Bool) (o : Option Stage) → option_and_then (λ stage. slice_get stage.tasks j) (cond b (option_map (marking is_needed) o) o) ≡ option_and_then (λ stage. slice_get stage.tasks j) o
    found_at j false o = refl
    found_at j true None = refl
    found_at j true (Some x) = refl

    found : (i j : ℕ) → found_on (edited s (marking is_needed) board) i j ≡ found_on board i j
    found i j = ap (λ o. option_and_then (λ stage. slice_get stage.tasks j) o) (get_edited (marking is_needed) board s i) ∙ found_at j (s == i) (slice_get board i)

    need_at : (b : Bool) (o : Option Stage) → (b ≡ true → is_some o ≡ true) → needed_at (cond b (option_map (marking is_needed) o) o) ≡ cond b is_needed (needed_at o)
    need_at false o born = refl
    need_at true None born = let never : false ≡ true = born refl in absurd (cc)
    need_at true (Some x) born = refl

    streak_same : (b : Bool) (o : Option Stage) → streak_at (cond b (option_map (marking is_needed) o) o) ≡ streak_at o
    streak_same false o = refl
    streak_same true None = refl
    streak_same true (Some x) = refl

-- what `birth` promises of histories
pub born : (board : List Stage) (birth : Birth) (entries : List Entry) → StandsFor board entries → StandsFor (board ++ newborn birth ∷ []) (entries ++ Adds birth ∷ [])
born board birth entries stands =
    subst (λ h. Stands (board ++ newborn birth ∷ []) h) (sym (noted_more entries (Adds birth)))
    (stands_behind board (board ++ newborn birth ∷ []) (noted entries) (Added birth) stands (birth_followed board birth))

-- and `need`
pub needed_behind : (board : List Stage) (s : ℕ) (is_needed : Bool) → is_some (slice_get board s) ≡ true → (entries : List Entry) → StandsFor board entries →
    StandsFor (edited s (marking is_needed) board) (entries ++ Marks s is_needed ∷ [])
needed_behind board s is_needed there entries stands =
    subst (λ h. Stands (edited s (marking is_needed) board) h) (sym (noted_more entries (Marks s is_needed)))
    (stands_behind board (edited s (marking is_needed) board) (noted entries) (Marked s is_needed) stands (mark_followed board s is_needed there))
