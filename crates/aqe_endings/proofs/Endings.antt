-- The ending of the task that may end next counts, and what it changes.
use Rattle.std.proofs.Common.{◌≡◌, refl, ap, sym, subst, ◌∙◌, ◌≤◌, ◌<◌, ◌+◌, ◌==◌, zero, suc, ℕ, Bool, true, false, cond, not, ◌||◌, ◌&&◌, List, [], ◌∷◌, ◌++◌, length, map, flat_map, arith, Option, Some, None, is_some, slice_get, inl, inr}
use Rattle.std.specs.Prelude.{All}
use Rattle.std.specs.List.{list_any, list_all, range_with_len, find}
use Rattle.std.specs.Option.{unwrap_or, option_and_then}
use Rattle.std.proofs.lemmas.Bool.{cases_eq, cases_Bool, eqb-true}
use Rattle.std.proofs.lemmas.List.Sums.{sum_by-cons}
use Rattle.std.proofs.lemmas.List.Elements.{All-nil, All-cons, All-append, All-head, All-tail}
use Rattle.aqe_base.specs.declared.event.Event.TheVariants.{Ended, Failed, Lost, Fetch}
use Rattle.aqe_scheduler.specs.declared.fate.Fate.{Fate}
use Rattle.aqe_scheduler.specs.declared.fate.Fate.TheVariants as fate
use Rattle.aqe_scheduler.specs.declared.need.Need.{Need}
use Rattle.aqe_scheduler.specs.History.{Birth, Step, Added, Marked, Happened}
use Rattle.aqe_scheduler.specs.Looks.{births, needed, counts, done, whole, task_count, tasks_in, fails, fails_counted, streak, fetch_counted, counts_for}
use Rattle.aqe_scheduler.specs.Fates.{fate_of, judged, task_reads, has_inputs}
use Rattle.aqe_scheduler.specs.Rest.{tasks_of, places, may_end, rest_of, rest_ending}
use Rattle.aqe_scheduler.proofs.Ready.{and_false}
use Rattle.aqe_endings.specs.Peace.{IsPeaceful}
use Rattle.aqe_endings.specs.Laws.{NextEndingsCount, WholeStagesStay}
use Rattle.aqe_endings.proofs.Histories.{births_same, done_more}
use Rattle.aqe_endings.proofs.Wholes.{range_all}

clash : false ≡ true → ⊥
clash c = cc (c)

pub both_left : (a b : Bool) → (a && b) ≡ true → a ≡ true
both_left true b is = refl
both_left false b is = is

pub both_right : (a b : Bool) → (a && b) ≡ true → b ≡ true
both_right true b is = is
both_right false b is = absurd (clash is)

-- what is found passes the test, and whatever holds of all holds of it
found : {X : Type 0} (Q : X → Type 0) (p : X → Bool) (xs : List X) (x : X) → All Q xs → find p xs ≡ Some x → Q x × (p x ≡ true)
found Q p [] x all is = absurd (none is)
  where
    none : None ≡ Some x → ⊥
    none n = cc (n)
found {X = X} Q p (y ∷ ys) x all is = elim (cases_Bool (p y)) [
  | inl so ↦
      let same : y ≡ x = some_one y x (ap (λ b. cond b (Some y) (find p ys)) (sym so) ∙ is) in
      (subst Q same (All-head Q y ys all), subst (λ z. p z ≡ true) same so)
  | inr not_so ↦ found Q p ys x (All-tail Q y ys all) (ap (λ b. cond b (Some y) (find p ys)) (sym not_so) ∙ is)
]
  where
    some_one : (a b : X) → Some a ≡ Some b → a ≡ b
    some_one a b h = ap (λ o. unwrap_or o a) h

-- a place at which there is a task
abbrev IsTask : List Birth → ℕ × ℕ → Type 0
IsTask born place = is_some (task_reads born place.0 place.1) ≡ true

all_map : {X Y : Type 0} (P : Y → Type 0) (f : X → Y) (xs : List X) → All (λ x. P (f x)) xs → All P (map f xs)
all_map P f [] all = All-nil P
all_map P f (x ∷ xs) all = All-cons P (f x) (map f xs) (All-head (λ z. P (f z)) x xs all) (all_map P f xs (All-tail (λ z. P (f z)) x xs all))

all_flat : {X Y : Type 0} (P : Y → Type 0) (f : X → List Y) (xs : List X) → ((x : X) → All P (f x)) → All P (flat_map f xs)
all_flat P f [] each = All-nil P
all_flat P f (x ∷ xs) each = All-append P (f x) (flat_map f xs) (each x) (all_flat P f xs each)

get_there : {X : Type 0} (xs : List X) (i : ℕ) → i < length xs → is_some (slice_get xs i) ≡ true
get_there [] i lt = absurd (omega (arith, lt))
get_there (x ∷ xs) zero lt = refl
get_there (x ∷ xs) (suc i) lt = get_there xs i (omega (arith, lt))

task_there : (born : List Birth) (s t : ℕ) → t < task_count born s → IsTask born (s, t)
task_there born s t lt = at (slice_get born s) lt
  where
    at : (o : Option Birth) → t < tasks_in o → is_some (option_and_then (λ birth. slice_get birth.reads t) o) ≡ true
    at None lt = absurd (omega (arith, lt))
    at (Some birth) lt = get_there birth.reads t lt

all_tasks : (born : List Birth) → All (IsTask born) (places born)
all_tasks born = all_flat (IsTask born) (tasks_of born) (range_with_len 0 (length born))
    (λ s. all_map (IsTask born) (λ t. (s, t)) (range_with_len 0 (task_count born s)) (range_all (λ t. IsTask born (s, t)) 0 (task_count born s) (λ t low high. task_there born s t (omega (arith, high)))))

-- what holds of the task that may end next
pub record MayEnd (h : List Step) (place : ℕ × ℕ) : Type 0 where
  pub reads : List Need
  pub task : task_reads (births h) place.0 place.1 ≡ Some reads
  pub needed : needed h place.0 ≡ true
  pub undone : done h place.0 place.1 ≡ false
  pub inputs : has_inputs (done h) reads ≡ true

pub next_may_end : (h : List Step) (place : ℕ × ℕ) → rest_of h ≡ Some place → MayEnd h place
next_may_end h place is =
    let f = found (IsTask (births h)) (may_end (births h) (needed h) (done h)) (places (births h)) place (all_tasks (births h)) is in
    let s = place.0 in
    let t = place.1 in
    let rest = both_right (needed h s) (not (done h s t) && has_inputs (done h) (unwrap_or (task_reads (births h) s t) [])) f.1 in
    at (task_reads (births h) s t) refl f.0
    (both_left (needed h s) (not (done h s t) && has_inputs (done h) (unwrap_or (task_reads (births h) s t) [])) f.1)
    (is_open (done h s t) (both_left (not (done h s t)) (has_inputs (done h) (unwrap_or (task_reads (births h) s t) [])) rest))
    (both_right (not (done h s t)) (has_inputs (done h) (unwrap_or (task_reads (births h) s t) [])) rest)
  where
    is_open : (b : Bool) → not b ≡ true → b ≡ false
    is_open true n = absurd (clash n)
    is_open false n = refl

    at : (o : Option (List Need)) → task_reads (births h) place.0 place.1 ≡ o → is_some o ≡ true → needed h place.0 ≡ true → done h place.0 place.1 ≡ false →
        has_inputs (done h) (unwrap_or (task_reads (births h) place.0 place.1) []) ≡ true → MayEnd h place
    at None e there n d i = absurd (clash there)
    at (Some reads) e there n d i = record { reads = reads; task = e; needed = n; undone = d; inputs = ap (λ o. has_inputs (done h) (unwrap_or o [])) (sym e) ∙ i }

-- its ending counts
pub next_counts : (h : List Step) (place : ℕ × ℕ) → MayEnd h place → fate_of h (rest_ending place) ≡ fate.Counted
next_counts h place m = (λ i. judged (m.task i) (m.needed i) (m.undone i) (done h) fate.Counted) ∙ ap (λ b. cond b fate.Counted fate.Starved) m.inputs

-- a stage with a task that is not done is not whole
pub open_whole : (h : List Step) (s t : ℕ) → t < task_count (births h) s → done h s t ≡ false → whole h s ≡ false
open_whole h s t lt undone =
    ap (λ b. is_some (slice_get (births h) s) && b) (some_open (done h s) 0 (task_count (births h) s) t (omega arith) (omega (arith, lt)) undone) ∙ and_false (is_some (slice_get (births h) s))
  where
    some_open : (p : ℕ → Bool) (a n k : ℕ) → a ≤ k → k < a + n → p k ≡ false → list_all p (range_with_len a n) ≡ false
    some_open p a zero k low high none = absurd (omega (arith, low, high))
    some_open p a (suc n) k low high none = elim (cases_eq a k) [
      | inl is ↦ ap (λ b. b && list_all p (range_with_len (a + 1) n)) (ap p is ∙ none)
      | inr is_not ↦ ap (λ b. p a && b) (some_open p (a + 1) n k (omega (arith, low, is_not)) (omega (arith, high)) none) ∙ and_false (p a)
    ]

-- an ending changes nothing of the other stages
pub whole_other : (h : List Step) (place : ℕ × ℕ) (f : Fate) (s : ℕ) → (place.0 ≡ s → ⊥) → whole (h ++ Happened (rest_ending place) f ∷ []) s ≡ whole h s
whole_other h place f s apart =
    let x = Happened (rest_ending place) f in
    let same = births_same h x refl in
    λ i. is_some (slice_get (same i) s) && list_all (λ t. done_same t i) (range_with_len 0 (task_count (same i) s))
  where
    or_false : (b : Bool) → (b || false) ≡ b
    or_false true = refl
    or_false false = refl

    stage_apart : (place.0 == s) ≡ false
    stage_apart = elim (cases_Bool (place.0 == s)) as (λ w. (place.0 == s) ≡ false) [
      | inl so ↦ absurd (apart (eqb-true place.0 s so))
      | inr not_so ↦ not_so
    ]

    uncounted : (g : Fate) (t : ℕ) → counts s t (Happened (rest_ending place) g) ≡ false
    uncounted fate.Counted t = ap (λ b. b && (place.1 == t)) stage_apart
    uncounted fate.Late t = refl
    uncounted fate.Unknown t = refl
    uncounted fate.Repeat t = refl
    uncounted fate.Starved t = refl
    uncounted fate.FailCounted t = refl
    uncounted fate.Lost t = refl
    uncounted fate.FetchCounted t = refl

    done_same : (t : ℕ) → done (h ++ Happened (rest_ending place) f ∷ []) s t ≡ done h s t
    done_same t = done_more h (Happened (rest_ending place) f) (λ a b c. refl) refl s t ∙ ap (λ b. done h s t || b) (uncounted f t) ∙ or_false (done h s t)

-- where all steps are such, no failure and no failed fetch was counted
pub no_fails : (h : List Step) → All IsPeaceful h → (s t : ℕ) → fails h s t ≡ 0
no_fails [] all s t = refl
no_fails (x ∷ h) all s t = sum_by-cons (λ y. cond (fails_counted s t y) 1 0) x h ∙ (λ i. cond (none x (All-head IsPeaceful x h all) i) 1 0 + no_fails h (All-tail IsPeaceful x h all) s t i)
  where
    none : (y : Step) → IsPeaceful y → fails_counted s t y ≡ false
    none (Added birth) q = refl
    none (Marked stage is_needed) q = refl
    none (Happened (Ended stage task on) f) q = refl
    none (Happened (Failed stage task on) f) q = absurd q
    none (Happened (Lost on) f) q = absurd q
    none (Happened (Fetch stage task on parent m) f) q = absurd q

pub no_streak : (h : List Step) → All IsPeaceful h → (s : ℕ) → streak h s ≡ 0
no_streak [] all s = refl
no_streak (x ∷ h) all s = (λ i. cond (none x (All-head IsPeaceful x h all) i && not (list_any (counts_for s) h)) 1 0 + no_streak h (All-tail IsPeaceful x h all) s i)
  where
    none : (y : Step) → IsPeaceful y → fetch_counted s y ≡ false
    none (Added birth) q = refl
    none (Marked stage is_needed) q = refl
    none (Happened (Ended stage task on) f) q = refl
    none (Happened (Failed stage task on) f) q = absurd q
    none (Happened (Lost on) f) q = absurd q
    none (Happened (Fetch stage task on parent m) f) q = absurd q

-- what was whole stays so
pub whole_stays : (h : List Step) (place : ℕ × ℕ) → whole h place.0 ≡ false → (s : ℕ) → whole h s ≡ true → whole (h ++ Happened (rest_ending place) fate.Counted ∷ []) s ≡ true
whole_stays h place not_yet s is = elim (cases_eq place.0 s) as (λ w. whole (h ++ Happened (rest_ending place) fate.Counted ∷ []) s ≡ true) [
  | inl same ↦ absurd (clash (sym not_yet ∙ ap (λ k. whole h k) same ∙ is))
  | inr apart ↦ whole_other h place fate.Counted s apart ∙ is
]

task_below : (bs : List Birth) (s t : ℕ) (reads : List Need) → task_reads bs s t ≡ Some reads → t < task_count bs s
task_below [] s t reads e = absurd (none e)
  where
    none : None ≡ Some reads → ⊥
    none n = cc (n)
task_below (b ∷ bs) zero t reads e = get_below b.reads t reads e
  where
    get_below : {X : Type 0} (xs : List X) (i : ℕ) (x : X) → slice_get xs i ≡ Some x → i < length xs
    get_below {X = X} [] i x g = absurd (none g)
      where
        none : None ≡ Some x → ⊥
        none n = cc (n)
    get_below (y ∷ ys) zero x g = omega arith
    get_below (y ∷ ys) (suc i) x g = let rest = get_below ys i x g in omega (arith, rest)
task_below (b ∷ bs) (suc s) t reads e = task_below bs s t reads e

pub next_ending_counts : NextEndingsCount
next_ending_counts h place next = next_counts h place (next_may_end h place next)

pub wholes_stay : WholeStagesStay
wholes_stay h place s next is =
    let m = next_may_end h place next in
    whole_stays h place (open_whole h place.0 place.1 (task_below (births h) place.0 place.1 m.reads m.task) m.undone) s is
