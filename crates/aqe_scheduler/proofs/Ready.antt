-- When a task may end next, and the length of what was handed out whole.
use Rattle.std.proofs.Common.{◌↔◌, ◌≡◌, ℕ, ◌+◌, ◌<◌, Bool, true, false, cond, not, ◌&&◌, List, [], ◌∷◌, ◌++◌, map, length, take, drop, refl, ap, ◌∙◌, sym, Some, None, get_or, arith, unwrap_or, ◌-◌, ◌^◌, zero, suc, inl, inr, is_some, slice_get, nat_lt, length-append}
use Rattle.std.specs.List.{find, range_with_len}
use Rattle.std.proofs.lemmas.Bool.{cases_lt, lt-ltb, ltb_from_iff}
use Rattle.std.proofs.lemmas.Option.{slice_get_past}
use Rattle.std.proofs.lemmas.List.{append-nil}
use Rattle.aqe_scheduler.specs.History.{Birth}
use Rattle.aqe_scheduler.specs.Stands.{AreFew}
use Rattle.aqe_scheduler.specs.declared.stage.Stage.{Stage}
use Rattle.aqe_scheduler.specs.Fates.{has_inputs, task_reads}
use Rattle.aqe_scheduler.specs.Looks.{task_count}
use Rattle.aqe_scheduler.specs.Rest.{may_end, tasks_of}
use Rattle.aqe_scheduler.specs.Tables.{births_on, needed_on, done_on}
use Rattle.aqe_scheduler.specs.Cursors.{AllDone}
use Rattle.aqe_scheduler.proofs.Ranges.{find_skip}

pub and_true : (b : Bool) → (b && true) ≡ b
and_true true = refl
and_true false = refl

pub and_false : (b : Bool) → (b && false) ≡ false
and_false true = refl
and_false false = refl

find_none : {X : Type 0} (p : X → Bool) (f : ℕ → X) (xs : List ℕ) → ((t : ℕ) → p (f t) ≡ false) → find p (map f xs) ≡ None
find_none p f [] never = refl
find_none p f (x ∷ xs) never = ap (λ b. cond b (Some (f x)) (find p (map f xs))) (never x) ∙ find_none p f xs never

-- a stage that is not needed has no task that may end
pub none_of : (board : List Stage) (s : ℕ) → needed_on board s ≡ false → find (may_end (births_on board) (needed_on board) (done_on board)) (tasks_of (births_on board) s) ≡ None
none_of board s idle = find_none _ (λ t. (s, t)) (range_with_len 0 (task_count (births_on board) s))
    (λ t. ap (λ b. b && (not (done_on board s t) && has_inputs (done_on board) (unwrap_or (task_reads (births_on board) s t) []))) idle)

-- the tasks at the front, which are done, may be left out
pub none_before : (board : List Stage) (firsts : List ℕ) (s : ℕ) → AllDone board s (get_or firsts s 0) →
    find (may_end (births_on board) (needed_on board) (done_on board)) (tasks_of (births_on board) s) ≡
    find (may_end (births_on board) (needed_on board) (done_on board)) (map (λ t. (s, t)) (range_with_len (get_or firsts s 0) (task_count (births_on board) s - get_or firsts s 0)))
none_before board firsts s all = find_skip _ (λ t. (s, t)) (get_or firsts s 0) (task_count (births_on board) s)
    (λ t below. ap (λ d. needed_on board s && (not d && has_inputs (done_on board) (unwrap_or (task_reads (births_on board) s t) []))) (all t below) ∙ and_false (needed_on board s))

-- whether a task of a needed stage may end
pub ready_is : (n r : Bool) (b : Bool) → n ≡ true → r ≡ b → (n && r) ≡ b
ready_is n r b so is = ap (λ m. m && r) so ∙ is

-- one more task at the front
pub all_more : (board : List Stage) (s n : ℕ) → AllDone board s n → done_on board s n ≡ true → AllDone board s (n + 1)
all_more board s n all here t below =
    elim (cases_lt t n) as (λ w. done_on board s t ≡ true) [
      | inl before ↦ all t before
      | inr past ↦ let same : t ≡ n = omega arith in ap (λ k. done_on board s k) same ∙ here
    ]

pub births_length : (board : List Stage) → length (births_on board) ≡ length board
births_length [] = refl
births_length (x ∷ xs) = ap suc (births_length xs)

-- a list that was handed out whole
pub whole_list : {X : Type 0} (n : ℕ) (after before : List X) → n ≡ length before → length after ≡ length before → take n (after ++ drop (length after) before) ≡ after
whole_list n after before count same =
    let none : drop (length after) before ≡ [] = ap (λ k. drop k before) same ∙ drop_all before in
    ap (λ xs. take n (after ++ xs)) none ∙ ap (λ xs. take n xs) (append-nil after) ∙ ap (λ k. take k after) (count ∙ sym same) ∙ take_all after
  where
    drop_all : {Y : Type 0} (xs : List Y) → drop (length xs) xs ≡ []
    drop_all [] = refl
    drop_all (x ∷ xs) = drop_all xs

    take_all : {Y : Type 0} (xs : List Y) → take (length xs) xs ≡ xs
    take_all [] = refl
    take_all (x ∷ xs) = ap (λ ys. x ∷ ys) (take_all xs)

pub firsts_more : (xs : List ℕ) (s : ℕ) → get_or (xs ++ 0 ∷ []) s 0 ≡ get_or xs s 0
firsts_more [] zero = refl
firsts_more [] (suc s) = refl
firsts_more (x ∷ xs) zero = refl
firsts_more (x ∷ xs) (suc s) = firsts_more xs s

-- a stage below the number of births is there
pub stage_there : (board : List Stage) (s : ℕ) → s < length (births_on board) → is_some (slice_get board s) ≡ true
stage_there [] s below = absurd (omega (arith, below))
stage_there (x ∷ xs) zero below = refl
stage_there (x ∷ xs) (suc s) below = stage_there xs s (omega (arith, below))

-- one more stage of few tasks
pub few_more : (born : List Birth) (birth : Birth) → AreFew born → length born < 2 ^ 32 → length birth.reads < 2 ^ 32 → AreFew (born ++ birth ∷ [])
few_more born birth few below small =
    let longer : length (born ++ birth ∷ []) ≡ length born + 1 = length-append born (birth ∷ []) in
    (rw longer (omega arith), count born few.1)
  where
    count : (bs : List Birth) → ((s : ℕ) → task_count bs s < 2 ^ 32) → (s : ℕ) → task_count (bs ++ birth ∷ []) s < 2 ^ 32
    count [] all zero = small
    count [] all (suc s) = all s
    count (b ∷ bs) all zero = all zero
    count (b ∷ bs) all (suc s) = count bs (λ i. all (suc i)) s

-- a stage is born where its number is below how many there are
pub born_below : (board : List Stage) (s : ℕ) → nat_lt s (length board) ≡ is_some (slice_get (births_on board) s)
born_below board s =
    let many : length (births_on board) ≡ length board = births_length board in
    elim (cases_lt s (length board)) as (λ w. nat_lt s (length board) ≡ is_some (slice_get (births_on board) s)) [
      | inl below ↦ lt-ltb s (length board) below ∙ sym (there board s below)
      | inr past ↦ sym (ltb_from_iff (never (λ h. omega (arith, h, past)))) ∙ sym (ap (λ o. is_some o) (slice_get_past (births_on board) s (omega (arith, many, past))))
    ]
  where
    there : (bs : List Stage) (i : ℕ) → i < length bs → is_some (slice_get (births_on bs) i) ≡ true
    there [] i below = absurd (omega (arith, below))
    there (x ∷ xs) zero below = refl
    there (x ∷ xs) (suc i) below = there xs i (omega (arith, below))

    clash : false ≡ true → ⊥
    clash h = cc (h)

    never : {m n : ℕ} → (m < n → ⊥) → (false ≡ true) ↔ (m < n)
    never past = record { 0 = λ h. absurd (clash h); 1 = λ h. absurd (past h) }
