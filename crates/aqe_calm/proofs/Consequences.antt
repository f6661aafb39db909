-- What follows of calm states: when a position is a turning point, when the query is done, and what its result holds.
use Rattle.std.proofs.Common.{◌≡◌, refl, ap, sym, subst, ◌∙◌, ◌≤◌, ◌<◌, ◌+◌, zero, suc, ℕ, Bool, true, false, cond, not, ◌&&◌, ◌||◌, List, [], ◌∷◌, ◌++◌, length, arith, Some, None, is_some, inl, inr}
use Rattle.std.specs.Prelude.{nat_le}
use Rattle.std.specs.List.{list_any, range_with_len, find}
use Rattle.std.specs.Option.{option_map, option_or}
use Rattle.std.proofs.lemmas.Bool.{cases_eq, cases_Bool}
use Rattle.std.proofs.lemmas.Bool.Decides.{nat_tests}
use Rattle.aqe_scheduler.specs.declared.fate.Fate.TheVariants as fate
use Rattle.aqe_scheduler.specs.History.{Happens, Happened}
use Rattle.aqe_scheduler.specs.Looks.{births, whole, fails, streak}
use Rattle.aqe_scheduler.specs.Positions.{upto}
use Rattle.aqe_scheduler.specs.Rest.{places, rest_ending}
use Rattle.aqe_scheduler.proofs.Taken.{noted_more}
use Rattle.aqe_scheduler.proofs.Ready.{and_true}
use Rattle.aqe_settings.specs.declared.entry.Value.{Value}
use Rattle.aqe_settings.specs.declared.entry.Value.TheVariants as value
use Rattle.aqe_settings.specs.declared.key.SettingKey.TheVariants as key
use Rattle.aqe_settings.specs.Values.{value_of, number_or}
use Rattle.aqe_settings.specs.Ranges.{Takes, InRange}
use Rattle.aqe_settings.specs.Table.{row_of}
use Rattle.aqe_physical.specs.declared.plan.Plan.{Plan}
use Rattle.aqe_journal.specs.Asked.{Asked}
use Rattle.aqe_journal.specs.States.{State, history, positions, is_whole, is_materialised, with_event, is_turning}
use Rattle.aqe_journal.specs.LegalRecord.{failed_task, failed_stage, aborted, stage_aborted, is_done, reached}
use Rattle.aqe_journal.specs.declared.record.Finish.TheVariants as finish
use Rattle.aqe_endings.proofs.Endings.{MayEnd, next_counts, whole_other, no_fails, no_streak}
use Rattle.aqe_calm.specs.Calm.{Calm}
use Rattle.aqe_calm.proofs.Calm.{stage_there, not_whole}

-- a test that some item passes is whether one is found
any_found : {X : Type 0} (p : X → Bool) (xs : List X) → list_any p xs ≡ is_some (find p xs)
any_found p [] = refl
any_found p (x ∷ xs) = ap (λ b. p x || b) (any_found p xs) ∙ at (p x)
  where
    at : (b : Bool) → (b || is_some (find p xs)) ≡ is_some (cond b (Some x) (find p xs))
    at true = refl
    at false = refl

-- a stage is materialised where it is whole
pub materialised_whole : (asked : Asked) (first : Plan) (now : State) → Calm asked first now → (s : ℕ) → is_materialised now s ≡ is_whole now s
materialised_whole asked first now c s = any_found (λ k. whole (upto k (history now)) s) (positions now) ∙ sym (c.events.whole s)

-- where no other item passes, some item passes if this one does
any_only : (p : ℕ → Bool) (a n k : ℕ) → a ≤ k → k < a + n → ((j : ℕ) → (k ≡ j → ⊥) → p j ≡ false) → list_any p (range_with_len a n) ≡ p k
any_only p a zero k low high others = absurd (omega (arith, low, high))
any_only p a (suc n) k low high others = elim (cases_eq k a) as (λ w. list_any p (range_with_len a (suc n)) ≡ p k) [
  | inl same ↦ subst (λ j. (p j || list_any p (range_with_len (a + 1) n)) ≡ p k) same
      (ap (λ b. p k || b) (none_behind (a + 1) n (λ j le. others j (λ e. omega (arith, same, le, e)))) ∙ or_false (p k))
  | inr apart ↦ ap (λ b. b || list_any p (range_with_len (a + 1) n)) (others a apart) ∙ any_only p (a + 1) n k (omega (arith, low, apart)) (omega (arith, high)) others
]
  where
    or_false : (b : Bool) → (b || false) ≡ b
    or_false true = refl
    or_false false = refl

    none_behind : (b m : ℕ) → ((j : ℕ) → b ≤ j → p j ≡ false) → list_any p (range_with_len b m) ≡ false
    none_behind b zero all = refl
    none_behind b (suc m) all = ap (λ c. c || list_any p (range_with_len (b + 1) m)) (all b (omega arith)) ∙ none_behind (b + 1) m (λ j le. all j (omega (arith, le)))

-- the history behind the ending of a task that may end
pub history_behind : (now : State) (place : ℕ × ℕ) → MayEnd (history now) place → history (with_event now (rest_ending place)) ≡ history now ++ Happened (rest_ending place) fate.Counted ∷ []
history_behind now place m = noted_more now.entries (Happens (rest_ending place)) ∙ ap (λ f. history now ++ Happened (rest_ending place) f ∷ []) (next_counts (history now) place m)

-- the position behind the ending of a task is a turning point where its stage is whole then
pub turning_whole : (asked : Asked) (first : Plan) (now : State) (place : ℕ × ℕ) → Calm asked first now → MayEnd (history now) place →
    is_turning now (rest_ending place) ≡ is_whole (with_event now (rest_ending place)) place.0
turning_whole asked first now place c m =
    let there = stage_there now.stages (history now) place c.events m in
    any_only (λ s. is_whole (with_event now (rest_ending place)) s && not (is_materialised now s)) 0 (length now.stages) place.0 (omega arith) (omega (arith, there.0))
    (λ j apart. (λ i. ((λ k. whole (history_behind now place m k) j) ∙ whole_other (history now) place fate.Counted j apart) i && not (materialised_whole asked first now c j i)) ∙ never (is_whole now j))
    ∙ (λ i. is_whole (with_event now (rest_ending place)) place.0 && not ((materialised_whole asked first now c place.0 ∙ not_whole now.stages (history now) place c.events m) i))
    ∙ and_true (is_whole (with_event now (rest_ending place)) place.0)
  where
    never : (b : Bool) → (b && not b) ≡ false
    never true = refl
    never false = refl

find_never : {X : Type 0} (p : X → Bool) (xs : List X) → ((x : X) → p x ≡ false) → find p xs ≡ None
find_never p [] never = refl
find_never p (x ∷ xs) never = ap (λ b. cond b (Some x) (find p xs)) (never x) ∙ find_never p xs never

-- no number that is at least 1 is at most 0
above_none : (n : ℕ) → 1 ≤ n → nat_le n 0 ≡ false
above_none n some = elim (cases_Bool (nat_le n 0)) as (λ w. nat_le n 0 ≡ false) [
  | inl is ↦ let le : n ≤ 0 = grind (arith, nat_tests, is) in absurd (omega (arith, le, some))
  | inr is ↦ is
]

max_failures : (v : Value) → Takes (row_of key.MaxFailures) v → nat_le (number_or 0 v) 0 ≡ false
max_failures (value.Number n) t = above_none n t.0
max_failures (value.Flag on) t = absurd t
max_failures (value.Threshold n) t = absurd t
max_failures value.Unset t = absurd (unset t)
  where
    unset : (row_of key.MaxFailures).default ≡ value.Unset → ⊥
    unset e = cc (e)

max_attempts : (v : Value) → Takes (row_of key.MaxAttempts) v → nat_le (number_or 0 v) 0 ≡ false
max_attempts (value.Number n) t = above_none n t.0
max_attempts (value.Flag on) t = absurd t
max_attempts (value.Threshold n) t = absurd t
max_attempts value.Unset t = absurd (unset t)
  where
    unset : (row_of key.MaxAttempts).default ≡ value.Unset → ⊥
    unset e = cc (e)

-- no end but success is reached
pub only_done : (asked : Asked) (first : Plan) (now : State) → InRange asked.settings → Calm asked first now → reached asked now ≡ cond (is_done now) (Some finish.Done) None
only_done asked first now range c =
    (λ i. option_or (option_map aborted (no_task i)) (option_or (option_map stage_aborted (no_stage i)) (cond (is_done now) (Some finish.Done) None)))
  where
    no_task : failed_task asked (history now) ≡ None
    no_task = find_never (λ place. nat_le (number_or 0 (value_of key.MaxFailures asked.settings)) (fails (history now) place.0 place.1)) (places (births (history now)))
        (λ place. ap (nat_le (number_or 0 (value_of key.MaxFailures asked.settings))) (no_fails (history now) c.events.peaceful place.0 place.1) ∙ max_failures (value_of key.MaxFailures asked.settings) (range key.MaxFailures))

    no_stage : failed_stage asked (history now) ≡ None
    no_stage = find_never (λ s. nat_le (number_or 0 (value_of key.MaxAttempts asked.settings)) (streak (history now) s)) (range_with_len 0 (length (births (history now))))
        (λ s. ap (nat_le (number_or 0 (value_of key.MaxAttempts asked.settings))) (no_streak (history now) c.events.peaceful s) ∙ max_attempts (value_of key.MaxAttempts asked.settings) (range key.MaxAttempts))
