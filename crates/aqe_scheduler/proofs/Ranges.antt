-- Tests over ranges of numbers, from the front on.
use Rattle.std.proofs.Common.{◌≡◌, ℕ, zero, suc, ◌+◌, ◌-◌, ◌<◌, ◌≤◌, Bool, true, false, cond, ◌&&◌, List, [], ◌∷◌, map, flat_map, ap, ◌∙◌, sym, Some, None, arith, inl, inr}
use Rattle.std.specs.List.{range_with_len, list_all, find}
use Rattle.std.proofs.lemmas.Bool.{cases_lt}
use Rattle.std.specs.Option.{option_or}
use Rattle.std.proofs.lemmas.List.Folds.{find-append}

range_step : (a n : ℕ) → a < n → range_with_len a (n - a) ≡ a ∷ range_with_len (a + 1) (n - (a + 1))
range_step a n below = let more : n - a ≡ suc (n - (a + 1)) = omega arith in ap (λ k. range_with_len a k) more

range_over : (a n : ℕ) → n ≤ a → range_with_len a (n - a) ≡ []
range_over a n past = let none : n - a ≡ 0 = omega arith in ap (λ k. range_with_len a k) none

-- all pass from a on where a passes and all pass behind it
pub all_step : (p : ℕ → Bool) (a n : ℕ) → a < n → list_all p (range_with_len a (n - a)) ≡ (p a && list_all p (range_with_len (a + 1) (n - (a + 1))))
all_step p a n below = ap (list_all p) (range_step a n below)

pub all_over : (p : ℕ → Bool) (a n : ℕ) → n ≤ a → list_all p (range_with_len a (n - a)) ≡ true
all_over p a n past = ap (list_all p) (range_over a n past)

pub find_step : {X : Type 0} (p : X → Bool) (f : ℕ → X) (a n : ℕ) → a < n →
    find p (map f (range_with_len a (n - a))) ≡ cond (p (f a)) (Some (f a)) (find p (map f (range_with_len (a + 1) (n - (a + 1)))))
find_step p f a n below = ap (λ r. find p (map f r)) (range_step a n below)

pub find_over : {X : Type 0} (p : X → Bool) (f : ℕ → X) (a n : ℕ) → n ≤ a → find p (map f (range_with_len a (n - a))) ≡ None
find_over p f a n past = ap (λ r. find p (map f r)) (range_over a n past)

-- a piece more of a search over pieces
pub pieces_step : {X : Type 0} (p : X → Bool) (f : ℕ → List X) (a n : ℕ) → a < n →
    find p (flat_map f (range_with_len a (n - a))) ≡ option_or (find p (f a)) (find p (flat_map f (range_with_len (a + 1) (n - (a + 1)))))
pieces_step p f a n below = ap (λ r. find p (flat_map f r)) (range_step a n below) ∙ find-append p (f a) (flat_map f (range_with_len (a + 1) (n - (a + 1))))

pub pieces_over : {X : Type 0} (p : X → Bool) (f : ℕ → List X) (a n : ℕ) → n ≤ a → find p (flat_map f (range_with_len a (n - a))) ≡ None
pieces_over p f a n past = ap (λ r. find p (flat_map f r)) (range_over a n past)

-- what passes may be left out of a test whether all do
all_skip_by : (p : ℕ → Bool) (d a n : ℕ) → ((t : ℕ) → a ≤ t → t < a + d → p t ≡ true) → list_all p (range_with_len a (n - a)) ≡ list_all p (range_with_len (a + d) (n - (a + d)))
all_skip_by p zero a n pass = let same : a ≡ a + 0 = omega arith in ap (λ b. list_all p (range_with_len b (n - b))) same
all_skip_by p (suc d) a n pass =
    elim (cases_lt a n) as (λ w. list_all p (range_with_len a (n - a)) ≡ list_all p (range_with_len (a + suc d) (n - (a + suc d)))) [
      | inr past ↦ let far : n ≤ a + suc d = omega arith in all_over p a n past ∙ sym (all_over p (a + suc d) n far)
      | inl below ↦
          let first : p a ≡ true = pass a (omega arith) (omega arith) in
          let same : a + 1 + d ≡ a + suc d = omega arith in
          all_step p a n below ∙ ap (λ b. b && list_all p (range_with_len (a + 1) (n - (a + 1)))) first
          ∙ all_skip_by p d (a + 1) n (λ t low high. pass t (omega arith) (omega arith)) ∙ ap (λ b. list_all p (range_with_len b (n - b))) same
    ]

pub all_skip : (p : ℕ → Bool) (a b n : ℕ) → a ≤ b → ((t : ℕ) → a ≤ t → t < b → p t ≡ true) → list_all p (range_with_len a (n - a)) ≡ list_all p (range_with_len b (n - b))
all_skip p a b n order pass =
    let split : a + (b - a) ≡ b = omega arith in
    all_skip_by p (b - a) a n (λ t low high. pass t low (omega arith)) ∙ ap (λ c. list_all p (range_with_len c (n - c))) split

-- what does not pass may be left out of a search
find_skip_by : {X : Type 0} (p : X → Bool) (f : ℕ → X) (d a n : ℕ) → ((t : ℕ) → a ≤ t → t < a + d → p (f t) ≡ false) →
    find p (map f (range_with_len a (n - a))) ≡ find p (map f (range_with_len (a + d) (n - (a + d))))
find_skip_by p f zero a n pass = let same : a ≡ a + 0 = omega arith in ap (λ b. find p (map f (range_with_len b (n - b)))) same
find_skip_by p f (suc d) a n pass =
    elim (cases_lt a n) as (λ w. find p (map f (range_with_len a (n - a))) ≡ find p (map f (range_with_len (a + suc d) (n - (a + suc d))))) [
      | inr past ↦ let far : n ≤ a + suc d = omega arith in find_over p f a n past ∙ sym (find_over p f (a + suc d) n far)
      | inl below ↦
          let first : p (f a) ≡ false = pass a (omega arith) (omega arith) in
          let same : a + 1 + d ≡ a + suc d = omega arith in
          find_step p f a n below ∙ ap (λ b. cond b (Some (f a)) (find p (map f (range_with_len (a + 1) (n - (a + 1)))))) first
          ∙ find_skip_by p f d (a + 1) n (λ t low high. pass t (omega arith) (omega arith)) ∙ ap (λ b. find p (map f (range_with_len b (n - b)))) same
    ]

pub find_skip : {X : Type 0} (p : X → Bool) (f : ℕ → X) (b n : ℕ) → ((t : ℕ) → t < b → p (f t) ≡ false) → find p (map f (range_with_len 0 n)) ≡ find p (map f (range_with_len b (n - b)))
find_skip p f b n pass =
    let split : 0 + b ≡ b = omega arith in
    let whole : n ≡ n - 0 = omega arith in
    ap (λ k. find p (map f (range_with_len 0 k))) whole
    ∙ find_skip_by p f b 0 n (λ t low high. pass t (omega arith)) ∙ ap (λ c. find p (map f (range_with_len c (n - c)))) split
