-- The rectangles of a local read cover.
use Rattle.std.proofs.Common.{◌≡◌, ℕ, zero, suc, ◌+◌, ◌≤◌, Bool, true, false, ◌&&◌, cond, List, [], ◌∷◌, map, refl, ap, sym, subst, ◌∙◌, arith}
use Rattle.std.specs.Prelude.{count_by, sum_by, flat_map, nat_lt, nat_le}
use Rattle.std.specs.List.{range_with_len}
use Rattle.std.proofs.lemmas.Bool.Decides.{nat_tests}
use Rattle.std.proofs.lemmas.List.Sums.{sum_by-cons, sum_by-append}
use Rattle.aqe_rects.specs.Rectangles.{has_cell, is_cell}
use Rattle.aqe_local_read.specs.LocalRects.{run, runs, run_start, rect_of_maps, rect_of_map, rects_of_map, cuts_of_map}
use Rattle.aqe_local_read.specs.Laws.{LocalRectanglesCover}
use Rattle.aqe_local_read.proofs.Runs.{even}

-- whether x stands from a up to b, and something else holds
abbrev between : ℕ → ℕ → ℕ → Bool → ℕ
between x a b more = cond ((nat_le a x && nat_lt x b) && more) 1 0

climbs : (f : ℕ → ℕ) → ((i : ℕ) → f i ≤ f (i + 1)) → (a n : ℕ) → f a ≤ f (a + n)
climbs f up a zero = let at : a + 0 ≡ a = omega arith in subst (λ e. f a ≤ f e) (sym at) (omega arith)
climbs f up a (suc n) =
    let at : a + 1 + n ≡ a + suc n = omega arith in
    let rest : f (a + 1) ≤ f (a + suc n) = subst (λ e. f (a + 1) ≤ f e) at (climbs f up (a + 1) n) in
    omega (arith, rest, up a)

joined : (x a b c : ℕ) (more : Bool) → a ≤ b → b ≤ c → between x a b more + between x b c more ≡ between x a c more
joined x a b c more first second = grind (arith, nat_tests, first, second)

none_between : (x a : ℕ) (more : Bool) → 0 ≡ between x a a more
none_between x a more = grind (arith, nat_tests)

-- x stands in one of the steps that begin where the one before ends, and in no other
in_one_step : (f : ℕ → ℕ) → ((i : ℕ) → f i ≤ f (i + 1)) → (x : ℕ) (more : Bool) (g : ℕ → ℕ) → ((i : ℕ) → g i ≡ between x (f i) (f (i + 1)) more)
    → (a n : ℕ) → sum_by g (range_with_len a n) ≡ between x (f a) (f (a + n)) more
in_one_step f up x more g steps a zero = let at : a + 0 ≡ a = omega arith in none_between x (f a) more ∙ ap (λ e. between x (f a) (f e) more) (sym at)
in_one_step f up x more g steps a (suc n) =
    let at : a + 1 + n ≡ a + suc n = omega arith in
    let later : f (a + 1) ≤ f (a + 1 + n) = climbs f up (a + 1) n in
    sum_by-cons g a (range_with_len (a + 1) n)
    ∙ (ap (λ s. s + sum_by g (range_with_len (a + 1) n)) (steps a)
    ∙ (ap (λ s. between x (f a) (f (a + 1)) more + s) (in_one_step f up x more g steps (a + 1) n)
    ∙ (joined x (f a) (f (a + 1)) (f (a + 1 + n)) more (up a) later
    ∙ ap (λ e. between x (f a) (f e) more) at)))

-- counts over mapped lists and over lists put end to end
count_map : {X Y : Type 0} (test : Y → Bool) (f : X → Y) (xs : List X) → count_by test (map f xs) ≡ count_by (λ x. test (f x)) xs
count_map test f [] = refl
count_map test f (x ∷ xs) =
    sum_by-cons (λ y. cond (test y) 1 0) (f x) (map f xs)
    ∙ (ap (λ s. cond (test (f x)) 1 0 + s) (count_map test f xs)
    ∙ sym (sum_by-cons (λ y. cond (test (f y)) 1 0) x xs))

count_flat_map : {X Y : Type 0} (test : Y → Bool) (f : X → List Y) (xs : List X) → count_by test (flat_map f xs) ≡ sum_by (λ x. count_by test (f x)) xs
count_flat_map test f [] = refl
count_flat_map test f (x ∷ xs) =
    sum_by-append (λ y. cond (test y) 1 0) (f x) (flat_map f xs)
    ∙ (ap (λ s. count_by test (f x) + s) (count_flat_map test f xs)
    ∙ sym (sum_by-cons (λ y. count_by test (f y)) x xs))

module _ (m r : ℕ) where
  -- runs of maps with all reducers
  by_maps : (maps reducers k : ℕ) → 1 ≤ k → count_by (has_cell m r) (map (rect_of_maps reducers) (runs maps k)) ≡ cond (is_cell maps reducers m r) 1 0
  by_maps maps reducers k some =
      count_map (has_cell m r) (rect_of_maps reducers) (runs maps k)
      ∙ (count_map (λ maps'. has_cell m r (rect_of_maps reducers maps')) (run maps k) (range_with_len 0 k)
      ∙ (in_one_step (run_start maps k) (even maps k some).forward m (nat_le 0 r && nat_lt r reducers) _ (λ i. refl) 0 k
      ∙ (ap (λ a. between m a (run_start maps k (0 + k)) (nat_le 0 r && nat_lt r reducers)) (even maps k some).first
      ∙ (ap (λ e. between m 0 (run_start maps k e) (nat_le 0 r && nat_lt r reducers)) none_more
      ∙ (ap (λ b. between m 0 b (nat_le 0 r && nat_lt r reducers)) (even maps k some).last
      ∙ within maps reducers)))))
    where
      none_more : 0 + k ≡ k
      none_more = omega arith

      within : (maps reducers : ℕ) → between m 0 maps (nat_le 0 r && nat_lt r reducers) ≡ cond (is_cell maps reducers m r) 1 0
      within maps reducers = grind (arith, nat_tests)

  -- runs of the reducers of one map
  by_reducers : (reducers k a : ℕ) → 1 ≤ k → count_by (has_cell m r) (rects_of_map reducers k a) ≡ between m a (a + 1) (nat_lt r reducers)
  by_reducers reducers k a some =
      count_map (has_cell m r) (rect_of_map a) (runs reducers k)
      ∙ (count_map (λ reducers'. has_cell m r (rect_of_map a reducers')) (run reducers k) (range_with_len 0 k)
      ∙ (in_one_step (run_start reducers k) (even reducers k some).forward r (nat_le a m && nat_lt m (a + 1)) _ (λ i. turn i) 0 k
      ∙ (ap (λ b. between r b (run_start reducers k (0 + k)) (nat_le a m && nat_lt m (a + 1))) (even reducers k some).first
      ∙ (ap (λ e. between r 0 (run_start reducers k e) (nat_le a m && nat_lt m (a + 1))) none_more
      ∙ (ap (λ b. between r 0 b (nat_le a m && nat_lt m (a + 1))) (even reducers k some).last
      ∙ within)))))
    where
      none_more : 0 + k ≡ k
      none_more = omega arith

      swapped : (b c : Bool) → cond {A = ℕ} (b && c) 1 0 ≡ cond (c && b) 1 0
      swapped true true = refl
      swapped true false = refl
      swapped false true = refl
      swapped false false = refl

      turn : (i : ℕ) → cond {A = ℕ} (has_cell m r (rect_of_map a (run reducers k i))) 1 0 ≡ between r (run_start reducers k i) (run_start reducers k (i + 1)) (nat_le a m && nat_lt m (a + 1))
      turn i = swapped (nat_le a m && nat_lt m (a + 1)) (nat_le (run_start reducers k i) r && nat_lt r (run_start reducers k (i + 1)))

      within : between r 0 reducers (nat_le a m && nat_lt m (a + 1)) ≡ between m a (a + 1) (nat_lt r reducers)
      within = grind (arith, nat_tests)

  by_map : (maps reducers k : ℕ) → 1 ≤ k → count_by (has_cell m r) (flat_map (rects_of_map reducers k) (range_with_len 0 maps)) ≡ cond (is_cell maps reducers m r) 1 0
  by_map maps reducers k some =
      count_flat_map (has_cell m r) (rects_of_map reducers k) (range_with_len 0 maps)
      ∙ (in_one_step (λ i. i) (λ i. omega arith) m (nat_lt r reducers) _ (λ a. by_reducers reducers k a some) 0 maps
      ∙ within)
    where
      within : between m 0 (0 + maps) (nat_lt r reducers) ≡ cond (is_cell maps reducers m r) 1 0
      within = grind (arith, nat_tests)

some_cuts : (maps reducers wanted : ℕ) → 1 ≤ reducers → 1 ≤ cuts_of_map maps reducers wanted
some_cuts maps reducers wanted some = omega (arith, some)

pub cover : LocalRectanglesCover
cover maps reducers wanted some_maps some_reducers some_wanted m r = choose (nat_le wanted maps)
  where
    choose : (b : Bool) → count_by (has_cell m r)
        (cond b (map (rect_of_maps reducers) (runs maps wanted)) (flat_map (rects_of_map reducers (cuts_of_map maps reducers wanted)) (range_with_len 0 maps)))
        ≡ cond (is_cell maps reducers m r) 1 0
    choose true = by_maps m r maps reducers wanted some_wanted
    choose false = by_map m r maps reducers (cuts_of_map maps reducers wanted) (some_cuts maps reducers wanted some_reducers)
