-- Lists with the same elements: by how often each stands in them.
use Rattle.std.proofs.Common.{◌≡◌, ℕ, ◌+◌, ◌<◌, Bool, true, false, cond, ◌↔◌, IsTrue, List, [], ◌∷◌, ◌++◌, refl, sym, ap, ◌∙◌, arith}
use Rattle.std.specs.Prelude.{filter, flat_map, fold, IsPermutation, sum_by}
use Rattle.std.proofs.lemmas.List.Sums.{sum_by-cons}
use Rattle.std.proofs.lemmas.List.Sorted.{sum_by-IsPermutation, IsPermutation-cons, IsPermutation-trans, IsPermutation-sym, IsPermutation-middle, IsPermutation-refl, IsPermutation-append}

abbrev pub total : {X : Type 0} → (X → ℕ) → List X → ℕ
total f [] = 0
total f (x ∷ xs) = f x + total f xs

total-is : {X : Type 0} (f : X → ℕ) (xs : List X) → total f xs ≡ sum_by f xs
total-is f [] = refl
total-is f (x ∷ xs) = ap (λ n. f x + n) (total-is f xs) ∙ sym (sum_by-cons f x xs)

pub total-permuted : {X : Type 0} (f : X → ℕ) (xs ys : List X) → IsPermutation xs ys → total f xs ≡ total f ys
total-permuted f xs ys h = total-is f xs ∙ (sym (sum_by-IsPermutation f xs ys h) ∙ sym (total-is f ys))

pub total-append : {X : Type 0} (f : X → ℕ) (xs ys : List X) → total f (xs ++ ys) ≡ total f xs + total f ys
total-append f [] ys = omega arith
total-append f (x ∷ xs) ys = let h = total-append f xs ys in omega arith

pub total-filter : {X : Type 0} (f : X → ℕ) (p : X → Bool) (xs : List X) → total f (filter p xs) ≡ total (λ x. cond (p x) (f x) 0) xs
total-filter f p [] = refl
total-filter f p (x ∷ xs) = by (p x) (total-filter f p xs)
  where
    by : (b : Bool) → total f (filter p xs) ≡ total (λ y. cond (p y) (f y) 0) xs → total f (cond b (x ∷ filter p xs) (filter p xs)) ≡ cond b (f x) 0 + total (λ y. cond (p y) (f y) 0) xs
    by true h = ap (λ n. f x + n) h
    by false h = omega (arith, h)

pub total-flat_map : {X Y : Type 0} (f : Y → ℕ) (g : X → List Y) (xs : List X) → total f (flat_map g xs) ≡ total (λ x. total f (g x)) xs
total-flat_map f g [] = refl
total-flat_map f g (x ∷ xs) = total-append f (g x) (flat_map g xs) ∙ ap (λ n. total f (g x) + n) (total-flat_map f g xs)

-- ys has the first element of xs somewhere, and without it the others
abbrev pub Rearranged : {X : Type 0} → List X → List X → Type 0
Rearranged [] ys = ys ≡ []
Rearranged {X} (x ∷ xs) ys = (a : List X) × (b : List X) × (ys ≡ a ++ x ∷ b) × Rearranged xs (a ++ b)

pub permuted : {X : Type 0} (xs ys : List X) → Rearranged xs ys → IsPermutation xs ys
permuted {X} [] ys e = rw e (IsPermutation-refl {X = X} [])
permuted (x ∷ xs) ys (a, b, e, r) = rw e (IsPermutation-trans (x ∷ xs) (x ∷ (a ++ b)) (a ++ x ∷ b) (IsPermutation-cons x xs (a ++ b) (permuted xs (a ++ b) r)) (IsPermutation-sym (a ++ x ∷ b) (x ∷ (a ++ b)) (IsPermutation-middle a x b)))

-- a fold does not see the order where two steps may be exchanged
fold_front : {A B : Type 0} (f : B → A → B) → ((z : B) (x y : A) → f (f z x) y ≡ f (f z y) x) → (z : B) (a b : List A) (x : A) → fold f z (a ++ x ∷ b) ≡ fold f (f z x) (a ++ b)
fold_front f swap z [] b x = refl
fold_front f swap z (y ∷ a) b x = fold_front f swap (f z y) a b x ∙ ap (λ w. fold f w (a ++ b)) (swap z y x)

pub fold-rearranged : {A B : Type 0} (f : B → A → B) → ((z : B) (x y : A) → f (f z x) y ≡ f (f z y) x) → (z : B) (xs ys : List A) → Rearranged xs ys → fold f z xs ≡ fold f z ys
fold-rearranged f swap z [] ys e = ap (λ l. fold f z l) (sym e)
fold-rearranged f swap z (x ∷ xs) ys (a, b, e, r) =
    fold-rearranged f swap (f z x) xs (a ++ b) r ∙ (sym (fold_front f swap z a b x) ∙ ap (λ l. fold f z l) (sym e))

abbrev pub bit : Bool → ℕ
bit true = 1
bit false = 0

-- how often k stands in a list
abbrev pub times : {X : Type 0} → (X → X → Bool) → X → List X → ℕ
times same k xs = total (λ x. bit (same k x)) xs

module _ {X : Type 0} (same : X → X → Bool) (is : (a b : X) → IsTrue (same a b) ↔ (a ≡ b)) where
  itself : (x : X) → same x x ≡ true
  itself x = (is x x).1 refl

  -- an element that stands in a list has a front before it and a rest behind
  abbrev StandsIn : X → List X → Type 0
  StandsIn k ys = (a : List X) × (b : List X) × (ys ≡ a ++ k ∷ b)

  split : (k : X) (ys : List X) → 0 < times same k ys → StandsIn k ys
  split k [] h = absurd (let impossible : ⊥ = omega (arith, h) in impossible)
  split k (y ∷ ys) h = by (same k y) refl (λ later. split k ys later)
    where
      by : (t : Bool) → same k y ≡ t → (0 < times same k ys → StandsIn k ys) → StandsIn k (y ∷ ys)
      by true e rest = ([], ys, ap (λ z. z ∷ ys) (sym ((is k y).0 e)))
      by false e rest =
          let bits : bit (same k y) ≡ 0 = ap bit e in
          let later : 0 < times same k ys = omega (arith, h, bits) in
          let found : StandsIn k ys = rest later in
          (y ∷ found.0, found.1, ap (λ l. y ∷ l) found.2)

  pub from_counts : (xs ys : List X) → ((k : X) → times same k xs ≡ times same k ys) → Rearranged xs ys
  from_counts [] [] h = refl
  from_counts [] (y ∷ ys) h = absurd (let impossible : ⊥ = omega (arith, h y, ap bit (itself y)) in impossible)
  from_counts (x ∷ xs) ys h =
      let found = split x ys (omega (arith, h x, ap bit (itself x))) in
      (found.0, found.1, found.2, from_counts xs (found.0 ++ found.1) (λ k. without k found.0 found.1 found.2))
    where
      without : (k : X) (a b : List X) → ys ≡ a ++ x ∷ b → times same k xs ≡ times same k (a ++ b)
      without k a b e =
          let whole : times same k ys ≡ times same k (a ++ x ∷ b) = ap (times same k) e in
          let one = total-append (λ z. bit (same k z)) a (x ∷ b) in
          let two = total-append (λ z. bit (same k z)) a b in
          omega (arith, h k, whole, one, two)

  pub rearranged : (xs ys : List X) → IsPermutation xs ys → Rearranged xs ys
  rearranged xs ys h = from_counts xs ys (λ k. total-permuted (λ x. bit (same k x)) xs ys h)

  pub filter-permuted : (p : X → Bool) (xs ys : List X) → IsPermutation xs ys → IsPermutation (filter p xs) (filter p ys)
  filter-permuted p xs ys h =
      permuted (filter p xs) (filter p ys)
      (from_counts (filter p xs) (filter p ys) (λ k.
      total-filter (λ x. bit (same k x)) p xs ∙
      (total-permuted (λ x. cond (p x) (bit (same k x)) 0) xs ys h ∙ sym (total-filter (λ x. bit (same k x)) p ys))))

  pub flat_map-permuted : {W : Type 0} (g : W → List X) (xs ys : List W) → IsPermutation xs ys → IsPermutation (flat_map g xs) (flat_map g ys)
  flat_map-permuted g xs ys h =
      permuted (flat_map g xs) (flat_map g ys)
      (from_counts (flat_map g xs) (flat_map g ys) (λ k.
      total-flat_map (λ x. bit (same k x)) g xs ∙
      (total-permuted (λ w. total (λ x. bit (same k x)) (g w)) xs ys h ∙ sym (total-flat_map (λ x. bit (same k x)) g ys))))

pub flat_map-each : {W X : Type 0} (f g : W → List X) → ((w : W) → IsPermutation (f w) (g w)) → (xs : List W) → IsPermutation (flat_map f xs) (flat_map g xs)
flat_map-each {W} {X} f g h [] = IsPermutation-refl {X = X} []
flat_map-each f g h (x ∷ xs) = IsPermutation-append (f x) (g x) (flat_map f xs) (flat_map g xs) (h x) (flat_map-each f g h xs)
