-- Sorted lists.
use Rattle.std.proofs.Common.{◌≡◌, Bool, true, false, cond, List, [], ◌∷◌, refl, ap, sym, ◌∙◌}
use Rattle.std.specs.Prelude.{filter, All, IsPermutation}
use Rattle.std.proofs.lemmas.List.Elements.{All-nil, All-cons, All-head, All-tail}
use Rattle.std.proofs.lemmas.List.Sorted.{IsPermutation-refl, IsPermutation-trans, IsPermutation-cons, IsPermutation-middle, IsPermutation-sym}
use Rattle.aqe_logical.specs.Answers.{Row}
use Rattle.aqe_values.specs.KeyOrder.{InOrder}
use Rattle.aqe_places.specs.Sorting.{put_in, stable_sort}
use Rattle.aqe_places.specs.Laws.{IsOrder, SortsKeepTheRows, SortsOrderTheRows, SortsAreStable}

-- two in front change places
turned : (x y : Row) (ys : List Row) → IsPermutation (x ∷ y ∷ ys) (y ∷ x ∷ ys)
turned x y ys = IsPermutation-sym (y ∷ x ∷ ys) (x ∷ y ∷ ys) (IsPermutation-middle (y ∷ []) x ys)

put_keeps : (less : Row → Row → Bool) (x : Row) (ys : List Row) → IsPermutation (x ∷ ys) (put_in less x ys)
put_keeps less x [] = IsPermutation-refl (x ∷ [])
put_keeps less x (y ∷ ys) = by (less y x) (put_keeps less x ys)
  where
    by : (b : Bool) → IsPermutation (x ∷ ys) (put_in less x ys) → IsPermutation (x ∷ y ∷ ys) (cond b (y ∷ put_in less x ys) (x ∷ y ∷ ys))
    by true h = IsPermutation-trans (x ∷ y ∷ ys) (y ∷ x ∷ ys) (y ∷ put_in less x ys) (turned x y ys) (IsPermutation-cons y (x ∷ ys) (put_in less x ys) h)
    by false h = IsPermutation-refl (x ∷ y ∷ ys)

pub keep : SortsKeepTheRows
keep less [] = IsPermutation-refl {X = Row} []
keep less (x ∷ xs) = IsPermutation-trans (x ∷ xs) (x ∷ stable_sort less xs) (put_in less x (stable_sort less xs)) (IsPermutation-cons x xs (stable_sort less xs) (keep less xs)) (put_keeps less x (stable_sort less xs))

pub all_put : (less : Row → Row → Bool) (P : Row → Type 0) (x : Row) (ys : List Row) → P x → All P ys → All P (put_in less x ys)
all_put less P x [] h k = All-cons P x [] h k
all_put less P x (y ∷ ys) h k = by (less y x) (all_put less P x ys h (All-tail P y ys k))
  where
    by : (b : Bool) → All P (put_in less x ys) → All P (cond b (y ∷ put_in less x ys) (x ∷ y ∷ ys))
    by true rest = All-cons P y (put_in less x ys) (All-head P y ys k) rest
    by false rest = All-cons P x (y ∷ ys) h k

all_on : (less : Row → Row → Bool) → IsOrder less → (x y : Row) (ys : List Row) → less y x ≡ false → All (λ z. less z y ≡ false) ys → All (λ z. less z x ≡ false) ys
all_on less o x y [] h k = All-nil (λ z. less z x ≡ false)
all_on less o x y (z ∷ zs) h k =
    All-cons (λ w. less w x ≡ false) z zs (o.goes_on z y x (All-head (λ w. less w y ≡ false) z zs k) h) (all_on less o x y zs h (All-tail (λ w. less w y ≡ false) z zs k))

put_orders : (less : Row → Row → Bool) → IsOrder less → (x : Row) (ys : List Row) → InOrder less ys → InOrder less (put_in less x ys)
put_orders less o x [] h = (All-nil (λ z. less z x ≡ false), tt)
put_orders less o x (y ∷ ys) (h, k) = by (less y x) refl (put_orders less o x ys k)
  where
    by : (b : Bool) → less y x ≡ b → InOrder less (put_in less x ys) → InOrder less (cond b (y ∷ put_in less x ys) (x ∷ y ∷ ys))
    by true e rest = (all_put less (λ z. less z y ≡ false) x ys (o.one_way y x e) h, rest)
    by false e rest = (All-cons (λ z. less z x ≡ false) y ys e (all_on less o x y ys e h), (h, k))

pub order : SortsOrderTheRows
order less o [] = tt
order less o (x ∷ xs) = put_orders less o x (stable_sort less xs) (order less o xs)

put_stable : (less : Row → Row → Bool) (tied : Row → Bool) → ((x y : Row) → tied x ≡ true → tied y ≡ true → less x y ≡ false) → (x : Row) (ys : List Row) → filter tied (put_in less x ys) ≡ filter tied (x ∷ ys)
put_stable less tied t x [] = refl
put_stable less tied t x (y ∷ ys) = by (less y x) refl (tied x) refl (tied y) refl (put_stable less tied t x ys)
  where
    by : (b : Bool) → less y x ≡ b → (c : Bool) → tied x ≡ c → (d : Bool) → tied y ≡ d → filter tied (put_in less x ys) ≡ filter tied (x ∷ ys) → filter tied (cond b (y ∷ put_in less x ys) (x ∷ y ∷ ys)) ≡ filter tied (x ∷ y ∷ ys)
    by false e c f d g h = refl
    by true e true f true g h = absurd (let up : true ≡ false = sym e ∙ t y x g f in cc)
    by true e true f false g h = rw (f, g) (h ∙ (rw f refl))
    by true e false f true g h = rw (f, g) (ap (λ zs. y ∷ zs) (h ∙ (rw f refl)))
    by true e false f false g h = rw (f, g) (h ∙ (rw f refl))

pub stable : SortsAreStable
stable less tied [] t = refl
stable less tied (x ∷ xs) t = put_stable less tied t x (stable_sort less xs) ∙ ap (λ zs. cond (tied x) (x ∷ zs) zs) (stable less tied xs t)
