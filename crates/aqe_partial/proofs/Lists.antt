-- Lists: filters, maps and what they leave.
use Rattle.std.proofs.Common.{◌≡◌, Bool, true, false, not, ◌&&◌, ◌||◌, cond, List, [], ◌∷◌, ◌++◌, map, length, take, refl, ap, ◌∙◌, arith}
use Rattle.std.specs.Prelude.{filter, flat_map, All}
use Rattle.std.specs.List.{list_any}
use Rattle.std.proofs.lemmas.List.Elements.{All-head, All-tail, filter-append}

-- a filter after a weaker one
pub filter_within : {X : Type 0} (q p : X → Bool) (xs : List X) → ((x : X) → q x ≡ true → p x ≡ true) → filter q (filter p xs) ≡ filter q xs
filter_within q p [] h = refl
filter_within q p (x ∷ xs) h = let hx = h x in grind (arith, filter_within q p xs h, hx)

pub filter_comm : {X : Type 0} (p q : X → Bool) (xs : List X) → filter p (filter q xs) ≡ filter q (filter p xs)
filter_comm p q [] = refl
filter_comm p q (x ∷ xs) = grind (arith, filter_comm p q xs)

pub filter_two : {X : Type 0} (p q r : X → Bool) (xs : List X) → ((x : X) → r x ≡ (p x && q x)) → filter p (filter q xs) ≡ filter r xs
filter_two p q r [] h = refl
filter_two p q r (x ∷ xs) h = let hx = h x in grind (arith, filter_two p q r xs h, hx)

pub filter_all : {X : Type 0} (p : X → Bool) (xs : List X) → ((x : X) → p x ≡ true) → filter p xs ≡ xs
filter_all p [] h = refl
filter_all p (x ∷ xs) h = let hx = h x in grind (arith, filter_all p xs h, hx)

pub filter_other : {X : Type 0} (p : X → Bool) (xs : List X) → filter p (filter (λ x. not (p x)) xs) ≡ []
filter_other p [] = refl
filter_other p (x ∷ xs) = grind (arith, filter_other p xs)

pub filter_none : {X : Type 0} (p : X → Bool) (xs : List X) → list_any p xs ≡ false → filter p xs ≡ []
filter_none p [] h = refl
filter_none p (x ∷ xs) h = by (p x) h (filter_none p xs)
  where
    by : (b : Bool) → (b || list_any p xs) ≡ false → (list_any p xs ≡ false → filter p xs ≡ []) → cond b (x ∷ filter p xs) (filter p xs) ≡ []
    by true g rest = absurd (cc)
    by false g rest = rest g

pub any_map : {X Y : Type 0} (p : Y → Bool) (f : X → Y) (xs : List X) → list_any p (map f xs) ≡ list_any (λ x. p (f x)) xs
any_map p f [] = refl
any_map p f (x ∷ xs) = ap (λ b. p (f x) || b) (any_map p f xs)

-- any that passes is not dropped by a weaker filter
pub any_within : {X : Type 0} (q p : X → Bool) (xs : List X) → ((x : X) → q x ≡ true → p x ≡ true) → list_any q (filter p xs) ≡ list_any q xs
any_within q p [] h = refl
any_within q p (x ∷ xs) h = let hx = h x in grind (arith, any_within q p xs h, hx)

map_append : {Y Z : Type 0} (f : Y → Z) (us vs : List Y) → map f (us ++ vs) ≡ map f us ++ map f vs
map_append f [] vs = refl
map_append f (u ∷ us) vs = ap (λ ys. f u ∷ ys) (map_append f us vs)

pub map_flat_map : {X Y Z : Type 0} (f : Y → Z) (g : X → List Y) (xs : List X) → map f (flat_map g xs) ≡ flat_map (λ x. map f (g x)) xs
map_flat_map f g [] = refl
map_flat_map f g (x ∷ xs) = map_append f (g x) (flat_map g xs) ∙ ap (λ ys. map f (g x) ++ ys) (map_flat_map f g xs)

pub filter_flat_map : {X Y : Type 0} (p : Y → Bool) (g : X → List Y) (xs : List X) → filter p (flat_map g xs) ≡ flat_map (λ x. filter p (g x)) xs
filter_flat_map p g [] = refl
filter_flat_map p g (x ∷ xs) = filter-append p (g x) (flat_map g xs) ∙ ap (λ ys. filter p (g x) ++ ys) (filter_flat_map p g xs)

-- functions that agree at what stands in a list
pub map_agree : {X Y : Type 0} (P : X → Type 0) (f g : X → Y) (xs : List X) → ((x : X) → P x → f x ≡ g x) → All P xs → map f xs ≡ map g xs
map_agree P f g [] h all = refl
map_agree P f g (x ∷ xs) h all = (λ i. h x (All-head P x xs all) i ∷ map_agree P f g xs h (All-tail P x xs all) i)

-- a filter over what a map made, where the test can be told before
pub filter_map : {X Y : Type 0} (P : X → Type 0) (p : Y → Bool) (q : X → Bool) (f : X → Y) (xs : List X) → ((x : X) → P x → p (f x) ≡ q x) → All P xs → filter p (map f xs) ≡ map f (filter q xs)
filter_map P p q f [] h all = refl
filter_map P p q f (x ∷ xs) h all = by (p (f x)) (q x) (h x (All-head P x xs all)) (filter_map P p q f xs h (All-tail P x xs all))
  where
    by : (b c : Bool) → b ≡ c → filter p (map f xs) ≡ map f (filter q xs) → cond b (f x ∷ filter p (map f xs)) (filter p (map f xs)) ≡ map f (cond c (x ∷ filter q xs) (filter q xs))
    by true true e g = ap (λ ys. f x ∷ ys) g
    by false false e g = g
    by true false e g = absurd (cc)
    by false true e g = absurd (cc)

pub take_front : {X : Type 0} (xs ys : List X) → take (length xs) (xs ++ ys) ≡ xs
take_front [] ys = refl
take_front (x ∷ xs) ys = ap (λ zs. x ∷ zs) (take_front xs ys)
