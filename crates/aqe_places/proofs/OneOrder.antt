-- A list in order is told by its rows that tie.
use Rattle.std.proofs.Common.{◌≡◌, Bool, true, false, cond, List, [], ◌∷◌, not, ◌&&◌, refl, ap, sym, ◌∙◌, subst}
use Rattle.std.specs.Prelude.{filter, All}
use Rattle.std.specs.Cmp.{IsStrictWeakOrder}
use Rattle.std.specs.List.Sorted.{ties}
use Rattle.std.proofs.lemmas.List.Elements.{All-head, All-filter}
use Rattle.aqe_values.specs.KeyOrder.{InOrder}
use Rattle.aqe_values.proofs.Sortedness.{sorted-in_order}
use Rattle.aqe_logical.specs.Answers.{Row}
use Rattle.aqe_places.specs.Sorting.{stable_sort}
use Rattle.aqe_places.specs.Laws.{IsOrder, SortedAndStableIsTheSort}
use Rattle.aqe_places.proofs.Sorted.{order, stable}

pub weak : (less : Row → Row → Bool) → IsOrder less → IsStrictWeakOrder less
weak less o = record { one_way = o.one_way; chain = o.goes_on }

-- no row comes before itself
itself : (less : Row → Row → Bool) → IsOrder less → (x : Row) → less x x ≡ false
itself less o x = by (less x x) refl
  where
    by : (b : Bool) → less x x ≡ b → b ≡ false
    by true e = sym e ∙ o.one_way x x e
    by false e = refl

pub ties_itself : (less : Row → Row → Bool) → IsOrder less → (x : Row) → ties less x x ≡ true
ties_itself less o x = ap (λ b. not b && not b) (itself less o x)

filter_front : (p : Row → Bool) (x : Row) (xs : List Row) → p x ≡ true → filter p (x ∷ xs) ≡ x ∷ filter p xs
filter_front p x xs e = ap (λ b. cond b (x ∷ filter p xs) (filter p xs)) e

filter_else : (p : Row → Bool) (x : Row) (xs : List Row) → p x ≡ false → filter p (x ∷ xs) ≡ filter p xs
filter_else p x xs e = ap (λ b. cond b (x ∷ filter p xs) (filter p xs)) e

-- what stands first among the rows that pass a test is a row of the list
first_of : (P : Row → Type 0) (p : Row → Bool) (x : Row) (xs ys : List Row) → All P ys → x ∷ xs ≡ filter p ys → P x
first_of P p x xs ys h e = All-head P x xs (subst (λ (zs : List Row). All P zs) (sym e) (All-filter p P ys h))

-- what stands behind the same row passes alike
behind : (p : Row → Bool) (x : Row) (xs ys : List Row) → filter p (x ∷ xs) ≡ filter p (x ∷ ys) → filter p xs ≡ filter p ys
behind p x xs ys = by (p x)
  where
    by : (b : Bool) → cond b (x ∷ filter p xs) (filter p xs) ≡ cond b (x ∷ filter p ys) (filter p ys) → filter p xs ≡ filter p ys
    by true e = cc (e)
    by false e = e

not_both : (a b : Bool) → a ≡ false → b ≡ false → (not a && not b) ≡ false → true ≡ false
not_both a b e f h = sym (ap (λ c. not c && not b) e ∙ ap (λ c. not c) f) ∙ h

turned_ties : (less : Row → Row → Bool) (x y : Row) → ties less x y ≡ ties less y x
turned_ties less x y = by (less x y) (less y x)
  where
    by : (a b : Bool) → (not a && not b) ≡ (not b && not a)
    by true true = refl
    by true false = refl
    by false true = refl
    by false false = refl

-- two lists in order in which the rows that tie with each row stand alike are equal
pub one_order : (less : Row → Row → Bool) → IsOrder less → (xs ys : List Row) → InOrder less xs → InOrder less ys
    → ((x : Row) → filter (ties less x) xs ≡ filter (ties less x) ys) → xs ≡ ys
one_order less o [] [] h k alike = refl
one_order less o [] (y ∷ ys) h k alike = absurd (let e = alike y ∙ filter_front (ties less y) y ys (ties_itself less o y) in cc (e))
one_order less o (x ∷ xs) [] h k alike = absurd (let e = sym (filter_front (ties less x) x xs (ties_itself less o x)) ∙ alike x in cc (e))
one_order less o (x ∷ xs) (y ∷ ys) h k alike = by (ties less x y) refl (one_order less o xs ys h.1 k.1)
  where
    at_x : x ∷ filter (ties less x) xs ≡ filter (ties less x) (y ∷ ys)
    at_x = sym (filter_front (ties less x) x xs (ties_itself less o x)) ∙ alike x

    at_y : y ∷ filter (ties less y) ys ≡ filter (ties less y) (x ∷ xs)
    at_y = sym (filter_front (ties less y) y ys (ties_itself less o y)) ∙ sym (alike y)

    by : (b : Bool) → ties less x y ≡ b → (((z : Row) → filter (ties less z) xs ≡ filter (ties less z) ys) → xs ≡ ys) → x ∷ xs ≡ y ∷ ys
    by true e rest =
        let front = at_x ∙ filter_front (ties less x) y ys e in
        let same : x ≡ y = cc (front) in
        let alike' : (z : Row) → filter (ties less z) (x ∷ xs) ≡ filter (ties less z) (x ∷ ys) = λ z. alike z ∙ ap (λ w. filter (ties less z) (w ∷ ys)) (sym same) in
        ap (λ zs. x ∷ zs) (rest (λ z. behind (ties less z) x xs ys (alike' z))) ∙ ap (λ w. w ∷ ys) same
    by false e rest =
        let x_not : less x y ≡ false = first_of (λ z. less z y ≡ false) (ties less x) x (filter (ties less x) xs) ys k.0 (at_x ∙ filter_else (ties less x) y ys e) in
        let y_not : less y x ≡ false = first_of (λ z. less z x ≡ false) (ties less y) y (filter (ties less y) ys) xs h.0 (at_y ∙ filter_else (ties less y) x xs (turned_ties less y x ∙ e)) in
        absurd (let no = not_both (less x y) (less y x) x_not y_not e in cc (no))

-- of two rows that tie neither comes before the other
pub tie_left : (a b : Bool) → (not a && not b) ≡ true → a ≡ false
tie_left true b e = sym e
tie_left false b e = refl

pub tie_right : (a b : Bool) → (not a && not b) ≡ true → b ≡ false
tie_right true true e = sym e
tie_right true false e = refl
tie_right false true e = sym e
tie_right false false e = refl

-- rows that tie with a row tie with one another
tied_rows : (less : Row → Row → Bool) → IsOrder less → (x y z : Row) → ties less x y ≡ true → ties less x z ≡ true → less y z ≡ false
tied_rows less o x y z a b = o.goes_on y x z (tie_right (less x y) (less y x) a) (tie_left (less x z) (less z x) b)

pub sort_ties : (less : Row → Row → Bool) → IsOrder less → (x : Row) (rows : List Row) → filter (ties less x) (stable_sort less rows) ≡ filter (ties less x) rows
sort_ties less o x rows = stable less (ties less x) rows (λ y z. tied_rows less o x y z)

-- a list in order whose rows that tie stand as in another list is that list sorted
pub ordered_is : (less : Row → Row → Bool) → IsOrder less → (rows sorted : List Row) → InOrder less sorted
    → ((x : Row) → filter (ties less x) sorted ≡ filter (ties less x) rows) → sorted ≡ stable_sort less rows
ordered_is less o rows sorted h alike =
    one_order less o sorted (stable_sort less rows) h (order less o rows) (λ x. alike x ∙ sym (sort_ties less o x rows))

pub sorted_is : SortedAndStableIsTheSort
sorted_is less o rows sorted up tied = ordered_is less o rows sorted (sorted-in_order less (weak less o) sorted up) tied
