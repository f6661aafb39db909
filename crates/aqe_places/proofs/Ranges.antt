-- Parts by range stand in order end to end, and sorted each by itself they are the whole sorted.
use Rattle.std.proofs.Common.{◌≡◌, ℕ, zero, suc, ◌+◌, ◌<◌, ◌≤◌, ◌==◌, Bool, true, false, cond, List, [], ◌∷◌, ◌++◌, map, length, refl, ap, sym, ◌∙◌, arith}
use Rattle.std.specs.Prelude.{filter, flat_map, All}
use Rattle.std.specs.List.{range_with_len}
use Rattle.std.specs.List.Sorted.{ties}
use Rattle.std.proofs.lemmas.List.{append-nil}
use Rattle.std.proofs.lemmas.Bool.Decides.{nat_tests}
use Rattle.std.proofs.lemmas.List.Elements.{All-nil, All-cons, All-head, All-tail, All-append, All-weaker, filter-append, filter_agree}
use Rattle.aqe_values.specs.KeyOrder.{InOrder}
use Rattle.aqe_logical.specs.Answers.{Row}
use Rattle.aqe_places.specs.Places.{by_range, part_of, exchanged}
use Rattle.aqe_places.specs.Sorting.{stable_sort}
use Rattle.aqe_places.specs.Laws.{IsOrder, before_by, PartsInOrder, RangePartsAreInOrder, SortedPartsAreSorted, SortedRangesAreTheSort, SampledRangesAreTheSort}
use Rattle.aqe_places.specs.Samples.{bounds}
use Rattle.aqe_places.proofs.Bounds.{fewer}
use Rattle.aqe_places.proofs.Exchanged.{are_parts, all_at}
use Rattle.aqe_places.proofs.Sorted.{order, all_put}
use Rattle.aqe_places.proofs.OneOrder.{ordered_is, sort_ties, tie_left, tie_right}

-- rows under their keys are in order as the keys are
keyed : (less : Row → Row → Bool) (key : Row → Row) → IsOrder less → IsOrder (before_by less key)
keyed less key o = record { one_way = λ x y. o.one_way (key x) (key y); goes_on = λ x y z. o.goes_on (key x) (key y) (key z) }

-- what holds of each row holds of each row of the sorted list
all_sorted : (less : Row → Row → Bool) (P : Row → Type 0) (xs : List Row) → All P xs → All P (stable_sort less xs)
all_sorted less P [] h = h
all_sorted less P (x ∷ xs) h = all_put less P x (stable_sort less xs) (All-head P x xs h) (all_sorted less P xs (All-tail P x xs h))

all_joined : (less : Row → Row → Bool) (P : Row → Type 0) (parts : List (List Row)) → All P (flat_map (λ p. p) parts) → All P (flat_map (stable_sort less) parts)
all_joined less P [] h = h
all_joined less P (part ∷ parts) h =
    All-append P (stable_sort less part) (flat_map (stable_sort less) parts) (all_sorted less P part (front P part (flat_map (λ p. p) parts) h)) (all_joined less P parts (back P part (flat_map (λ p. p) parts) h))
  where
    front : (P : Row → Type 0) (xs ys : List Row) → All P (xs ++ ys) → All P xs
    front P [] ys h = All-nil P
    front P (x ∷ xs) ys h = All-cons P x xs (All-head P x (xs ++ ys) h) (front P xs ys (All-tail P x (xs ++ ys) h))

    back : (P : Row → Type 0) (xs ys : List Row) → All P (xs ++ ys) → All P ys
    back P [] ys h = h
    back P (x ∷ xs) ys h = back P xs ys (All-tail P x (xs ++ ys) h)

-- lists in order, the rows of the second none before one of the first, are in order end to end
in_order_joined : (less : Row → Row → Bool) (xs ys : List Row) → InOrder less xs → InOrder less ys → All (λ x. All (λ y. less y x ≡ false) ys) xs → InOrder less (xs ++ ys)
in_order_joined less [] ys h k later = k
in_order_joined less (x ∷ xs) ys h k later = (
  All-append (λ y. less y x ≡ false) xs ys h.0 (All-head (λ x. All (λ y. less y x ≡ false) ys) x xs later),
  in_order_joined less xs ys h.1 k (All-tail (λ x. All (λ y. less y x ≡ false) ys) x xs later),
)

sorted_parts : (less : Row → Row → Bool) → IsOrder less → (parts : List (List Row)) → PartsInOrder less parts → InOrder less (flat_map (stable_sort less) parts)
sorted_parts less o [] h = tt
sorted_parts less o (part ∷ parts) h =
    in_order_joined less (stable_sort less part) (flat_map (stable_sort less) parts) (order less o part) (sorted_parts less o parts h.1)
    (all_sorted less (λ x. All (λ y. less y x ≡ false) (flat_map (stable_sort less) parts)) part
    (All-weaker (λ x. All (λ y. less y x ≡ false) (flat_map (λ p. p) parts)) (λ x. All (λ y. less y x ≡ false) (flat_map (stable_sort less) parts)) (λ x. all_joined less (λ y. less y x ≡ false) parts) part h.0))

-- rows that tie stand in sorted parts as in the parts
tied_parts : (less : Row → Row → Bool) → IsOrder less → (x : Row) (parts : List (List Row))
    → filter (ties less x) (flat_map (stable_sort less) parts) ≡ filter (ties less x) (flat_map (λ p. p) parts)
tied_parts less o x [] = refl
tied_parts less o x (part ∷ parts) =
    filter-append (ties less x) (stable_sort less part) (flat_map (stable_sort less) parts)
    ∙ (ap (λ zs. zs ++ filter (ties less x) (flat_map (stable_sort less) parts)) (sort_ties less o x part)
    ∙ (ap (λ zs. filter (ties less x) part ++ zs) (tied_parts less o x parts)
    ∙ sym (filter-append (ties less x) part (flat_map (λ p. p) parts))))

pub sorted_parts_are : SortedPartsAreSorted
sorted_parts_are less o parts h = ordered_is less o (flat_map (λ p. p) parts) (flat_map (stable_sort less) parts) (sorted_parts less o parts h) (λ x. tied_parts less o x parts)

-- a row that comes before another has at most as many bounds before it
module _ (less : Row → Row → Bool) (o : IsOrder less) where
  goes_under : (b x y : Row) → less x y ≡ true → less b x ≡ true → less b y ≡ true
  goes_under b x y h k = by (less b y) refl
    where
      by : (c : Bool) → less b y ≡ c → c ≡ true
      by true e = refl
      by false e = absurd (let no : true ≡ false = sym k ∙ o.goes_on b y x e (o.one_way x y h) in cc (no))

  fewer_before : (x y : Row) → less x y ≡ true → (bounds : List Row) → length (filter (λ b. less b x) bounds) ≤ length (filter (λ b. less b y) bounds)
  fewer_before x y h [] = omega arith
  fewer_before x y h (b ∷ bounds) = by (less b x) refl (less b y) refl (fewer_before x y h bounds)
    where
      by : (c : Bool) → less b x ≡ c → (d : Bool) → less b y ≡ d → length (filter (λ b. less b x) bounds) ≤ length (filter (λ b. less b y) bounds)
          → length (cond c (b ∷ filter (λ b. less b x) bounds) (filter (λ b. less b x) bounds)) ≤ length (cond d (b ∷ filter (λ b. less b y) bounds) (filter (λ b. less b y) bounds))
      by true e true f rest = omega (arith, rest)
      by true e false f rest = absurd (let no : true ≡ false = sym (goes_under b x y h e) ∙ f in cc (no))
      by false e true f rest = omega (arith, rest)
      by false e false f rest = rest

  module _ (bounds : List Row) (key : Row → Row) where
    not_before : (x y : Row) → by_range less bounds key x < by_range less bounds key y → before_by less key y x ≡ false
    not_before x y lt = by (less (key y) (key x)) refl
      where
        by : (c : Bool) → less (key y) (key x) ≡ c → c ≡ false
        by true e = absurd (let no : ⊥ = omega (arith, lt, fewer_before (key y) (key x) e bounds) in no)
        by false e = refl

    later_places : (rows : List Row) (r a n : ℕ) → r < a
        → All (λ y. r < by_range less bounds key y) (flat_map (λ p. p) (map (part_of (by_range less bounds key) rows) (range_with_len a n)))
    later_places rows r a zero lt = All-nil (λ y. r < by_range less bounds key y)
    later_places rows r a (suc n) lt =
        All-append (λ y. r < by_range less bounds key y) (part_of (by_range less bounds key) rows a) (flat_map (λ p. p) (map (part_of (by_range less bounds key) rows) (range_with_len (a + 1) n)))
        (All-weaker (λ y. by_range less bounds key y ≡ a) (λ y. r < by_range less bounds key y) (λ y here. omega (arith, here, lt)) (part_of (by_range less bounds key) rows a) (all_at (by_range less bounds key) a rows))
        (later_places rows r (a + 1) n (omega (arith, lt)))

    parts_in_order : (rows : List Row) (a n : ℕ) → PartsInOrder (before_by less key) (map (part_of (by_range less bounds key) rows) (range_with_len a n))
    parts_in_order rows a zero = tt
    parts_in_order rows a (suc n) =
        let later = flat_map (λ p. p) (map (part_of (by_range less bounds key) rows) (range_with_len (a + 1) n)) in (
          All-weaker (λ x. by_range less bounds key x ≡ a) (λ x. All (λ y. before_by less key y x ≡ false) later)
              (λ x here. All-weaker (λ y. a < by_range less bounds key y) (λ y. before_by less key y x ≡ false) (λ y up. not_before x y (omega (arith, here, up))) later (later_places rows a (a + 1) n (omega arith)))
              (part_of (by_range less bounds key) rows a) (all_at (by_range less bounds key) a rows),
          parts_in_order rows (a + 1) n,
        )

pub ranges_in_order : RangePartsAreInOrder
ranges_in_order less o bounds key n rows = parts_in_order less o bounds key rows 0 n

-- rows that tie have as many bounds before them
same_place : (less : Row → Row → Bool) → IsOrder less → (bounds : List Row) (key : Row → Row) (x y : Row) → ties (before_by less key) x y ≡ true → by_range less bounds key y ≡ by_range less bounds key x
same_place less o bounds key x y tie =
    ap length (filter_agree (λ b. less b (key y)) (λ b. less b (key x)) (λ b. one (less b (key y)) (less b (key x)) (over b) (under b)) bounds)
  where
    over : (b : Row) → less b (key x) ≡ false → less b (key y) ≡ false
    over b h = o.goes_on b (key x) (key y) h (tie_left (less (key x) (key y)) (less (key y) (key x)) tie)

    under : (b : Row) → less b (key y) ≡ false → less b (key x) ≡ false
    under b h = o.goes_on b (key y) (key x) h (tie_right (less (key x) (key y)) (less (key y) (key x)) tie)

    one : (c d : Bool) → (d ≡ false → c ≡ false) → (c ≡ false → d ≡ false) → c ≡ d
    one true true f g = refl
    one true false f g = f refl
    one false true f g = sym (g refl)
    one false false f g = refl

-- where the rows that pass a test have one place, they stand in the part of that place
module _ (place : Row → ℕ) (test : Row → Bool) (p : ℕ) (at : (y : Row) → test y ≡ true → place y ≡ p) where
  in_part : (rows : List Row) → filter test (part_of place rows p) ≡ filter test rows
  in_part [] = refl
  in_part (x ∷ xs) = by (place x == p) refl (test x) refl (in_part xs)
    where
      by : (c : Bool) → (place x == p) ≡ c → (d : Bool) → test x ≡ d → filter test (part_of place xs p) ≡ filter test xs
          → filter test (cond c (x ∷ part_of place xs p) (part_of place xs p)) ≡ cond d (x ∷ filter test xs) (filter test xs)
      by true e true f rest = ap (λ b. cond b (x ∷ filter test (part_of place xs p)) (filter test (part_of place xs p))) f ∙ ap (λ zs. x ∷ zs) rest
      by true e false f rest = ap (λ b. cond b (x ∷ filter test (part_of place xs p)) (filter test (part_of place xs p))) f ∙ rest
      by false e true f rest = absurd (let here = at x f in let no : (place x == p) ≡ true = grind (arith, nat_tests, here) in let up : true ≡ false = sym no ∙ e in cc (up))
      by false e false f rest = rest

  in_no_other : (rows : List Row) (r : ℕ) → (p == r) ≡ false → filter test (part_of place rows r) ≡ []
  in_no_other [] r other = refl
  in_no_other (x ∷ xs) r other = by (place x == r) refl (test x) refl (in_no_other xs r other)
    where
      by : (c : Bool) → (place x == r) ≡ c → (d : Bool) → test x ≡ d → filter test (part_of place xs r) ≡ []
          → filter test (cond c (x ∷ part_of place xs r) (part_of place xs r)) ≡ []
      by true e true f rest = absurd (let here : p ≡ place x = sym (at x f) in let up : true ≡ false = sym e ∙ (ap (λ q. q == r) (sym here) ∙ other) in cc (up))
      by true e false f rest = ap (λ b. cond b (x ∷ filter test (part_of place xs r)) (filter test (part_of place xs r))) f ∙ rest
      by false e d f rest = rest

  parts_else : (rows : List Row) (a n : ℕ) → p < a → filter test (flat_map (λ q. q) (map (part_of place rows) (range_with_len a n))) ≡ []
  parts_else rows a zero lt = refl
  parts_else rows a (suc n) lt =
      let other : (p == a) ≡ false = grind (arith, nat_tests, lt) in
      filter-append test (part_of place rows a) (flat_map (λ q. q) (map (part_of place rows) (range_with_len (a + 1) n)))
      ∙ (ap (λ zs. zs ++ filter test (flat_map (λ q. q) (map (part_of place rows) (range_with_len (a + 1) n)))) (in_no_other rows a other)
      ∙ parts_else rows (a + 1) n (omega (arith, lt)))

  parts_with : (rows : List Row) (a n : ℕ) → a ≤ p → p < a + n → filter test (flat_map (λ q. q) (map (part_of place rows) (range_with_len a n))) ≡ filter test rows
  parts_with rows a zero le lt = absurd (let no : ⊥ = omega (arith, le, lt) in no)
  parts_with rows a (suc n) le lt = filter-append test (part_of place rows a) rest ∙ by (p == a) refl (λ other. parts_with rows (a + 1) n (omega (arith, other)) (omega (arith, lt)))
    where
      rest : List Row
      rest = flat_map (λ q. q) (map (part_of place rows) (range_with_len (a + 1) n))

      by : (c : Bool) → (p == a) ≡ c → (a < p → filter test rest ≡ filter test rows) → filter test (part_of place rows a) ++ filter test rest ≡ filter test rows
      by true e later =
          let same : p ≡ a = grind (arith, nat_tests, e) in
          ap (λ zs. filter test (part_of place rows a) ++ zs) (parts_else rows (a + 1) n (omega (arith, same)))
          ∙ (append-nil (filter test (part_of place rows a)) ∙ (ap (λ r. filter test (part_of place rows r)) (sym same) ∙ in_part rows))
      by false e later =
          let other : a < p = grind (arith, nat_tests, e, le) in
          ap (λ zs. zs ++ filter test rest) (in_no_other rows a e) ∙ later other

pub ranges_are : SortedRangesAreTheSort
ranges_are less o bounds key n rows few =
    let under = before_by less key in
    let place = by_range less bounds key in
    let parts = exchanged place n rows in
    let ko = keyed less key o in
    sorted_parts_are under ko parts (ranges_in_order less o bounds key n rows)
    ∙ ordered_is under ko rows (stable_sort under (flat_map (λ p. p) parts)) (order under ko (flat_map (λ p. p) parts))
    (λ x. sort_ties under ko x (flat_map (λ p. p) parts)
    ∙ parts_with place (ties under x) (place x) (λ y tie. same_place less o bounds key x y tie) rows 0 n (omega arith) (omega (arith, are_parts less bounds key n x few)))

pub sampled_ranges_are : SampledRangesAreTheSort
sampled_ranges_are less o samples key n rows le = ranges_are less o (bounds less n samples) key n rows (fewer less n samples le)
