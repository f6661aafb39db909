-- Groups of parts in which rows of equal keys stand together.
use Rattle.std.proofs.Common.{◌≡◌, ℕ, suc, ◌+◌, ◌<◌, Bool, true, false, not, ◌||◌, cond, List, [], ◌∷◌, ◌++◌, map, take, length, refl, ap, sym, ◌∙◌, arith, append-nil, subst}
use Rattle.std.specs.Prelude.{filter, flat_map, fold, All, IsPermutation, slice_index_or}
use Rattle.std.specs.List.{list_any}
use Rattle.std.proofs.lemmas.List.Sorted.{IsPermutation-map}
use Rattle.std.proofs.lemmas.List.Elements.{All-nil, All-cons, All-head, All-tail, All-append, All-map, All-weaker, All-filter, filter-append}
use Rattle.aqe_values.specs.declared.value.Value.{Value}
use Rattle.aqe_values.specs.declared.value.Value.TheVariants.{Null}
use Rattle.aqe_values.specs.Equality.{row_eq, value_eq}
use Rattle.aqe_logical.specs.declared.plan.AggCall.{AggCall}
use Rattle.aqe_logical.specs.Answers.{Row}
use Rattle.aqe_logical.specs.Groups.{distinct, group_keys, group_rows, finish_rows, finished, rows_with, call_value, merged, nothing}
use Rattle.aqe_logical.proofs.Rows.{rows_same, values_same}
use Rattle.aqe_logical.proofs.Rearranged.{rearranged, fold-rearranged, filter-permuted}
use Rattle.aqe_logical.proofs.Calls.{merged_swaps}
use Rattle.aqe_logical.proofs.Grouped.{group_rows-permuted}
use Rattle.aqe_partial.specs.PartialRows.{joined_parts, partial_rows}
use Rattle.aqe_partial.proofs.Keys.{distinct_append}
use Rattle.aqe_partial.proofs.Finishing.{finishing}
use Rattle.aqe_places.specs.Places.{exchanged}
use Rattle.aqe_places.specs.Laws.{Placed}
use Rattle.aqe_places.proofs.Exchanged.{keep_the_rows, place_the_rows}
use Rattle.aqe_fit_laws.specs.Laws.{GroupsOfPlacedParts, GroupsOfMovedParts}

pub map_append : {X Y : Type 0} (f : X → Y) (xs ys : List X) → map f (xs ++ ys) ≡ map f xs ++ map f ys
map_append f [] ys = refl
map_append f (x ∷ xs) ys = ap (λ zs. f x ∷ zs) (map_append f xs ys)

-- a filter leaves all where each passes, and none where each fails
pub all_pass : {X : Type 0} (p : X → Bool) (xs : List X) → All (λ x. p x ≡ true) xs → filter p xs ≡ xs
all_pass p [] h = refl
all_pass {X} p (x ∷ xs) h =
    ap (λ b. cond b (x ∷ filter p xs) (filter p xs)) (All-head (λ (y : X). p y ≡ true) x xs h) ∙ ap (λ ys. x ∷ ys) (all_pass p xs (All-tail (λ (y : X). p y ≡ true) x xs h))

pub none_passes : {X : Type 0} (p : X → Bool) (xs : List X) → All (λ x. p x ≡ false) xs → filter p xs ≡ []
none_passes p [] h = refl
none_passes {X} p (x ∷ xs) h =
    ap (λ b. cond b (x ∷ filter p xs) (filter p xs)) (All-head (λ (y : X). p y ≡ false) x xs h) ∙ none_passes p xs (All-tail (λ (y : X). p y ≡ false) x xs h)

none_is : {X : Type 0} (p : X → Bool) (xs : List X) → All (λ x. p x ≡ false) xs → list_any p xs ≡ false
none_is p [] h = refl
none_is {X} p (x ∷ xs) h =
    ap (λ b. b || list_any p xs) (All-head (λ (y : X). p y ≡ false) x xs h) ∙ none_is p xs (All-tail (λ (y : X). p y ≡ false) x xs h)

pub distinct_all : (P : Row → Type 0) (ks : List Row) → All P ks → All P (distinct ks)
distinct_all P [] h = All-nil P
distinct_all P (k ∷ ks) h =
    All-cons P k (filter (λ j. not (row_eq k j)) (distinct ks)) (All-head P k ks h)
    (All-filter (λ j. not (row_eq k j)) P (distinct ks) (distinct_all P ks (All-tail P k ks h)))

map_same : {X Y : Type 0} (P : X → Type 0) (f g : X → Y) (xs : List X) → ((x : X) → P x → f x ≡ g x) → All P xs → map f xs ≡ map g xs
map_same P f g [] h all = refl
map_same P f g (x ∷ xs) h all = (λ i. h x (All-head P x xs all) i ∷ map_same P f g xs h (All-tail P x xs all) i)

module _ (key : Row → Row) (g : Row → ℕ) (each : List Row → List Value) where
  -- a row for each key, of the rows that have it
  abbrev pub groups : List Row → List Row
  groups rows = map (λ k. k ++ each (rows_with key k rows)) (distinct (map key rows))

  differ : (k j : Row) (a : ℕ) → g k ≡ a → a < g j → row_eq k j ≡ false
  differ k j a e lt = by (row_eq k j) refl
    where
      by : (b : Bool) → row_eq k j ≡ b → b ≡ false
      by false h = refl
      by true h = absurd (let same : g k ≡ g j = ap g ((rows_same k j).0 h) in let no : ⊥ = omega (arith, same, e, lt) in no)

  abbrev At : ℕ → Row → Type 0
  At a row = g (key row) ≡ a

  abbrev After : ℕ → Row → Type 0
  After a row = a < g (key row)

  -- of rows in front with one place and rows behind with later ones, no key stands in both
  module _ (a : ℕ) (front behind : List Row) (here : All (At a) front) (later : All (After a) behind) where
    keys_here : All (λ k. g k ≡ a) (distinct (map key front))
    keys_here = distinct_all (λ k. g k ≡ a) (map key front) (All-map (λ k. g k ≡ a) key front here)

    keys_later : All (λ k. a < g k) (distinct (map key behind))
    keys_later = distinct_all (λ k. a < g k) (map key behind) (All-map (λ k. a < g k) key behind later)

    keys_apart : distinct (map key (front ++ behind)) ≡ distinct (map key front) ++ distinct (map key behind)
    keys_apart =
        ap distinct (map_append key front behind) ∙
        (distinct_append (map key front) (map key behind) ∙
        ap (λ ks. distinct (map key front) ++ ks)
        (all_pass (λ j. not (list_any (λ k. row_eq k j) (map key front))) (distinct (map key behind))
        (All-weaker (λ k. a < g k) (λ j. not (list_any (λ k. row_eq k j) (map key front)) ≡ true)
        (λ j lt. ap not (none_is (λ k. row_eq k j) (map key front)
        (All-map (λ k. row_eq k j ≡ false) key front (All-weaker (At a) (λ row. row_eq (key row) j ≡ false) (λ row e. differ (key row) j a e lt) front here))))
        (distinct (map key behind)) keys_later)))

    rows_here : (k : Row) → g k ≡ a → rows_with key k (front ++ behind) ≡ rows_with key k front
    rows_here k e =
        filter-append (λ row. row_eq k (key row)) front behind ∙
        (ap (λ rows. rows_with key k front ++ rows) (none_passes (λ row. row_eq k (key row)) behind
        (All-weaker (After a) (λ row. row_eq k (key row) ≡ false) (λ row lt. differ k (key row) a e lt) behind later)) ∙
        append-nil (rows_with key k front))

    turned : (k j : Row) → row_eq j k ≡ false → row_eq k j ≡ false
    turned k j h = by (row_eq k j) refl
      where
        by : (b : Bool) → row_eq k j ≡ b → b ≡ false
        by false e = refl
        by true e = sym ((rows_same j k).1 (sym ((rows_same k j).0 e))) ∙ h

    rows_later : (k : Row) → a < g k → rows_with key k (front ++ behind) ≡ rows_with key k behind
    rows_later k lt =
        filter-append (λ row. row_eq k (key row)) front behind ∙
        ap (λ rows. rows ++ rows_with key k behind) (none_passes (λ row. row_eq k (key row)) front
        (All-weaker (At a) (λ row. row_eq k (key row) ≡ false) (λ row e. turned k (key row) (differ (key row) k a e lt)) front here))

    two : groups (front ++ behind) ≡ groups front ++ groups behind
    two =
        ap (map (λ k. k ++ each (rows_with key k (front ++ behind)))) keys_apart ∙
        (map_append (λ k. k ++ each (rows_with key k (front ++ behind))) (distinct (map key front)) (distinct (map key behind)) ∙
        (λ i. map_same (λ k. g k ≡ a) (λ k. k ++ each (rows_with key k (front ++ behind))) (λ k. k ++ each (rows_with key k front)) (distinct (map key front))
        (λ k e. ap (λ rows. k ++ each rows) (rows_here k e)) keys_here i ++
        map_same (λ k. a < g k) (λ k. k ++ each (rows_with key k (front ++ behind))) (λ k. k ++ each (rows_with key k behind)) (distinct (map key behind))
        (λ k lt. ap (λ rows. k ++ each rows) (rows_later k lt)) keys_later i))

  placed_later : (a b : ℕ) (parts : List (List Row)) → a < b → Placed (λ row. g (key row)) b parts → All (After a) (joined_parts parts)
  placed_later a b [] lt h = All-nil (After a)
  placed_later a b (part ∷ parts) lt (h, k) =
      All-append (After a) part (joined_parts parts)
      (All-weaker (At b) (After a) (λ row e. omega (arith, lt, e)) part h)
      (placed_later a (b + 1) parts (omega (arith, lt)) k)

  pub together : (a : ℕ) (parts : List (List Row)) → Placed (λ row. g (key row)) a parts → groups (joined_parts parts) ≡ flat_map groups parts
  together a [] h = refl
  together a (part ∷ parts) (h, k) =
      two a part (joined_parts parts) h (placed_later a (a + 1) parts (omega arith) k) ∙ ap (λ rows. groups part ++ rows) (together (a + 1) parts k)

-- the partial rows of one part, finished
pub one_part : (n : ℕ) (key : Row → Row) (calls : List AggCall) (part : List Row) → ((row : Row) → length (key row) ≡ n) → finish_rows n calls (partial_rows n key calls part) ≡ group_rows n key calls part
one_part n key calls part long =
    ap (finish_rows n calls) (sym (append-nil (partial_rows n key calls part))) ∙
    (finishing n key calls (part ∷ []) long ∙ ap (group_rows n key calls) (append-nil part))

part_by_part : (n : ℕ) (key : Row → Row) (calls : List AggCall) (parts : List (List Row)) → ((row : Row) → length (key row) ≡ n) →
    joined_parts (map (finish_rows n calls) (map (partial_rows n key calls) parts)) ≡ flat_map (group_rows n key calls) parts
part_by_part n key calls [] long = refl
part_by_part n key calls (part ∷ parts) long = (λ i. one_part n key calls part long i ++ part_by_part n key calls parts long i)

pub placed_groups : GroupsOfPlacedParts
placed_groups n key calls g parts long h =
    part_by_part (suc n) key calls parts long ∙ sym (together key g (λ rows. map (call_value rows) calls) 0 parts h)

-- finishing rows in another order
finished_permuted : (i : ℕ) (calls : List AggCall) (rows others : List Row) → IsPermutation rows others → finished i calls rows ≡ finished i calls others
finished_permuted i [] rows others h = refl
finished_permuted i (call ∷ calls) rows others h = (λ j. head j ∷ finished_permuted (i + 1) calls rows others h j)
  where
    column : List Row → List Value
    column = map (λ row. slice_index_or row i Null)

    head : fold (merged call.fun) (nothing call.fun) (map (λ row. slice_index_or row i Null) rows) ≡ fold (merged call.fun) (nothing call.fun) (map (λ row. slice_index_or row i Null) others)
    head =
        fold-rearranged (merged call.fun) (merged_swaps call.fun) (nothing call.fun) (map (λ row. slice_index_or row i Null) rows) (map (λ row. slice_index_or row i Null) others)
        (rearranged value_eq values_same (map (λ row. slice_index_or row i Null) rows) (map (λ row. slice_index_or row i Null) others)
        (IsPermutation-map (λ row. slice_index_or row i Null) rows others h))

unpadded : (ks : List Row) → map (λ k. k ++ []) ks ≡ ks
unpadded [] = refl
unpadded (k ∷ ks) = (λ i. append-nil k i ∷ unpadded ks i)

keys_permuted : (n : ℕ) (key : Row → Row) (rows others : List Row) → IsPermutation rows others → IsPermutation (group_keys n (map key rows)) (group_keys n (map key others))
keys_permuted n key rows others h =
    subst (λ ks. IsPermutation ks (group_keys n (map key others))) (unpadded (group_keys n (map key rows)))
    (subst (λ ks. IsPermutation (map (λ k. k ++ []) (group_keys n (map key rows))) ks) (unpadded (group_keys n (map key others)))
    (group_rows-permuted n key [] rows others h))

pub finish_permuted : (n : ℕ) (calls : List AggCall) (rows others : List Row) → IsPermutation rows others → IsPermutation (finish_rows n calls rows) (finish_rows n calls others)
finish_permuted n calls rows others h =
    rw same
    (IsPermutation-map (λ k. k ++ finished n calls (rows_with (take n) k others)) (group_keys n (map (take n) rows)) (group_keys n (map (take n) others))
    (keys_permuted n (take n) rows others h))
  where
    same : finish_rows n calls rows ≡ map (λ k. k ++ finished n calls (rows_with (take n) k others)) (group_keys n (map (take n) rows))
    same = λ i. map (λ k. k ++ finished_permuted n calls (rows_with (take n) k rows) (rows_with (take n) k others) (filter-permuted row_eq rows_same (λ row. row_eq k (take n row)) rows others h) i) (group_keys n (map (take n) rows))

pub flat_map_map : {X Y Z : Type 0} (g : Y → List Z) (f : X → Y) (xs : List X) → flat_map g (map f xs) ≡ flat_map (λ x. g (f x)) xs
flat_map_map g f [] = refl
flat_map_map g f (x ∷ xs) = ap (λ zs. g (f x) ++ zs) (flat_map_map g f xs)

pub all_partial : (n : ℕ) (key : Row → Row) (calls : List AggCall) (parts : List (List Row)) → ((row : Row) → length (key row) ≡ n) →
    finish_rows n calls (joined_parts (map (partial_rows n key calls) parts)) ≡ group_rows n key calls (joined_parts parts)
all_partial n key calls parts long = ap (finish_rows n calls) (flat_map_map (λ part. part) (partial_rows n key calls) parts) ∙ finishing n key calls parts long

-- finishing rows that are moved by their keys is finishing them at one place
pub moved_finish : (n : ℕ) (calls : List AggCall) (g : Row → ℕ) (count : ℕ) (rows : List Row) → ((k : Row) → g k < count) →
    IsPermutation (finish_rows (suc n) calls rows) (joined_parts (map (finish_rows (suc n) calls) (exchanged (λ row. g (take (suc n) row)) count rows)))
moved_finish n calls g count rows below =
    subst (λ others. IsPermutation (finish_rows (suc n) calls rows) others) ends
    (finish_permuted (suc n) calls rows (joined_parts moved) (keep_the_rows (λ row. g (take (suc n) row)) count rows (λ row. below (take (suc n) row))))
  where
    moved : List (List Row)
    moved = exchanged (λ row. g (take (suc n) row)) count rows

    ends : finish_rows (suc n) calls (joined_parts moved) ≡ joined_parts (map (finish_rows (suc n) calls) moved)
    ends =
        together (take (suc n)) g (finished (suc n) calls) 0 moved (place_the_rows (λ row. g (take (suc n) row)) count rows) ∙
        sym (flat_map_map (λ part. part) (finish_rows (suc n) calls) moved)

pub moved_groups : GroupsOfMovedParts
moved_groups n key calls g count parts long below =
    subst (λ rows. IsPermutation rows (joined_parts (map (finish_rows (suc n) calls) (exchanged (λ row. g (take (suc n) row)) count (joined_parts (map (partial_rows (suc n) key calls) parts))))))
    (all_partial (suc n) key calls parts long)
    (moved_finish n calls g count (joined_parts (map (partial_rows (suc n) key calls) parts)) below)

-- the partial rows of parts, finished, are the partial rows
pub finished_partials : (n : ℕ) (key : Row → Row) (calls : List AggCall) (parts : List (List Row)) → ((row : Row) → length (key row) ≡ n) →
    map (finish_rows n calls) (map (partial_rows n key calls) parts) ≡ map (partial_rows n key calls) parts
finished_partials n key calls [] long = refl
finished_partials n key calls (part ∷ parts) long = (λ i. one_part n key calls part long i ∷ finished_partials n key calls parts long i)
