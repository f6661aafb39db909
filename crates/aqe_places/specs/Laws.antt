-- The laws of exchanges, sorts and ranges.
use Rattle.std.specs.Prelude.{◌≡◌, ℕ, ◌<◌, ◌≤◌, ◌+◌, Bool, true, false, List, [], ◌∷◌, filter, flat_map, length, min, All, Contains, IsPermutation}
use Rattle.aqe_expr.specs.declared.expr.Expr.{Expr}
use Rattle.aqe_logical.specs.Answers.{Row}
use Rattle.std.specs.Ordering.{ordering_then}
use Rattle.std.specs.List.Sorted.{IsSortedBy, IsStableBy}
use Rattle.aqe_values.specs.Order.{way_cmp}
use Rattle.aqe_values.specs.KeyOrder.{InOrder}
use Rattle.aqe_expr.specs.Meaning.{val}
use Rattle.aqe_logical.specs.declared.plan.SortKey.{SortKey}
use Rattle.aqe_logical.specs.Order.{row_order, before}
use Rattle.aqe_places.specs.Places.{by_hash, by_range, single, exchanged}
use Rattle.aqe_places.specs.Sorting.{stable_sort}
use Rattle.aqe_places.specs.Samples.{sample_size, sample, bounds}

-- where each row's place is that of a part, the parts have the rows that came in
abbrev pub ExchangesKeepTheRows : Type 0
ExchangesKeepTheRows =
    (place : Row → ℕ) (n : ℕ) (rows : List Row) → ((row : Row) → place row < n) →
    IsPermutation rows (flat_map (λ part. part) (exchanged place n rows))

-- all rows of a part have the part's number as their place; the first part is number a
abbrev pub Placed : (Row → ℕ) → ℕ → List (List Row) → Type 0
Placed place a [] = Unit {0}
Placed place a (part ∷ parts) = All (λ row. place row ≡ a) part × Placed place (a + 1) parts

abbrev pub ExchangesPlaceTheRows : Type 0
ExchangesPlaceTheRows = (place : Row → ℕ) (n : ℕ) (rows : List Row) → Placed place 0 (exchanged place n rows)

-- an exchange to one part has all rows in it, in the order in which they came
abbrev pub OnePartHasTheRows : Type 0
OnePartHasTheRows = (rows : List Row) → exchanged single 1 rows ≡ rows ∷ []

-- each place by hash is that of a part
abbrev pub HashPlacesAreParts : Type 0
HashPlacesAreParts = (n : ℕ) (keys : List Expr) (row : Row) → 1 ≤ n → by_hash n keys row < n

-- with fewer bounds than parts, each place by range is that of a part
abbrev pub RangePlacesAreParts : Type 0
RangePlacesAreParts =
    (less : Row → Row → Bool) (bounds : List Row) (key : Row → Row) (n : ℕ) (row : Row) → length bounds < n → by_range less bounds key row < n

-- What a test of "comes strictly before" keeps: of two rows at most one comes before the other, and what does not come before a
-- row that does not come before another does not come before that one either.
pub record IsOrder (less : Row → Row → Bool) : Type 0 where
  pub one_way : (x y : Row) → less x y ≡ true → less y x ≡ false
  pub goes_on : (x y z : Row) → less x y ≡ false → less y z ≡ false → less x z ≡ false

-- a sorted list has the rows that it was made of
abbrev pub SortsKeepTheRows : Type 0
SortsKeepTheRows = (less : Row → Row → Bool) (rows : List Row) → IsPermutation rows (stable_sort less rows)

-- no later row of a sorted list comes before an earlier one
abbrev pub SortsOrderTheRows : Type 0
SortsOrderTheRows = (less : Row → Row → Bool) → IsOrder less → (rows : List Row) → InOrder less (stable_sort less rows)

-- rows none of which comes before another stay in the order in which they came
abbrev pub SortsAreStable : Type 0
SortsAreStable =
    (less : Row → Row → Bool) (tied : Row → Bool) (rows : List Row) → ((x y : Row) → tied x ≡ true → tied y ≡ true → less x y ≡ false) →
    filter tied (stable_sort less rows) ≡ filter tied rows

-- of two rows the first sort key by which they differ decides, by its way
abbrev pub SortKeysDecideInTurn : Type 0
SortKeysDecideInTurn = (key : SortKey) (keys : List SortKey) (x y : Row) →
    row_order (key ∷ keys) x y ≡ ordering_then (way_cmp key.way (val x key.expr) (val y key.expr)) (row_order keys x y)

-- the test of a sort by keys orders
abbrev pub SortKeysOrder : Type 0
SortKeysOrder = (keys : List SortKey) → IsOrder (before keys)

-- the samples of a list are keys of it, 20 of them or as many as there are
abbrev pub SamplesAreKeys : Type 0
SamplesAreKeys = (keys : List Row) → (length (sample keys) ≡ min sample_size (length keys)) × All (λ key. Contains keys key) (sample keys)

-- bounds are samples
abbrev pub BoundsAreSamples : Type 0
BoundsAreSamples = (less : Row → Row → Bool) (n : ℕ) (samples : List Row) → All (λ bound. Contains samples bound) (bounds less n samples)

-- n ranges have fewer bounds than n, whatever the samples
abbrev pub BoundsAreFewer : Type 0
BoundsAreFewer = (less : Row → Row → Bool) (n : ℕ) (samples : List Row) → 1 ≤ n → length (bounds less n samples) < n

-- bounds are in the order by which they were made, and so a search in them may go by halves
abbrev pub BoundsAreInOrder : Type 0
BoundsAreInOrder = (less : Row → Row → Bool) → IsOrder less → (n : ℕ) (samples : List Row) →
    InOrder less (bounds less n samples) × IsSortedBy less (bounds less n samples)

-- a list that is sorted, and in which rows that tie stand as in another list, is the other list sorted
abbrev pub SortedAndStableIsTheSort : Type 0
SortedAndStableIsTheSort =
    (less : Row → Row → Bool) → IsOrder less → (rows sorted : List Row) → IsSortedBy less sorted → IsStableBy less rows sorted →
    sorted ≡ stable_sort less rows

-- one row comes before another where its key does
abbrev pub before_by : (Row → Row → Bool) → (Row → Row) → Row → Row → Bool
before_by less key x y = less (key x) (key y)

-- parts that stand in order end to end: no row of a later part comes before a row of an earlier one
abbrev pub PartsInOrder : (Row → Row → Bool) → List (List Row) → Type 0
PartsInOrder less [] = Unit {0}
PartsInOrder less (part ∷ parts) = All (λ x. All (λ y. less y x ≡ false) (flat_map (λ later. later) parts)) part × PartsInOrder less parts

-- parts by range stand in order end to end, for any list of bounds
abbrev pub RangePartsAreInOrder : Type 0
RangePartsAreInOrder = (less : Row → Row → Bool) → IsOrder less → (bounds : List Row) (key : Row → Row) (n : ℕ) (rows : List Row) →
    PartsInOrder (before_by less key) (exchanged (by_range less bounds key) n rows)

-- parts that stand in order, each sorted and put end to end, are their rows sorted
abbrev pub SortedPartsAreSorted : Type 0
SortedPartsAreSorted = (less : Row → Row → Bool) → IsOrder less → (parts : List (List Row)) → PartsInOrder less parts →
    flat_map (stable_sort less) parts ≡ stable_sort less (flat_map (λ part. part) parts)

-- the parts of an exchange by range, each sorted and put end to end, are the rows that came in, sorted; with fewer bounds than parts
abbrev pub SortedRangesAreTheSort : Type 0
SortedRangesAreTheSort = (less : Row → Row → Bool) → IsOrder less → (bounds : List Row) (key : Row → Row) (n : ℕ) (rows : List Row) → length bounds < n →
    flat_map (stable_sort (before_by less key)) (exchanged (by_range less bounds key) n rows) ≡ stable_sort (before_by less key) rows

-- the whole of a sort by range: whatever the samples, the parts by their bounds, each sorted and put end to end, are the rows sorted
abbrev pub SampledRangesAreTheSort : Type 0
SampledRangesAreTheSort = (less : Row → Row → Bool) → IsOrder less → (samples : List Row) (key : Row → Row) (n : ℕ) (rows : List Row) → 1 ≤ n →
    flat_map (stable_sort (before_by less key)) (exchanged (by_range less (bounds less n samples) key) n rows) ≡ stable_sort (before_by less key) rows
