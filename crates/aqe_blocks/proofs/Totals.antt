-- The totals of a stage's outputs, when an output comes or goes.
use Rattle.std.proofs.Common.{◌≡◌, ◌+◌, ◌*◌, ◌<◌, ◌≤◌, ◌^◌, ℕ, Some, IfSome, List, [], ◌∷◌, length, sum_by, All, unwrap_or, arith, subst, refl, ap, sym}
use Rattle.std.proofs.lemmas.List.Elements.{All-head, All-nil, All-weaker}
use Rattle.std.proofs.lemmas.List.Sums.{sum_by-le}
use Rattle.std.proofs.lemmas.Map.Entries.{sum_by-insert_entry, sum_by-remove_entry, length-values_of}
use Rattle.std.proofs.lemmas.Map.Views.{All-values-insert_entry, IfSome-lookup_from_All, All-map-remove_entry}
use Rattle.std.specs.Cmp.{nat_cmp_total}
use Rattle.std.specs.List.Sorted.{IsStrictlySortedBy}
use Rattle.std.specs.Map.{keys_of, values_of}
use Rattle.std.specs.Option.{option_map}
use Rattle.std.specs.Ordering.{nat_cmp}
use Rattle.std.specs.BTreeMap.{is_at}
use Rattle.aqe_blocks.specs.Cells.{CellData, size_of_cells, rows_of_cells}
use Rattle.aqe_blocks.specs.Kept.{StageKept, HaveCells, IsTotalled, cells_each, of_map, with_output, without_output}

at_most : (f : List CellData → ℕ) (cells : List CellData) → f cells < 2 ^ 64 → f cells ≤ 2 ^ 64
at_most f cells h = omega (arith, h)

-- fewer than 2^63 outputs of less than 2^64 each, and one more, stay below 2^128
pub sum_fits : (f : List CellData → ℕ) (kept : StageKept) (n : ℕ) → All (λ cells. f cells < 2 ^ 64) (values_of kept) → length kept < 2 ^ 63 → n < 2 ^ 64
    → sum_by f (values_of kept) + n < 2 ^ 128
sum_fits f kept n small few lt =
    let most : sum_by f (values_of kept) ≤ length (values_of kept) * 2 ^ 64 = sum_by-le f (2 ^ 64) (values_of kept) (All-weaker (λ cells. f cells < 2 ^ 64) (λ cells. f cells ≤ 2 ^ 64) (at_most f) (values_of kept) small) in
    let counted = length-values_of kept in
    omega (arith, most, counted, few, lt)

pub alike_from : (n : ℕ) (kept : StageKept) → HaveCells n kept → HaveCells (cells_each kept) kept
alike_from n [] h = All-nil (λ cells. length cells ≡ 0)
alike_from n (first ∷ kept) h = subst (λ m. HaveCells m (first ∷ kept)) (sym (All-head (λ cells. length cells ≡ n) first.1 (values_of kept) h)) h

-- an output that is found has as many cells as each
pub alike_at : (kept : StageKept) (map : ℕ) (output : List CellData) → HaveCells (cells_each kept) kept → of_map kept map ≡ Some output → HaveCells (length output) kept
alike_at kept map output h found =
    let each : IfSome (of_map kept map) (λ cells. length cells ≡ cells_each kept) =
    IfSome-lookup_from_All (λ cells. length cells ≡ cells_each kept) (is_at (nat_cmp map)) kept h in
    let same : length output ≡ cells_each kept = rw found at each in
    subst (λ n. HaveCells n kept) (sym same) h

pub totalled_more : (kept : StageKept) (map : ℕ) (output : List CellData) (size rows size' rows' : ℕ)
    → IsTotalled kept size rows → IsStrictlySortedBy nat_cmp (keys_of kept) → HaveCells (length output) kept
    → size_of_cells output < 2 ^ 64 → rows_of_cells output < 2 ^ 64
    → size' + unwrap_or (option_map size_of_cells (of_map kept map)) 0 ≡ size + size_of_cells output
    → rows' + unwrap_or (option_map rows_of_cells (of_map kept map)) 0 ≡ rows + rows_of_cells output
    → IsTotalled (with_output kept map output) size' rows'
totalled_more kept map output size rows size' rows' h sorted alike small few p q = record {
  all = let s = sum_by-insert_entry size_of_cells nat_cmp_total kept map output sorted in let t = h.all in omega (arith, s, t, p);
  count = let s = sum_by-insert_entry rows_of_cells nat_cmp_total kept map output sorted in let t = h.count in omega (arith, s, t, q);
  small = All-values-insert_entry nat_cmp map output (λ cells. size_of_cells cells < 2 ^ 64) kept h.small small;
  few = All-values-insert_entry nat_cmp map output (λ cells. rows_of_cells cells < 2 ^ 64) kept h.few few;
  alike = alike_from (length output) (with_output kept map output) (All-values-insert_entry nat_cmp map output (λ cells. length cells ≡ length output) kept alike refl);
}

pub totalled_less : (kept : StageKept) (map : ℕ) (output : List CellData) (size rows size' rows' : ℕ)
    → IsTotalled kept size rows → of_map kept map ≡ Some output
    → size' + size_of_cells output ≡ size → rows' + rows_of_cells output ≡ rows
    → IsTotalled (without_output kept map) size' rows'
totalled_less kept map output size rows size' rows' h found p q = record {
  all = let s = sum_by-remove_entry size_of_cells (is_at (nat_cmp map)) kept in let t = h.all in let u = rw found at s in omega (arith, u, t, p);
  count = let s = sum_by-remove_entry rows_of_cells (is_at (nat_cmp map)) kept in let t = h.count in let u = rw found at s in omega (arith, u, t, q);
  small = All-map-remove_entry (is_at (nat_cmp map)) (λ e. e.1) (λ cells. size_of_cells cells < 2 ^ 64) kept h.small;
  few = All-map-remove_entry (is_at (nat_cmp map)) (λ e. e.1) (λ cells. rows_of_cells cells < 2 ^ 64) kept h.few;
  alike = alike_from (cells_each kept) (without_output kept map) (All-map-remove_entry (is_at (nat_cmp map)) (λ e. e.1) (λ cells. length cells ≡ cells_each kept) kept h.alike);
}

pub size_fits : (kept : StageKept) (size rows n : ℕ) → IsTotalled kept size rows → length kept < 2 ^ 63 → n < 2 ^ 64 → size + n < 2 ^ 128
size_fits kept size rows n h few lt = rw h.all (sum_fits size_of_cells kept n h.small few lt)

pub rows_fit : (kept : StageKept) (size rows n : ℕ) → IsTotalled kept size rows → length kept < 2 ^ 63 → n < 2 ^ 64 → rows + n < 2 ^ 128
rows_fit kept size rows n h few lt = rw h.count (sum_fits rows_of_cells kept n h.few few lt)

-- what stands at a map's place is within the totals
pub within : (f : List CellData → ℕ) (kept : StageKept) (map : ℕ) → unwrap_or (option_map f (of_map kept map)) 0 ≤ sum_by f (values_of kept)
within f kept map = let s = sum_by-remove_entry f (is_at (nat_cmp map)) kept in omega (arith, s)

pub within_found : (f : List CellData → ℕ) (kept : StageKept) (map : ℕ) (output : List CellData) → of_map kept map ≡ Some output → f output ≤ sum_by f (values_of kept)
within_found f kept map output found =
    let here : unwrap_or (option_map f (of_map kept map)) 0 ≡ f output = ap (λ o. unwrap_or (option_map f o) 0) found in
    let part = within f kept map in
    omega (arith, here, part)
