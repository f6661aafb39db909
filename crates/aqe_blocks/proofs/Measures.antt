-- The sizes that are kept, when one more cell comes.
use Rattle.std.proofs.Common.{◌≡◌, ◌+◌, ◌<◌, ℕ, List, [], ◌∷◌, ◌++◌, length, get_or, take, map, ap, sym, ◌∙◌, refl}
use Rattle.std.proofs.lemmas.List.{take_more}
use Rattle.std.proofs.lemmas.List.Sums.{sum_by_push}
use Rattle.aqe_blocks.specs.Cells.{CellData, IsMeasured, size_of_cell}

map-push : (cells : List CellData) (cell : CellData) → map size_of_cell (cells ++ cell ∷ []) ≡ map size_of_cell cells ++ size_of_cell cell ∷ []
map-push [] cell = refl
map-push (x ∷ xs) cell = ap (λ ns. size_of_cell x ∷ ns) (map-push xs cell)

pub measured_more : (cells : List CellData) (i : ℕ) (cell : CellData) (sizes sizes' : List ℕ) (size size' rows rows' : ℕ)
    → i < length cells → cell ≡ get_or cells i cell → IsMeasured (take i cells) sizes size rows
    → sizes' ≡ sizes ++ size_of_cell cell ∷ [] → size' ≡ size + size_of_cell cell → rows' ≡ rows + length cell
    → IsMeasured (take (i + 1) cells) sizes' size' rows'
measured_more cells i cell sizes sizes' size size' rows rows' lt at h p q r =
    rw (take_more cells i cell lt, ← at, p, q, r) (record {
      each = ap (λ ns. ns ++ size_of_cell cell ∷ []) h.each ∙ sym (map-push (take i cells) cell);
      all = ap (λ n. n + size_of_cell cell) h.all ∙ sym (sum_by_push size_of_cell (take i cells) cell);
      count = ap (λ n. n + length cell) h.count ∙ sym (sum_by_push length (take i cells) cell);
    })
