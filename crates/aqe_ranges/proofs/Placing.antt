-- The cells of the rows that were placed in ranges so far, when one more row is placed.
use Rattle.std.proofs.Common.{◌≡◌, ℕ, ◌+◌, ◌<◌, List, [], ◌∷◌, ◌++◌, length, take, get_or, ap, sym, ◌∙◌}
use Rattle.std.proofs.lemmas.List.{take_more}
use Rattle.aqe_blocks.specs.Cells.{CellData}
use Rattle.aqe_logical.specs.Answers.{Row}
use Rattle.aqe_logical.specs.Order.{key_of}
use Rattle.aqe_logical.specs.declared.plan.SortKey.{SortKey}
use Rattle.aqe_places.specs.Places.{exchanged}
use Rattle.aqe_places.proofs.Exchanged.{are_parts}
use Rattle.aqe_exchange.specs.Parts.{with_row}
use Rattle.aqe_exchange.proofs.Placing.{one_more}
use Rattle.aqe_ranges.specs.Order.{key_less, range_place}

-- a step of the walk over rows that move, and over rows that are lent
pub placed_more : (keys : List SortKey) (bounds : List Row) (n : ℕ) (rows : List Row) (row : Row) (parts parts' : List CellData) → length bounds < n
    → parts ≡ exchanged (range_place keys bounds) n rows → parts' ≡ with_row parts (range_place keys bounds row) row
    → parts' ≡ exchanged (range_place keys bounds) n (rows ++ row ∷ [])
placed_more keys bounds n rows row parts parts' few same put =
    let place = range_place keys bounds in
    put ∙ ap (λ cells. with_row cells (place row) row) same ∙ one_more place n rows row (are_parts (key_less keys) bounds (key_of keys) n row few)

pub placed_next : (keys : List SortKey) (bounds : List Row) (n : ℕ) (rows : List Row) (i : ℕ) (row : Row) (parts parts' : List CellData) → length bounds < n
    → i < length rows → row ≡ get_or rows i row
    → parts ≡ exchanged (range_place keys bounds) n (take i rows) → parts' ≡ with_row parts (range_place keys bounds row) row
    → parts' ≡ exchanged (range_place keys bounds) n (take (i + 1) rows)
placed_next keys bounds n rows i row parts parts' few lt at same put =
    placed_more keys bounds n (take i rows) row parts parts' few same put
    ∙ ap (exchanged (range_place keys bounds) n) (ap (λ x. take i rows ++ x ∷ []) at ∙ sym (take_more rows i row lt))
