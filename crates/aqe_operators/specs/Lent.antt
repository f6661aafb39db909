-- Rows that are lent in pieces, as the cells of a read are.
use Rattle.std.specs.Prelude.{List, flat_map}
use Rattle.std.specs.Borrow.{Bor}
use Rattle.aqe_logical.specs.Answers.{Row}

-- the rows of all pieces, piece by piece
abbrev pub lent_rows : List (Bor (List Row)) → List Row
lent_rows pieces = flat_map (λ piece. piece.now) pieces
