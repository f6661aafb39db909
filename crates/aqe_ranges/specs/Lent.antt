-- Rows that are lent one by one, while they are sorted.
use Rattle.std.specs.Prelude.{List, map}
use Rattle.std.specs.Borrow.{Bor}
use Rattle.aqe_logical.specs.Answers.{Row}

-- the rows that are lent
abbrev pub rows_seen : List (Bor Row) → List Row
rows_seen lent = map (λ row. row.now) lent
