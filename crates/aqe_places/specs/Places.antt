-- Where rows stand: the place of a row, and the parts that an exchange makes.
use Rattle.std.specs.Prelude.{ℕ, ◌==◌, Bool, List, map, filter, length}
use Rattle.std.specs.List.{range_with_len}
use Rattle.aqe_values.specs.Murmur.{hash_place}
use Rattle.aqe_expr.specs.declared.expr.Expr.{Expr}
use Rattle.aqe_logical.specs.Answers.{Row}
use Rattle.aqe_logical.specs.Groups.{row_of}

-- by hash: the part that the hash of the row's key names
abbrev pub by_hash : ℕ → List Expr → Row → ℕ
by_hash n keys row = hash_place n (row_of keys row)

-- by range: the number of bounds that come strictly before the row's key
abbrev pub by_range : (Row → Row → Bool) → List Row → (Row → Row) → Row → ℕ
by_range less bounds key row = length (filter (λ bound. less bound (key row)) bounds)

-- in one part
abbrev pub single : Row → ℕ
single row = 0

-- the rows of a part: those whose place it is, in the order in which they came
abbrev pub part_of : (Row → ℕ) → List Row → ℕ → List Row
part_of place rows r = filter (λ row. place row == r) rows

-- the n parts that an exchange makes of rows
abbrev pub exchanged : (Row → ℕ) → ℕ → List Row → List (List Row)
exchanged place n rows = map (part_of place rows) (range_with_len 0 n)
