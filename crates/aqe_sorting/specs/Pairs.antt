-- Rows beside their key rows, while they are sorted.
use Rattle.std.specs.Prelude.{List, map}
use Rattle.aqe_logical.specs.Answers.{Row}
use Rattle.aqe_logical.specs.Order.{key_of}
use Rattle.aqe_logical.specs.declared.plan.SortKey.{SortKey}
use Rattle.aqe_sorting.specs.declared.sorting.Keyed.{Keyed}

-- a row beside the values of the sort keys over it
abbrev pub keyed : List SortKey → Row → Keyed
keyed keys row = record { key = key_of keys row; row = row }

-- the rows of pairs, without their key rows
abbrev pub rows_in : List Keyed → List Row
rows_in pairs = map (λ pair. pair.row) pairs
