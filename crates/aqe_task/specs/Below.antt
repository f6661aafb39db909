-- What a plan makes of a part of the one plan below it.
use Rattle.std.specs.Prelude.{◌≡◌, ◌+◌, List, length, map, filter, take, drop}
use Rattle.aqe_expr.specs.Meaning.{holds}
use Rattle.aqe_logical.specs.Answers.{Row, at_most_rows}
use Rattle.aqe_logical.specs.Groups.{row_of, group_rows, finish_rows}
use Rattle.aqe_logical.specs.Order.{before}
use Rattle.aqe_logical.specs.WellFormed.{HaveWidth}
use Rattle.aqe_places.specs.Sorting.{stable_sort}
use Rattle.aqe_physical.specs.declared.plan.Plan.{Plan}
use Rattle.aqe_physical.specs.Shapes.{kept, mapped, grouped, finished, ordered, cut_locally, cut_globally}
use Rattle.aqe_stages.specs.Runnable.{Narrow}

-- a plan is made part by part of the plan below it
abbrev pub IsBelow : Plan → Plan → Type 0
IsBelow (kept cond child) below = below ≡ child
IsBelow (mapped items child) below = below ≡ child
IsBelow (grouped keys calls child) below = below ≡ child
IsBelow (finished keys calls child) below = below ≡ child
IsBelow (ordered keys child) below = below ≡ child
IsBelow (cut_locally count child) below = below ≡ child
IsBelow (cut_globally count skip child) below = below ≡ child
IsBelow other below = ⊥

-- the rows that it makes of those of a part
abbrev pub made_by : Plan → List Row → List Row
made_by (kept cond child) rows = filter (holds cond) rows
made_by (mapped items child) rows = map (row_of items) rows
made_by (grouped keys calls child) rows = group_rows (length keys) (row_of keys) calls rows
made_by (finished keys calls child) rows = finish_rows keys calls rows
made_by (ordered keys child) rows = stable_sort (before keys) rows
made_by (cut_locally count child) rows = take count rows
made_by (cut_globally count skip child) rows = at_most_rows count (drop skip rows)
made_by other rows = rows

-- It can make them: rows that are made have room for their values, and partial rows have a value for each key and call.
abbrev pub CanMake : Plan → List Row → Type 0
CanMake (kept cond child) rows = Unit {0}
CanMake (mapped items child) rows = Narrow (map (row_of items) rows)
CanMake (grouped keys calls child) rows = Narrow (group_rows (length keys) (row_of keys) calls rows)
CanMake (finished keys calls child) rows = HaveWidth (keys + length calls) rows × Narrow rows × Narrow (finish_rows keys calls rows)
CanMake (ordered keys child) rows = Unit {0}
CanMake (cut_locally count child) rows = Unit {0}
CanMake (cut_globally count skip child) rows = Unit {0}
CanMake other rows = ⊥
