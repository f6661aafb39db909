-- a row is appended for each of the rows that were walked
use Rattle.std.proofs.Common.{◌≡◌, ◌++◌, take, map}
use Rattle.aqe_logical.specs.Groups as spec
use Rattle.aqe_operators.proofs.projecting.make_rows.Given as goal

abbrev pub invariant-rows : goal.invariant-rows
invariant-rows l = l.made ≡ l.fn.made ++ map (spec.row_of l.items) (take l.row-index l.rows)
