-- of the rows that were walked, those are appended of which the condition holds
use Rattle.std.proofs.Common.{◌≡◌, ◌++◌, take, filter}
use Rattle.aqe_expr.specs.Meaning.{holds}
use Rattle.aqe_operators.proofs.filtering.keep_copies.Given as goal

abbrev pub invariant-rows : goal.invariant-rows
invariant-rows l = l.kept ≡ l.fn.kept ++ filter (holds l.cond) (take l.row-index l.rows)
