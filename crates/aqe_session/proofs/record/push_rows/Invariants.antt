-- the rows that were walked are appended
use Rattle.std.proofs.Common.{◌≡◌, ◌++◌, take}
use Rattle.aqe_session.proofs.record.push_rows.Given as goal

abbrev pub invariant-rows : goal.invariant-rows
invariant-rows l = l.rows ≡ l.fn.rows ++ take l.row-index l.more
