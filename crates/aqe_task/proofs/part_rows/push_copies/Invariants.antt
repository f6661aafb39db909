use Rattle.std.proofs.Common.{◌≡◌, ◌++◌, take}
use Rattle.aqe_task.proofs.part_rows.push_copies.Given as goal

abbrev pub invariant-rows : goal.invariant-rows
invariant-rows l = l.own ≡ l.fn.own ++ take l.row-index l.rows
