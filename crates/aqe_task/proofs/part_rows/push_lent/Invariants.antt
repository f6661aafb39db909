use Rattle.std.proofs.Common.{◌≡◌, ◌++◌, take}
use Rattle.aqe_probe.specs.Joinable.{rows_seen}
use Rattle.aqe_task.proofs.part_rows.push_lent.Given as goal

abbrev pub invariant-rows : goal.invariant-rows
invariant-rows l = rows_seen l.lent.items ≡ rows_seen l.fn.lent.items ++ take l.row-index l.rows
