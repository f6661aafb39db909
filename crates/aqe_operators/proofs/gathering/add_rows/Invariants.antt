-- the rows that were walked are added
use Rattle.std.proofs.Common.{◌≡◌, take}
use Rattle.std.specs.Prelude.{fold}
use Rattle.aqe_operators.specs.Gathering.{with_row}
use Rattle.aqe_operators.proofs.gathering.add_rows.Given as goal

abbrev pub invariant-rows : goal.invariant-rows
invariant-rows l = l.groups.entries ≡ fold (with_row l.form l.calls) l.fn.groups.entries (take l.row-index l.rows)
