use Rattle.aqe_reader.proofs.Operands.{dotted_read, dotted_refused}
use Rattle.aqe_reader.proofs.primary.dotted.Goals as goal

pub returns-in_default : goal.returns-in_default
returns-in_default c = λ r. dotted_refused c.in_default.ensures

pub returns : goal.returns
returns c = rw (c.in_ok-table.ensures, c.in_ok-name.ensures) (dotted_read c.in-Some.ensures)
