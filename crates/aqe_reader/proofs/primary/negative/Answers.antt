use Rattle.aqe_reader.proofs.Operands.{negative_read}
use Rattle.aqe_reader.proofs.primary.negative.Goals as goal

pub returns-in-Some-Number-default : goal.returns-in-Some-Number-default
returns-in-Some-Number-default c = negative_read (rw c.in-Some-Number-default.field-0-0-is at c.in-Some-Number-default.ensures)
