use Rattle.aqe_reader.proofs.Operands.{column_read}
use Rattle.aqe_reader.proofs.primary.named.Goals as goal

pub returns : goal.returns
returns g c = rw c.in_ok-copied.ensures (column_read c.in_default.ensures c.in_default-eat.ensures)
