use Rattle.aqe_reader.proofs.Operands.{literal_read}
use Rattle.aqe_reader.proofs.primary.primary.Goals as goal

pub returns-in_ok-copied-in-Literal : goal.returns-in_ok-copied-in-Literal
returns-in_ok-copied-in-Literal g c = rw c.in_ok-copied-in-Literal.ensures (literal_read (rw c.in-Literal.is at c.in-Some.ensures))
