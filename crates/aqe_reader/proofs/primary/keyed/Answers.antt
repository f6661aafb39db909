use Rattle.aqe_reader.proofs.Operands.{true_read, false_read, null_read, keyed_refused}
use Rattle.aqe_reader.proofs.primary.keyed.Goals as goal

pub returns-in-True : goal.returns-in-True
returns-in-True g c = rw c.in-True.is true_read

pub returns-in-False : goal.returns-in-False
returns-in-False g c = rw c.in-False.is false_read

pub returns-in-Null : goal.returns-in-Null
returns-in-Null g c = rw c.in-Null.is null_read

pub returns-in_default : goal.returns-in_default
returns-in_default g c = let d = c.in_default in λ r. keyed_refused d.not-True d.not-False d.not-Null d.not-Minus d.not-Open d.not-Cast d.not-Case
