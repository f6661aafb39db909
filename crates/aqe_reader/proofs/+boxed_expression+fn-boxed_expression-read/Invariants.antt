use Rattle.std.proofs.Common.{◌+◌, ◌*◌, length}
use Rattle.aqe_reader.proofs.+boxed_expression+fn-boxed_expression-read.Given as goal

abbrev pub decreases-boxed_expression : goal.decreases-boxed_expression
decreases-boxed_expression l = 2 * length l.terminals.now

abbrev pub decreases-read : goal.decreases-read
decreases-read l = 2 * length l.within.now + 1
