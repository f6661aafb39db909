use Rattle.std.proofs.Common.{rules}
use Rattle.aqe_reader.proofs.Operands.{number_read}
use Rattle.aqe_reader.proofs.primary.number.Goals as goal

pub returns : goal.returns
returns c = number_read (search rules)
