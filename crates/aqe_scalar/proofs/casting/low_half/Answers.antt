use Rattle.std.proofs.Common.{rules}
use Rattle.std.specs.Int.{int_wrap}
use Rattle.std.proofs.lemmas.Int.{to_z-of_z}
use Rattle.aqe_scalar.proofs.casting.low_half.Goals as goal

pub returns : goal.returns
unfolding int_wrap
returns c = search (rules, to_z-of_z)
