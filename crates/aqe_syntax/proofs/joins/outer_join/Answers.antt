use Rattle.std.proofs.Common.{refl}
use Rattle.aqe_syntax.specs.Parts.{outer_said, outer_unsaid}
use Rattle.aqe_syntax.proofs.JoinKinds.{no_outer_join}
use Rattle.aqe_syntax.proofs.joins.outer_join.Goals as goal

pub returns-in-Some : goal.returns-in-Some
returns-in-Some c = (refl, rw c.in-Some.ensures outer_unsaid)

pub returns-in-Some-pair : goal.returns-in-Some-pair
returns-in-Some-pair c = (refl, rw c.in-Some-pair.ensures outer_said)

pub returns : goal.returns
returns c = λ us d. no_outer_join c.in_default.ensures c.in_default-pair.ensures d
