use Rattle.aqe_syntax.proofs.PartReadings.{alias_read, as_read, no_as_read, as_refused}
use Rattle.aqe_syntax.proofs.parts.alias.Goals as goal

pub returns-in-Some : goal.returns-in-Some
returns-in-Some c = rw c.in_ok-copied.ensures (alias_read c.in-Some.ensures)

pub returns-in_default-eat : goal.returns-in_default-eat
returns-in_default-eat c = no_as_read c.in_default.ensures c.in_default-eat.ensures

pub returns-in_default-name : goal.returns-in_default-name
returns-in_default-name c = λ r. as_refused c.in-Some-eat.ensures c.in_default-name.ensures

pub returns : goal.returns
returns c = rw c.in_ok-copied-2.ensures (as_read c.in-Some-eat.ensures c.in-Some-name.ensures)
