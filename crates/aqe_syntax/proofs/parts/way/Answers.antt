use Rattle.aqe_syntax.proofs.PartReadings.{asc_read, desc_read, no_way_read}
use Rattle.aqe_syntax.proofs.parts.way.Goals as goal

pub returns-in-Some : goal.returns-in-Some
returns-in-Some c = asc_read c.in-Some.ensures

pub returns-in-Some-eat : goal.returns-in-Some-eat
returns-in-Some-eat c = desc_read c.in-Some-eat.ensures

pub returns : goal.returns
returns c = no_way_read c.in_default.ensures c.in_default-eat.ensures
