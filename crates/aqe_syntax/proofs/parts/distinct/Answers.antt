use Rattle.aqe_syntax.proofs.PartReadings.{all_read, distinct_read, unsaid_read}
use Rattle.aqe_syntax.proofs.parts.distinct.Goals as goal

pub returns-in-Some : goal.returns-in-Some
returns-in-Some c = all_read c.in-Some.ensures

pub returns-in-Some-eat : goal.returns-in-Some-eat
returns-in-Some-eat c = distinct_read c.in-Some-eat.ensures

pub returns : goal.returns
returns c = unsaid_read c.in_default.ensures c.in_default-eat.ensures
