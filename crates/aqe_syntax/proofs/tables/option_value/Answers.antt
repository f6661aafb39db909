use Rattle.aqe_syntax.proofs.TableReadings.{literal_value, true_value, false_value, no_option_value}
use Rattle.aqe_syntax.proofs.tables.option_value.Goals as goal

pub returns-in-Some : goal.returns-in-Some
returns-in-Some c = rw c.in_ok-copied.ensures (literal_value c.in-Some.ensures)

pub returns-in-Some-eat : goal.returns-in-Some-eat
returns-in-Some-eat c = rw c.in_ok-copy_of.ensures (true_value c.in-Some-eat.ensures)

pub returns-in-Some-eat-2 : goal.returns-in-Some-eat-2
returns-in-Some-eat-2 c = rw c.in_ok-copy_of-2.ensures (false_value c.in-Some-eat-2.ensures)

pub returns : goal.returns
returns c = λ r. no_option_value c.in_default.ensures c.in_default-eat.ensures c.in_default-eat-2.ensures
