use Rattle.aqe_syntax.proofs.TableReadings.{equal_read, no_equal_read}
use Rattle.aqe_syntax.proofs.tables.behind_equal.Goals as goal

pub returns-in-Some : goal.returns-in-Some
returns-in-Some c = equal_read c.in-Some.ensures

pub returns-in-None : goal.returns-in-None
returns-in-None c = no_equal_read c.in-None.ensures
