use Rattle.aqe_syntax.proofs.TableReadings.{name_key, literal_key, no_option_key}
use Rattle.aqe_syntax.proofs.tables.option_key.Goals as goal

pub returns-in-Some : goal.returns-in-Some
returns-in-Some c = name_key c.in-Some.ensures

pub returns-in-Some-literal : goal.returns-in-Some-literal
returns-in-Some-literal c = literal_key c.in-Some-literal.ensures

pub returns : goal.returns
returns c = no_option_key c.in_default.ensures c.in_default-literal.ensures
