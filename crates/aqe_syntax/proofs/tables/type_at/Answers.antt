use Rattle.aqe_syntax.proofs.TableReadings.{no_type, other_type, that_type}
use Rattle.aqe_syntax.proofs.tables.type_at.Goals as goal

pub returns-in_default : goal.returns-in_default
returns-in_default c = no_type c.in_default.ensures

pub returns-in_default-type_named : goal.returns-in_default-type_named
returns-in_default-type_named c = other_type c.in-Some.ensures (cc)

pub returns : goal.returns
returns c = that_type c.in-Some.ensures (cc)
