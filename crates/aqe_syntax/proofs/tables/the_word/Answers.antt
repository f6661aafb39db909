use Rattle.aqe_syntax.proofs.TableReadings.{no_word, other_word, that_word}
use Rattle.aqe_syntax.proofs.tables.the_word.Goals as goal

pub returns-in_default : goal.returns-in_default
returns-in_default c = no_word c.in_default.ensures

pub returns-then-is_word : goal.returns-then-is_word
returns-then-is_word c = that_word c.in-Some.ensures (cc)

pub returns-else-is_word : goal.returns-else-is_word
returns-else-is_word c = other_word c.in-Some.ensures (cc)
