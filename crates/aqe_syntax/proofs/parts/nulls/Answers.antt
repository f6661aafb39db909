use Rattle.aqe_syntax.proofs.PartReadings.{nulls_first, nulls_last, no_nulls_key, no_nulls_word, no_nulls_place}
use Rattle.aqe_syntax.proofs.parts.nulls.Goals as goal

pub returns-in_default : goal.returns-in_default
returns-in_default c = no_nulls_key c.in_default.ensures

pub returns-in_default-word : goal.returns-in_default-word
returns-in_default-word c = λ r. no_nulls_word c.in-Some.ensures c.in_default-word.ensures

pub returns-then-is_word : goal.returns-then-is_word
returns-then-is_word c = nulls_first c.in-Some.ensures c.in-Some-word.ensures (cc)

pub returns-then-is_word-2 : goal.returns-then-is_word-2
returns-then-is_word-2 c = nulls_last c.in-Some.ensures c.in-Some-word.ensures (cc) (cc)

pub returns : goal.returns
returns c = λ r. no_nulls_place c.in-Some.ensures c.in-Some-word.ensures (cc) (cc)
