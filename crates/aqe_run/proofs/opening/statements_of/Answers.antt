use Rattle.aqe_run.proofs.OpeningFacts.{deep_refused, sentence_refused}
use Rattle.aqe_run.proofs.opening.statements_of.Goals as goal

pub returns-in-Err-TooDeep-clause-refused : goal.returns-in-Err-TooDeep-clause-refused
returns-in-Err-TooDeep-clause-refused c = deep_refused c.args.source.now c.args.tokens.now c.in-Err-TooDeep.field-0 c.requires.tokens c.in-Err-TooDeep.ensures c.in-Err-TooDeep.field-0-is

pub returns-in-Err-NotASentence-clause-refused : goal.returns-in-Err-NotASentence-clause-refused
returns-in-Err-NotASentence-clause-refused c =
    sentence_refused c.args.source.now c.args.tokens.now c.in-Err-NotASentence.field-0 c.in-Err-NotASentence.at c.requires.tokens c.in-Err-NotASentence.ensures c.in-Err-NotASentence.field-0-is
