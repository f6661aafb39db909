use Rattle.aqe_lexer.proofs.Stands.{list_stands}
use Rattle.aqe_lexer.proofs.laws.tokens_stand.Goals as goal

pub returns-clause-stand : goal.returns-clause-stand
returns-clause-stand c = list_stands
