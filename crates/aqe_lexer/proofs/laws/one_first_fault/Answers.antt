use Rattle.aqe_lexer.proofs.Once.{one_fault, no_list}
use Rattle.aqe_lexer.proofs.laws.one_first_fault.Goals as goal

pub returns-clause-one : goal.returns-clause-one
returns-clause-one c = one_fault

pub returns-clause-excludes : goal.returns-clause-excludes
returns-clause-excludes c source tokens fault first list = no_list source tokens fault first list
