use Rattle.aqe_journal.proofs.Answers.{versions_stand}
use Rattle.aqe_journal.proofs.laws.legal_versions_stand.Goals as goal

pub returns : goal.returns
returns c = versions_stand
