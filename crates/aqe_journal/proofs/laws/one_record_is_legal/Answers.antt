use Rattle.aqe_journal.proofs.OneRecord.{one_record}
use Rattle.aqe_journal.proofs.laws.one_record_is_legal.Goals as goal

pub returns : goal.returns
returns c = one_record
