use Rattle.aqe_scalar.proofs.Meeting.{keys_meet}
use Rattle.aqe_scalar.proofs.laws.keys_meet_where_same.Goals as goal

pub returns : goal.returns
returns c = keys_meet
