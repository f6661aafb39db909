use Rattle.aqe_phrases.proofs.Leaves.{number_spelled}
use Rattle.aqe_phrases.proofs.leaf.signed_number.Goals as goal

pub returns : goal.returns
returns c = number_spelled c.args.negative c.in_ok-minus.ensures c.in_ok-number.ensures
