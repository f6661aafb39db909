use Rattle.aqe_phrases.proofs.Leaves.{truth_spelled}
use Rattle.aqe_phrases.proofs.leaf.is_truth.Goals as goal

pub returns : goal.returns
returns c = truth_spelled c.args.negated c.in_ok-fixed.ensures c.in_ok-negation.ensures c.truth_key.ensures.truth c.in_ok-fixed-2.ensures
