use Rattle.std.proofs.lemmas.List.{drop_all}
use Rattle.aqe_phrases.proofs.Leaves.{signs_done}
use Rattle.aqe_phrases.proofs.leaf.signs.Goals as goal

pub returns : goal.returns
returns c = signs_done c.signs.invariant (drop_all c.signs.sign-index c.args.signs.now c.signs-test.false)
