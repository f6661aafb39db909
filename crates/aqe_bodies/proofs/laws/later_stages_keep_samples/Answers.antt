use Rattle.aqe_bodies.proofs.Named.{later_samples}
use Rattle.aqe_bodies.proofs.laws.later_stages_keep_samples.Goals as goal

pub returns : goal.returns
returns c = later_samples
