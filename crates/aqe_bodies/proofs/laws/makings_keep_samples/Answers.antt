use Rattle.aqe_bodies.proofs.Named.{made_samples}
use Rattle.aqe_bodies.proofs.laws.makings_keep_samples.Goals as goal

pub returns : goal.returns
returns c = made_samples
