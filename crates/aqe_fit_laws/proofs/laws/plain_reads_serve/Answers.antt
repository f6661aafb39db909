use Rattle.aqe_fit_laws.proofs.HeldServes.{plain_serve}
use Rattle.aqe_fit_laws.proofs.laws.plain_reads_serve.Goals as goal

pub returns : goal.returns
returns c = plain_serve
