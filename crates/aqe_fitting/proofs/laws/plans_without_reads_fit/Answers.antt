use Rattle.aqe_fitting.proofs.NoReads.{no_reads}
use Rattle.aqe_fitting.proofs.laws.plans_without_reads_fit.Goals as goal

pub returns : goal.returns
returns c = no_reads
