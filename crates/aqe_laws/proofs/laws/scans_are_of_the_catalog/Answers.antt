use Rattle.aqe_laws.proofs.Scans.{of_the_catalog}
use Rattle.aqe_laws.proofs.laws.scans_are_of_the_catalog.Goals as goal

pub returns : goal.returns
returns c = of_the_catalog
