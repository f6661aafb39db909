use Rattle.aqe_type_laws.proofs.WalkTyped.{tables_fit}
use Rattle.aqe_type_laws.proofs.laws.tables_fit_the_scans.Goals as goal

pub returns : goal.returns
returns c = tables_fit
