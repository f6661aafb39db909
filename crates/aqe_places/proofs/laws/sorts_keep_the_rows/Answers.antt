use Rattle.aqe_places.proofs.Sorted.{keep}
use Rattle.aqe_places.proofs.laws.sorts_keep_the_rows.Goals as goal

pub returns : goal.returns
returns c = keep
