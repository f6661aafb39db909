use Rattle.aqe_places.proofs.Exchanged.{keep_the_rows}
use Rattle.aqe_places.proofs.laws.exchanges_keep_the_rows.Goals as goal

pub returns : goal.returns
returns c = keep_the_rows
