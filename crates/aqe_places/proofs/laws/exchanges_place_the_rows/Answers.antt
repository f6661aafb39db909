use Rattle.aqe_places.proofs.Exchanged.{place_the_rows}
use Rattle.aqe_places.proofs.laws.exchanges_place_the_rows.Goals as goal

pub returns : goal.returns
returns c = place_the_rows
