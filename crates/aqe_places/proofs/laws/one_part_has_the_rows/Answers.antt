use Rattle.aqe_places.proofs.Bounds.{one_part}
use Rattle.aqe_places.proofs.laws.one_part_has_the_rows.Goals as goal

pub returns : goal.returns
returns c = one_part
