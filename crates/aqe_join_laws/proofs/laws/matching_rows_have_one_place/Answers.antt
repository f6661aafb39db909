use Rattle.aqe_join_laws.proofs.KeyRows.{one_place}
use Rattle.aqe_join_laws.proofs.laws.matching_rows_have_one_place.Goals as goal

pub returns : goal.returns
returns c = one_place
