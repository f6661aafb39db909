use Rattle.aqe_join_laws.proofs.KeyRows.{equal_keys}
use Rattle.aqe_join_laws.proofs.laws.matching_rows_have_equal_keys.Goals as goal

pub returns : goal.returns
returns c = equal_keys
