use Rattle.aqe_join_keys.proofs.LeftRow.{read_the_left_row}
use Rattle.aqe_join_keys.proofs.laws.left_keys_read_the_left_row.Goals as goal

pub returns : goal.returns
returns c = read_the_left_row
