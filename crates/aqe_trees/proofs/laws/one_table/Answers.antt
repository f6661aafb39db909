use Rattle.aqe_trees.proofs.OneQuery.{one_create}
use Rattle.aqe_trees.proofs.laws.one_table.Goals as goal

pub returns : goal.returns
returns c = λ ts a b d e. one_create d e
