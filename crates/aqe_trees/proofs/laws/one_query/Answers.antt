use Rattle.std.proofs.Common.{lit<}
use Rattle.aqe_trees.proofs.OneQuery.{one_query}
use Rattle.aqe_trees.proofs.laws.one_query.Goals as goal

pub returns : goal.returns
returns c = λ ts a b d e. (one_query d e (lit< tt) (lit< tt)).0
