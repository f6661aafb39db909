use Rattle.aqe_spell.proofs.Queries.{kind_spelled}
use Rattle.aqe_spell.proofs.query_leaf.kind.Goals as goal

pub returns : goal.returns
returns c = kind_spelled c.kind_key.ensures.kind c.in_ok-fixed.ensures c.in_ok-fixed-2.ensures
