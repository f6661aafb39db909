use Rattle.aqe_spell.proofs.Queries.{sort_spelled}
use Rattle.aqe_spell.proofs.query_leaf.sort.Goals as goal

pub returns : goal.returns
returns c = rw c.sort_parts-descending.ensures (sort_spelled c.sort_parts-descending.result.1 c.sort_parts-descending.result.2 c.in_ok-or.ensures c.in_ok-way.ensures c.in_ok-nulls.ensures)
