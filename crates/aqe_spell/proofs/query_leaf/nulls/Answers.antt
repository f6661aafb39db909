use Rattle.aqe_spell.proofs.Queries.{first_adds, last_adds}
use Rattle.aqe_spell.proofs.query_leaf.nulls.Goals as goal

pub returns-in_ok-word-in-true-false : goal.returns-in_ok-word-in-true-false
returns-in_ok-word-in-true-false c = rw (c.in-true-false.is-0, c.in-true-false.is-1) (first_adds c.in_ok-fixed-in-true-false.ensures c.in_ok-word-in-true-false.ensures)

pub returns-in_ok-word-in-false-true : goal.returns-in_ok-word-in-false-true
returns-in_ok-word-in-false-true c = rw (c.in-false-true.is-0, c.in-false-true.is-1) (last_adds c.in_ok-fixed-in-false-true.ensures c.in_ok-word-in-false-true.ensures)
