use Rattle.std.proofs.Common.{rules}
use Rattle.aqe_expr.specs.declared.expr.Expr.{the_lemmas}
use Rattle.aqe_columns.proofs.ReadingSteps.{item_pushed, pair_pushed}
use Rattle.aqe_columns.proofs.reading.+columns.Goals as goal

pub push_operands-items-preserved : goal.push_operands-items-preserved
push_operands-items-preserved t c = (search (rules, the_lemmas), item_pushed c.items.rest.now c.get.result.now c.get-rest.result.now c.items.found.items c.push_columns.new.found.items _ (search rules) c.items.invariant.1 (search rules))

pub push_pairs-pairs-preserved : goal.push_pairs-pairs-preserved
push_pairs-pairs-preserved t c = (search (rules, the_lemmas), pair_pushed c.pairs.rest.now c.get.result.now c.get-in-More.result.now c.get-rest.result.now c.pairs.found.items c.push_columns.new.found.items c.push_columns-in-More.new.found.items _ (search rules) c.pairs.invariant.1 (search rules) (search rules))
