use Rattle.std.proofs.Common.{rules}
use Rattle.aqe_expr.specs.declared.expr.Expr.{the_lemmas}
use Rattle.aqe_columns.proofs.ReplacingSteps.{replaced-binary, item_made, pair_made}
use Rattle.aqe_columns.proofs.replacing.+replacing.Goals as goal

pub replaced-returns-in_ok-left-in-Binary : goal.replaced-returns-in_ok-left-in-Binary
replaced-returns-in_ok-left-in-Binary t c = rw (replaced-binary c.args.items.now c.args.expr.now c.in-Binary.op c.in-Binary.left c.in-Binary.right c.in-Binary.is) (search rules)

pub replaced_list-walk-preserved : goal.replaced_list-walk-preserved
replaced_list-walk-preserved t c = (search (rules, the_lemmas), item_made c.args.items.now c.walk.rest.now c.get.result.now c.in_ok-item.item c.get-rest.result.now c.walk.made.items c.push.new.self.items _ (search rules) c.walk.invariant.1 (search rules) (search rules))

pub replaced_pairs-walk-preserved : goal.replaced_pairs-walk-preserved
replaced_pairs-walk-preserved t c = (search (rules, the_lemmas), pair_made c.args.items.now c.walk.rest.now c.get.result.now c.get-in-More.result.now c.in_ok-test.test c.in_ok-test.gives c.get-rest.result.now c.walk.made.items c.push.new.self.items _ (search rules) c.walk.invariant.1 (search rules) (search rules) (search rules))
