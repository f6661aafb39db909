use Rattle.std.proofs.Common.{rules}
use Rattle.aqe_select.proofs.OrderSteps.{unordered-say}
use Rattle.aqe_select.proofs.one_select.planned.Goals as goal

pub returns-then-is_empty : goal.returns-then-is_empty
returns-then-is_empty c = unordered-say c.args.clauses.now c.args.shown c.args.selected c.unordered.result (search rules) c.requires c.unordered.ensures
