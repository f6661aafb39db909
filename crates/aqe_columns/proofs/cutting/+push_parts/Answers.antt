use Rattle.std.proofs.Common.{rules}
use Rattle.aqe_columns.proofs.Together.{two_parts}
use Rattle.aqe_columns.proofs.cutting.+push_parts.Goals as goal

pub returns-in_ok-push_parts-in-Binary-2 : goal.returns-in_ok-push_parts-in-Binary-2
returns-in_ok-push_parts-in-Binary-2 t c =
    two_parts c.args.condition.now c.in-Binary.op c.in-Binary.left c.in-Binary.right c.args.parts.now.items c.push_parts.new.parts.items c.push_parts-then-is_and.new.parts.items c.in-Binary.is (search rules) (search rules) (search rules)
