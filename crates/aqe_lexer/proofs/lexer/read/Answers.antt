-- A piece stands within what is left.
use Rattle.std.proofs.Common.{arith}
use Rattle.aqe_lexer.proofs.Within.{begins_within}
use Rattle.aqe_lexer.proofs.lexer.read.Goals as goal

pub tail-rest-requires : goal.tail-rest-requires
tail-rest-requires c = (begins_within _ _ c.in-Gap.ensures).1

pub pieces-smaller-in-Gap : goal.pieces-smaller-in-Gap
pieces-smaller-in-Gap c =
    omega (arith, (begins_within _ _ c.in-Gap.ensures).0, c.tail-rest.ensures.room)

pub overflow_add-at-in-Cut : goal.overflow_add-at-in-Cut
overflow_add-at-in-Cut c = omega (arith, (begins_within _ _ c.in-Cut.ensures).1)

pub tail-rest-requires-in-Cut : goal.tail-rest-requires-in-Cut
tail-rest-requires-in-Cut c = (begins_within _ _ c.in-Cut.ensures).1

pub pieces-smaller : goal.pieces-smaller
pieces-smaller c =
    omega (arith, (begins_within _ _ c.in-Cut.ensures).0, c.tail-rest-in-Cut.ensures.room)

pub overflow_add-result : goal.overflow_add-result
overflow_add-result c = omega (arith, begins_within _ _ c.in-Bad.ensures)
