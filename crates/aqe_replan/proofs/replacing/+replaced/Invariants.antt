use Rattle.std.proofs.Common.{◌+◌, ◌*◌}
use Rattle.aqe_physical.specs.declared.plan.Plan.{size-Plan}
use Rattle.aqe_replan.proofs.replacing.+replaced.Given as goal

abbrev pub decreases-replaced : goal.decreases-replaced
decreases-replaced l = 2 * size-Plan l.plan.now + 1

abbrev pub decreases-on_left : goal.decreases-on_left
decreases-on_left l = 2 * size-Plan l.plan.now

abbrev pub decreases-on_right : goal.decreases-on_right
decreases-on_right l = 2 * size-Plan l.plan.now
