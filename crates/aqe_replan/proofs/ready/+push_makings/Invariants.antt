use Rattle.std.proofs.Common.{◌+◌, ◌*◌}
use Rattle.aqe_physical.specs.declared.plan.Plan.{size-Plan}
use Rattle.aqe_replan.proofs.ready.+push_makings.Given as goal

abbrev pub decreases-push_makings : goal.decreases-push_makings
decreases-push_makings l = 2 * size-Plan l.plan.now

abbrev pub decreases-push_below : goal.decreases-push_below
decreases-push_below l = 2 * size-Plan l.plan.now + 1
