use Rattle.aqe_physical.specs.declared.plan.Plan.{size-Plan}
use Rattle.aqe_replan.proofs.ready.+is_ready.Given as goal

abbrev pub decreases-is_ready : goal.decreases-is_ready
decreases-is_ready l = size-Plan l.plan.now
