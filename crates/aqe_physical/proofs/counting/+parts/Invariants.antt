use Rattle.aqe_physical.specs.declared.plan.Plan.{size-Plan}
use Rattle.aqe_physical.proofs.counting.+parts.Given as goal

abbrev pub decreases-parts : goal.decreases-parts
decreases-parts l = size-Plan l.plan.now
