use Rattle.aqe_physical.specs.declared.plan.Plan.{size-Plan}
use Rattle.aqe_physical.proofs.counting.+count_shuffles.Given as goal

abbrev pub decreases-count_shuffles : goal.decreases-count_shuffles
decreases-count_shuffles l = size-Plan l.plan.now
