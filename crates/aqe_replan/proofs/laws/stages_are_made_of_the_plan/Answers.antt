use Rattle.aqe_replan.proofs.Others.{made_of_the_plan}
use Rattle.aqe_replan.proofs.laws.stages_are_made_of_the_plan.Goals as goal

pub returns : goal.returns
returns c = made_of_the_plan
