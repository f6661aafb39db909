use Rattle.aqe_replan.proofs.Parts.{few_parts}
use Rattle.aqe_replan.proofs.laws.first_plans_have_few_parts.Goals as goal

pub returns : goal.returns
returns c = few_parts
