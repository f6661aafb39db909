use Rattle.aqe_course.proofs.InForce.{all_keep_ranges as law}
use Rattle.aqe_course.proofs.laws.runs_keep_ranges.Goals as goal

pub returns : goal.returns
returns c = law
