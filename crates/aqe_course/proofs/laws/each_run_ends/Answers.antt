use Rattle.aqe_course.proofs.RunEnds.{each_run_ends as law}
use Rattle.aqe_course.proofs.laws.each_run_ends.Goals as goal

pub returns : goal.returns
returns c = law
