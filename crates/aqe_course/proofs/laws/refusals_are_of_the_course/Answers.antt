use Rattle.aqe_course.proofs.Telling.{refusals_are as law}
use Rattle.aqe_course.proofs.laws.refusals_are_of_the_course.Goals as goal

pub returns : goal.returns
returns c = law
