use Rattle.aqe_course.proofs.OneCourse.{one_course as law}
use Rattle.aqe_course.proofs.laws.runs_have_one_refusal.Goals as goal

pub returns : goal.returns
returns c = law
