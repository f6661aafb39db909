use Rattle.aqe_course.proofs.OneCourse.{done_not_refused as law}
use Rattle.aqe_course.proofs.laws.runs_end_in_one_way.Goals as goal

pub returns : goal.returns
returns c = law
