use Rattle.aqe_course.proofs.OneCourse.{same_answers as law}
use Rattle.aqe_course.proofs.laws.runs_answer_the_same.Goals as goal

pub returns : goal.returns
returns c = law
