use Rattle.aqe_course.proofs.Numbers.{all_numbered as law}
use Rattle.aqe_course.proofs.laws.runs_number_their_queries.Goals as goal

pub returns : goal.returns
returns c = law
