use Rattle.aqe_course.proofs.Telling.{ends_tell as law}
use Rattle.aqe_course.proofs.laws.ends_tell.Goals as goal

pub returns : goal.returns
returns c = law
