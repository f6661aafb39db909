use Rattle.aqe_course.proofs.InForce.{in_force as law}
use Rattle.aqe_course.proofs.laws.queries_have_the_settings_in_force.Goals as goal

pub returns : goal.returns
returns c = law
