use Rattle.aqe_course.proofs.Shapes.{all_keep_shapes as law}
use Rattle.aqe_course.proofs.laws.runs_keep_shapes.Goals as goal

pub returns : goal.returns
returns c = law
