use Rattle.aqe_logical.proofs.Widths.{have_the_width}
use Rattle.aqe_logical.proofs.laws.answers_have_the_width.Goals as goal

pub returns : goal.returns
returns c = have_the_width
