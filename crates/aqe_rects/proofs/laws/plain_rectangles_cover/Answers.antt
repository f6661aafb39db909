use Rattle.aqe_rects.proofs.Plain.{cover}
use Rattle.aqe_rects.proofs.laws.plain_rectangles_cover.Goals as goal

pub returns : goal.returns
returns c = cover
