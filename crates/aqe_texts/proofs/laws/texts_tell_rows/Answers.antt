use Rattle.aqe_texts.proofs.TextLaw.{texts_once}
use Rattle.aqe_texts.proofs.laws.texts_tell_rows.Goals as goal

pub returns : goal.returns
returns c = texts_once
