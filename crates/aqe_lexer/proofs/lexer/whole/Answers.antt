use Rattle.aqe_lexer.proofs.FaultLemmas.{cause_whole}
use Rattle.aqe_lexer.proofs.lexer.whole.Goals as goal

pub returns-in-Ok-Broken-clause-cause : goal.returns-in-Ok-Broken-clause-cause
returns-in-Ok-Broken-clause-cause c =
    cause_whole _ _ _ _ c.requires.text
    (rw c.in-Ok-Broken.field-0-is at c.in-Ok-Broken.ensures) c.told.ensures
