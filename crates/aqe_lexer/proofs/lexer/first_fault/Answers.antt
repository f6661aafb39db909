use Rattle.std.proofs.Common.{◌≡◌, true, false}
use Rattle.aqe_lexer.specs.Faults.{is_open}
use Rattle.aqe_lexer.proofs.FaultLemmas.{cause_between, cause_in_text, cause_within}
use Rattle.aqe_lexer.proofs.lexer.first_fault.Goals as goal

pub returns-in-Ok-Whole : goal.returns-in-Ok-Whole
returns-in-Ok-Whole c =
    cause_between _ _ _ c.requires.broken c.requires.valid
    (rw c.in-Ok-Whole.field-0-is at c.in-Ok-Whole.ensures)

pub returns-then-is_open : goal.returns-then-is_open
returns-then-is_open c =
    let open_ : is_open c.in-Ok-Broken.fault ≡ true = cc in
    cause_within _ _ _ _ c.requires.broken c.requires.valid
    (rw c.in-Ok-Broken.field-0-is at c.in-Ok-Broken.ensures) open_

pub returns-in-Ok-Broken : goal.returns-in-Ok-Broken
returns-in-Ok-Broken c =
    let closed : is_open c.in-Ok-Broken.fault ≡ false = cc in
    cause_in_text _ _ _ _ _ c.requires.valid
    (rw c.in-Ok-Broken.field-0-is at c.in-Ok-Broken.ensures) closed c.told.ensures
