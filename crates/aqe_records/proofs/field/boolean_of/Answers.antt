use Rattle.aqe_records.proofs.FieldFacts.{is_false, is_neither, is_true}
use Rattle.std.proofs.Common.{false, true, ◌≡◌, refl}
use Rattle.aqe_records.proofs.field.boolean_of.Goals as goal

pub returns-then-eq_ignore_ascii_case : goal.returns-then-eq_ignore_ascii_case
returns-then-eq_ignore_ascii_case c = is_true c.args.field.now (c.if-eq_ignore_ascii_case.ensures.test.0 refl)

pub returns-then-eq_ignore_ascii_case-2 : goal.returns-then-eq_ignore_ascii_case-2
returns-then-eq_ignore_ascii_case-2 c =
    is_false c.args.field.now
    (λ yes. let bad : false ≡ true = c.if-eq_ignore_ascii_case.ensures.test.1 yes in cc)
    (c.if-eq_ignore_ascii_case-2.ensures.test.0 refl)

pub returns-else-eq_ignore_ascii_case-2 : goal.returns-else-eq_ignore_ascii_case-2
returns-else-eq_ignore_ascii_case-2 c =
    is_neither c.args.field.now
    (λ yes. let bad : false ≡ true = c.if-eq_ignore_ascii_case.ensures.test.1 yes in cc)
    (λ yes. let bad : false ≡ true = c.if-eq_ignore_ascii_case-2.ensures.test.1 yes in cc)
