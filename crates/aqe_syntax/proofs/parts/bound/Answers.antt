use Rattle.aqe_syntax.proofs.PartReadings.{no_bound_key, no_bound_number, bound_too_large, bound_at}
use Rattle.aqe_syntax.proofs.parts.bound.Goals as goal

pub returns-in_default : goal.returns-in_default
returns-in_default c = no_bound_key c.in_default.ensures

pub returns-in_default-number : goal.returns-in_default-number
returns-in_default-number c = λ r. no_bound_number c.in-Some.ensures c.in_default-number.ensures

pub returns-then-value-gt-LARGEST_BOUND : goal.returns-then-value-gt-LARGEST_BOUND
returns-then-value-gt-LARGEST_BOUND c = λ r. bound_too_large c.in-Some.ensures c.in-Some-number.ensures c.if-value-gt-LARGEST_BOUND.true

pub returns : goal.returns
returns c = bound_at c.in-Some.ensures c.in-Some-number.ensures c.if-value-gt-LARGEST_BOUND.false
