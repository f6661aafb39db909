use Rattle.std.proofs.Common.{refl}
use Rattle.aqe_syntax.proofs.Parsed.{flat_begin, flat_step, flat_found, flat_done}
use Rattle.aqe_syntax.proofs.parsing.has_too_nested.Goals as goal

pub more-init : goal.more-init
more-init c = flat_begin

pub more-preserved : goal.more-preserved
more-preserved c = flat_step c.more.invariant c.in-Some.ensures (λ h. let y = c.is_too_nested.ensures.1 h in let n = c.if-is_too_nested.false in cc)

pub returns-then-is_too_nested : goal.returns-then-is_too_nested
returns-then-is_too_nested c = ((λ t. flat_found c.more.invariant c.in-Some.ensures (c.is_too_nested.ensures.0 c.if-is_too_nested.true)), (λ a. refl))

pub returns : goal.returns
returns c = ((λ t. absurd (cc)), (λ a. absurd (flat_done c.more.invariant c.in_default.ensures a)))
