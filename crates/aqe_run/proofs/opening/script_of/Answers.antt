use Rattle.std.proofs.Common.{inl, refl}
use Rattle.aqe_course.specs.Opening.IsRefusedSource.{not_built}
use Rattle.aqe_run.proofs.opening.script_of.Goals as goal

pub returns-in-Some-clause-refused : goal.returns-in-Some-clause-refused
returns-in-Some-clause-refused c = inl (not_built c.in_ok-tokens.tokens c.in_ok-script.script c.in_ok-tokens.ensures.tokens c.in_ok-script.ensures.taken c.in-Some.ensures.built refl)
