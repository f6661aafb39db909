use Rattle.std.proofs.Common.{sym, subst, length}
use Rattle.aqe_planner.specs.Built.{Reaches}
use Rattle.aqe_planner.proofs.WellFormed.{limits_fit}
use Rattle.aqe_session.proofs.Sound.{reaches}
use Rattle.aqe_session.proofs.session.planned.Goals as goal

pub begin-requires-clause-estimates : goal.begin-requires-clause-estimates
begin-requires-clause-estimates c = subst (λ es. Reaches (length es) c.args.logical) (sym c.in-Ok.ensures) (reaches c.args.tables.now c.args.logical c.requires.loaded)

pub begin-requires-clause-limits : goal.begin-requires-clause-limits
begin-requires-clause-limits c = limits_fit c.args.logical c.requires.formed
