use Rattle.aqe_scheduler.proofs.Fronts.{goes_back, stays_back}
use Rattle.aqe_scheduler.proofs.cursors.go_back.Goals as goal

pub returns-then-stage-firsts : goal.returns-then-stage-firsts
returns-then-stage-firsts c = let a = c.min.ensures in rw c.min.ensures (goes_back c.args.firsts.now c.args.stage c.args.task c.if-stage-firsts.true)

pub returns-else-stage-firsts : goal.returns-else-stage-firsts
returns-else-stage-firsts c = stays_back c.args.firsts.now c.args.stage c.args.task c.if-stage-firsts.false
