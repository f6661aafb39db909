use Rattle.aqe_scheduler.proofs.Fronts.{front_written}
use Rattle.aqe_scheduler.proofs.cursors.advance.Goals as goal

pub returns-then-stage-firsts : goal.returns-then-stage-firsts
returns-then-stage-firsts c = λ was. front_written c.args.stages.now c.args.firsts.now c.args.stage c.first_open.result c.if-stage-firsts.true was (c.first_open.ensures (was c.args.stage))
