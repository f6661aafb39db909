use Rattle.std.proofs.Common.{◌∙◌, sym, arith}
use Rattle.aqe_scheduler.proofs.Ready.{all_more}
use Rattle.aqe_scheduler.proofs.cursors.first_open.Goals as goal

pub loop-task-preserved : goal.loop-task-preserved
loop-task-preserved c = λ was. all_more c.args.stages.now c.args.stage c.loop-task.task (c.loop-task.invariant was) (sym c.is_done.ensures ∙ c.if-not-is_done.false)

pub returns : goal.returns
returns c = λ was t below. c.loop-task.invariant was t (omega arith)
