use Rattle.aqe_needs.specs.Maps.{task_reads}
use Rattle.aqe_needs.proofs.Parts.{task_more}
use Rattle.aqe_needs.proofs.tasks.each_task.Goals as goal

pub tasks-preserved : goal.tasks-preserved
tasks-preserved c =
    task_more (task_reads c.args.counts.now c.args.kind.now c.args.body.now) c.tasks.k c.tasks.reads c.push.new.self c.in_ok-needs.needs c.tasks.invariant c.in_ok-needs.ensures c.in_ok-push.ensures
