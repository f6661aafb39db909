use Rattle.aqe_needs.proofs.Parts.{all_read}
use Rattle.aqe_needs.proofs.tasks.reads_of.Goals as goal

pub returns : goal.returns
returns c = all_read c.each_task.result c.args.stages.now _ c.slice.result.now c.args.kind.now c.args.body.now c.slice.ensures c.in_ok-counts.ensures c.each_task.ensures
