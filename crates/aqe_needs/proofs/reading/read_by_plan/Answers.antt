use Rattle.aqe_journal.specs.Needed.{plan_reads}
use Rattle.aqe_needs.proofs.Marked.{all_set}
use Rattle.aqe_needs.proofs.reading.read_by_plan.Goals as goal

pub returns : goal.returns
returns c = all_set (plan_reads c.args.plan.now) c.args.count _ c.mark_plan.new.flags c.in_ok-flags.ensures c.mark_plan.ensures
