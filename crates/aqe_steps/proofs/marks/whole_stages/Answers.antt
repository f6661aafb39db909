use Rattle.aqe_steps.proofs.Marking.{asked_none, asked_more, asked_end}
use Rattle.aqe_steps.proofs.marks.whole_stages.Goals as goal

pub stages-init : goal.stages-init
stages-init c = asked_none c.args.board.now c.new-flags.result c.new-flags.ensures

pub stages-preserved : goal.stages-preserved
stages-preserved c =
    asked_more c.args.board.now c.stages.n c.numbered.result.0 c.stages.flags c.push.new.self c.is_whole.result c.stages.invariant c.numbered.ensures c.is_whole.ensures c.in_ok-push.ensures

pub returns-clause-count : goal.returns-clause-count
returns-clause-count c = (asked_end c.args.board.now c.stages.n c.args.count c.stages.flags c.stages.invariant c.stages.auto.n-end c.stages-test.false).count

pub returns-clause-asked : goal.returns-clause-asked
returns-clause-asked c = (asked_end c.args.board.now c.stages.n c.args.count c.stages.flags c.stages.invariant c.stages.auto.n-end c.stages-test.false).asked
