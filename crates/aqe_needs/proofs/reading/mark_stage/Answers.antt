use Rattle.aqe_needs.specs.Noted.{stage_of}
use Rattle.aqe_needs.proofs.Marked.{stage_set, stage_passed}
use Rattle.aqe_needs.proofs.reading.mark_stage.Goals as goal

pub returns-then-is_open : goal.returns-then-is_open
returns-then-is_open c =
    stage_set (stage_of c.args.stage.now) c.args.is_open c.sample_of_kind.result c.args.flags.now c.set_named.new.self c.mark_plan.new.flags c.if-is_open.true c.sample_of_kind.ensures c.set_named.ensures c.mark_plan.ensures

pub returns-else-is_open : goal.returns-else-is_open
returns-else-is_open c = stage_passed (stage_of c.args.stage.now) c.args.is_open c.args.flags.now c.if-is_open.false
