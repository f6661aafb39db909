use Rattle.std.proofs.Common.{◌<◌, arith, length}
use Rattle.aqe_scheduler.proofs.Fronts.{fronts_more, fronts_all}
use Rattle.aqe_scheduler.proofs.cursors.restart.Goals as goal

pub loop-stage-preserved : goal.loop-stage-preserved
loop-stage-preserved c =
    let below : c.loop-stage.stage < length c.loop-stage.firsts = omega arith in
    fronts_more c.args.stages.now c.loop-stage.firsts c.loop-stage.stage c.first_open.result below c.loop-stage.invariant (c.first_open.ensures (λ t never. absurd (omega (arith, never))))

pub returns : goal.returns
returns c = fronts_all c.args.stages.now c.loop-stage.firsts (λ i below. c.loop-stage.invariant i (omega arith))
