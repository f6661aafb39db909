use Rattle.std.proofs.Common.{arith, ◌<◌, ◌∙◌, ap, length, set, get_or}
use Rattle.std.proofs.lemmas.List.Edits.{map_over_more}
use Rattle.aqe_scheduler.specs.declared.stage.Stage.{Stage}
use Rattle.aqe_scheduler.specs.Changes.{loss_of}
use Rattle.aqe_scheduler.proofs.Edits.{any_default}
use Rattle.aqe_scheduler.proofs.settle.lose.Goals as goal

pub loop-stage-preserved : goal.loop-stage-preserved
loop-stage-preserved c =
    let z : Stage = get_or c.loop-stage.stages c.loop-stage.stage-index c.stage-item.result in
    let below : c.loop-stage.stage-index < length c.loop-stage.stages = omega arith in
    ap (λ ts. set c.loop-stage.stages c.loop-stage.stage-index (record z { tasks = ts })) c.lose.ensures
    ∙ map_over_more (loss_of c.args.executor) c.args.stages.now c.loop-stage.stages c.loop-stage.stage-index z c.loop-stage-test.true c.loop-stage.invariant
    (any_default c.loop-stage.stages c.loop-stage.stage-index c.stage-item.result z below)
