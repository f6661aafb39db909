use Rattle.std.proofs.Common.{rules, ◌<◌}
use Rattle.aqe_estimates.specs.LoadedTables.{tables_of}
use Rattle.aqe_checks.proofs.StageSteps.{stage_holds}
use Rattle.aqe_checks.proofs.task_stages.ground_of.Goals as goal

pub returns-clause-stage : goal.returns-clause-stage
returns-clause-stage c =
    let some : 0 < c.args.body.now.parts = search rules in
    stage_holds (tables_of c.args.bare.tables) c.args.bare.outputs c.args.kind.now c.args.body.now.plan c.in_ok-outputs.outputs
    c.args.body.now.parts c.cell_count.result c.args.body.now.width c.requires.easy.unsampled c.requires.ready c.in_ok-outputs.ensures c.cell_count.ensures some
