use Rattle.std.proofs.Common.{rules, ◌<◌}
use Rattle.aqe_estimates.specs.LoadedTables.{tables_of}
use Rattle.aqe_checks.proofs.StageSteps.{task_served}
use Rattle.aqe_checks.proofs.task_cells.given.Goals as goal

pub run_task-requires-clause-served : goal.run_task-requires-clause-served
run_task-requires-clause-served c =
    let within : c.args.k < c.args.body.now.parts = search rules in
    task_served (tables_of c.args.ground.now.tables) c.args.ground.now.outputs c.args.ground.now.maps c.in_ok-kind.kind c.args.body.now.plan
    c.args.body.now.parts c.args.body.now.width c.args.k c.requires c.in_ok-kind.ensures within
