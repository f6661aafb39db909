use Rattle.std.proofs.Common.{rules, ◌<◌}
use Rattle.aqe_estimates.specs.LoadedTables.{tables_of}
use Rattle.aqe_checks.proofs.StageSteps.{task_served, given_fits, given_more}
use Rattle.aqe_checks.proofs.task_stages.kept_outputs.Goals as goal

pub run_task-requires-clause-served : goal.run_task-requires-clause-served
run_task-requires-clause-served c =
    let within : c.maps.m < c.args.body.now.parts = search rules in
    task_served (tables_of c.args.bare.now.tables) c.args.bare.now.outputs 0 c.args.kind.now c.args.body.now.plan
    c.args.body.now.parts c.args.body.now.width c.maps.m c.requires.ready c.requires.easy within

pub keep-requires : goal.keep-requires
keep-requires c =
    let within : c.maps.m < c.args.body.now.parts = search rules in
    given_fits (tables_of c.args.bare.now.tables) c.args.bare.now.outputs c.maps.outputs c.args.kind.now c.args.body.now.plan
    c.args.body.now.parts c.args.body.now.width c.maps.m c.in_ok-made.made c.requires.ready c.requires.easy within c.in_ok-made.ensures c.maps.invariant

pub maps-preserved : goal.maps-preserved
maps-preserved c =
    let within : c.maps.m < c.args.body.now.parts = search rules in
    given_more (tables_of c.args.bare.now.tables) c.args.bare.now.outputs c.maps.outputs c.keep.new.self c.args.kind.now c.args.body.now.plan
    c.args.body.now.parts c.args.body.now.width c.maps.m c.in_ok-made.made c.requires.ready c.requires.easy within c.in_ok-made.ensures c.maps.invariant
    c.in_ok-keep.ensures.at c.in_ok-keep.ensures.stage
