use Rattle.aqe_task.specs.Pieces.{rows_in}
use Rattle.aqe_task.proofs.MadeSteps.{can-project, can-partial, can-final}
use Rattle.aqe_task.proofs.steps.made.Goals as goal

pub projected-requires : goal.projected-requires
projected-requires c = can-project c.args.plan.now c.in-Project.items c.in-Project.child (rows_in c.args.rows) c.in-Project.is c.requires

pub grouped-requires : goal.grouped-requires
grouped-requires c = can-partial c.args.plan.now c.in-PartialAgg.keys c.in-PartialAgg.calls c.in-PartialAgg.child (rows_in c.args.rows) c.in-PartialAgg.is c.requires

pub finished-requires-clause-width : goal.finished-requires-clause-width
finished-requires-clause-width c = (can-final c.args.plan.now c.in-FinalAgg.keys c.in-FinalAgg.calls c.in-FinalAgg.child (rows_in c.args.rows) c.in-FinalAgg.is c.requires).0

pub finished-requires-clause-narrow : goal.finished-requires-clause-narrow
finished-requires-clause-narrow c =
    let can = can-final c.args.plan.now c.in-FinalAgg.keys c.in-FinalAgg.calls c.in-FinalAgg.child (rows_in c.args.rows) c.in-FinalAgg.is c.requires in (can.1, can.2)
