use Rattle.aqe_estimates.specs.LoadedTables.{tables_of}
use Rattle.aqe_steps.proofs.Giving.{gives_noted}
use Rattle.aqe_steps.proofs.ending.end.Goals as goal

pub keep-requires : goal.keep-requires
keep-requires g c =
    c.requires.alike c.in_ok-output.output
    (gives_noted (tables_of c.args.tables.now) c.args.run.now.outputs c.args.run.now.stages.items c.deref.result.now c.args.stage.0 c.args.task.0 c.requires.note c.note_at-note.result.now c.in_ok-output.output
    c.deref.ensures.value c.requires.there c.note_at-note.ensures c.in_ok-output.ensures.cells)
