use Rattle.aqe_course.specs.Command.{command}
use Rattle.aqe_course.specs.Ending.{left}
use Rattle.aqe_cli.proofs.HeadlineFacts.{carried_told, early_told}
use Rattle.aqe_cli.proofs.run.run.Goals as goal

pub returns-in-Ok-clause-ends : goal.returns-in-Ok-clause-ends
returns-in-Ok-clause-ends g c =
    carried_told (g.S.Store.files c.args.store.now) (g.S.Store.files c.opened.new.store) (command c.args.path.now) (g.S.Store.opened c.run_script.new.store) c.in-Ok.script
    (left c.args.journal.now (g.O.Sink.taken c.args.out.now)) (left c.run_script.new.journal (g.O.Sink.taken c.run_script.new.out)) c.run_script.result c.in-Ok.ensures.step.keeps c.in-Ok.ensures.script (rw c.slice.ensures at c.run_script.ensures.ends)

pub returns-in-Err-clause-ends : goal.returns-in-Err-clause-ends
returns-in-Err-clause-ends g c =
    early_told (g.S.Store.files c.args.store.now) (command c.args.path.now) (g.S.Store.opened c.opened.new.store) (left c.args.journal.now (g.O.Sink.taken c.args.out.now)) c.in-Err.end c.in-Err.ensures.refused
