use Rattle.aqe_course.specs.Ending.{left}
use Rattle.aqe_run.proofs.ScriptFacts.{script_done}
use Rattle.aqe_run.proofs.run.run_script.Goals as goal

pub returns-in-Ok-clause-ends : goal.returns-in-Ok-clause-ends
returns-in-Ok-clause-ends g c =
    script_done (g.S.Store.files c.args.store.now) c.args.script.now (left c.args.journal.now (g.O.Sink.taken c.args.out.now)) (left c.all_carried_out.new.journal (g.O.Sink.taken c.all_carried_out.new.out)) c.in-Ok.ensures.done
