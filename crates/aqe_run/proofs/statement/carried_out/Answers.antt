use Rattle.aqe_course.specs.Ending.{left}
use Rattle.aqe_run.proofs.Printing.{any_err}
use Rattle.aqe_run.proofs.RunFacts.{create_stops, create_written, has_run_none}
use Rattle.aqe_run.specs.Steps.{state_of}
use Rattle.aqe_run.proofs.statement.carried_out.Goals as goal

pub returns-in-CreateTable-clause-done : goal.returns-in-CreateTable-clause-done
returns-in-CreateTable-clause-done g c =
    create_written (g.S.Store.files c.args.store.now) (state_of c.args.made.now) (state_of c.created.new.made) c.args.one.now c.in-CreateTable.form (left c.args.journal.now (g.O.Sink.taken c.args.out.now))
    c.created.result c.in-CreateTable.is c.created.ensures.created

pub returns-in-CreateTable-clause-stops : goal.returns-in-CreateTable-clause-stops
returns-in-CreateTable-clause-stops g c =
    any_err _ c.created.result (λ end n. create_stops (g.S.Store.files c.args.store.now) (state_of c.args.made.now) c.args.one.now end (left c.args.journal.now (g.O.Sink.taken c.args.out.now)))

pub returns-in-CreateTable-clause-ran : goal.returns-in-CreateTable-clause-ran
returns-in-CreateTable-clause-ran g c n = has_run_none c.args.journal.now (g.R.Runner.ran c.args.runner.now)

pub returns-in-Query-clause-reads : goal.returns-in-Query-clause-reads
returns-in-Query-clause-reads g c e = rw c.in-Query.is (c.query.ensures.reads e)

pub returns-in-Query-clause-stops : goal.returns-in-Query-clause-stops
returns-in-Query-clause-stops g c = rw c.in-Query.is c.query.ensures.stops
