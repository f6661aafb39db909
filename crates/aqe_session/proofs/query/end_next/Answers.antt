use Rattle.aqe_estimates.specs.LoadedTables.{tables_of}
use Rattle.aqe_steps.proofs.Marking.{on_ok}
use Rattle.aqe_session.proofs.Looping.{is_next, never_none, goes_on}
use Rattle.aqe_session.proofs.query.end_next.Goals as goal

pub end_task-requires : goal.end_task-requires
end_task-requires g c = is_next (tables_of c.args.tables.now) c.args.run.now c.next_rest.result c.in-Some.stage c.in-Some.task c.requires c.next_rest.ensures c.in-Some.is

pub returns-clause-goes : goal.returns-clause-goes
returns-clause-goes g c =
    on_ok c.end_task.result (λ e. goes_on (tables_of c.args.tables.now) c.args.run.now c.end_task.new.run c.next_rest.result c.in-Some.stage c.in-Some.task c.next_rest.ensures c.in-Some.is e) c.end_task.ensures.ends

pub unreachable-requires : goal.unreachable-requires
unreachable-requires g c = never_none (tables_of c.args.tables.now) c.args.run.now c.next_rest.result c.requires c.next_rest.ensures c.in-None.is
