use Rattle.aqe_estimates.specs.LoadedTables.{tables_of}
use Rattle.aqe_session.proofs.Looping.{runs_begun, runs_open, runs_more, runs_done}
use Rattle.aqe_session.proofs.query.run_to_end.Goals as goal

pub tasks-init : goal.tasks-init
tasks-init g c = runs_begun (tables_of c.args.tables.now) c.args.run.now (g.R.Runner.ran c.args.runner.now) c.requires

pub end_next-requires : goal.end_next-requires
end_next-requires g c = runs_open (tables_of c.args.tables.now) c.args.run.now c.tasks.run _ _ c.is_done.result c.tasks.invariant c.is_done.ensures c.if-is_done.false

pub tasks-preserved : goal.tasks-preserved
tasks-preserved g c =
    runs_more (tables_of c.args.tables.now) c.args.run.now c.tasks.run c.end_next.new.run _ _ _ c.is_done.result c.tasks.invariant c.is_done.ensures c.if-is_done.false c.in_ok-end_next.ensures.goes c.in_ok-end_next.ensures.ran

pub returns-then-is_done-clause-done : goal.returns-then-is_done-clause-done
returns-then-is_done-clause-done g c = runs_done (tables_of c.args.tables.now) c.args.run.now c.tasks.run _ _ c.is_done.result c.tasks.invariant c.is_done.ensures c.if-is_done.true

pub returns-then-is_done-clause-ran : goal.returns-then-is_done-clause-ran
returns-then-is_done-clause-ran g c = c.tasks.invariant.ran
