-- the tasks so far were ended one after the other
use Rattle.aqe_estimates.specs.LoadedTables.{tables_of}
use Rattle.aqe_session.proofs.Looping.{RunsTo}
use Rattle.aqe_session.proofs.query.run_to_end.Given as goal

abbrev pub invariant-tasks : goal.invariant-tasks
invariant-tasks g l = RunsTo (tables_of l.tables) l.fn.run l.run (g.R.Runner.ran l.fn.runner) (g.R.Runner.ran l.runner)
