use Rattle.std.proofs.Common.{[]}
use Rattle.aqe_estimates.specs.LoadedTables.{tables_of}
use Rattle.aqe_checks.proofs.Served.{one_row}
use Rattle.aqe_checks.proofs.tasks.a_runner_tells_the_task_that_it_ran.Goals as goal

pub run-requires-clause-served : goal.run-requires-clause-served
run-requires-clause-served g c = ([], one_row (tables_of c.new-tables.result) c.new-outputs.result)
