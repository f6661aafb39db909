-- the outputs of the maps so far are kept
use Rattle.aqe_estimates.specs.LoadedTables.{tables_of}
use Rattle.aqe_checks.specs.Serving.{IsKeptBelow}
use Rattle.aqe_checks.proofs.task_stages.kept_outputs.Given as goal

abbrev pub invariant-maps : goal.invariant-maps
invariant-maps l = IsKeptBelow (tables_of l.bare.tables) l.kind l.body.plan l.outputs l.m
