-- the body so far is ready
use Rattle.aqe_estimates.specs.LoadedTables.{tables_of}
use Rattle.aqe_checks.specs.Serving.{Ready}
use Rattle.aqe_checks.proofs.task_bodies.body_of.Given as goal

abbrev pub invariant-words : goal.invariant-words
invariant-words l = Ready (tables_of l.ground.tables) l.ground.outputs l.ground.maps l.body.plan l.body.parts l.body.width
