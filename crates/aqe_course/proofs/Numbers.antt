-- The queries of a run are numbered.
use Rattle.std.proofs.Common.{List, ◌++◌, refl, ap, subst}
use Rattle.aqe_store.specs.Files.{Entries}
use Rattle.aqe_trees.specs.declared.statement.Stmt.{Stmt}
use Rattle.aqe_trees.specs.declared.statement.Stmt.TheVariants as statement
use Rattle.aqe_course.specs.Course.{IsCarriedOut, Query, Runs, State}
use Rattle.aqe_course.specs.Course.Runs.{none, more}
use Rattle.aqe_course.specs.Laws.{AreNumbered, RunsNumberTheirQueries}

-- the queries of one statement, and those behind them
one_numbered : (files : Entries) (now after : State) (one : Stmt) (answered later : List Query) → IsCarriedOut files now one after answered → AreNumbered after.answered later → AreNumbered now.answered (answered ++ later)
one_numbered files now after (statement.CreateTable form) answered later (x, e, y) h = rw y (subst (λ n. AreNumbered n later) (ap (λ (s : State). s.answered) e) h)
one_numbered files now after (statement.Set form) answered later x h = absurd x
one_numbered files now after (statement.Query tree) answered later x h = rw x.is (refl, subst (λ n. AreNumbered n later) x.counted h)

numbered : (files : Entries) (from now : State) (script left : List Stmt) (queries : List Query) → Runs files from script queries now left → AreNumbered from.answered queries
numbered files _ _ _ _ _ (none now left) = tt
numbered files _ now _ left _ (more from after _ one rest _ answered later h runs) = one_numbered files from after one answered later h (numbered files after now rest left later runs)

pub all_numbered : RunsNumberTheirQueries
all_numbered files script left queries now h = numbered files _ now script left queries h
