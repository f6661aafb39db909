use Rattle.std.proofs.Common.{subst, sym, List}
use Rattle.std.proofs.lemmas.Result.{IfOk-weaker}
use Rattle.aqe_logical.specs.Answers.{Row}
use Rattle.aqe_estimates.specs.LoadedTables.{tables_of}
use Rattle.aqe_task.specs.Pieces.{rows_in, AreCells, CanKeepRows}
use Rattle.aqe_task.proofs.KeptParts.{body_served, rows_fit, task_given}
use Rattle.aqe_task.proofs.task.run_task.Goals as goal

pub part_of-requires-clause-served : goal.part_of-requires-clause-served
part_of-requires-clause-served c = body_served (tables_of c.args.tables.now) c.args.outputs.now c.args.kind.now c.args.body.now c.args.k c.requires.served

pub keep_rows-requires : goal.keep_rows-requires
keep_rows-requires c =
    subst (CanKeepRows c.args.kind.now) (sym c.in_ok-rows-2.ensures)
    (rows_fit (tables_of c.args.tables.now) c.args.outputs.now c.args.kind.now c.args.body.now c.args.k (rows_in c.in_ok-rows.rows) c.requires.served c.in_ok-rows.ensures)

pub returns : goal.returns
returns c =
    IfOk-weaker c.keep_rows.result _ _ (λ (made : List (List Row)) h. task_given (tables_of c.args.tables.now) c.args.outputs.now c.args.kind.now c.args.body.now c.args.k
    (rows_in c.in_ok-rows.rows) made c.in_ok-rows.ensures (subst (λ (rows : List Row). AreCells c.args.outputs.now c.args.kind.now rows made) c.in_ok-rows-2.ensures h)) c.keep_rows.ensures
