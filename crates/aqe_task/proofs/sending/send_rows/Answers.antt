use Rattle.std.proofs.Common.{subst, sym, List}
use Rattle.std.proofs.lemmas.Result.{IfOk-weaker}
use Rattle.aqe_logical.specs.Answers.{Row}
use Rattle.aqe_physical.specs.declared.target.Target.{Target}
use Rattle.aqe_task.specs.Pieces.{AreSent}
use Rattle.aqe_task.proofs.sending.send_rows.Goals as goal

pub returns-in-Range : goal.returns-in-Range
returns-in-Range c =
    IfOk-weaker c.by_range.result _ _ (λ (made : List (List Row)) h. subst (λ (to : Target). AreSent c.args.outputs.now to c.args.rows made) (sym c.in-Range.is) h) c.by_range.ensures
