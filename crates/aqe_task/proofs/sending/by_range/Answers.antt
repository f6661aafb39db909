use Rattle.std.proofs.Common.{List}
use Rattle.std.proofs.lemmas.Result.{IfOk-weaker}
use Rattle.aqe_logical.specs.Answers.{Row}
use Rattle.aqe_task.proofs.sending.by_range.Goals as goal

pub returns : goal.returns
returns c = IfOk-weaker c.by_bounds.result _ _ (λ (made : List (List Row)) h. (c.in_ok-bounds.bounds, c.in_ok-bounds.ensures.value, h)) c.by_bounds.ensures
