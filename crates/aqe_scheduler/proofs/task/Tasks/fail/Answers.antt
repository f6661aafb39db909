use Rattle.std.proofs.Common.{arith, ◌∙◌, sym, ap}
use Rattle.aqe_scheduler.specs.declared.task.Task.{Task}
use Rattle.aqe_scheduler.specs.Tables.{edited, failed}
use Rattle.aqe_scheduler.proofs.Edits.{set_edited, edited_outside}
use Rattle.aqe_scheduler.proofs.task.Tasks.fail.Goals as goal

pub returns-then-place-len : goal.returns-then-place-len
returns-then-place-len c =
    let z : Task = c.index_mut-found.result.now in
    set_edited failed _ c.args.task _ z (omega arith) (ap (λ n. record z { fails = n }) c.saturating_add-found.ensures ∙ ap failed c.index_mut-found.ensures.value)
    ∙ ap (λ xs. edited c.args.task failed xs) c.self.view_is

pub returns-else-place-len : goal.returns-else-place-len
returns-else-place-len c =
    sym (ap (λ xs. edited c.args.task failed xs) (sym c.self.view_is) ∙ edited_outside failed _ c.args.task (omega arith) ∙ c.self.view_is)
