use Rattle.std.proofs.Common.{arith, ◌∙◌, sym, ap}
use Rattle.aqe_scheduler.specs.Tables.{edited, emptied}
use Rattle.aqe_scheduler.proofs.Edits.{set_edited, edited_outside}
use Rattle.aqe_scheduler.proofs.task.Tasks.take_output.Goals as goal

pub returns-then-place-len : goal.returns-then-place-len
returns-then-place-len c =
    set_edited emptied _ c.args.task _ c.index_mut-found.result.now (omega arith) (ap emptied c.index_mut-found.ensures.value) ∙ ap (λ xs. edited c.args.task emptied xs) c.self.view_is

pub returns-else-place-len : goal.returns-else-place-len
returns-else-place-len c =
    sym (ap (λ xs. edited c.args.task emptied xs) (sym c.self.view_is) ∙ edited_outside emptied _ c.args.task (omega arith) ∙ c.self.view_is)
