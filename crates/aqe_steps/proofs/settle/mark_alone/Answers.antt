use Rattle.std.proofs.Common.{refl}
use Rattle.aqe_steps.proofs.Marking.{on_ok}
use Rattle.aqe_steps.proofs.settle.mark_alone.Goals as goal

pub returns : goal.returns
returns c = on_ok c.mark.result (λ m. record { between = c.args.run.now; makes = refl; marks = m }) c.mark.ensures
