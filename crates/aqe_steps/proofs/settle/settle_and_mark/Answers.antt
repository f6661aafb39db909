use Rattle.aqe_steps.proofs.Marking.{on_ok}
use Rattle.aqe_steps.proofs.settle.settle_and_mark.Goals as goal

pub returns : goal.returns
returns c = on_ok c.mark.result (λ m. record { between = c.settle.new.run; makes = c.in_ok-settle.ensures.made; marks = m }) c.mark.ensures
