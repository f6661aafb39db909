use Rattle.std.proofs.Common.{arith, ◌∙◌, sym, ap, ◌==◌}
use Rattle.aqe_needs.specs.Flags.{noted}
use Rattle.aqe_needs.proofs.Marked.{one_set, none_beyond}
use Rattle.aqe_needs.proofs.flags.Flags.set.Goals as goal

pub returns-then-place-len : goal.returns-then-place-len
returns-then-place-len c = one_set c.args.stage.0 _ (omega arith) ∙ ap (λ xs. noted (λ s. c.args.stage.0 == s) 0 xs) c.self.view_is

pub returns-else-place-len : goal.returns-else-place-len
returns-else-place-len c =
    sym (ap (λ xs. noted (λ s. c.args.stage.0 == s) 0 xs) (sym c.self.view_is) ∙ sym (none_beyond c.args.stage.0 _ (omega arith)) ∙ c.self.view_is)
