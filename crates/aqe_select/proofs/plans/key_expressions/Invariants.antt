use Rattle.std.proofs.Common.{◌≡◌, map}
use Rattle.aqe_select.proofs.plans.key_expressions.Given as goal

abbrev pub invariant-keys : goal.invariant-keys
invariant-keys l = l.exprs ≡ map (λ k. k.expr) l.yielded
