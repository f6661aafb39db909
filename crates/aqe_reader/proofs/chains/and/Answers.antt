use Rattle.std.proofs.lemmas.Result.{err_from_is_err_and}
use Rattle.aqe_reader.proofs.Outcomes.{ok_of, err_of}
use Rattle.aqe_reader.proofs.AndChain.{and_begins, and_step, and_done, and_refused, and_broken}
use Rattle.aqe_reader.proofs.chains.and.Goals as goal

pub more-init : goal.more-init
more-init g c = rw c.new-items.ensures (and_begins c.in_ok-first.ensures)

pub more-preserved : goal.more-preserved
more-preserved g c = let h = c.in_ok-first-2.ensures in rw (h.0, h.3) (and_step c.more.invariant c.in-Some.ensures (ok_of _ _ c.not-in-Some.ensures h.2))

pub returns-in_err-first : goal.returns-in_err-first
returns-in_err-first g c = let p = err_from_is_err_and c.from_residual.result c.from_residual.ensures.1 in rw (p.1, p.2) (λ r. and_refused (c.in_err-first.ensures r))

pub returns-in_err-first-2 : goal.returns-in_err-first-2
returns-in_err-first-2 g c = let p = err_from_is_err_and c.from_residual-in_err-first-2.result c.from_residual-in_err-first-2.ensures.1 in rw (p.1, p.2) (λ r. and_broken c.more.invariant c.in-Some.ensures (err_of _ _ c.not-in-Some.ensures (c.in_err-first-2.ensures r) r))

pub returns : goal.returns
returns g c = rw c.in_ok-and_of.ensures (and_done c.more.invariant c.in_default.ensures)
