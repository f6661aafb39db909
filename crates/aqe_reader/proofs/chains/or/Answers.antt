use Rattle.std.proofs.lemmas.Result.{err_from_is_err_and}
use Rattle.aqe_reader.proofs.Outcomes.{ok_of, err_of}
use Rattle.aqe_reader.proofs.OrChain.{or_begins, or_step, or_done, or_refused, or_broken}
use Rattle.aqe_reader.proofs.chains.or.Goals as goal

pub more-init : goal.more-init
more-init g c = rw c.new-items.ensures (or_begins c.in_ok-first.ensures)

pub more-preserved : goal.more-preserved
more-preserved g c = let h = c.in_ok-first-2.ensures in rw (h.0, h.3) (or_step c.more.invariant c.in-Some.ensures (ok_of _ _ c.and-in-Some.ensures h.2))

pub returns-in_err-first : goal.returns-in_err-first
returns-in_err-first g c = let p = err_from_is_err_and c.from_residual.result c.from_residual.ensures.1 in rw (p.1, p.2) (λ r. or_refused (c.in_err-first.ensures r))

pub returns-in_err-first-2 : goal.returns-in_err-first-2
returns-in_err-first-2 g c = let p = err_from_is_err_and c.from_residual-in_err-first-2.result c.from_residual-in_err-first-2.ensures.1 in rw (p.1, p.2) (λ r. or_broken c.more.invariant c.in-Some.ensures (err_of _ _ c.and-in-Some.ensures (c.in_err-first-2.ensures r) r))

pub returns : goal.returns
returns g c = rw c.in_ok-or_of.ensures (or_done c.more.invariant c.in_default.ensures)
