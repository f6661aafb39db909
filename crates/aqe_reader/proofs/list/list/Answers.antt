use Rattle.std.proofs.lemmas.Result.{err_from_is_err_and}
use Rattle.aqe_reader.proofs.Outcomes.{ok_of, err_of}
use Rattle.aqe_reader.proofs.ListChain.{list_begins, list_step, list_done, list_refused, list_broken}
use Rattle.aqe_reader.proofs.list.list.Goals as goal

pub more-init : goal.more-init
more-init g c = let h = c.in_ok-items.ensures in rw (h.2, c.new.ensures) (list_begins (ok_of _ _ c.inner.ensures h.1))

pub more-preserved : goal.more-preserved
more-preserved g c = let h = c.in_ok-items-2.ensures in rw h.2 (list_step c.more.invariant c.in-Some.ensures (ok_of _ _ c.inner-in-Some.ensures h.1))

pub returns-in_err-items : goal.returns-in_err-items
returns-in_err-items g c = let p = err_from_is_err_and c.from_residual.result c.from_residual.ensures.1 in rw (p.1, p.2) (λ r. list_refused (err_of _ _ c.inner.ensures (c.in_err-items.ensures r) r))

pub returns-in_err-items-2 : goal.returns-in_err-items-2
returns-in_err-items-2 g c = let p = err_from_is_err_and c.from_residual-in_err-items-2.result c.from_residual-in_err-items-2.ensures.1 in rw (p.1, p.2) (λ r. list_broken c.more.invariant c.in-Some.ensures (err_of _ _ c.inner-in-Some.ensures (c.in_err-items-2.ensures r) r))

pub returns : goal.returns
returns g c = list_done c.more.invariant c.in_default.ensures
