use Rattle.std.proofs.Common.{refl}
use Rattle.std.proofs.lemmas.Result.{err_from_is_err_and}
use Rattle.aqe_reader.proofs.Outcomes.{ok_of, err_of}
use Rattle.aqe_syntax.proofs.Chain.{listed_begin, listed_step, listed_done, listed_stuck, listed_refused}
use Rattle.aqe_syntax.proofs.parts.items.Goals as goal

pub more-init : goal.more-init
more-init c = let h = c.in_ok-items.ensures in listed_begin (ok_of _ _ c.item.ensures h.1) (rw (h.2, c.new.ensures) refl)

pub more-preserved : goal.more-preserved
more-preserved c = let h = c.in_ok-items-2.ensures in listed_step c.more.invariant c.in-Some.ensures (ok_of _ _ c.item-in-Some.ensures h.1) h.2

pub returns : goal.returns
returns c = listed_done c.more.invariant c.in_default.ensures

pub returns-in_err-items : goal.returns-in_err-items
returns-in_err-items c = let p = err_from_is_err_and c.from_residual.result c.from_residual.ensures.1 in rw (p.1, p.2) (λ r. listed_refused (err_of _ _ c.item.ensures (c.in_err-items.ensures r) r))

pub returns-in_err-items-2 : goal.returns-in_err-items-2
returns-in_err-items-2 c = let p = err_from_is_err_and c.from_residual-in_err-items-2.result c.from_residual-in_err-items-2.ensures.1 in rw (p.1, p.2) (λ r. listed_stuck c.more.invariant c.in-Some.ensures (err_of _ _ c.item-in-Some.ensures (c.in_err-items-2.ensures r) r))
