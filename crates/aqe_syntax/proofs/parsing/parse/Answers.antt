use Rattle.std.proofs.Common.{inl, inr, sym}
use Rattle.std.proofs.lemmas.Result.{err_from_is_err_and}
use Rattle.aqe_syntax.proofs.Parsed.{read_cause, same_open, same_script, same_fault}
use Rattle.aqe_script.proofs.Sources.{stand_in, in_order}
use Rattle.aqe_syntax.proofs.parsing.parse.Goals as goal

pub is_too_open-requires : goal.is_too_open-requires
is_too_open-requires c = stand_in c.requires.tokens c.as_text-text.ensures c.slice-list.ensures

pub read_script-requires : goal.read_script-requires
read_script-requires c = record { stand = stand_in c.requires.tokens c.as_text-text.ensures c.slice-list.ensures; order = in_order c.requires.tokens c.slice-list.ensures; size = rw c.as_text-text.ensures c.requires.size }

pub returns-then-is_too_open : goal.returns-then-is_too_open
returns-then-is_too_open c = inl (same_open c.as_text-text.ensures c.slice-list.ensures (c.is_too_open.ensures.0 c.if-is_too_open.true))

pub returns-in_err-script : goal.returns-in_err-script
returns-in_err-script c = let p = err_from_is_err_and c.from_residual.result c.from_residual.ensures.1 in
    rw (p.1, p.2) (read_cause c.args.source.now c.args.tokens.now _
    (λ o. let y = c.is_too_open.ensures.1 (same_open (sym c.as_text-text.ensures) (sym c.slice-list.ensures) o) in let n = c.if-is_too_open.false in cc)
    (same_fault _ c.as_text-text.ensures c.slice-list.ensures c.in_err-script.ensures))

pub returns-then-has_too_nested : goal.returns-then-has_too_nested
returns-then-has_too_nested c = inr (_, same_script c.as_text-text.ensures c.slice-list.ensures c.in_ok-script.ensures, rw c.slice.ensures at (c.has_too_nested.ensures.0 c.if-has_too_nested.true))

pub returns : goal.returns
returns c = record {
  reads = same_script c.as_text-text.ensures c.slice-list.ensures c.in_ok-script.ensures;
  shallow = λ o. let y = c.is_too_open.ensures.1 (same_open (sym c.as_text-text.ensures) (sym c.slice-list.ensures) o) in let n = c.if-is_too_open.false in cc;
  flat = λ a. let y = c.has_too_nested.ensures.1 (rw c.slice.ensures a) in let n = c.if-has_too_nested.false in cc;
}
