use Rattle.std.proofs.lemmas.Result.{err_from_is_err_and}
use Rattle.aqe_reader.proofs.Outcomes.{ok_of, err_of}
use Rattle.aqe_reader.proofs.Predicates.{one_of_read, one_of_unopened, one_of_empty, one_of_unclosed}
use Rattle.aqe_reader.proofs.predicate.one_of.Goals as goal

pub returns-in_err-inside : goal.returns-in_err-inside
returns-in_err-inside g c = let p = err_from_is_err_and c.from_residual.result c.from_residual.ensures.1 in rw (p.1, p.2) (λ r. one_of_unopened c.args.negated (c.in_err-inside.ensures r))

pub returns-in_err-items : goal.returns-in_err-items
returns-in_err-items g c = let p = err_from_is_err_and c.from_residual-in_err-items.result c.from_residual-in_err-items.ensures.1 in rw (p.1, p.2) (λ r. one_of_empty c.args.negated c.in_ok-inside.ensures (c.in_err-items.ensures r))

pub returns-in_err-items-2 : goal.returns-in_err-items-2
returns-in_err-items-2 g c = let p = err_from_is_err_and c.from_residual-in_err-items-2.result c.from_residual-in_err-items-2.ensures.1 in rw (p.1, p.2) (λ r. one_of_unclosed c.args.negated c.in_ok-inside.ensures c.in_ok-items.ensures (err_of _ _ c.expect-2.ensures c.in_err-items-2.ensures r))

pub returns : goal.returns
returns g c =
    let h = c.in_ok-items-2.ensures in
    rw (c.in_ok-one_of_list.ensures, h.0) (one_of_read c.args.negated c.in_ok-inside.ensures c.in_ok-items.ensures (ok_of _ _ c.expect-2.ensures h.1))
