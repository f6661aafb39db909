use Rattle.std.proofs.Common.{rules}
use Rattle.std.proofs.lemmas.Fn.{always_returns_same}
use Rattle.aqe_ranges.proofs.InOrder.{seen_before, seen_rank, lent_sorted}
use Rattle.aqe_ranges.proofs.bounding.in_order.Goals as goal

pub returns : goal.returns
returns c =
    let answers = always_returns_same _ _ _ (λ a r f k. search rules) in
    let up = c.in_ok-sort_by.ensures.sorted (seen_before c.args.keys.now) (seen_rank c.args.keys.now) answers in
    let stay = c.sort_by.ensures.stable (seen_before c.args.keys.now) (seen_rank c.args.keys.now) answers in
    lent_sorted c.args.keys.now c.args.rows.now _ _ c.in_ok-lent.ensures up stay
