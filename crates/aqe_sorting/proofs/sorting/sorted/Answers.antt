use Rattle.std.proofs.Common.{rules, ◌∙◌}
use Rattle.std.proofs.lemmas.Fn.{always_returns_same}
use Rattle.std.proofs.lemmas.Result.{IfOk-weaker}
use Rattle.aqe_sorting.proofs.SortedPairs.{pair_before, pairs_rank, rows_sorted}
use Rattle.aqe_sorting.proofs.sorting.sorted.Goals as goal

pub returns : goal.returns
returns c =
    let answers = always_returns_same _ _ _ (λ a r f k. search rules) in
    let up = c.in_ok-sort_by.ensures.sorted (pair_before c.args.keys.now) (pairs_rank c.args.keys.now) answers in
    let stay = c.sort_by.ensures.stable (pair_before c.args.keys.now) (pairs_rank c.args.keys.now) answers in
    let sorted = rows_sorted c.args.keys.now c.args.rows _ _ c.in_ok-pairs.ensures c.sort_by.ensures.permutation up stay in
    IfOk-weaker c.rows_of.result _ _ (λ rows same. same ∙ sorted) c.rows_of.ensures
