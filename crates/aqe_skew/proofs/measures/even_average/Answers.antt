use Rattle.std.proofs.Common.{◌≤◌, arith, sum}
use Rattle.aqe_skew.proofs.EvenSums.{total_within, count_within}
use Rattle.aqe_skew.proofs.measures.even_average.Goals as goal

pub with_size-even-requires-clause-total : goal.with_size-even-requires-clause-total
with_size-even-requires-clause-total c =
    let within : c.sizes.even.total ≤ sum c.args.sizes.now =
    total_within c.args.median c.args.rule.now c.args.sizes.now c.sizes.size-index c.sizes.even.total c.sizes.even.count c.sizes.invariant in
    omega (arith, within, c.requires.total)

pub with_size-even-requires-clause-count : goal.with_size-even-requires-clause-count
with_size-even-requires-clause-count c =
    let within : c.sizes.even.count ≤ c.sizes.size-index =
    count_within c.args.median c.args.rule.now c.args.sizes.now c.sizes.size-index c.sizes.even.total c.sizes.even.count c.sizes.invariant in
    omega (arith, within, c.sizes-test.true, c.requires.count)
