use Rattle.std.proofs.Common.{◌≤◌, ◌+◌, get_or, arith, sum, refl}
use Rattle.aqe_coalesce.proofs.Filling.{stays_within, filled_more, full_at}
use Rattle.aqe_coalesce.proofs.packing.end_of_group.Goals as goal

pub overflow_add-filled : goal.overflow_add-filled
overflow_add-filled c =
    let within : c.partitions.filled + get_or c.args.sizes.now c.partitions.end 0 ≤ sum c.args.sizes.now =
    stays_within c.args.sizes.now c.args.target c.args.start c.partitions.end c.partitions.filled 0 c.partitions.invariant c.partitions-test.true in
    omega (arith, within, c.requires.total)

pub partitions-preserved : goal.partitions-preserved
partitions-preserved c =
    filled_more c.args.sizes.now c.args.target c.args.start c.partitions.end c.partitions.filled _ 0 c.partitions.invariant c.partitions-test.true refl (omega (arith, c.if-filled-sizes.true))

pub returns-else-filled-sizes-clause-full : goal.returns-else-filled-sizes-clause-full
returns-else-filled-sizes-clause-full c =
    full_at c.args.sizes.now c.args.target c.args.start c.partitions.end c.partitions.filled 0 c.partitions.invariant (λ lt. omega (arith, c.if-filled-sizes.false))
