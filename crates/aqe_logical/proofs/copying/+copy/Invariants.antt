use Rattle.std.proofs.Common.{◌+◌, ◌*◌}
use Rattle.std.specs.Prelude.{max}
use Rattle.aqe_logical.specs.declared.plan.Logical.{size-Logical}
use Rattle.aqe_logical.proofs.copying.+copy.Given as goal

abbrev pub decreases-copy : goal.decreases-copy
decreases-copy l = 2 * size-Logical l.logical.now

abbrev pub decreases-filter : goal.decreases-filter
decreases-filter l = 2 * size-Logical l.child.now + 1

abbrev pub decreases-project : goal.decreases-project
decreases-project l = 2 * size-Logical l.child.now + 1

abbrev pub decreases-aggregate : goal.decreases-aggregate
decreases-aggregate l = 2 * size-Logical l.child.now + 1

abbrev pub decreases-sort : goal.decreases-sort
decreases-sort l = 2 * size-Logical l.child.now + 1

abbrev pub decreases-limit : goal.decreases-limit
decreases-limit l = 2 * size-Logical l.child.now + 1

abbrev pub decreases-sampled : goal.decreases-sampled
decreases-sampled l = 2 * size-Logical l.child.now + 1

abbrev pub decreases-join : goal.decreases-join
decreases-join l = 2 * max (size-Logical l.left.now) (size-Logical l.right.now) + 1

abbrev pub decreases-union : goal.decreases-union
decreases-union l = 2 * max (size-Logical l.left.now) (size-Logical l.right.now) + 1
