use Rattle.std.proofs.Common.{◌+◌, ◌*◌}
use Rattle.std.specs.Prelude.{max}
use Rattle.aqe_physical.specs.declared.plan.Plan.{size-Plan}
use Rattle.aqe_physical.proofs.copying.+copy.Given as goal

abbrev pub decreases-copy : goal.decreases-copy
decreases-copy l = 2 * size-Plan l.plan.now

abbrev pub decreases-filter : goal.decreases-filter
decreases-filter l = 2 * size-Plan l.child.now + 1

abbrev pub decreases-project : goal.decreases-project
decreases-project l = 2 * size-Plan l.child.now + 1

abbrev pub decreases-exchange : goal.decreases-exchange
decreases-exchange l = 2 * size-Plan l.child.now + 1

abbrev pub decreases-partial : goal.decreases-partial
decreases-partial l = 2 * size-Plan l.child.now + 1

abbrev pub decreases-last : goal.decreases-last
decreases-last l = 2 * size-Plan l.child.now + 1

abbrev pub decreases-sort : goal.decreases-sort
decreases-sort l = 2 * size-Plan l.child.now + 1

abbrev pub decreases-local_limit : goal.decreases-local_limit
decreases-local_limit l = 2 * size-Plan l.child.now + 1

abbrev pub decreases-global_limit : goal.decreases-global_limit
decreases-global_limit l = 2 * size-Plan l.child.now + 1

abbrev pub decreases-join : goal.decreases-join
decreases-join l = 2 * max (size-Plan l.left.now) (size-Plan l.right.now) + 1

abbrev pub decreases-union : goal.decreases-union
decreases-union l = 2 * max (size-Plan l.left.now) (size-Plan l.right.now) + 1
