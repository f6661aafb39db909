use Rattle.std.proofs.Common.{◌≡◌, ◌+◌, ◌*◌, ◌++◌}
use Rattle.aqe_physical.specs.declared.plan.Plan.{size-Plan}
use Rattle.aqe_needs.proofs.Parts.{first_reads}
use Rattle.aqe_needs.proofs.inputs.+push_part.Given as goal

abbrev pub decreases-push_part : goal.decreases-push_part
decreases-push_part l = 3 * size-Plan l.plan.now

abbrev pub decreases-push_all_parts : goal.decreases-push_all_parts
decreases-push_all_parts l = 3 * size-Plan l.plan.now + 1

abbrev pub decreases-push_side : goal.decreases-push_side
decreases-push_side l = 3 * size-Plan l.side.now + 2

abbrev pub invariant-push_all_parts-parts : goal.invariant-push_all_parts-parts
invariant-push_all_parts-parts l = l.found ≡ l.initial.found ++ first_reads l.counts l.plan l.k
