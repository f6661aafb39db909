use Rattle.std.proofs.Common.{◌≡◌, ◌≤◌, drop, map, max}
use Rattle.aqe_script.specs.Nesting.{deepest}
use Rattle.aqe_script.specs.QueryLevels as spec
use Rattle.aqe_script.proofs.query_nesting.order.Given as goal

abbrev pub invariant-sorts : goal.invariant-sorts
invariant-sorts l = (max l.depth (deepest (map spec.sort_nesting (drop l.next-index l.sorts))) ≡ deepest (map spec.sort_nesting l.sorts)) × (l.depth ≤ l.room)
