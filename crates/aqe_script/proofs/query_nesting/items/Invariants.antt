use Rattle.std.proofs.Common.{◌≡◌, ◌≤◌, drop, map, max}
use Rattle.aqe_script.specs.Nesting.{deepest}
use Rattle.aqe_script.specs.QueryLevels as spec
use Rattle.aqe_script.proofs.query_nesting.items.Given as goal

abbrev pub invariant-items : goal.invariant-items
invariant-items l = (max l.depth (deepest (map spec.item_nesting (drop l.next-index l.trees))) ≡ deepest (map spec.item_nesting l.trees)) × (l.depth ≤ l.room)
