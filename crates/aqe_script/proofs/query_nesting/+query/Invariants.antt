use Rattle.std.proofs.Common.{◌≡◌, ◌≤◌, drop, map, Bool}
use Rattle.aqe_trees.specs.declared.query.CoreTree.{CoreTree}
use Rattle.aqe_script.specs.Nesting.{chain_depth}
use Rattle.aqe_script.specs.QueryLevels as spec
use Rattle.aqe_script.proofs.Turns.{ChainLeft}
use Rattle.aqe_script.proofs.query_nesting.+query.Given as goal

abbrev pub invariant-union-more : goal.invariant-union-more
invariant-union-more l = ChainLeft (λ (next : Bool × CoreTree). spec.core_nesting next.1) l.rest l.next-index l.depth (spec.union_nesting l.tree) l.room

abbrev pub invariant-from-more : goal.invariant-from-more
invariant-from-more l = (chain_depth l.depth (map spec.joined_nesting (drop l.next-index l.rest)) ≡ spec.from_depth (map spec.joined_nesting l.sources)) × (l.depth ≤ l.room)

abbrev pub invariant-joined-more : goal.invariant-joined-more
invariant-joined-more l = (chain_depth l.depth (map spec.step_nesting (drop l.next-index l.rest)) ≡ spec.joined_nesting l.tree) × (l.depth ≤ l.room)
