use Rattle.std.proofs.Common.{drop}
use Rattle.aqe_trees.specs.Queries.{IsUnionRest, IsFromRest, IsJoinedRest}
use Rattle.aqe_phrases.specs.Written.{Going}
use Rattle.aqe_spell.proofs.query.+query.Given as goal

abbrev pub invariant-union-more : goal.invariant-union-more
invariant-union-more l = Going IsUnionRest l.rest (drop l.next-index l.rest) l.initial.out.items l.out.items

abbrev pub invariant-from-more : goal.invariant-from-more
invariant-from-more l = Going IsFromRest l.rest (drop l.next-index l.rest) l.initial.out.items l.out.items

abbrev pub invariant-joined-more : goal.invariant-joined-more
invariant-joined-more l = Going IsJoinedRest l.rest (drop l.next-index l.rest) l.initial.out.items l.out.items
