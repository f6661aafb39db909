use Rattle.std.proofs.Common.{drop}
use Rattle.aqe_trees.specs.Lists.{Commas}
use Rattle.aqe_trees.specs.Queries.{IsItem}
use Rattle.aqe_phrases.specs.Written.{Going}
use Rattle.aqe_spell.proofs.query_leaf.items.Given as goal

abbrev pub invariant-more : goal.invariant-more
invariant-more l = Going (Commas IsItem) l.rest (drop l.next-index l.rest) l.initial.out.items l.out.items
