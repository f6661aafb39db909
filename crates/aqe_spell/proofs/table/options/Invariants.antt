use Rattle.std.proofs.Common.{drop}
use Rattle.aqe_trees.specs.Lists.{Commas}
use Rattle.aqe_trees.specs.Tables.{IsOption}
use Rattle.aqe_phrases.specs.Written.{Going}
use Rattle.aqe_spell.proofs.table.options.Given as goal

abbrev pub invariant-more : goal.invariant-more
invariant-more l = Going (Commas IsOption) l.rest (drop l.next-index l.rest) l.initial.out.items l.out.items
