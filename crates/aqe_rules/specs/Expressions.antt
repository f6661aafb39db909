-- What an expression's tree means at a place, and what can be seen of it.
use Rattle.std.specs.Prelude.{List, Bool}
use Rattle.aqe_trees.specs.declared.expression.OrTree.{OrTree}
use Rattle.aqe_rules.specs.Trees.{made_of}
use Rattle.aqe_rules.specs.Readings.{Place, Reading, readings}
use Rattle.aqe_rules.specs.Looks.{Mention, mentions, aggregates, Alone, alone}

abbrev pub read : OrTree → Place → Reading
read = made_of readings

abbrev pub mentions_of : OrTree → List Mention
mentions_of = made_of mentions

abbrev pub alone_of : OrTree → Alone
alone_of = made_of alone

abbrev pub has_aggregate : OrTree → Bool
has_aggregate = made_of aggregates
