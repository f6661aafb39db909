use Rattle.std.proofs.Common.{◌≡◌, length}
use Rattle.aqe_typing.specs.Aliases.{under_aliases}
use Rattle.aqe_typing.proofs.aliases.first_named.Given as goal

abbrev pub invariant-items : goal.invariant-items
invariant-items l = under_aliases l.name l.list ≡ under_aliases l.name l.rest

abbrev pub decreases-items : goal.decreases-items
decreases-items l = length l.rest
