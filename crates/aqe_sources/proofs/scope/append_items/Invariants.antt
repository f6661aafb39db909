use Rattle.std.proofs.Common.{◌≡◌, ◌++◌, take, length}
use Rattle.aqe_rules.specs.Sources.{columns_from}
use Rattle.aqe_sources.specs.Seen.{items_seen}
use Rattle.aqe_sources.proofs.scope.append_items.Given as goal

abbrev pub invariant-items : goal.invariant-items
invariant-items l = l.columns ≡ l.fn.columns ++ columns_from (length l.fn.columns) (items_seen (take l.item-index l.items))
