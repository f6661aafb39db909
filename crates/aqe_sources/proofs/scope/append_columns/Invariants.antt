use Rattle.std.proofs.Common.{◌≡◌, ◌++◌, take, length}
use Rattle.aqe_rules.specs.Sources.{numbered}
use Rattle.aqe_sources.proofs.scope.append_columns.Given as goal

abbrev pub invariant-fields : goal.invariant-fields
invariant-fields l = l.columns ≡ l.fn.columns ++ numbered l.item.name (length l.fn.columns) (take l.field-index l.field-items)
