use Rattle.std.proofs.Common.{[], map, take}
use Rattle.aqe_rules.specs.Expressions.{alone_of}
use Rattle.aqe_rules.specs.Faults.{Says}
use Rattle.aqe_rules.specs.Outcomes.{each}
use Rattle.aqe_rules.specs.Selects.{grouping_key, with_aliases}
use Rattle.aqe_sources.specs.Seen.{items_seen}
use Rattle.aqe_grouping.proofs.group_by.grouping_keys.Given as goal

abbrev pub invariant-keys : goal.invariant-keys
invariant-keys l =
    Says l.keys (each (map (λ value. grouping_key l.has_from (items_seen l.items) (with_aliases l.columns l.list []) l.list value (alone_of value)) (take l.value-index l.group)))
