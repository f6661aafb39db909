use Rattle.std.proofs.Common.{List, [], map, take, subst, arith}
use Rattle.std.proofs.lemmas.List.{take_all}
use Rattle.aqe_trees.specs.declared.expression.OrTree.{OrTree}
use Rattle.aqe_rules.specs.declared.names.Named.{Named}
use Rattle.aqe_rules.specs.Expressions.{alone_of}
use Rattle.aqe_rules.specs.Faults.{Says}
use Rattle.aqe_rules.specs.Outcomes.{each}
use Rattle.aqe_rules.specs.Selects.{grouping_key, with_aliases}
use Rattle.aqe_sources.specs.Seen.{items_seen}
use Rattle.aqe_grouping.proofs.PositionPlaces.{keys_more}
use Rattle.aqe_grouping.proofs.group_by.grouping_keys.Goals as goal

pub keys-preserved : goal.keys-preserved
keys-preserved c =
    let f = λ (value : OrTree). grouping_key c.args.has_from (items_seen c.args.items.now) (with_aliases c.args.columns.now c.args.list.now []) c.args.list.now value (alone_of value) in
    keys_more f c.args.group.now c.keys.value-index c.value-item.result c.with_one-keys.result c.keys-test.true c.value-item.is
    (c.with_one-keys.ensures (each (map f (take c.keys.value-index c.args.group.now))) (f c.value-item.result) c.keys.invariant c.key.ensures)

pub returns : goal.returns
returns c =
    let f = λ (columns : List Named) (value : OrTree).
    grouping_key c.args.has_from (items_seen c.args.items.now) (with_aliases columns c.args.list.now []) c.args.list.now value (alone_of value) in
    let group = c.args.group.now in
    subst (λ (columns : List Named). Says c.keys.keys (each (map (f columns) group))) c.requires
    (subst (λ (l : List OrTree). Says c.keys.keys (each (map (f c.args.columns.now) l))) (take_all c.keys.value-index group (omega arith)) c.keys.invariant)
