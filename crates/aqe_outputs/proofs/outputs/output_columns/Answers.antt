use Rattle.std.proofs.Common.{List, [], ◌≡◌, fold, take, Ok, subst, arith}
use Rattle.std.proofs.lemmas.List.{take_all}
use Rattle.aqe_trees.specs.declared.query.ItemTree.{ItemTree}
use Rattle.aqe_sources.specs.Seen.{items_seen, SaysSeen}
use Rattle.aqe_outputs.specs.Building.{built_by}
use Rattle.aqe_outputs.specs.Shown.{outputs_seen, place_of, next_item}
use Rattle.aqe_outputs.proofs.OutputSteps.{items-all}
use Rattle.aqe_outputs.proofs.outputs.output_columns.Goals as goal

pub returns : goal.returns
returns c =
    let s = c.args.shown.now in
    let list = c.args.list.now in
    let built = built_by c.args.building.now in
    let whole : take c.items.item-index list ≡ list = take_all c.items.item-index list (omega arith) in
    rw (← items-all built s.has_from (items_seen s.items) (place_of s) list)
    (subst (λ (l : List ItemTree). SaysSeen outputs_seen c.items.so_far (fold (next_item built s) (Ok []) l)) whole c.items.invariant)
