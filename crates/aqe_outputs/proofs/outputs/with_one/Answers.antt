use Rattle.std.proofs.Common.{ℕ, [], length, sym, subst, ◌∙◌}
use Rattle.aqe_outputs.specs.Building.{built_by}
use Rattle.aqe_outputs.specs.Items.{expression}
use Rattle.aqe_sources.specs.Seen.{SaysSeen}
use Rattle.aqe_outputs.specs.Shown.{output_seen, outputs_seen, place_of}
use Rattle.aqe_outputs.proofs.OutputSteps.{nothing_behind, seen-length}
use Rattle.aqe_outputs.proofs.outputs.with_one.Goals as goal

pub returns : goal.returns
returns c =
    let built = built_by c.args.building.now in
    let place = place_of c.args.shown.now in
    let before = outputs_seen c.args.so_far in
    c.with_column.ensures before [] (expression built place (length before) c.args.value.now c.args.alias.now) (nothing_behind before)
    (subst (λ (n : ℕ). SaysSeen output_seen c.expression-column.result (expression built place n c.args.value.now c.args.alias.now)) (c.len.ensures ∙ sym (seen-length c.args.so_far)) c.expression-column.ensures)
