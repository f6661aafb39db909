use Rattle.std.proofs.Common.{◌<◌, ◌≤◌, ◌-◌, ◌+◌, ◌∙◌, ◌&&◌, sym, ap, subst, arith}
use Rattle.std.specs.List.{list_all, range_with_len}
use Rattle.aqe_scheduler.specs.Tables.{done_on}
use Rattle.aqe_scheduler.proofs.Ranges.{all_skip, all_step, all_over}
use Rattle.aqe_scheduler.proofs.fates.maps_are_done.Goals as goal

pub loop-map-init : goal.loop-map-init
loop-map-init c =
    all_skip (done_on c.args.stages.now c.args.need.stage.0) c.args.need.m0 c.later-begin.result c.args.need.m1 c.later-begin.ensures.from
    (λ t low high. c.requires c.args.need.stage.0 t (subst (λ n. t < n) c.first_of.ensures (c.later-begin.ensures.before t low high)))

pub loop-map-preserved : goal.loop-map-preserved
loop-map-preserved c =
    let p = done_on c.args.stages.now c.args.need.stage.0 in
    c.loop-map.invariant ∙ all_step p c.loop-map.map c.args.need.m1 c.loop-map-test.true
    ∙ ap (λ b. b && list_all p (range_with_len (c.loop-map.map + 1) (c.args.need.m1 - (c.loop-map.map + 1)))) (sym c.is_done.ensures ∙ c.if-not-is_done.false)

pub returns-then-not-is_done : goal.returns-then-not-is_done
returns-then-not-is_done c =
    let p = done_on c.args.stages.now c.args.need.stage.0 in
    sym (c.loop-map.invariant ∙ all_step p c.loop-map.map c.args.need.m1 c.loop-map-test.true
    ∙ ap (λ b. b && list_all p (range_with_len (c.loop-map.map + 1) (c.args.need.m1 - (c.loop-map.map + 1)))) (sym c.is_done.ensures ∙ c.if-not-is_done.true))

pub returns : goal.returns
returns c =
    let past : c.args.need.m1 ≤ c.loop-map.map = omega arith in
    sym (c.loop-map.invariant ∙ all_over (done_on c.args.stages.now c.args.need.stage.0) c.loop-map.map c.args.need.m1 past)
