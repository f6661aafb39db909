use Rattle.std.proofs.Common.{◌<◌, ◌-◌, ◌+◌, ◌∙◌, sym, ap, subst, flat_map, length}
use Rattle.std.specs.List.{find, range_with_len}
use Rattle.std.specs.Option.{option_or}
use Rattle.aqe_scheduler.specs.Rest.{may_end, tasks_of}
use Rattle.aqe_scheduler.specs.Tables.{births_on, done_on, needed_on}
use Rattle.aqe_scheduler.proofs.Ranges.{pieces_step}
use Rattle.aqe_scheduler.proofs.Ready.{births_length}
use Rattle.aqe_scheduler.proofs.rest.next_rest.Goals as goal

pub returns-in-Some-clause-first : goal.returns-in-Some-clause-first
returns-in-Some-clause-first c =
    let n = length (births_on c.args.stages.now) in
    let p = may_end (births_on c.args.stages.now) (needed_on c.args.stages.now) (done_on c.args.stages.now) in
    let f = tasks_of (births_on c.args.stages.now) in
    let below : c.loop-stage.stage < n = subst (λ k. c.loop-stage.stage < k) (sym (births_length c.args.stages.now)) c.loop-stage-test.true in
    sym (c.loop-stage.invariant ∙ pieces_step p f c.loop-stage.stage n below
    ∙ ap (λ o. option_or o (find p (flat_map f (range_with_len (c.loop-stage.stage + 1) (n - (c.loop-stage.stage + 1)))))) (sym c.in-Some.ensures.first))

pub loop-stage-preserved : goal.loop-stage-preserved
loop-stage-preserved c =
    let n = length (births_on c.args.stages.now) in
    let p = may_end (births_on c.args.stages.now) (needed_on c.args.stages.now) (done_on c.args.stages.now) in
    let f = tasks_of (births_on c.args.stages.now) in
    let below : c.loop-stage.stage < n = subst (λ k. c.loop-stage.stage < k) (sym (births_length c.args.stages.now)) c.loop-stage-test.true in
    c.loop-stage.invariant ∙ pieces_step p f c.loop-stage.stage n below
    ∙ ap (λ o. option_or o (find p (flat_map f (range_with_len (c.loop-stage.stage + 1) (n - (c.loop-stage.stage + 1)))))) (sym c.in-None.ensures.first)
