use Rattle.std.proofs.Common.{◌∙◌, ◌<◌, ◌&&◌, length, arith}
use Rattle.aqe_journal.specs.Needed.{stage_reads}
use Rattle.aqe_needs.specs.Flags.{marked}
use Rattle.aqe_needs.specs.Noted.{stage_of}
use Rattle.aqe_needs.proofs.Marking.{first, step, ended, inside, smaller}
use Rattle.aqe_needs.proofs.marks.needed.Goals as goal

pub stages-init : goal.stages-init
stages-init c =
    first (marked c.args.whole.now) c.args.plan.now c.args.stages.now c.in_ok-flags.flags c.in_ok-marks.marks.items _ (search) c.in_ok-flags.ensures c.in_ok-marks.ensures.items

pub note_at-stage-requires : goal.note_at-stage-requires
note_at-stage-requires c = inside (marked c.args.whole.now) c.args.plan.now c.args.stages.now c.pop.result c.stages.flags c.pop.new.self c.stages.marks.items c.in-Some.is_read c.len-n.result c.stages.invariant c.pop.ensures c.in-Some.is c.len-n.ensures

pub whole_at-requires : goal.whole_at-requires
whole_at-requires c =
    let below : c.len-n.result < length c.args.stages.now = inside (marked c.args.whole.now) c.args.plan.now c.args.stages.now c.pop.result c.stages.flags c.pop.new.self c.stages.marks.items c.in-Some.is_read c.len-n.result c.stages.invariant c.pop.ensures c.in-Some.is c.len-n.ensures in
    omega (arith, below, c.requires)

pub stages-preserved : goal.stages-preserved
stages-preserved c =
    step c.args.whole.now c.args.plan.now c.args.stages.now c.len-n.result c.note_at-stage.result.now c.pop.result c.stages.flags c.pop.new.self c.mark_stage.new.flags c.stages.marks.items c.push.new.self.items
    c.in-Some.is_read c.whole_at.result c.is_open-goes.result c.is_marked-is_needed.result c.stages.invariant c.pop.ensures c.in-Some.is c.len-n.ensures c.note_at-stage.ensures c.whole_at.ensures
    c.is_marked-is_needed.ensures c.is_open-goes.ensures c.mark_stage.ensures c.in_ok-push.ensures.items

pub stages-smaller : goal.stages-smaller
stages-smaller c =
    smaller (λ s. c.is_open-goes.result && stage_reads (stage_of c.note_at-stage.result.now) s) c.pop.result c.stages.flags c.pop.new.self c.mark_stage.new.flags c.in-Some.is_read c.pop.ensures c.in-Some.is c.mark_stage.ensures

pub returns : goal.returns
returns c =
    ended c.args.whole.now c.args.plan.now c.args.stages.now c.pop.result c.stages.flags c.pop.new.self c.stages.marks.items c.from_vec.result c.stages.invariant c.pop.ensures c.in_default.is
    (c.from_vec.ensures ∙ c.reverse.ensures.items)
