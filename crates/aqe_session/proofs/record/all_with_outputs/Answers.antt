use Rattle.std.proofs.Common.{arith, ap, length, ◌∙◌}
use Rattle.aqe_steps.proofs.Settling.{nothing_left}
use Rattle.aqe_session.proofs.Rows.{filled_none, filled_more, filled_end}
use Rattle.aqe_session.proofs.record.all_with_outputs.Goals as goal

pub notes-init : goal.notes-init
notes-init c = filled_none c.args.outputs c.args.notes.items c.into_iter-note-iterator.result.rest.items c.new-all.result c.into_iter-note-iterator.ensures.into_iter_gives.0 c.new-all.ensures c.requires.bodies

pub numbered-stage-requires : goal.numbered-stage-requires
numbered-stage-requires c =
    let room = c.notes.invariant.room in
    let left = ap (λ ns. length ns) c.in-Some.ensures.steps.0 in
    let few = c.requires.few in
    let len = c.len.ensures in
    omega (arith, room, left, few, len)

pub notes-preserved : goal.notes-preserved
notes-preserved c =
    filled_more c.args.outputs c.notes.outputs c.with_outputs.new.outputs c.args.notes.items c.notes.note-iterator.rest.items c.next.new.self.rest.items c.notes.all c.push.new.self c.in-Some.note
    c.in_ok-note.note c.numbered-stage.result.0 c.notes.invariant c.in-Some.ensures.steps.0 (c.numbered-stage.ensures ∙ c.len.ensures) c.in_ok-note.ensures.filled c.in_ok-note.ensures.others c.in_ok-push.ensures

pub returns : goal.returns
returns c =
    filled_end c.args.outputs c.notes.outputs c.args.notes.items c.notes.note-iterator.rest.items c.notes.all c.notes.invariant
    (nothing_left c.notes.note-iterator.rest.items c.notes.note-iterator.rest.len c.notes.note-iterator.rest.ok.0 c.in-None.ensures.steps.0)
