use Rattle.std.proofs.Common.{◌∙◌, sym, subst}
use Rattle.aqe_session.proofs.Keeping.{TakenTo, taken_none, taken_kept, taken_not, taken_end}
use Rattle.aqe_session.proofs.record.taken_out.Goals as goal
use Rattle.aqe_session.proofs.record.taken_out.Goals.{then-is_kept+in_ok-push, else-is_kept}

pub maps-init : goal.maps-init
maps-init c = subst (λ taken. TakenTo c.args.outputs.now c.args.outputs.now c.args.stage.0 0 taken) (sym c.new-taken.ensures) (taken_none c.args.outputs.now c.args.stage.0)

pub maps-preserved : goal.maps-preserved
maps-preserved c = elim c.if-is_kept.branch [
  | then-is_kept+in_ok-push w ↦ rw (w.outputs-is, w.taken-is)
      (taken_kept c.args.outputs.now c.maps.outputs _ c.args.stage.0 c.maps.m c.maps.taken _ _ c.maps.invariant w.release.ensures.value w.release.ensures.at w.in_ok-push.ensures)
  | else-is_kept w ↦ rw (w.outputs-is, w.taken-is) (taken_not c.args.outputs.now c.maps.outputs c.args.stage.0 c.maps.m c.maps.taken c.maps.invariant (sym c.is_kept.ensures ∙ w.if-is_kept.false))
]

pub returns-clause-taken : goal.returns-clause-taken
returns-clause-taken c = taken_end c.args.outputs.now c.maps.outputs c.args.stage.0 c.maps.m c.args.maps c.maps.taken c.maps.invariant c.maps.auto.m-end c.maps-test.false

pub returns-clause-others : goal.returns-clause-others
returns-clause-others c = c.maps.invariant.others
