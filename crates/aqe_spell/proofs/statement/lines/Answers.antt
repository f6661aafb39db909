use Rattle.std.proofs.Common.{◌∷◌, ◌+◌, drop, sym, ap, ◌∙◌}
use Rattle.aqe_phrases.proofs.Leaves.{from_next}
use Rattle.aqe_spell.proofs.Scripts.{reached_step}
use Rattle.aqe_spell.proofs.statement.lines.Goals as goal

pub statements-preserved : goal.statements-preserved
statements-preserved c = λ w.
    reached_step c.args.script.now c.next-item.result _ _ _ _ _
    (from_next c.args.script.now c.statements.next-index c.next-item.result c.statements-test.true
    ∙ ap (λ y. y ∷ drop (c.statements.next-index + 1) c.args.script.now) (sym c.next-item.is))
    (c.statements.invariant w) c.in_ok-statement.ensures c.in_ok-end.ensures
