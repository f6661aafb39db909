use Rattle.std.proofs.Common.{◌∙◌, ℕ, sym}
use Rattle.std.proofs.lemmas.Result.{IfOk-weaker}
use Rattle.aqe_logical.specs.Columns.{width}
use Rattle.aqe_join_plan.specs.Widths.{shown_width}
use Rattle.aqe_join_plan.proofs.WidthSteps.{width-join}
use Rattle.aqe_join_plan.proofs.widths.+width_of.Goals as goal

pub returns-in-Join : goal.returns-in-Join
returns-in-Join t c =
    IfOk-weaker c.shown.result _ _ (λ (n : ℕ) h.
    h ∙ ((λ i. shown_width c.in-Join.kind (width (c.get.ensures i)) (width (c.get-in-Join.ensures i))) ∙
    sym (width-join c.args.logical.now c.in-Join.kind c.in-Join.cond c.in-Join.left c.in-Join.right c.in-Join.is)))
    (c.shown.ensures (width c.get.result.now) (width c.get-in-Join.result.now) c.width_of.ensures c.width_of-in-Join.ensures)
