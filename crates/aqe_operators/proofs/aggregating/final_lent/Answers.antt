use Rattle.std.proofs.Common.{◌∙◌}
use Rattle.aqe_operators.specs.declared.form.Form.TheVariants.{Partial}
use Rattle.aqe_operators.specs.Lent.{lent_rows}
use Rattle.aqe_operators.specs.Gathering.{grouped_by}
use Rattle.aqe_operators.proofs.Gathered.{final_is}
use Rattle.aqe_operators.proofs.aggregating.final_lent.Goals as goal

pub returns-in-Ok : goal.returns-in-Ok
returns-in-Ok c =
    c.in-Ok.ensures ∙ ((λ i. grouped_by (Partial c.args.keys) (c.slice.ensures i) (lent_rows c.args.pieces.now)) ∙
    final_is c.args.keys c.args.calls.now (lent_rows c.args.pieces.now))
