use Rattle.std.proofs.Common.{◌∙◌, length}
use Rattle.aqe_logical.specs.Groups.{group_rows, row_of}
use Rattle.aqe_operators.specs.Lent.{lent_rows}
use Rattle.aqe_operators.proofs.Gathered.{partial_is}
use Rattle.aqe_operators.proofs.aggregating.partial_lent.Goals as goal

pub returns-in-Ok : goal.returns-in-Ok
returns-in-Ok c =
    c.in-Ok.ensures ∙ (partial_is c.slice.result c.slice-2.result.now (lent_rows c.args.pieces.now) ∙
    (λ i. group_rows (length (c.slice.ensures i)) (row_of (c.slice.ensures i)) (c.slice-2.ensures i) (lent_rows c.args.pieces.now)))
