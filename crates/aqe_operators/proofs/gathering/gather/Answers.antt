use Rattle.std.proofs.Common.{sym, subst, take}
use Rattle.std.specs.Prelude.{All}
use Rattle.aqe_operators.specs.Lent.{lent_rows}
use Rattle.aqe_operators.specs.Gathering.{IsWhole}
use Rattle.aqe_operators.proofs.Gathered.{gathered_whole}
use Rattle.aqe_operators.proofs.gathering.gather.Goals as goal

pub add_rows-requires-clause-groups : goal.add_rows-requires-clause-groups
add_rows-requires-clause-groups c =
    subst (All (IsWhole c.args.form.now c.args.calls.now)) (sym c.pieces.invariant)
    (gathered_whole c.args.form.now c.args.calls.now (lent_rows (take c.pieces.piece-index c.args.pieces.now)))
