use Rattle.std.proofs.Common.{sym, subst, take}
use Rattle.std.specs.Prelude.{All}
use Rattle.aqe_operators.specs.Gathering.{IsWhole}
use Rattle.aqe_operators.proofs.Gathered.{rows_whole}
use Rattle.aqe_operators.proofs.gathering.add_rows.Goals as goal

pub add_row-requires-clause-groups : goal.add_row-requires-clause-groups
add_row-requires-clause-groups c =
    subst (All (IsWhole c.args.form.now c.args.calls.now)) (sym c.rows.invariant)
    (rows_whole c.args.form.now c.args.calls.now c.args.groups.now.entries (take c.rows.row-index c.args.rows.now) c.requires.groups)
