use Rattle.std.proofs.Common.{sym, subst, ap, map, ◌∙◌}
use Rattle.std.specs.Prelude.{All}
use Rattle.aqe_operators.specs.Lent.{lent_rows}
use Rattle.aqe_operators.specs.Gathering.{IsWhole, flat}
use Rattle.aqe_operators.proofs.Gathered.{gathered_whole, whole_narrow, grouped_is}
use Rattle.aqe_operators.proofs.aggregating.grouped.Goals as goal

pub into_rows-requires : goal.into_rows-requires
into_rows-requires c =
    whole_narrow c.args.form.now c.args.calls.now c.in_ok-groups.groups.entries c.requires
    (subst (All (IsWhole c.args.form.now c.args.calls.now)) (sym c.in_ok-groups.ensures) (gathered_whole c.args.form.now c.args.calls.now (lent_rows c.args.pieces.now)))

pub returns : goal.returns
returns c = c.in_ok-made.ensures ∙ (ap (map flat) c.in_ok-groups.ensures ∙ grouped_is c.args.form.now c.args.calls.now (lent_rows c.args.pieces.now))
