use Rattle.aqe_spell.proofs.Tables.{create_spelled}
use Rattle.aqe_spell.proofs.table.table.Goals as goal

pub returns : goal.returns
returns c =
    create_spelled {columns = c.args.form.now.columns} {pairs = c.args.form.now.options} c.in_ok-fixed.ensures c.in_ok-word.ensures c.in_ok-name.ensures c.in_ok-fixed-2.ensures (rw (← c.slice.ensures) c.in_ok-columns.ensures) c.in_ok-fixed-3.ensures c.in_ok-fixed-4.ensures c.in_ok-word-2.ensures (rw (← c.slice-2.ensures) c.in_ok-place.ensures)
