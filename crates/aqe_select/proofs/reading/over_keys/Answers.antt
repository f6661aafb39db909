use Rattle.aqe_select.proofs.ReadingSteps.{slices_say}
use Rattle.aqe_select.proofs.reading.over_keys.Goals as goal

pub returns : goal.returns
returns c =
    rw (c.with_keys.ensures, c.both_of.ensures)
    (slices_say c.args.clauses.now c.args.is_grouped c.args.shown.now c.args.keys c.slice.result.now c.slice-2.result.now c.slice-3.result.now c.slice-4.result.now
    c.output_columns-outputs.result c.having-having.result c.slice.ensures c.slice-2.ensures c.slice-3.ensures c.slice-4.ensures c.output_columns-outputs.ensures c.having-having.ensures)
