use Rattle.std.proofs.Common.{◌∙◌, sym, ap, length, arith, take, rules}
use Rattle.std.proofs.lemmas.List.{length-take}
use Rattle.csv.specs.Records.{fields_of}
use Rattle.aqe_values.specs.declared.schema.Field.{Field}
use Rattle.aqe_records.proofs.RowFacts.{field_at-short, length-row_of, row_of-take}
use Rattle.aqe_records.proofs.records.row_of.Goals as goal

pub cell_of-requires : goal.cell_of-requires
cell_of-requires c x e =
    field_at-short (fields_of c.args.entry.now) c.columns.i x.now c.requires.short (sym (rw e at c.get.ensures.value))

pub push-requires : goal.push-requires
push-requires c =
    let size = ap length c.columns.invariant ∙ length-row_of (take c.columns.i c.args.columns.now) (fields_of c.args.entry.now)
    ∙ length-take c.columns.i c.args.columns.now in
    omega (arith, size, c.requires.width)

pub columns-preserved : goal.columns-preserved
columns-preserved c =
    let more = row_of-take c.args.columns.now (fields_of c.args.entry.now) c.columns.i c.index-columns-i.result (search rules) in
    let kind = ap (λ (f : Field). f.kind) c.index-columns-i.is in
    rw (more, ← c.columns.invariant, ← kind, ← c.get.ensures.value, ← c.in_ok-value.ensures) c.in_ok-push.ensures
