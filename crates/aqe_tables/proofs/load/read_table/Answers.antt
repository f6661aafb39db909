use Rattle.std.proofs.Common.{refl}
use Rattle.std.proofs.lemmas.Result.{err_from_is_err_and}
use Rattle.aqe_tables.proofs.LoadFacts.{cause_told, listing_told, table_told}
use Rattle.aqe_tables.proofs.load.read_table.Goals as goal

pub returns-in_err-read-clause-refused : goal.returns-in_err-read-clause-refused
returns-in_err-read-clause-refused g c =
    let p = err_from_is_err_and c.from_residual-in_err-read.result c.from_residual-in_err-read.ensures.1 in
    rw (p.1, p.2)
    (cause_told (g.S.Store.files c.args.store.now) (g.S.Store.files c.data_names.new.store) c.args.table.now c.in_ok-names.names c.args.before c.in_err-read.field-0.0
    c.in_ok-names.ensures.step.keeps c.in_ok-names.ensures.names c.in_ok-names.ensures.few (rw c.slice.ensures at c.in_err-read.ensures.refused))

pub returns-clause-table : goal.returns-clause-table
returns-clause-table g c =
    table_told (g.S.Store.files c.args.store.now) (g.S.Store.files c.data_names.new.store) c.args.table.now c.in_ok-names.names c.args.before c.in_ok-read.read.bytes c.in_ok-read.read.files
    (record { files = c.in_ok-files.files; bytes = c.in_ok-read.read.bytes })
    c.in_ok-names.ensures.step.keeps c.in_ok-names.ensures.there c.in_ok-names.ensures.names c.in_ok-names.ensures.few
    (rw c.slice.ensures at c.in_ok-read.ensures.read) c.in_ok-files.ensures refl

pub returns-in_err-names-clause-refused : goal.returns-in_err-names-clause-refused
returns-in_err-names-clause-refused g c =
    let p = err_from_is_err_and c.from_residual.result c.from_residual.ensures.1 in
    rw (p.1, p.2)
    (listing_told (g.S.Store.files c.args.store.now) c.args.table.now c.args.before c.in_err-names.field-0.0 c.in_err-names.ensures.refused)
