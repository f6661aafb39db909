use Rattle.std.proofs.lemmas.Result.{err_from_is_err_and}
use Rattle.aqe_tables.proofs.FolderFacts.{many_told, sorted_told}
use Rattle.aqe_tables.proofs.folder.data_names.Goals as goal

pub returns-in_err-few-clause-refused : goal.returns-in_err-few-clause-refused
returns-in_err-few-clause-refused g c =
    let p = err_from_is_err_and c.from_residual-in_err-few.result c.from_residual-in_err-few.ensures.1 in
    rw (p.1, p.2)
    (many_told (g.S.Store.files c.args.store.now) c.args.table.now c.in-Ok.names c.in_ok-sorted.sorted c.in_err-few.field-0.0 (rw c.as_str.ensures.value at c.in-Ok.ensures.names)
    c.in_ok-sorted.ensures.kept c.in_ok-sorted.ensures.rising c.in_err-few.ensures.1 c.in_err-few.ensures.0)

pub returns-clause-names : goal.returns-clause-names
returns-clause-names g c =
    rw c.in_ok-few.ensures.0
    (sorted_told (g.S.Store.files c.args.store.now) c.args.table.now.location c.in-Ok.names c.in_ok-sorted.sorted (rw c.as_str.ensures.value at c.in-Ok.ensures.names)
    c.in_ok-sorted.ensures.kept c.in_ok-sorted.ensures.rising)
