use Rattle.std.proofs.lemmas.Result.{err_from_is_err_and}
use Rattle.aqe_run.proofs.RunFacts.{few_opened, script_opened, source_not_read, source_refused}
use Rattle.aqe_run.proofs.opening.opened.Goals as goal

pub returns-in_err-source-clause-refused : goal.returns-in_err-source-clause-refused
returns-in_err-source-clause-refused g c =
    let p = err_from_is_err_and c.from_residual.result c.from_residual.ensures.1 in
    rw (p.1, p.2)
    (source_not_read (g.S.Store.files c.args.store.now) c.args.path.now (g.S.Store.opened c.read_source.new.store) c.in_err-source.field-0.0 (λ e. c.in_err-source.ensures.at_path (cc e)) c.in_err-source.ensures.refused)

pub returns-clause-script : goal.returns-clause-script
returns-clause-script g c =
    script_opened (g.S.Store.files c.args.store.now) c.args.path.now c.in_ok-source.source c.script_of.result
    c.in_ok-source.ensures.content c.in_ok-source.ensures.bound (rw c.slice.ensures at c.script_of.ensures.script)

pub returns-clause-few : goal.returns-clause-few
returns-clause-few g c = few_opened c.in_ok-source.source c.script_of.result c.in_ok-source.ensures.bound (rw c.slice.ensures at c.script_of.ensures.script)

pub returns-clause-refused : goal.returns-clause-refused
returns-clause-refused g c =
    source_refused (g.S.Store.files c.args.store.now) c.args.path.now c.in_ok-source.source (g.S.Store.opened c.read_source.new.store) c.script_of.result
    c.in_ok-source.ensures.content c.in_ok-source.ensures.bound (rw c.slice.ensures at c.script_of.ensures.refused)
