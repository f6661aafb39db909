use Rattle.std.proofs.Common.{◌∙◌, arith, ap, length, length-append}
use Rattle.std.proofs.lemmas.Result.{err_from_is_err_and}
use Rattle.aqe_tables.proofs.LoadFacts.{keeps_through, read_more_told, stop_told, wide_more}
use Rattle.aqe_tables.proofs.load.read_files.Goals as goal

pub returns-in_err-file-clause-refused : goal.returns-in_err-file-clause-refused
returns-in_err-file-clause-refused g c =
    let p = err_from_is_err_and c.from_residual.result c.from_residual.ensures.1 in
    rw (p.1, p.2)
    (stop_told (g.S.Store.files c.args.store.now) (g.S.Store.files c.files.store) c.args.table.now c.args.names.now c.args.before c.files.name-index c.files.files c.files.total
    c.name-item.result c.in_err-file.field-0.0 c.files.invariant.keeps c.files.invariant.read c.in_err-file.ensures.refused c.files-test.true c.name-item.is)

pub files-preserved : goal.files-preserved
files-preserved g c = record {
  keeps = keeps_through (g.S.Store.files c.args.store.now) (g.S.Store.files c.files.store) (g.S.Store.files c.read_file.new.store) c.files.invariant.keeps c.in_ok-file.ensures.step.keeps;
  faults = c.in_ok-file.ensures.step.steady (λ e. cc e) ∙ c.files.invariant.faults;
  misses = c.in_ok-file.ensures.step.found (λ e. cc e) ∙ c.files.invariant.misses;
  read = rw c.in_ok-push.ensures
      (read_more_told (g.S.Store.files c.args.store.now) (g.S.Store.files c.files.store) c.args.table.now c.args.names.now c.args.before c.files.name-index c.files.files c.files.total
      c.name-item.result c.in_ok-file.file c.files.invariant.keeps c.files.invariant.read c.in_ok-file.ensures.read c.files-test.true c.name-item.is);
  count = ap length c.in_ok-push.ensures ∙ length-append c.files.files _ ∙ omega (arith, c.files.invariant.count);
  wide = rw c.in_ok-push.ensures (wide_more _ c.files.files c.in_ok-file.file.rows c.files.invariant.wide c.in_ok-file.ensures.wide);
  begun = omega (arith, c.files.invariant.begun);
  room = c.in_ok-file.ensures.room;
}
