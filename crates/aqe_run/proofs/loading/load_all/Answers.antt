use Rattle.std.proofs.Common.{◌∙◌, ◌<◌, length}
use Rattle.std.proofs.lemmas.Result.{err_from_is_err_and}
use Rattle.aqe_tables.proofs.LoadFacts.{keeps_through}
use Rattle.aqe_run.proofs.LoadFacts.{all_left, all_rest, behind_all, behind_next, behind_refused, covers_next, within_rest}
use Rattle.aqe_run.proofs.loading.load_all.Goals as goal

pub returns-in_err-load_one-clause-refused : goal.returns-in_err-load_one-clause-refused
returns-in_err-load_one-clause-refused g c =
    let p = err_from_is_err_and c.from_residual.result c.from_residual.ensures.1 in
    rw (p.1, p.2)
    (behind_refused (g.S.Store.files c.args.store.now) (g.S.Store.files c.tables.store) c.args.catalog.now c.args.tables.now c.tables.tables c.args.numbers.now c.in-Some.rest.now c.tables.left.now
    c.in-Some.table c.in_err-load_one.field-0.0 c.tables.invariant.keeps c.in-Some.ensures c.tables.invariant.behind c.in_err-load_one.ensures.refused)

pub tables-preserved : goal.tables-preserved
tables-preserved g c = record {
  keeps = keeps_through (g.S.Store.files c.args.store.now) (g.S.Store.files c.tables.store) (g.S.Store.files c.load_one.new.store) c.tables.invariant.keeps c.in_ok-load_one.ensures.step.keeps;
  faults = c.in_ok-load_one.ensures.step.steady (λ e. cc e) ∙ c.tables.invariant.faults;
  misses = c.in_ok-load_one.ensures.step.found (λ e. cc e) ∙ c.tables.invariant.misses;
  behind = behind_next (g.S.Store.files c.args.store.now) (g.S.Store.files c.tables.store) c.args.catalog.now c.args.tables.now c.tables.tables c.load_one.new.tables c.args.numbers.now c.in-Some.rest.now
      c.tables.left.now c.in-Some.table c.tables.invariant.keeps c.in-Some.ensures c.tables.invariant.behind c.in_ok-load_one.ensures.next;
  covers = covers_next c.tables.tables c.load_one.new.tables c.in-Some.rest.now c.tables.left.now c.args.numbers.now c.in-Some.table c.in-Some.ensures c.tables.invariant.covers
      c.in_ok-load_one.ensures.stays c.in_ok-load_one.ensures.loaded;
  stays = λ n l. c.in_ok-load_one.ensures.stays n (c.tables.invariant.stays n l);
  left = λ h. within_rest c.args.tables.now c.args.numbers.now c.in-Some.rest.now c.tables.left.now c.in-Some.table c.in-Some.ensures c.tables.invariant.left h;
  shaped = c.in_ok-load_one.ensures.shaped;
  within = all_rest (λ n. n < length c.args.catalog.now) c.in-Some.rest.now c.tables.left.now c.in-Some.table c.in-Some.ensures c.tables.invariant.within;
}

pub returns-clause-all : goal.returns-clause-all
returns-clause-all g c =
    behind_all (g.S.Store.files c.args.store.now) c.args.catalog.now c.args.tables.now c.tables.tables c.args.numbers.now c.tables.left.now c.in_default.ensures c.tables.invariant.behind

pub returns-in_err-load_one-clause-reads : goal.returns-in_err-load_one-clause-reads
returns-in_err-load_one-clause-reads g c e =
    let p = err_from_is_err_and c.from_residual.result c.from_residual.ensures.1 in
    all_left c.args.tables.now c.tables.tables c.args.numbers.now c.in-Some.rest.now c.tables.left.now c.in-Some.table c.in-Some.ensures c.tables.invariant.stays c.tables.invariant.left
    (c.in_err-load_one.ensures.reads (rw (p.1, p.2) at e))
