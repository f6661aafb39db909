use Rattle.std.proofs.Common.{◌≡◌, [], arith, ap, subst, sym, length, refl, rules, ◌∙◌}
use Rattle.std.proofs.lemmas.Result.{err_from_is_err_and}
use Rattle.aqe_tables.proofs.LoadFacts.{keeps_through}
use Rattle.aqe_run.proofs.ScriptFacts.{begun_told, carried_told, rest_built, stopped_told}
use Rattle.aqe_settings.specs.Ranges.{InRange}
use Rattle.aqe_settings.specs.Values.{values_of}
use Rattle.aqe_course.specs.Course.{State, nothing}
use Rattle.aqe_course.specs.Course.Runs.{none as no_statement}
use Rattle.aqe_course.specs.Ending.{left}
use Rattle.aqe_course.proofs.InForce.{all_keep_ranges}
use Rattle.aqe_run.proofs.RunFacts.{has_run_none, has_run_then}
use Rattle.aqe_course.specs.Laws.{AreInRange, HasShapedTables}
use Rattle.aqe_run.specs.Steps.{state_of}
use Rattle.aqe_run.proofs.run.all_carried_out.Goals as goal

pub statements-init : goal.statements-init
statements-init g c =
    let no_table : length c.new-made.result.catalog ≡ 0 = ap (λ (s : State). length s.catalog) c.new-made.ensures in
    let unanswered : c.new-made.result.answered ≡ 0 = ap (λ (s : State). s.answered) c.new-made.ensures in
    let shaped : HasShapedTables (state_of c.new-made.result) = subst HasShapedTables (sym c.new-made.ensures) (λ n. tt) in
    let defaults : AreInRange nothing [] = all_keep_ranges [] [] [] [] nothing (no_statement nothing []) in
    let same : nothing.settings ≡ values_of c.new-made.result.settings = sym (ap (λ (s : State). s.settings) c.new-made.ensures) in
    let range : InRange (values_of c.new-made.result.settings) = subst InRange same defaults.0 in
    rw c.new-made.ensures (record {
      keeps = search rules;
      faults = refl;
      misses = refl;
      written = refl;
      so_far = begun_told (g.S.Store.files c.args.store.now) c.args.script.now (left c.args.journal.now (g.O.Sink.taken c.args.out.now));
      ran = has_run_none c.args.journal.now (g.R.Runner.ran c.args.runner.now);
      counted = unanswered ∙ ap length (sym c.requires.empty);
      range = range;
      built = c.requires.built;
      shaped = shaped;
      few = omega (arith, no_table, unanswered);
    })

pub returns-in_err-carried_out-clause-early : goal.returns-in_err-carried_out-clause-early
returns-in_err-carried_out-clause-early g c =
    let p = err_from_is_err_and c.from_residual.result c.from_residual.ensures.1 in
    rw (p.1, p.2)
    (stopped_told (g.S.Store.files c.args.store.now) (g.S.Store.files c.statements.store) c.args.script.now c.statements.left.now c.in-Some.rest.now (state_of c.statements.made) c.in-Some.one.now
    c.in_err-carried_out.field-0.0 (left c.args.journal.now (g.O.Sink.taken c.args.out.now)) (left c.statements.journal (g.O.Sink.taken c.statements.out)) (left c.carried_out.new.journal (g.O.Sink.taken c.carried_out.new.out)) c.statements.invariant.keeps c.in-Some.ensures c.statements.invariant.so_far
    c.in_err-carried_out.ensures.refused (λ e. c.in_err-carried_out.ensures.reads (cc e)) c.in_err-carried_out.ensures.stops (λ w. c.in_err-carried_out.ensures.front (cc w)))

pub statements-preserved : goal.statements-preserved
statements-preserved g c = record {
  keeps = keeps_through (g.S.Store.files c.args.store.now) (g.S.Store.files c.statements.store) (g.S.Store.files c.carried_out.new.store) c.statements.invariant.keeps c.in_ok-carried_out.ensures.step.keeps;
  faults = c.in_ok-carried_out.ensures.step.steady (λ e. cc e) ∙ c.statements.invariant.faults;
  misses = c.in_ok-carried_out.ensures.step.found (λ e. cc e) ∙ c.statements.invariant.misses;
  written = c.in_ok-carried_out.ensures.sink.steady (λ e. cc e) ∙ c.statements.invariant.written;
  so_far = carried_told (g.S.Store.files c.args.store.now) (g.S.Store.files c.statements.store) c.args.script.now c.statements.left.now c.in-Some.rest.now (state_of c.statements.made) (state_of c.carried_out.new.made)
      c.in-Some.one.now (left c.args.journal.now (g.O.Sink.taken c.args.out.now)) (left c.statements.journal (g.O.Sink.taken c.statements.out)) (left c.carried_out.new.journal (g.O.Sink.taken c.carried_out.new.out)) c.statements.invariant.keeps c.in-Some.ensures
      c.statements.invariant.so_far c.in_ok-carried_out.ensures.done;
  built = rest_built c.statements.left.now c.in-Some.rest.now c.in-Some.one.now c.in-Some.ensures c.statements.invariant.built;
  shaped = c.in_ok-carried_out.ensures.shaped;
  ran = has_run_then c.args.journal.now c.statements.journal c.carried_out.new.journal _ _ _ c.statements.invariant.ran (c.in_ok-carried_out.ensures.ran (λ e. cc e));
  counted = c.in_ok-carried_out.ensures.counted;
  range = subst (λ s. InRange (values_of s)) (sym c.in_ok-carried_out.ensures.in_force) c.statements.invariant.range;
  few = omega (arith, c.statements.invariant.few, c.in_ok-carried_out.ensures.few, ap length c.in-Some.ensures);
}

pub returns-in_err-carried_out-clause-ran : goal.returns-in_err-carried_out-clause-ran
returns-in_err-carried_out-clause-ran g c n =
    let p = err_from_is_err_and c.from_residual.result c.from_residual.ensures.1 in
    has_run_then c.args.journal.now c.statements.journal c.carried_out.new.journal _ _ _ c.statements.invariant.ran (c.in_err-carried_out.ensures.ran (λ e. n (rw (p.1, p.2) e)))
