use Rattle.std.proofs.Common.{arith, subst, sym, ◌∙◌}
use Rattle.aqe_settings.specs.Ranges.{InRange}
use Rattle.aqe_settings.specs.Values.{values_of}
use Rattle.aqe_tables.specs.Loaded.{AreShaped}
use Rattle.aqe_run.specs.Steps.{state_of}
use Rattle.aqe_run.proofs.Asking.{can_be_asked}
use Rattle.aqe_run.proofs.Printing.{any_ok, behind_printed, wants_ends, wants_no_read, wants_ran, wants_refuses, wants_step}
use Rattle.aqe_run.proofs.RunFacts.{has_run_none}
use Rattle.aqe_run.proofs.statement.evaluated.Goals as goal

pub printed-requires : goal.printed-requires
printed-requires g c =
    let few = c.requires.few in
    let same = c.in-Ok.ensures.uncounted in
    record {
      query = can_be_asked c.args.made.now.catalog c.load_scans.new.made.tables (subst (λ catalog. AreShaped catalog c.load_scans.new.made.tables) c.in-Ok.ensures.kept c.in-Ok.ensures.shaped) c.args.plan
          c.requires.form c.requires.formed c.in-Ok.ensures.loaded c.requires.columns;
      range = subst (λ s. InRange (values_of s)) (sym c.in-Ok.ensures.in_force) c.requires.range;
      few = omega (arith, few, same);
      counted = c.in-Ok.ensures.uncounted ∙ c.requires.counted;
    }

pub returns-in-Ok-clause-loaded : goal.returns-in-Ok-clause-loaded
returns-in-Ok-clause-loaded g c = rw c.printed.ensures.tables (any_ok _ c.printed.result (λ text. c.in-Ok.ensures.all))

pub returns-in-Ok-clause-shaped : goal.returns-in-Ok-clause-shaped
returns-in-Ok-clause-shaped g c = rw (c.printed.ensures.kept, c.printed.ensures.tables) c.in-Ok.ensures.shaped

pub returns-in-Ok-clause-text : goal.returns-in-Ok-clause-text
returns-in-Ok-clause-text g c = rw (c.printed.ensures.tables, ← c.in-Ok.ensures.uncounted, ← c.in-Ok.ensures.in_force) c.printed.ensures.text

pub returns-in-Ok-clause-behind : goal.returns-in-Ok-clause-behind
returns-in-Ok-clause-behind g c =
    rw c.printed.ensures.tables
    (behind_printed (g.S.Store.files c.args.store.now) (state_of c.args.made.now) c.args.plan c.load_scans.new.made.tables c.args.journal.now c.printed.new.journal c.printed.result c.printed.ensures.memory
    c.in-Ok.ensures.all (rw (← c.in-Ok.ensures.uncounted, ← c.in-Ok.ensures.in_force) c.printed.ensures.behind))

pub returns-in-Ok-clause-counted : goal.returns-in-Ok-clause-counted
returns-in-Ok-clause-counted g c = rw (← c.in-Ok.ensures.uncounted) c.printed.ensures.counted

pub returns-in-Ok-clause-uncounted : goal.returns-in-Ok-clause-uncounted
returns-in-Ok-clause-uncounted g c = rw (← c.in-Ok.ensures.uncounted) c.printed.ensures.uncounted

pub returns-in-Ok-clause-refused : goal.returns-in-Ok-clause-refused
returns-in-Ok-clause-refused g c = wants_refuses (g.S.Store.files c.args.store.now) c.args.made.now.catalog c.args.made.now.tables _ c.printed.result c.printed.ensures.memory

pub returns-in-Ok-clause-reads : goal.returns-in-Ok-clause-reads
returns-in-Ok-clause-reads g c e = wants_no_read _ c.printed.result c.printed.ensures.memory e

pub returns-in-Ok-clause-named : goal.returns-in-Ok-clause-named
returns-in-Ok-clause-named g c = wants_ends c.printed.result c.printed.ensures.memory

pub returns-in-Ok-clause-ran : goal.returns-in-Ok-clause-ran
returns-in-Ok-clause-ran g c n = wants_ran _ c.printed.result c.printed.ensures.memory c.printed.ensures.ran n

pub returns-in-Ok-clause-step : goal.returns-in-Ok-clause-step
returns-in-Ok-clause-step g c = wants_step _ _ _ _ _ _ c.printed.result _ c.printed.ensures.memory (λ e. cc e) (λ e. cc e) c.in-Ok.ensures.step

pub returns-in-Err-clause-ran : goal.returns-in-Err-clause-ran
returns-in-Err-clause-ran g c n = has_run_none c.args.journal.now (g.R.Runner.ran c.args.runner.now)
