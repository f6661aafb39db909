-- the statements before those that are left are carried out, and their records and texts are there
use Rattle.std.proofs.Common.{◌≡◌, ◌≤◌, ◌+◌, length}
use Rattle.std.specs.Prelude.{IsTrue}
use Rattle.aqe_store.specs.Told.{KeepsFiles, WhereTold}
use Rattle.aqe_built.specs.Built.{is_script_built}
use Rattle.aqe_answer.specs.Answer.{HasRun}
use Rattle.aqe_settings.specs.Ranges.{InRange}
use Rattle.aqe_settings.specs.Values.{values_of}
use Rattle.aqe_course.specs.Ending.{left}
use Rattle.aqe_course.specs.Laws.{HasShapedTables}
use Rattle.aqe_run.specs.Steps.{IsCarriedTo, state_of}
use Rattle.aqe_run.proofs.run.all_carried_out.Given as goal

abbrev pub invariant-statements : goal.invariant-statements
invariant-statements g l = record {
  keeps : KeepsFiles (g.S.Store.files l.fn.store) (g.S.Store.files l.store);
  faults : g.S.Store.faults l.store ≡ g.S.Store.faults l.fn.store;
  misses : g.S.Store.misses l.store ≡ g.S.Store.misses l.fn.store;
  written : g.O.Sink.faults l.out ≡ g.O.Sink.faults l.fn.out;
  so_far : WhereTold (g.S.Store.files l.fn.store) (λ files. IsCarriedTo files l.script (state_of l.made) l.left (left l.fn.journal (g.O.Sink.taken l.fn.out)) (left l.journal (g.O.Sink.taken l.out)));
  ran : HasRun l.fn.journal l.journal (g.R.Runner.ran l.fn.runner) (g.R.Runner.ran l.runner);
  counted : l.made.answered ≡ length l.journal;
  range : InRange (values_of l.made.settings);
  built : IsTrue (is_script_built l.left);
  shaped : HasShapedTables (state_of l.made);
  few : length l.made.catalog + l.made.answered + length l.left ≤ length l.script;
}

abbrev pub decreases-statements : goal.decreases-statements
decreases-statements g l = length l.left
