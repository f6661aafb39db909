-- A session that has begun shows the first state of its query.
use Rattle.std.proofs.Common.{refl, ap, sym, subst, ◌∙◌, ◌≤◌, ◌^◌, true, length, arith}
use Rattle.std.proofs.lemmas.List.Elements.{All-nil}
use Rattle.aqe_blocks.specs.Kept.{kept_of, output_at}
use Rattle.aqe_physical.specs.Counts.{PartsFit}
use Rattle.aqe_replan.specs.Seen.{listed}
use Rattle.aqe_journal.specs.Asked.{Asked}
use Rattle.aqe_journal.specs.Laws.{IsSound}
use Rattle.aqe_journal.specs.Restrictions.{RunsAlone}
use Rattle.aqe_journal.specs.States.{first_state, with_marks}
use Rattle.aqe_journal.specs.LegalRecord.{begun}
use Rattle.aqe_needs.specs.Noted.{BodyFits, BodiesFit}
use Rattle.aqe_settings.specs.Ranges.{InRange}
use Rattle.aqe_calm.proofs.RestRuns.{calm_begun}
use Rattle.aqe_steps.specs.declared.run.Run.{Run}
use Rattle.aqe_steps.specs.Begun.{Begins}
use Rattle.aqe_steps.specs.Runs.{IsSteadyRun, Turns}
use Rattle.aqe_steps.specs.Shows.{Shows, is_at}
use Rattle.aqe_session.specs.Query.{Stands}
use Rattle.aqe_steps.proofs.Turned.{shows_turned, turned_to}

pub begun_steady : (asked : Asked) (run : Run) → Begins asked.query asked.estimates asked.settings run → PartsFit run.versions.plan → IsSteadyRun run
begun_steady asked run b few = record {
  born = ap (λ bs. length bs) b.births ∙ sym (ap (λ notes. length notes) b.stages);
  few = subst (λ notes. length notes ≤ 2 ^ 32) (sym b.stages) (omega arith);
  parts = few;
  bodies = subst BodiesFit (sym b.stages) (All-nil BodyFits);
  fresh = λ n le. ap (λ list. listed list n) b.whole;
}

shows_begun : (asked : Asked) (run : Run) → Begins asked.query asked.estimates asked.settings run → PartsFit run.versions.plan → Shows asked (first_state asked.query run.versions.plan) run
shows_begun asked run b few = record {
  steady = begun_steady asked run b few;
  plan = refl;
  has_result = b.has_result;
  adopted = b.adopted;
  board = b.board;
  stages = b.stages;
  whole = λ s. ap (λ list. listed list s) b.whole;
  result = λ s. sym (ap (λ o. is_at o s) b.result);
  outputs = λ s m. ap (λ outputs. output_at outputs s m) b.outputs;
  cells = λ s. ap (λ outputs. kept_of outputs s) b.outputs;
  fates = b.fates;
  runs = b.runs;
}

-- and behind the first turn the first position
pub stands_begun : (asked : Asked) (run new : Run) → IsSound asked → RunsAlone asked → InRange asked.settings → Begins asked.query asked.estimates asked.settings run → PartsFit run.versions.plan → Turns run new true → Stands asked new
stands_begun asked run new sound alone range b few t =
    let plan = run.versions.plan in
    let first = first_state asked.query plan in
    record {
      now = with_marks (turned_to true first);
      range = range;
      reaches = record { sound = sound; alone = alone; runs = begun plan b.fits };
      shows = shows_turned asked plan first run new true (calm_begun asked plan sound b.fits) (shows_begun asked run b few) t;
    }
