-- Stages that can be made one after the other.
use Rattle.std.proofs.Common.{◌≡◌, refl, ap, sym, subst, ◌∙◌, ◌<◌, ◌+◌, ◌^◌, Bool, true, false, cond, not, ◌&&◌, List, [], ◌∷◌, ◌++◌, length, arith, length-append, Some}
use Rattle.std.specs.Prelude.{All}
use Rattle.std.proofs.lemmas.List.Elements.{All-nil, All-cons, All-append, All-head, All-weaker}
use Rattle.aqe_base.specs.declared.stage_id.StageId.{StageId}
use Rattle.aqe_physical.specs.declared.plan.Plan.{Plan}
use Rattle.aqe_physical.specs.Counts.{part_count, PartsFit}
use Rattle.aqe_physical.proofs.Nodes.{each, all_nodes}
use Rattle.aqe_making.specs.Ready.{is_ready}
use Rattle.aqe_making.specs.After.{after, stage_at}
use Rattle.aqe_making.specs.Makings.{Making, makings, result_of}
use Rattle.aqe_making.proofs.Standing.{standing, made_at}
use Rattle.aqe_journal.proofs.StagesRun.{body_each}
use Rattle.aqe_replan.specs.Seen.{listed}
use Rattle.aqe_replan.specs.Versions.{ready_of, CanBeMade}
use Rattle.aqe_replan.proofs.Others.{can_be_made, stay_ready}
use Rattle.aqe_needs.specs.Noted.{BodyFits, BodiesFit}
use Rattle.aqe_steps.specs.declared.run.Run.{Run}
use Rattle.aqe_steps.specs.Runs.{IsSteadyRun, CanMake, Makes, Ready, MakesAll, none, one_more, fresh_note, next_number}

-- few parts at a node
abbrev IsFew : Plan → Type 0
IsFew node = part_count node < 2 ^ 32

body_few : (plan : Plan) (making : Making) → stage_at making.place plan ≡ Some making.stage → PartsFit plan → PartsFit making.stage.body
body_few plan making at fits =
    let number : StageId = record { 0 = 0 } in
    all_nodes IsFew making.stage.body (body_each IsFew number plan (after number making.place plan) making.stage (made_at number making.place plan making.stage at) (each IsFew plan fits))

abbrev HasFewParts : Making → Type 0
HasFewParts making = PartsFit making.stage.body

result_few : (b : Bool) (plan : Plan) → PartsFit plan → All HasFewParts (cond b (result_of plan ∷ []) [])
result_few true plan fits = All-cons HasFewParts (result_of plan) [] fits (All-nil HasFewParts)
result_few false plan fits = All-nil HasFewParts

ready_few : (run : Run) → PartsFit run.versions.plan → All HasFewParts (ready_of run.whole run.versions)
ready_few run fits =
    let whole = listed run.whole in
    let plan = run.versions.plan in
    All-append HasFewParts (makings whole plan) (cond (is_ready whole plan && not run.versions.has_result) (result_of plan ∷ []) [])
    (All-weaker (λ (making : Making). stage_at making.place plan ≡ Some making.stage) HasFewParts (λ making at. body_few plan making at fits) (makings whole plan) (standing whole plan))
    (result_few (is_ready whole plan && not run.versions.has_result) plan fits)

pub can_make : (run : Run) (making : Making) (rest : List Making) → Ready run (making ∷ rest) → CanMake run making
can_make run making rest r = record {
  steady = r.steady;
  can = All-head (CanBeMade run.versions.plan) making rest (subst (All (CanBeMade run.versions.plan)) r.ready (can_be_made run.whole run.versions));
  body = All-head HasFewParts making rest (subst (All HasFewParts) r.ready (ready_few run r.steady.parts));
}

-- a stage more keeps a run steady
pub steady_made : (run : Run) (making : Making) (new : Run) → IsSteadyRun run → PartsFit making.stage.body → Makes run making new → IsSteadyRun new
steady_made run making new steady body m =
    let note = fresh_note making.stage (length run.fates) in
    let long : length new.stages.items ≡ length run.stages.items + 1 = ap (λ notes. length notes) m.stages ∙ length-append run.stages.items (note ∷ []) in
    let born = steady.born in
    let births = m.births in
    let few = m.few in
    record {
      born = omega (arith, long, born, births);
      few = omega (arith, long, few);
      parts = m.parts;
      bodies = subst BodiesFit (sym m.stages) (All-append BodyFits run.stages.items (note ∷ []) steady.bodies (All-cons BodyFits note [] body (All-nil BodyFits)));
      fresh = λ n le. ap (λ stages. listed stages n) m.stays.whole ∙ steady.fresh n (omega (arith, long, le));
    }

-- the stages behind the first one can be made once it was made
pub step : (run : Run) (making : Making) (rest : List Making) (new : Run) → Ready run (making ∷ rest) → Makes run making new → Ready new rest
step run making rest new r m = record {
  steady = steady_made run making new r.steady (can_make run making rest r).body m;
  ready = ap (λ stages. ready_of stages new.versions) m.stays.whole
      ∙ stay_ready run.whole (next_number run) run.versions new.versions making rest (r.steady.fresh (length run.stages.items) (omega arith)) r.ready m.plan m.has_result;
}

-- some stages were made, and these can be made next
pub record Going (entry : Run) (done : List Making) (rest : List Making) (run : Run) : Type 0 where
  pub made : MakesAll entry done run
  pub ready : Ready run rest

pub begun : (run : Run) → IsSteadyRun run → Going run [] (ready_of run.whole run.versions) run
begun run steady = record { made = none; ready = record { steady = steady; ready = refl } }

pub going : (entry : Run) (done : List Making) (making : Making) (rest : List Making) (run new : Run) → Going entry done (making ∷ rest) run → Makes run making new → Going entry (done ++ making ∷ []) rest new
going entry done making rest run new g m = record {
  made = one_more done making rest run new g.made g.ready m;
  ready = step run making rest new g.ready m;
}
