-- Each state of a run in which nothing but the rest ends tasks is calm.
use Rattle.std.proofs.Common.{◌≡◌, refl, ap, sym, subst, ◌∙◌, ◌≤◌, Option, ℕ, Bool, true, false, cond, not, ◌&&◌, List, [], ◌∷◌, ◌++◌, length, fold, arith, Some, None, slice_get, length-append, inl, inr}
use Rattle.std.specs.Prelude.{All}
use Rattle.std.specs.Option.{unwrap_or, option_map}
use Rattle.std.proofs.lemmas.Bool.{cases_Bool}
use Rattle.std.proofs.lemmas.List.{append-nil}
use Rattle.std.proofs.lemmas.List.Elements.{All-nil, All-head}
use Rattle.aqe_base.specs.declared.event.Event.{Event}
use Rattle.aqe_logical.specs.WellFormed.{IsOfAQuery}
use Rattle.aqe_logical.proofs.Nodes as logical_walk
use Rattle.aqe_settings.specs.Values.{partitions}
use Rattle.aqe_physical.specs.declared.plan.Plan.{Plan}
use Rattle.aqe_physical.proofs.Nodes.{all_nodes}
use Rattle.aqe_making.specs.Makings.{Making, makings, result_of}
use Rattle.aqe_making.specs.Ready.{is_ready}
use Rattle.aqe_making.specs.After.{stage_at}
use Rattle.aqe_making.proofs.Standing.{standing, are_ready}
use Rattle.aqe_making.proofs.Stepping.{one_by_one, none_other}
use Rattle.aqe_fitting.specs.Known.{files_of}
use Rattle.aqe_fitting.specs.InForce.{in_force}
use Rattle.aqe_fitting.specs.Ways.{ways_by_sizes}
use Rattle.aqe_fit_laws.specs.Serving.{IsNoExchange, WithoutExchange}
use Rattle.aqe_fit_laws.specs.Leaves.{IsPlannedYet}
use Rattle.aqe_scheduler.specs.Rest.{rest_of, rest_ending}
use Rattle.aqe_journal.specs.Asked.{Asked}
use Rattle.aqe_journal.specs.States.{State, history, position, first_state, with_stage, with_event, is_materialised, number_of}
use Rattle.aqe_journal.specs.Restrictions.{RunsAlone}
use Rattle.aqe_journal.specs.LegalRecord.{SoFar, IsFirst, PlansAgain, never, keeps, adopts, Takes, goes_on, turns, settled, has_result, next_event, event_or_rest, begun, one_on}
use Rattle.aqe_journal.specs.Laws.{IsSound}
use Rattle.aqe_journal.proofs.Born.{not_materialised}
use Rattle.aqe_journal.proofs.StagesRun.{start, no_exchange}
use Rattle.aqe_endings.proofs.Endings.{next_may_end}
use Rattle.aqe_calm.specs.Forms.{IsBuiltNode}
use Rattle.aqe_calm.specs.Calm.{Calm}
use Rattle.aqe_calm.specs.Forms.{IsCarriedOut}
use Rattle.aqe_stages.specs.Cells.{all_rows}
use Rattle.aqe_journal.specs.LegalRecord.{rows_of}
use Rattle.aqe_calm.specs.Calm.{parts_over}
use Rattle.aqe_calm.specs.Laws.{RestRunsAreCalm, WholeStagesTurn, RestRunsEndDone, NextTasksAreServed, ResultsHoldTheRows}
use Rattle.aqe_calm.proofs.Served.{served}
use Rattle.aqe_calm.proofs.Consequences.{turning_whole, only_done}
use Rattle.aqe_calm.proofs.ResultCells.{result_cells, all_single}
use Rattle.aqe_calm.proofs.BuiltPlans.{built_first}
use Rattle.aqe_calm.proofs.Calm.{nothing_yet}
use Rattle.aqe_calm.proofs.CalmStates.{exchange_made, result_made, calm_event, calm_with_marks}

-- all stages that can be made at a position
all_made : (asked : Asked) (first : Plan) (whole : ℕ → Bool) (ms : List Making) (now : State) → Calm asked first now → ((s : ℕ) → length now.stages ≤ s → whole s ≡ false) →
    makings whole now.plan ≡ ms → Calm asked first (fold with_stage now ms)
all_made asked first whole [] now c unborn e = c
all_made asked first whole (m ∷ ms) now c unborn e =
    let at = All-head (λ (making : Making). stage_at making.place now.plan ≡ Some making.stage) m ms
    (subst (All (λ (making : Making). stage_at making.place now.plan ≡ Some making.stage)) e (standing whole now.plan)) in
    let ready = All-head (λ (making : Making). is_ready whole making.stage.body ≡ true) m ms
    (subst (All (λ (making : Making). is_ready whole making.stage.body ≡ true)) e (are_ready whole now.plan)) in
    let next = exchange_made asked first now m c at (all_nodes IsNoExchange m.stage.body (no_exchange whole m.stage.body ready)) in
    let long = length-append now.stages (m.stage ∷ []) in
    all_made asked first whole ms (with_stage now m) next (λ k le. unborn k (omega (arith, long, le)))
    (one_by_one whole (number_of (length now.stages)) now.plan m ms (unborn (length now.stages) (omega arith)) e)

settle_ready : (asked : Asked) (first : Plan) (now : State) (has : Bool) → Calm asked first now → WithoutExchange now.plan →
    Calm asked first (fold with_stage now (cond (not has) (result_of now.plan ∷ []) []))
settle_ready asked first now true c none = c
settle_ready asked first now false c none = result_made asked first now c none

pub calm_settled : (asked : Asked) (first : Plan) (now : State) → Calm asked first now → Calm asked first (settled now)
calm_settled asked first now c = elim (cases_Bool (is_ready (is_materialised now) now.plan)) [
  | inl t ↦ subst (λ (ms : List Making). Calm asked first (fold with_stage now ms))
      (sym (λ i. none_other (is_materialised now) now.plan t i ++ cond (t i && not (has_result now.stages)) (result_of now.plan ∷ []) []))
      (settle_ready asked first now (has_result now.stages) c (all_nodes IsNoExchange now.plan (no_exchange (is_materialised now) now.plan t)))
  | inr f ↦ subst (λ (ms : List Making). Calm asked first (fold with_stage now ms))
      (sym ((λ i. makings (is_materialised now) now.plan ++ cond (f i && not (has_result now.stages)) (result_of now.plan ∷ []) []) ∙ append-nil (makings (is_materialised now) now.plan)))
      (all_made asked first (is_materialised now) (makings (is_materialised now) now.plan) now c (not_materialised now c.steady.born) refl)
]

pub calm_begun : (asked : Asked) (first : Plan) → IsSound asked → IsFirst asked first → Calm asked first (first_state asked.query first)
calm_begun asked first sound fits =
    let s = start asked first sound fits in
    record {
      steady = s;
      versions = refl;
      unread = s.below;
      serves = refl;
      answers = λ s. tt;
      built = all_nodes IsBuiltNode first (built_first (ways_by_sizes asked.estimates [] (in_force asked.settings)) (partitions asked.settings) (files_of asked.estimates) sound.parts asked.query first fits.0.0 fits.0.1
          (logical_walk.each IsPlannedYet asked.query sound.planned) (logical_walk.each IsOfAQuery asked.query sound.closed));
      carried = All-nil IsCarriedOut;
      events = nothing_yet;
    }

clash : false ≡ true → ⊥
clash h = cc (h)

planned_calm : (asked : Asked) (first : Plan) (now next : State) → PlansAgain asked now next → Calm asked first now → Calm asked first next
planned_calm asked first now next (never n h) c = c
planned_calm asked first now next (keeps n x p k d w) c = c
planned_calm asked first now next (adopts n x p k d w) c = absurd (clash k)

taken_calm : (asked : Asked) (first : Plan) (now next : State) (event : Event) → Takes asked now event next → Calm asked first (with_event now event) → Calm asked first next
taken_calm asked first now next event (goes_on n e h) c = calm_with_marks asked first (with_event now event) c
taken_calm asked first now next event (turns n planned e h t) c =
    calm_with_marks asked first (settled planned) (calm_settled asked first planned (planned_calm asked first (with_event now event) planned t c))

-- the next event is the ending of the task that may end next
pub record IsRest (now : State) (event : Event) : Type 0 where
  pub place : ℕ × ℕ
  pub next : rest_of (history now) ≡ Some place
  pub is : event ≡ rest_ending place

pub next_is_rest : (asked : Asked) (now : State) (event : Event) → RunsAlone asked → next_event asked now ≡ Some event → IsRest now event
next_is_rest asked now event alone next =
    at (rest_of (history now)) refl (sym (λ i. event_or_rest (slice_get (alone.0 i) (position now)) (alone.1 i) (history now)) ∙ next)
  where
    none : {X : Type 0} {x : X} → None ≡ Some x → ⊥
    none e = cc (e)

    at : (o : Option (ℕ × ℕ)) → rest_of (history now) ≡ o → option_map rest_ending (rest_of (history now)) ≡ Some event → IsRest now event
    at None e is = absurd (none (sym (ap (option_map rest_ending) e) ∙ is))
    at (Some place) e is = record { place = place; next = e; is = sym (ap (λ x. unwrap_or x event) (sym (ap (option_map rest_ending) e) ∙ is)) }

calm_run : (asked : Asked) (now : State) → IsSound asked → RunsAlone asked → SoFar asked now → (first : Plan) × IsFirst asked first × Calm asked first now
calm_run asked now sound alone (begun plan fits) =
    (plan, fits, calm_with_marks asked plan (settled (first_state asked.query plan)) (calm_settled asked plan (first_state asked.query plan) (calm_begun asked plan sound fits)))
calm_run asked now sound alone (one_on before next event far r n t) =
    let c = calm_run asked before sound alone far in
    let rest = next_is_rest asked before event alone n in
    (c.0, c.1, taken_calm asked c.0 before next event t (subst (λ e. Calm asked c.0 (with_event before e)) (sym rest.is) (calm_event asked c.0 before rest.place c.2 (next_may_end (history before) rest.place rest.next))))

pub rest_runs_calm : RestRunsAreCalm
rest_runs_calm asked now r = calm_run asked now r.sound r.alone r.runs

pub whole_turn : WholeStagesTurn
whole_turn asked now place r next = let c = rest_runs_calm asked now r in turning_whole asked c.0 now place c.2 (next_may_end (history now) place next)

pub end_done : RestRunsEndDone
end_done asked now range r = let c = rest_runs_calm asked now r in only_done asked c.0 now range c.2

pub next_served : NextTasksAreServed
next_served asked now place stage outputs r next is all_kept = let c = rest_runs_calm asked now r in served asked c.0 now place stage outputs c.2 (next_may_end (history now) place next) is all_kept

pub results_rows : ResultsHoldTheRows
results_rows asked now s stage r is result =
    let c = rest_runs_calm asked now r in
    ap (rows_of asked now) c.2.versions ∙ sym (all_single (parts_over asked now.stages c.0)) ∙ ap all_rows (sym (result_cells asked c.0 now s stage c.2 is result))
