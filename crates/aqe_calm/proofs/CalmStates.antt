-- The states that a run comes to in which nothing but the rest ends tasks.
use Rattle.std.proofs.Common.{◌≡◌, refl, ap, sym, subst, ◌∙◌, ◌≤◌, ◌<◌, suc, ℕ, Bool, true, false, cond, not, ◌&&◌, List, [], ◌∷◌, ◌++◌, length, map, arith, Option, Some, None, slice_get, length-append, inl, inr}
use Rattle.std.specs.Prelude.{All, ◌⊎◌}
use Rattle.std.proofs.lemmas.Bool.{cases_Bool, cases_lt, cases_eq}
use Rattle.std.proofs.lemmas.Option.{slice_get_past}
use Rattle.aqe_endings.proofs.Wholes.{get_more, get_last}
use Rattle.std.proofs.lemmas.List.{append-nil}
use Rattle.std.proofs.lemmas.List.Elements.{All-nil, All-cons, All-append, All-weaker, All-head}
use Rattle.aqe_base.specs.declared.stage_id.StageId.{StageId}
use Rattle.aqe_scheduler.specs.History.{Entry, Adds, Marks, Happens, Happened}
use Rattle.aqe_scheduler.specs.Fates.{noted}
use Rattle.aqe_scheduler.specs.Rest.{rest_ending}
use Rattle.aqe_scheduler.proofs.Taken.{noted_more}
use Rattle.aqe_physical.specs.declared.plan.Plan.{Plan}
use Rattle.aqe_physical.specs.declared.target.StageKind.TheVariants as kind
use Rattle.aqe_physical.specs.Counts.{part_count}
use Rattle.aqe_physical.specs.Nodes.{nodes}
use Rattle.aqe_physical.proofs.Nodes.{each}
use Rattle.aqe_stages.specs.Stages.{Stage, Stages}
use Rattle.aqe_stages.specs.Reads.{ReadsBelow, ReadsBelowAt}
use Rattle.aqe_stages.specs.Making.{Made}
use Rattle.aqe_stages.proofs.Later.{parts_stay}
use Rattle.aqe_stages.proofs.Made.{made_keeps}
use Rattle.aqe_making.specs.Makings.{Making, makings, all_makings, result_of}
use Rattle.aqe_making.specs.Ready.{is_ready}
use Rattle.aqe_making.specs.After.{after, stage_at}
use Rattle.aqe_making.proofs.Standing.{standing, are_ready, made_at}
use Rattle.aqe_making.proofs.Stepping.{none_other}
use Rattle.aqe_fit_laws.specs.Serving.{IsNoExchange, WithoutExchange}
use Rattle.aqe_physical.proofs.Nodes.{all_nodes}
use Rattle.aqe_journal.specs.Asked.{Asked}
use Rattle.aqe_journal.specs.Needed.{is_result, birth_over}
use Rattle.aqe_journal.specs.States.{State, history, number_of, with_stage, with_event, with_marks, marks_of}
use Rattle.aqe_journal.specs.LegalRecord.{has_result}
use Rattle.aqe_journal.proofs.StagesRun.{step, result_step, marked, happened, body_each, no_exchange}
use Rattle.aqe_endings.proofs.Endings.{MayEnd, next_counts}
use Rattle.aqe_calm.specs.Forms.{IsBuiltNode, IsCarriedOut}
use Rattle.aqe_calm.specs.Calm.{CalmHistory, Calm, parts_over, IsAnswerAt}
use Rattle.aqe_calm.proofs.BuiltPlans.{some_part, built_body, built_stays}
use Rattle.aqe_calm.proofs.Calm.{calm_marked, calm_added, calm_ended}
use Rattle.aqe_bodies.proofs.MadeRuns.{first_of}
use Rattle.aqe_journal.proofs.StagesRun.{below_up}
use Rattle.aqe_journal.proofs.StagesRun.{stays_put}
use Rattle.aqe_journal.specs.Needed.{need_over}
use Rattle.aqe_journal.specs.Needed.{needed_stages}
use Rattle.aqe_journal.specs.States.{is_whole}
use Rattle.aqe_making.specs.After.{read_after}
use Rattle.aqe_calm.proofs.Results.{no_result}
use Rattle.aqe_calm.proofs.MadeKinds.{kind_below}
use Rattle.aqe_stages.specs.Reads.{task_needs}
use Rattle.std.proofs.lemmas.List.{append_assoc}
use Rattle.std.proofs.lemmas.List.FromFn.{length-map-range_with_len}

below_any : (n : ℕ) (p : Plan) → ReadsBelow 0 p → ReadsBelow n p
below_any n p h = All-weaker (ReadsBelowAt 0) (ReadsBelowAt n) (below_up 0 n (omega arith)) (nodes p) h

-- a later stage changes nothing of what stands
first_stays : (asked : Asked) (first : Plan) (stages more : Stages) → ReadsBelow 0 first → parts_over asked (stages ++ more) first ≡ parts_over asked stages first
first_stays asked first stages more unread = parts_stay asked.tables stages more first (below_any (length stages) first unread)

below_more : (m n : ℕ) → m ≤ n → (p : Plan) → ReadsBelow m p → ReadsBelow n p
below_more m n le p h = All-weaker (ReadsBelowAt m) (ReadsBelowAt n) (below_up m n le) (nodes p) h

answers_more : (asked : Asked) (first : Plan) (stages : Stages) (stage : Stage) → ReadsBelow 0 first → ((s : ℕ) → IsAnswerAt asked first stages s (slice_get stages s)) →
    IsAnswerAt asked first (stages ++ stage ∷ []) (length stages) (Some stage) → (s : ℕ) → IsAnswerAt asked first (stages ++ stage ∷ []) s (slice_get (stages ++ stage ∷ []) s)
answers_more asked first stages stage unread all one s = elim (cases_lt s (length stages)) [
  | inl lt ↦ subst (IsAnswerAt asked first (stages ++ stage ∷ []) s) (sym (get_more stages stage s lt)) (older (slice_get stages s) lt (all s))
  | inr ge ↦ newer (cases_eq s (length stages)) ge
]
  where
    older : (o : Option Stage) → s < length stages → IsAnswerAt asked first stages s o → IsAnswerAt asked first (stages ++ stage ∷ []) s o
    older None lt a = tt
    older (Some st) lt a = (a.0, a.1, λ is. parts_stay asked.tables stages (stage ∷ []) st.body (below_more s (length stages) (omega (arith, lt)) st.body a.0) ∙ a.2 is ∙ sym (first_stays asked first stages (stage ∷ []) unread))

    newer : (s ≡ length stages) ⊎ (s ≡ length stages → ⊥) → length stages ≤ s → IsAnswerAt asked first (stages ++ stage ∷ []) s (slice_get (stages ++ stage ∷ []) s)
    newer (inl is) ge = subst (λ k. IsAnswerAt asked first (stages ++ stage ∷ []) k (slice_get (stages ++ stage ∷ []) k)) (sym is)
        (subst (IsAnswerAt asked first (stages ++ stage ∷ []) (length stages)) (sym (get_last stages stage)) one)
    newer (inr is_not) ge =
        let long = length-append stages (stage ∷ []) in
        subst (IsAnswerAt asked first (stages ++ stage ∷ []) s) (sym (slice_get_past (stages ++ stage ∷ []) s (omega (arith, long, ge, is_not)))) tt

carried_more : (stages : Stages) (stage : Stage) → All IsCarriedOut stages → IsCarriedOut stage → All IsCarriedOut (stages ++ stage ∷ [])
carried_more stages stage all one = All-append IsCarriedOut stages (stage ∷ []) all (All-cons IsCarriedOut stage [] one (All-nil IsCarriedOut))

pub reads_many : (stages : Stages) (stage : Stage) → length (birth_over stages stage).reads ≡ part_count stage.body
reads_many stages stage = length-map-range_with_len (λ k. map (need_over stages) (task_needs stage.kind stage.body k)) 0 (part_count stage.body)

-- the history behind a stage more
added : (now : State) (making : Making) → 1 ≤ part_count making.stage.body → CalmHistory now.stages (history now) → CalmHistory (with_stage now making).stages (history (with_stage now making))
added now making some c =
    let many = reads_many now.stages making.stage in
    subst (CalmHistory (now.stages ++ making.stage ∷ [])) (sym (noted_more now.entries (Adds (birth_over now.stages making.stage))))
    (calm_added now.stages (history now) making.stage (omega (arith, many, some)) c)

not_result : (number : StageId) (p q : Plan) (stage : Stage) → Made number p stage q → is_result stage.kind ≡ true → ⊥
not_result number p q stage m is = no_result number p q stage m is

-- the stage of an exchange
pub exchange_made : (asked : Asked) (first : Plan) (now : State) (making : Making) → Calm asked first now → stage_at making.place now.plan ≡ Some making.stage → WithoutExchange making.stage.body →
    Calm asked first (with_stage now making)
exchange_made asked first now making c at none =
    let number = number_of (length now.stages) in
    let next = after number making.place now.plan in
    let m : Made number now.plan making.stage next = made_at number making.place now.plan making.stage at in
    let body = body_each IsBuiltNode number now.plan next making.stage m (each IsBuiltNode now.plan c.built) in
    let some = some_part making.stage.body body in
    let below = each (ReadsBelowAt (length now.stages)) now.plan c.steady.below in
    record {
      steady = step asked now making c.steady at none;
      versions = c.versions;
      unread = c.unread;
      serves = made_keeps asked.tables now.stages number now.plan next making.stage refl c.steady.below m ∙ c.serves ∙ sym (first_stays asked first now.stages (making.stage ∷ []) c.unread);
      answers = answers_more asked first now.stages making.stage c.unread c.answers (
        all_nodes (ReadsBelowAt (length now.stages)) making.stage.body (body_each (ReadsBelowAt (length now.stages)) number now.plan next making.stage m below),
        kind_below (length now.stages) number now.plan next making.stage m below,
        λ is. absurd (not_result number now.plan next making.stage m is),
      );
      built = all_nodes IsBuiltNode next (built_stays number now.plan next making.stage m (each IsBuiltNode now.plan c.built));
      carried = carried_more now.stages making.stage c.carried (built_body making.stage.body body (each IsNoExchange making.stage.body none), some);
      events = added now making some c.events;
    }

-- the result stage
pub result_made : (asked : Asked) (first : Plan) (now : State) → Calm asked first now → WithoutExchange now.plan → Calm asked first (with_stage now (result_of now.plan))
result_made asked first now c none =
    let stage : Stage = record { kind = kind.Result; body = now.plan } in
    let s = result_step asked now c.steady none in
    let put : (with_stage now (result_of now.plan)).plan ≡ now.plan = stays_put (read_after (number_of (length now.stages))) now.plan
    (first_of IsNoExchange now.plan (each IsNoExchange now.plan none)) in
    let some = some_part now.plan (each IsBuiltNode now.plan c.built) in
    let stays : parts_over asked (now.stages ++ stage ∷ []) now.plan ≡ parts_over asked (now.stages ++ stage ∷ []) first =
    parts_stay asked.tables now.stages (stage ∷ []) now.plan c.steady.below ∙ c.serves ∙ sym (first_stays asked first now.stages (stage ∷ []) c.unread) in
    record {
      steady = s;
      versions = c.versions;
      unread = c.unread;
      serves = ap (λ p. parts_over asked (now.stages ++ stage ∷ []) p) put ∙ stays;
      answers = answers_more asked first now.stages stage c.unread c.answers (c.steady.below, tt, λ is. stays);
      built = subst (λ p. All IsBuiltNode (nodes p)) (sym put) c.built;
      carried = carried_more now.stages stage c.carried (built_body now.plan (each IsBuiltNode now.plan c.built) (each IsNoExchange now.plan none), some);
      events = added now (result_of now.plan) some c.events;
    }

-- the first stage that can be made
pub calm_made : (asked : Asked) (first : Plan) (now : State) (whole : ℕ → Bool) (making : Making) (others : List Making) → Calm asked first now →
    all_makings whole (has_result now.stages) now.plan ≡ making ∷ others → Calm asked first (with_stage now making)
calm_made asked first now whole making others c is = elim (cases_Bool (is_ready whole now.plan)) [
  | inl ready ↦
      let none = none_other whole now.plan ready in
      let all : all_makings whole (has_result now.stages) now.plan ≡ cond (not (has_result now.stages)) (result_of now.plan ∷ []) [] =
      λ i. none i ++ cond (ready i && not (has_result now.stages)) (result_of now.plan ∷ []) [] in
      subst (λ m. Calm asked first (with_stage now m)) (only (has_result now.stages) (sym all ∙ is))
      (result_made asked first now c (all_nodes IsNoExchange now.plan (no_exchange whole now.plan ready)))
  | inr not_ready ↦
      let all : all_makings whole (has_result now.stages) now.plan ≡ makings whole now.plan =
      (λ i. makings whole now.plan ++ cond (not_ready i && not (has_result now.stages)) (result_of now.plan ∷ []) []) ∙ append-nil (makings whole now.plan) in
      let e : makings whole now.plan ≡ making ∷ others = sym all ∙ is in
      let at = All-head (λ (m : Making). stage_at m.place now.plan ≡ Some m.stage) making others (subst (All (λ (m : Making). stage_at m.place now.plan ≡ Some m.stage)) e (standing whole now.plan)) in
      let ready = All-head (λ (m : Making). is_ready whole m.stage.body ≡ true) making others (subst (All (λ (m : Making). is_ready whole m.stage.body ≡ true)) e (are_ready whole now.plan)) in
      exchange_made asked first now making c at (all_nodes IsNoExchange making.stage.body (no_exchange whole making.stage.body ready))
]
  where
    only : (has : Bool) → cond (not has) (result_of now.plan ∷ []) [] ≡ making ∷ others → result_of now.plan ≡ making
    only true e = absurd (empty e)
      where
        empty : {X : Type 0} {x : X} {xs : List X} → [] ≡ x ∷ xs → ⊥
        empty e = cc (e)
    only false e = ap (λ ms. first_or (result_of now.plan) ms) e
      where
        first_or : Making → List Making → Making
        first_or m [] = m
        first_or m (n ∷ ms) = n

-- the ending of a task that may end
pub calm_event : (asked : Asked) (first : Plan) (now : State) (place : ℕ × ℕ) → Calm asked first now → MayEnd (history now) place → Calm asked first (with_event now (rest_ending place))
calm_event asked first now place c m = record {
  steady = happened asked now (rest_ending place) c.steady;
  versions = c.versions;
  unread = c.unread;
  serves = c.serves;
  answers = c.answers;
  built = c.built;
  carried = c.carried;
  events = subst (CalmHistory now.stages) (sym (noted_more now.entries (Happens (rest_ending place)) ∙ ap (λ f. history now ++ Happened (rest_ending place) f ∷ []) (next_counts (history now) place m)))
      (calm_ended now.stages (history now) place c.events m);
}

calm_marks : (stages : Stages) (n : ℕ) (marks : List Bool) (entries : List Entry) → CalmHistory stages (noted entries) → CalmHistory stages (noted (entries ++ marks_of n marks))
calm_marks stages n [] entries c = subst (λ es. CalmHistory stages (noted es)) (sym (append-nil entries)) c
calm_marks stages n (mark ∷ marks) entries c =
    subst (λ es. CalmHistory stages (noted es)) (append_assoc entries (Marks n mark ∷ []) (marks_of (suc n) marks))
    (calm_marks stages (suc n) marks (entries ++ Marks n mark ∷ []) (subst (CalmHistory stages) (sym (noted_more entries (Marks n mark))) (calm_marked stages (noted entries) n mark c)))

-- marks
pub calm_with_marks : (asked : Asked) (first : Plan) (now : State) → Calm asked first now → Calm asked first (with_marks now)
calm_with_marks asked first now c = record {
  steady = marked asked now c.steady;
  versions = c.versions;
  unread = c.unread;
  serves = c.serves;
  answers = c.answers;
  built = c.built;
  carried = c.carried;
  events = calm_marks now.stages 0 (needed_stages (is_whole now) now.plan now.stages) now.entries c.events;
}
