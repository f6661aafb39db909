-- What can be made of the versions of a query, one stage after the other.
use Rattle.std.proofs.Common.{◌≡◌, ℕ, Bool, true, false, List, [], ◌∷◌, ◌++◌, Some, None, refl, ap, sym, ◌∙◌, subst, inl, inr}
use Rattle.std.specs.Prelude.{All, cond, not, ◌&&◌}
use Rattle.std.proofs.lemmas.List.Elements.{All-nil, All-cons, All-head, All-tail, All-append}
use Rattle.aqe_base.specs.declared.stage_id.StageId.{StageId}
use Rattle.aqe_base.specs.declared.join_kind.Side.TheVariants.{Left, Right}
use Rattle.aqe_physical.specs.declared.target.Target.{Target}
use Rattle.aqe_physical.specs.declared.target.Target.TheVariants.{Hash, Range, Single, Broadcast}
use Rattle.aqe_physical.specs.declared.plan.Plan.{Plan}
use Rattle.aqe_physical.specs.Shapes.{kept, mapped, moved, matched, grouped, finished, ordered, cut_locally, cut_globally, both_of}
use Rattle.aqe_stages.specs.Stages.{Stage}
use Rattle.aqe_stages.specs.Making.{Made}
use Rattle.aqe_making.specs.Ready.{is_ready}
use Rattle.aqe_making.specs.Makings.{Place, Making, makings, result_of, all_makings, stage_of}
use Rattle.aqe_making.specs.After.{after, stage_at}
use Rattle.aqe_making.proofs.Lists.{no_stage, same_stage, at_most_one, same_head, same_tail, no_making, false_right}
use Rattle.aqe_making.proofs.Standing.{standing, made_at}
use Rattle.aqe_making.proofs.Stepping.{queries_one_by_one}
use Rattle.aqe_replan.specs.Seen.{listed}
use Rattle.aqe_replan.specs.Versions.{is_result, CanBeMade, plan_after, result_after}
use Rattle.aqe_replan.specs.Laws.{ReadyCanBeMade, StagesAreMadeOfThePlan, OthersStayReady}

abbrev Stands : Plan → Making → Type 0
Stands plan making = stage_at making.place plan ≡ Some making.stage

stand : (plan : Plan) (ms : List Making) → All (Stands plan) ms → All (CanBeMade plan) ms
stand plan [] h = All-nil (CanBeMade plan)
stand plan (m ∷ ms) h = All-cons (CanBeMade plan) m ms (inr (All-head (Stands plan) m ms h)) (stand plan ms (All-tail (Stands plan) m ms h))

pub can_be_made : ReadyCanBeMade
can_be_made stages versions =
    All-append (CanBeMade versions.plan) (makings (listed stages) versions.plan)
    (cond (is_ready (listed stages) versions.plan && not versions.has_result) (result_of versions.plan ∷ []) [])
    (stand versions.plan (makings (listed stages) versions.plan) (standing (listed stages) versions.plan))
    (at_most_one (CanBeMade versions.plan) (is_ready (listed stages) versions.plan && not versions.has_result) (result_of versions.plan) (λ e. inl refl))

pub made_of_the_plan : StagesAreMadeOfThePlan
made_of_the_plan number making plan (inl so) other = absurd (let bad : true ≡ false = sym so ∙ other in cc bad)
made_of_the_plan number making plan (inr stands) other =
    subst (λ (b : Bool). Made number plan making.stage (cond b plan (after number making.place plan))) (sym other)
    (made_at number making.place plan making.stage stands)

-- the stage of an exchange is no result
no_result : (to : Target) (p : Plan) → is_result (stage_of to p).kind ≡ false
no_result (Hash keys n) p = refl
no_result (Range keys n None) p = refl
no_result (Range keys n (Some stage)) p = refl
no_result Single p = refl
no_result Broadcast p = refl

pub is_no_result : (place : Place) (plan : Plan) (stage : Stage) → stage_at place plan ≡ Some stage → is_result stage.kind ≡ false
is_no_result (Left ∷ place) (kept test p) stage e = is_no_result place p stage e
is_no_result (Left ∷ place) (mapped items p) stage e = is_no_result place p stage e
is_no_result (Left ∷ place) (grouped keys calls p) stage e = is_no_result place p stage e
is_no_result (Left ∷ place) (finished keys calls p) stage e = is_no_result place p stage e
is_no_result (Left ∷ place) (ordered keys p) stage e = is_no_result place p stage e
is_no_result (Left ∷ place) (cut_locally count p) stage e = is_no_result place p stage e
is_no_result (Left ∷ place) (cut_globally count skip p) stage e = is_no_result place p stage e
is_no_result [] (moved to p) stage e = ap (λ (s : Stage). is_result s.kind) (sym (same_stage (stage_of to p) stage e)) ∙ no_result to p
is_no_result (Left ∷ place) (moved to p) stage e = is_no_result place p stage e
is_no_result (Left ∷ place) (matched y kind keys v w p q) stage e = is_no_result place p stage e
is_no_result (Right ∷ place) (matched y kind keys v w p q) stage e = is_no_result place q stage e
is_no_result (Left ∷ place) (both_of p q) stage e = is_no_result place p stage e
is_no_result (Right ∷ place) (both_of p q) stage e = is_no_result place q stage e
is_no_result place plan stage e = absurd (no_stage stage e)

-- where nothing but the result can be made, it is the whole plan's, and nothing is behind it
the_result : (b : Bool) (plan : Plan) (making : Making) (others : List Making) → cond b (result_of plan ∷ []) [] ≡ making ∷ others → (making ≡ result_of plan) × (others ≡ [])
the_result true plan making others e = (sym (same_head (result_of plan) making [] others e), sym (same_tail (result_of plan) making [] others e))
the_result false plan making others e = absurd (no_making making others e)

none_behind : (whole : ℕ → Bool) (plan : Plan) → makings whole plan ≡ [] → all_makings whole true plan ≡ []
none_behind whole plan e =
    ap (λ (ms : List Making). ms ++ cond (is_ready whole plan && not true) (result_of plan ∷ []) []) e ∙
    ap (λ (b : Bool). cond b (result_of plan ∷ []) []) (false_right (is_ready whole plan) false refl)

-- by what can be made of the exchanges
behind : (whole : ℕ → Bool) (number : StageId) (plan : Plan) (has_result : Bool) (making : Making) (others found : List Making) → makings whole plan ≡ found →
    whole number.0 ≡ false → all_makings whole has_result plan ≡ making ∷ others →
    all_makings whole (result_after making has_result) (plan_after number making plan) ≡ others
behind whole number plan has_result making others [] l w e =
    let only : cond (is_ready whole plan && not has_result) (result_of plan ∷ []) [] ≡ making ∷ others =
    sym (ap (λ (ms : List Making). ms ++ cond (is_ready whole plan && not has_result) (result_of plan ∷ []) []) l) ∙ e in
    let is = the_result (is_ready whole plan && not has_result) plan making others only in
    ap (λ (m : Making). all_makings whole (result_after m has_result) (plan_after number m plan)) is.0 ∙ (none_behind whole plan l ∙ sym is.1)
behind whole number plan has_result making others (m ∷ ms) l w e =
    let step = queries_one_by_one whole has_result number plan m ms w l in
    let first : m ≡ making = same_head m making ms others (sym step.0 ∙ e) in
    let rest : ms ≡ others = same_tail m making ms others (sym step.0 ∙ e) in
    let stands = All-head (Stands plan) m ms (subst (All (Stands plan)) l (standing whole plan)) in
    let other : is_result making.stage.kind ≡ false = ap (λ (n : Making). is_result n.stage.kind) (sym first) ∙ is_no_result m.place plan m.stage stands in
    ap (λ (b : Bool). all_makings whole (cond b true has_result) (cond b plan (after number making.place plan))) other ∙
    (ap (λ (n : Making). all_makings whole has_result (after number n.place plan)) (sym first) ∙ (step.1 ∙ rest))

pub stay_ready : OthersStayReady
stay_ready stages number before next making others w e p r =
    (λ i. all_makings (listed stages) (r i) (p i)) ∙ behind (listed stages) number before.plan before.has_result making others (makings (listed stages) before.plan) refl w e
