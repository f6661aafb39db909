-- What the code puts in the place of an exchange is what the definitions do, if the stage is that of the exchange.
use Rattle.std.proofs.Common.{◌≡◌, ℕ, Bool, true, false, [], ◌∷◌, Option, Some, None, refl, ap, sym, subst, ◌∙◌, inl, inr}
use Rattle.std.specs.Prelude.{cond}
use Rattle.aqe_base.specs.declared.stage_id.StageId.{StageId}
use Rattle.aqe_base.specs.declared.join_kind.Side.TheVariants.{Left, Right}
use Rattle.aqe_physical.specs.declared.target.Target.{Target}
use Rattle.aqe_physical.specs.declared.target.Target.TheVariants.{Hash, Range, Single, Broadcast}
use Rattle.aqe_physical.specs.declared.plan.Plan.{Plan}
use Rattle.aqe_physical.specs.Shapes.{kept, mapped, moved, matched, grouped, finished, ordered, cut_locally, cut_globally, both_of}
use Rattle.aqe_physical.specs.Counts.{part_count, PartsFit}
use Rattle.aqe_stages.specs.Stages.{Stage}
use Rattle.aqe_making.specs.Makings.{Place, Making, stage_of}
use Rattle.aqe_making.specs.After.{after, read_after, stage_at}
use Rattle.aqe_making.proofs.Lists.{no_stage, same_stage}
use Rattle.aqe_making.proofs.Standing.{body_of}
use Rattle.aqe_making.proofs.Fitting.{body_fits, still_fit}
use Rattle.aqe_replan.specs.declared.making.Making as code
use Rattle.aqe_replan.specs.Seen.{seen}
use Rattle.aqe_replan.specs.Reading.{read_with, replaced_with}
use Rattle.aqe_replan.specs.Versions.{is_result, CanBeMade, IsAfter, taken, noted, plan_after, result_after}

same_read : (number : StageId) (to : Target) (p : Plan) → read_with number (part_count p) to p ≡ read_after number to p
same_read number (Hash keys n) p = refl
same_read number (Range keys n None) p = refl
same_read number (Range keys n (Some stage)) p = refl
same_read number Single p = refl
same_read number Broadcast p = refl

pub same_after : (number : StageId) (place : Place) (plan : Plan) (stage : Stage) → stage_at place plan ≡ Some stage → replaced_with number (part_count stage.body) place plan ≡ after number place plan
same_after number (Left ∷ place) (kept test p) stage e = ap (λ (q : Plan). kept test q) (same_after number place p stage e)
same_after number (Left ∷ place) (mapped items p) stage e = ap (λ (q : Plan). mapped items q) (same_after number place p stage e)
same_after number (Left ∷ place) (grouped keys calls p) stage e = ap (λ (q : Plan). grouped keys calls q) (same_after number place p stage e)
same_after number (Left ∷ place) (finished keys calls p) stage e = ap (λ (q : Plan). finished keys calls q) (same_after number place p stage e)
same_after number (Left ∷ place) (ordered keys p) stage e = ap (λ (q : Plan). ordered keys q) (same_after number place p stage e)
same_after number (Left ∷ place) (cut_locally count p) stage e = ap (λ (q : Plan). cut_locally count q) (same_after number place p stage e)
same_after number (Left ∷ place) (cut_globally count skip p) stage e = ap (λ (q : Plan). cut_globally count skip q) (same_after number place p stage e)
same_after number [] (moved to p) stage e =
    let is : stage.body ≡ p = ap (λ (s : Stage). s.body) (sym (same_stage (stage_of to p) stage e)) ∙ body_of to p in
    ap (λ (q : Plan). read_with number (part_count q) to p) is ∙ same_read number to p
same_after number (Left ∷ place) (moved to p) stage e = ap (λ (q : Plan). moved to q) (same_after number place p stage e)
same_after number (Left ∷ place) (matched y kind keys v w p q) stage e = ap (λ (r : Plan). matched y kind keys v w r q) (same_after number place p stage e)
same_after number (Right ∷ place) (matched y kind keys v w p q) stage e = ap (λ (r : Plan). matched y kind keys v w p r) (same_after number place q stage e)
same_after number (Left ∷ place) (both_of p q) stage e = ap (λ (r : Plan). both_of r q) (same_after number place p stage e)
same_after number (Right ∷ place) (both_of p q) stage e = ap (λ (r : Plan). both_of p r) (same_after number place q stage e)
same_after number place plan stage e = absurd (no_stage stage e)

-- an exchange that was made
pub exchange_made : (number : StageId) (making : code.Making) (place : Place) (plan new : Plan) (maps : ℕ) → CanBeMade plan (seen making) → is_result making.kind ≡ false →
    maps ≡ part_count making.body → place ≡ making.place → new ≡ replaced_with number maps place plan → new ≡ after number making.place plan
exchange_made number making place plan new maps (inl so) other m p e = absurd (let bad : true ≡ false = sym so ∙ other in cc bad)
exchange_made number making place plan new maps (inr stands) other m p e =
    e ∙ ((λ i. replaced_with number (m i) (p i) plan) ∙ same_after number making.place plan (record { kind = making.kind; body = making.body }) stands)

-- the parts of the body of an exchange that stands in the plan can be numbered
pub body_fits_here : (making : code.Making) (plan : Plan) → CanBeMade plan (seen making) → is_result making.kind ≡ false → PartsFit plan → PartsFit making.body
body_fits_here making plan (inl so) other h = absurd (let bad : true ≡ false = sym so ∙ other in cc bad)
body_fits_here making plan (inr stands) other h = body_fits making.place plan (record { kind = making.kind; body = making.body }) stands h

pub ruleset after_steps = (exchange_made, body_fits_here)

-- what is taken is the plan after
pub plan_taken : (number : StageId) (making : Making) (plan new : Plan) (next : Option Plan) → IsAfter number making plan next → new ≡ taken next plan → new ≡ plan_after number making plan
plan_taken number making plan new None is e = e ∙ ap (λ (b : Bool). cond b plan (after number making.place plan)) (sym is)
plan_taken number making plan new (Some next) is e = e ∙ (is.1 ∙ ap (λ (b : Bool). cond b plan (after number making.place plan)) (sym is.0))

pub result_noted : (number : StageId) (making : Making) (plan : Plan) (before new : Bool) (next : Option Plan) → IsAfter number making plan next → new ≡ noted next before → new ≡ result_after making before
result_noted number making plan before new None is e = e ∙ ap (λ (b : Bool). cond b true before) (sym is)
result_noted number making plan before new (Some next) is e = e ∙ ap (λ (b : Bool). cond b true before) (sym is.0)

-- and so can those of the plan after
pub taken_fits : (number : StageId) (making : Making) (plan new : Plan) (next : Option Plan) → IsAfter number making plan next → new ≡ taken next plan → PartsFit plan → PartsFit new
taken_fits number making plan new None is e h = subst PartsFit (sym e) h
taken_fits number making plan new (Some next) is e h = subst PartsFit (sym (e ∙ is.1)) (still_fit number making.place plan h)

pub ruleset made_steps = (plan_taken, result_noted, taken_fits)
