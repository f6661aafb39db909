-- The parts of a plan can still be numbered after a stage was made of it.
use Rattle.std.proofs.Common.{◌≡◌, ℕ, ◌+◌, ◌<◌, ◌^◌, [], ◌∷◌, refl, sym, ap, ◌∙◌, subst, Some, None}
use Rattle.std.proofs.lemmas.List.FromFn.{length-map-range_with_len}
use Rattle.aqe_base.specs.declared.stage_id.StageId.{StageId}
use Rattle.aqe_base.specs.declared.join_kind.Side.TheVariants.{Left, Right}
use Rattle.aqe_rects.specs.Rectangles.{plain_rect}
use Rattle.aqe_physical.specs.declared.target.Target.{Target}
use Rattle.aqe_physical.specs.declared.target.Target.TheVariants.{Hash, Range, Single, Broadcast}
use Rattle.aqe_physical.specs.declared.plan.Plan.{Plan}
use Rattle.aqe_physical.specs.Shapes.{kept, mapped, moved, matched, grouped, finished, ordered, cut_locally, cut_globally, both_of}
use Rattle.aqe_physical.specs.Counts.{part_count, target_count, join_count}
use Rattle.aqe_physical.proofs.Nodes.{Each, each, all_nodes}
use Rattle.aqe_stages.specs.Stages.{Stage}
use Rattle.aqe_making.specs.Makings.{Place, stage_of}
use Rattle.aqe_making.specs.After.{after, read_after, stage_at}
use Rattle.aqe_making.specs.Laws.{PartsStillFit, BodiesFit}
use Rattle.aqe_making.proofs.Lists.{no_stage, same_stage}
use Rattle.aqe_making.proofs.Standing.{body_of}

-- what is read in the place of an exchange has its parts
read_count : (number : StageId) (to : Target) (p : Plan) → part_count (read_after number to p) ≡ target_count to
read_count number (Hash keys n) p = length-map-range_with_len (plain_rect (part_count p)) 0 n
read_count number (Range keys n None) p = refl
read_count number (Range keys n (Some stage)) p = length-map-range_with_len (plain_rect (part_count p)) 0 n
read_count number Single p = length-map-range_with_len (plain_rect (part_count p)) 0 1
read_count number Broadcast p = refl

pub count_stays : (number : StageId) (place : Place) (plan : Plan) → part_count (after number place plan) ≡ part_count plan
count_stays number (Left ∷ place) (kept test p) = count_stays number place p
count_stays number (Left ∷ place) (mapped items p) = count_stays number place p
count_stays number (Left ∷ place) (grouped keys calls p) = count_stays number place p
count_stays number (Left ∷ place) (finished keys calls p) = count_stays number place p
count_stays number (Left ∷ place) (ordered keys p) = count_stays number place p
count_stays number (Left ∷ place) (cut_locally count p) = count_stays number place p
count_stays number (Left ∷ place) (cut_globally count skip p) = count_stays number place p
count_stays number [] (moved to p) = read_count number to p
count_stays number (Left ∷ place) (moved to p) = refl
count_stays number (Left ∷ place) (matched y kind keys v w p q) = ap (λ (n : ℕ). join_count y n (part_count q)) (count_stays number place p)
count_stays number (Right ∷ place) (matched y kind keys v w p q) = ap (λ (n : ℕ). join_count y (part_count p) n) (count_stays number place q)
count_stays number (Left ∷ place) (both_of p q) = ap (λ (n : ℕ). n + part_count q) (count_stays number place p)
count_stays number (Right ∷ place) (both_of p q) = ap (λ (n : ℕ). part_count p + n) (count_stays number place q)
count_stays number place plan = refl

abbrev Fits : Plan → Type 0
Fits node = part_count node < 2 ^ 32

fits_read : (number : StageId) (to : Target) (p : Plan) → target_count to < 2 ^ 32 → Each Fits p → Each Fits (read_after number to p)
fits_read number (Hash keys n) p h k = subst (λ (c : ℕ). c < 2 ^ 32) (sym (read_count number (Hash keys n) p)) h
fits_read number (Range keys n None) p h k = (h, k)
fits_read number (Range keys n (Some stage)) p h k = subst (λ (c : ℕ). c < 2 ^ 32) (sym (read_count number (Range keys n (Some stage)) p)) h
fits_read number Single p h k = subst (λ (c : ℕ). c < 2 ^ 32) (sym (read_count number Single p)) h
fits_read number Broadcast p h k = h

still : (number : StageId) (place : Place) (plan : Plan) → Each Fits plan → Each Fits (after number place plan)
still number (Left ∷ place) (kept test p) h = (subst (λ (c : ℕ). c < 2 ^ 32) (sym (count_stays number (Left ∷ place) (kept test p))) h.0, still number place p h.1)
still number (Left ∷ place) (mapped items p) h = (subst (λ (c : ℕ). c < 2 ^ 32) (sym (count_stays number (Left ∷ place) (mapped items p))) h.0, still number place p h.1)
still number (Left ∷ place) (grouped keys calls p) h = (subst (λ (c : ℕ). c < 2 ^ 32) (sym (count_stays number (Left ∷ place) (grouped keys calls p))) h.0, still number place p h.1)
still number (Left ∷ place) (finished keys calls p) h = (subst (λ (c : ℕ). c < 2 ^ 32) (sym (count_stays number (Left ∷ place) (finished keys calls p))) h.0, still number place p h.1)
still number (Left ∷ place) (ordered keys p) h = (subst (λ (c : ℕ). c < 2 ^ 32) (sym (count_stays number (Left ∷ place) (ordered keys p))) h.0, still number place p h.1)
still number (Left ∷ place) (cut_locally count p) h = (subst (λ (c : ℕ). c < 2 ^ 32) (sym (count_stays number (Left ∷ place) (cut_locally count p))) h.0, still number place p h.1)
still number (Left ∷ place) (cut_globally count skip p) h = (subst (λ (c : ℕ). c < 2 ^ 32) (sym (count_stays number (Left ∷ place) (cut_globally count skip p))) h.0, still number place p h.1)
still number [] (moved to p) h = fits_read number to p h.0 h.1
still number (Left ∷ place) (moved to p) h = (h.0, still number place p h.1)
still number (Left ∷ place) (matched y kind keys v w p q) h = (subst (λ (c : ℕ). c < 2 ^ 32) (sym (count_stays number (Left ∷ place) (matched y kind keys v w p q))) h.0, still number place p h.1, h.2)
still number (Right ∷ place) (matched y kind keys v w p q) h = (subst (λ (c : ℕ). c < 2 ^ 32) (sym (count_stays number (Right ∷ place) (matched y kind keys v w p q))) h.0, h.1, still number place q h.2)
still number (Left ∷ place) (both_of p q) h = (subst (λ (c : ℕ). c < 2 ^ 32) (sym (count_stays number (Left ∷ place) (both_of p q))) h.0, still number place p h.1, h.2)
still number (Right ∷ place) (both_of p q) h = (subst (λ (c : ℕ). c < 2 ^ 32) (sym (count_stays number (Right ∷ place) (both_of p q))) h.0, h.1, still number place q h.2)
still number place plan h = h

pub still_fit : PartsStillFit
still_fit number place plan h = all_nodes Fits (after number place plan) (still number place plan (each Fits plan h))

body : (place : Place) (plan : Plan) (stage : Stage) → stage_at place plan ≡ Some stage → Each Fits plan → Each Fits stage.body
body (Left ∷ place) (kept test p) stage e h = body place p stage e h.1
body (Left ∷ place) (mapped items p) stage e h = body place p stage e h.1
body (Left ∷ place) (grouped keys calls p) stage e h = body place p stage e h.1
body (Left ∷ place) (finished keys calls p) stage e h = body place p stage e h.1
body (Left ∷ place) (ordered keys p) stage e h = body place p stage e h.1
body (Left ∷ place) (cut_locally count p) stage e h = body place p stage e h.1
body (Left ∷ place) (cut_globally count skip p) stage e h = body place p stage e h.1
body [] (moved to p) stage e h =
    subst (Each Fits) (sym (body_of to p) ∙ ap (λ (s : Stage). s.body) (same_stage (stage_of to p) stage e)) h.1
body (Left ∷ place) (moved to p) stage e h = body place p stage e h.1
body (Left ∷ place) (matched y kind keys v w p q) stage e h = body place p stage e h.1
body (Right ∷ place) (matched y kind keys v w p q) stage e h = body place q stage e h.2
body (Left ∷ place) (both_of p q) stage e h = body place p stage e h.1
body (Right ∷ place) (both_of p q) stage e h = body place q stage e h.2
body place plan stage e h = absurd (no_stage stage e)

pub body_fits : BodiesFit
body_fits place plan stage e h = all_nodes Fits stage.body (body place plan stage e (each Fits plan h))
