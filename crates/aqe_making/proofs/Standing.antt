-- What can be made of a plan stands in it, is ready, and is made of it.
use Rattle.std.proofs.Common.{◌≡◌, ℕ, Bool, true, [], ◌∷◌, ◌++◌, map, refl, ap, ◌∙◌, subst, Some, None}
use Rattle.std.specs.Prelude.{All, ◌&&◌}
use Rattle.std.proofs.lemmas.List.Elements.{All-nil, All-append}
use Rattle.aqe_base.specs.declared.stage_id.StageId.{StageId}
use Rattle.aqe_base.specs.declared.join_kind.Side.TheVariants.{Left, Right}
use Rattle.aqe_physical.specs.declared.target.Target.{Target}
use Rattle.aqe_physical.specs.declared.target.Target.TheVariants.{Hash, Range, Single, Broadcast}
use Rattle.aqe_physical.specs.declared.plan.Plan.{Plan, OneRow, Scan, Nothing, Read, ReadBroadcast}
use Rattle.aqe_physical.specs.Shapes.{kept, mapped, moved, matched, grouped, finished, ordered, cut_locally, cut_globally, both_of}
use Rattle.aqe_stages.specs.Stages.{Stage}
use Rattle.aqe_stages.specs.Making.{Made, shuffled, broadcasted, sampled, in_kept, in_mapped, in_moved, in_left, in_right, in_grouped, in_finished, in_ordered, in_cut_locally, in_cut_globally, in_first, in_second}
use Rattle.aqe_making.specs.Ready.{is_ready, sample_ready}
use Rattle.aqe_making.specs.Makings.{Making, below, stage_of, made_here, makings}
use Rattle.aqe_making.specs.After.{after, read_after, stage_at}
use Rattle.aqe_making.specs.Laws.{MakingsStandInThePlan, MakingsAreReady, StagesAreMade}
use Rattle.aqe_making.proofs.Lists.{and_left, no_stage, same_stage, lifted, at_most_one}

abbrev Stands : Plan → Making → Type 0
Stands plan making = stage_at making.place plan ≡ Some making.stage

pub standing : MakingsStandInThePlan
standing whole OneRow = All-nil (Stands OneRow)
standing whole (Scan table files) = All-nil (Stands (Scan table files))
standing whole (Nothing parts width) = All-nil (Stands (Nothing parts width))
standing whole (Read stage maps reducers rects) = All-nil (Stands (Read stage maps reducers rects))
standing whole (ReadBroadcast stage) = All-nil (Stands (ReadBroadcast stage))
standing whole (kept test p) = lifted (Stands p) (Stands (kept test p)) Left (λ m h. h) (makings whole p) (standing whole p)
standing whole (mapped items p) = lifted (Stands p) (Stands (mapped items p)) Left (λ m h. h) (makings whole p) (standing whole p)
standing whole (moved to p) =
    All-append (Stands (moved to p)) (map (below Left) (makings whole p)) (made_here whole to p)
    (lifted (Stands p) (Stands (moved to p)) Left (λ m h. h) (makings whole p) (standing whole p))
    (at_most_one (Stands (moved to p)) (is_ready whole p && sample_ready whole to) (record { place = []; stage = stage_of to p }) (λ e. refl))
standing whole (matched y kind keys v w p q) =
    All-append (Stands (matched y kind keys v w p q)) (map (below Left) (makings whole p)) (map (below Right) (makings whole q))
    (lifted (Stands p) (Stands (matched y kind keys v w p q)) Left (λ m h. h) (makings whole p) (standing whole p))
    (lifted (Stands q) (Stands (matched y kind keys v w p q)) Right (λ m h. h) (makings whole q) (standing whole q))
standing whole (grouped keys calls p) = lifted (Stands p) (Stands (grouped keys calls p)) Left (λ m h. h) (makings whole p) (standing whole p)
standing whole (finished keys calls p) = lifted (Stands p) (Stands (finished keys calls p)) Left (λ m h. h) (makings whole p) (standing whole p)
standing whole (ordered keys p) = lifted (Stands p) (Stands (ordered keys p)) Left (λ m h. h) (makings whole p) (standing whole p)
standing whole (cut_locally count p) = lifted (Stands p) (Stands (cut_locally count p)) Left (λ m h. h) (makings whole p) (standing whole p)
standing whole (cut_globally count skip p) = lifted (Stands p) (Stands (cut_globally count skip p)) Left (λ m h. h) (makings whole p) (standing whole p)
standing whole (both_of p q) =
    All-append (Stands (both_of p q)) (map (below Left) (makings whole p)) (map (below Right) (makings whole q))
    (lifted (Stands p) (Stands (both_of p q)) Left (λ m h. h) (makings whole p) (standing whole p))
    (lifted (Stands q) (Stands (both_of p q)) Right (λ m h. h) (makings whole q) (standing whole q))

-- the body of the stage of an exchange is what stands below it
pub body_of : (to : Target) (p : Plan) → (stage_of to p).body ≡ p
body_of (Hash keys n) p = refl
body_of (Range keys n None) p = refl
body_of (Range keys n (Some stage)) p = refl
body_of Single p = refl
body_of Broadcast p = refl

abbrev IsReady : (ℕ → Bool) → Making → Type 0
IsReady whole making = is_ready whole making.stage.body ≡ true

up : (whole : ℕ → Bool) (plan : Plan) → All (IsReady whole) (makings whole plan) → All (IsReady whole) (map (below Left) (makings whole plan))
up whole plan h = lifted (IsReady whole) (IsReady whole) Left (λ m h. h) (makings whole plan) h

both : (whole : ℕ → Bool) (p q : Plan) → All (IsReady whole) (makings whole p) → All (IsReady whole) (makings whole q) →
    All (IsReady whole) (map (below Left) (makings whole p) ++ map (below Right) (makings whole q))
both whole p q h k =
    All-append (IsReady whole) (map (below Left) (makings whole p)) (map (below Right) (makings whole q)) (up whole p h)
    (lifted (IsReady whole) (IsReady whole) Right (λ m h. h) (makings whole q) k)

pub are_ready : MakingsAreReady
are_ready whole OneRow = All-nil (IsReady whole)
are_ready whole (Scan table files) = All-nil (IsReady whole)
are_ready whole (Nothing parts width) = All-nil (IsReady whole)
are_ready whole (Read stage maps reducers rects) = All-nil (IsReady whole)
are_ready whole (ReadBroadcast stage) = All-nil (IsReady whole)
are_ready whole (kept test p) = up whole p (are_ready whole p)
are_ready whole (mapped items p) = up whole p (are_ready whole p)
are_ready whole (moved to p) =
    All-append (IsReady whole) (map (below Left) (makings whole p)) (made_here whole to p) (up whole p (are_ready whole p))
    (at_most_one (IsReady whole) (is_ready whole p && sample_ready whole to) (record { place = []; stage = stage_of to p })
    (λ e. ap (is_ready whole) (body_of to p) ∙ and_left (is_ready whole p) (sample_ready whole to) e))
are_ready whole (matched y kind keys v w p q) = both whole p q (are_ready whole p) (are_ready whole q)
are_ready whole (grouped keys calls p) = up whole p (are_ready whole p)
are_ready whole (finished keys calls p) = up whole p (are_ready whole p)
are_ready whole (ordered keys p) = up whole p (are_ready whole p)
are_ready whole (cut_locally count p) = up whole p (are_ready whole p)
are_ready whole (cut_globally count skip p) = up whole p (are_ready whole p)
are_ready whole (both_of p q) = both whole p q (are_ready whole p) (are_ready whole q)

made_of : (number : StageId) (to : Target) (p : Plan) → Made number (moved to p) (stage_of to p) (read_after number to p)
made_of number (Hash keys n) p = shuffled (Hash keys n) p tt
made_of number (Range keys n None) p = sampled keys n p
made_of number (Range keys n (Some stage)) p = shuffled (Range keys n (Some stage)) p tt
made_of number Single p = shuffled Single p tt
made_of number Broadcast p = broadcasted p

pub made_at : StagesAreMade
made_at number (Left ∷ place) (kept test p) stage e = in_kept test p (after number place p) stage (made_at number place p stage e)
made_at number (Left ∷ place) (mapped items p) stage e = in_mapped items p (after number place p) stage (made_at number place p stage e)
made_at number [] (moved to p) stage e =
    subst (λ (s : Stage). Made number (moved to p) s (read_after number to p)) (same_stage (stage_of to p) stage e) (made_of number to p)
made_at number (Left ∷ place) (moved to p) stage e = in_moved to p (after number place p) stage (made_at number place p stage e)
made_at number (Left ∷ place) (matched y kind keys v w p q) stage e = in_left y kind keys v w p (after number place p) q stage (made_at number place p stage e)
made_at number (Right ∷ place) (matched y kind keys v w p q) stage e = in_right y kind keys v w p q (after number place q) stage (made_at number place q stage e)
made_at number (Left ∷ place) (grouped keys calls p) stage e = in_grouped keys calls p (after number place p) stage (made_at number place p stage e)
made_at number (Left ∷ place) (finished keys calls p) stage e = in_finished keys calls p (after number place p) stage (made_at number place p stage e)
made_at number (Left ∷ place) (ordered keys p) stage e = in_ordered keys p (after number place p) stage (made_at number place p stage e)
made_at number (Left ∷ place) (cut_locally count p) stage e = in_cut_locally count p (after number place p) stage (made_at number place p stage e)
made_at number (Left ∷ place) (cut_globally count skip p) stage e = in_cut_globally count skip p (after number place p) stage (made_at number place p stage e)
made_at number (Left ∷ place) (both_of p q) stage e = in_first p (after number place p) q stage (made_at number place p stage e)
made_at number (Right ∷ place) (both_of p q) stage e = in_second p q (after number place q) stage (made_at number place q stage e)
made_at number place plan stage e = absurd (no_stage stage e)
