-- The next stage of a query, and both plans after it.
use Rattle.std.specs.Prelude.{ℕ, Bool, ◌≡◌, List, ◌∷◌}
use Rattle.aqe_base.specs.declared.stage_id.StageId.{StageId}
use Rattle.aqe_logical.specs.declared.plan.Logical.{Logical}
use Rattle.aqe_physical.specs.declared.plan.Plan.{Plan}
use Rattle.aqe_stages.specs.Stages.{Stage}
use Rattle.aqe_making.specs.Makings.{Making, makings}
use Rattle.aqe_making.specs.After.{after}
use Rattle.aqe_making.specs.Held.{logical_after}

-- a making is the next of a plan where it stands first among those that can be made
abbrev pub IsNext : (ℕ → Bool) → Plan → Making → Type 0
IsNext whole plan making = (others : List Making) × (makings whole plan ≡ making ∷ others)

-- The next stage is made with a new number: of a logical plan x, which p carries out, and of p a stage is made, and x1 and p1 are the
-- plans after it.
abbrev pub Next : (ℕ → Bool) → StageId → Logical → Plan → Stage → Logical → Plan → Type 0
Next whole number x p stage x1 p1 =
    (making : Making) × IsNext whole p making × (stage ≡ making.stage) ×
    (x1 ≡ logical_after number x making.place p) × (p1 ≡ after number making.place p)
