-- The makings that the code finds, as those of the definitions.
use Rattle.std.specs.Prelude.{ℕ, Bool, ◌==◌, List, [], ◌∷◌, ◌++◌, map}
use Rattle.std.specs.List.{list_any}
use Rattle.aqe_base.specs.declared.stage_id.StageId.{StageId}
use Rattle.aqe_base.specs.declared.join_kind.Side.TheVariants.{Left, Right}
use Rattle.aqe_physical.specs.declared.plan.Plan.{Plan}
use Rattle.aqe_making.specs.Makings as spec
use Rattle.aqe_replan.specs.declared.making.Making.{Making}

-- whether a stage is among those listed
abbrev pub listed : List StageId → ℕ → Bool
listed stages n = list_any (λ stage. stage.0 == n) stages

-- a making of a plan that stands at a place
abbrev pub standing : spec.Place → spec.Making → Making
standing place making = record { place = place ++ making.place; kind = making.stage.kind; body = making.stage.body }

-- the makings of a plan that stands at a place
abbrev pub all_standing : spec.Place → List spec.Making → List Making
all_standing place makings = map (standing place) makings

-- the makings of two plans that stand at both sides of the node at a place
abbrev pub both_standing : (ℕ → Bool) → spec.Place → Plan → Plan → List Making
both_standing whole place left right = all_standing (place ++ Left ∷ []) (spec.makings whole left) ++ all_standing (place ++ Right ∷ []) (spec.makings whole right)

-- a making of the code, as one of the definitions
abbrev pub seen : Making → spec.Making
seen making = record { place = making.place; stage = record { kind = making.kind; body = making.body } }
