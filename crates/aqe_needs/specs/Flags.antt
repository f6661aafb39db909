-- Flags of stages that are numbered from some number on.
use Rattle.std.specs.Prelude.{ℕ, ◌+◌, ◌==◌, ◌≡◌, Bool, false, ◌||◌, Option, Some, None, List, [], ◌∷◌, ◌++◌, slice_index_or}
use Rattle.aqe_base.specs.declared.stage_id.StageId.{StageId}
use Rattle.aqe_physical.specs.declared.target.Target.{Target}
use Rattle.aqe_physical.specs.declared.target.Target.TheVariants.{Range}
use Rattle.aqe_physical.specs.declared.target.StageKind.{StageKind}
use Rattle.aqe_physical.specs.declared.target.StageKind.TheVariants as kind

-- the flags once those were set whose number passes the test; the first flag has number n
abbrev pub noted : (ℕ → Bool) → ℕ → List Bool → List Bool
noted test n [] = []
noted test n (flag ∷ flags) = (flag || test n) ∷ noted test (n + 1) flags

-- whether a number is that of the stage that is named, if one is
abbrev pub is_named : Option StageId → ℕ → Bool
is_named (Some stage) s = stage.0 == s
is_named None s = false

-- the stage that a target names for its samples, and the one that the target of a stage names
abbrev pub sample_of : Target → Option StageId
sample_of (Range keys n sample) = sample
sample_of to = None

abbrev pub sample_of_kind : StageKind → Option StageId
sample_of_kind (kind.Shuffle to) = sample_of to
sample_of_kind other = None

-- the last flag, if there is one, and the flags before it
abbrev pub IsWithoutLast : List Bool → Option Bool → List Bool → Type 0
IsWithoutLast old (Some flag) new = old ≡ new ++ flag ∷ []
IsWithoutLast old None new = old ≡ []

-- whether a stage is whole, by marks; one without a mark is not
abbrev pub marked : List Bool → ℕ → Bool
marked whole s = slice_index_or whole s false
