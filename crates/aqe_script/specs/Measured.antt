-- A nesting that was measured, as far as there is room for it.
use Rattle.std.specs.Prelude.{ℕ, Option, ◌≡◌, ◌<◌, ◌≤◌, MatchOption}

-- the nesting where it is within the room, and nothing where it is above it
abbrev pub Measured : ℕ → ℕ → Option ℕ → Type 0
Measured nesting room result = MatchOption result (room < nesting) (λ d. (d ≡ nesting) × (d ≤ room))
