-- The width of a plan, where no node of it has too many columns.
use Rattle.std.specs.Prelude.{◌≡◌, ℕ, ◌+◌, ◌<◌, ◌≤◌, max, cond, Option, MatchOption}
use Rattle.aqe_base.specs.declared.join_kind.JoinKind.{JoinKind}
use Rattle.aqe_logical.specs.Columns.{shows_right}
use Rattle.aqe_logical.specs.WellFormed.{column_limit}

-- none where there are too many columns; else the width
abbrev pub IsWithin : ℕ → ℕ → Option ℕ → Type 0
IsWithin columns width result = MatchOption result (column_limit < columns) (λ w. (columns ≤ column_limit) × (w ≡ width))

-- how many columns a join of two widths shows
abbrev pub shown_width : JoinKind → ℕ → ℕ → ℕ
shown_width kind left right = cond (shows_right kind) (left + right) left

-- the same for a join of two sides, of whose columns and widths this is known
abbrev pub IsJoined : JoinKind → ℕ → ℕ → ℕ → ℕ → Option ℕ → Type 0
IsJoined kind l a r b result = IsWithin (max (max l r) (shown_width kind a b)) (shown_width kind a b) result
