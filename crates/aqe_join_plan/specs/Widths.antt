-- The width of a join.
use Rattle.std.specs.Prelude.{ℕ, ◌+◌, cond}
use Rattle.aqe_base.specs.declared.join_kind.JoinKind.{JoinKind}
use Rattle.aqe_logical.specs.Columns.{shows_right}

-- how many columns a join of two widths shows
abbrev pub shown_width : JoinKind → ℕ → ℕ → ℕ
shown_width kind left right = cond (shows_right kind) (left + right) left
