-- The laws of rectangles.
use Rattle.std.specs.Prelude.{ℕ}
use Rattle.aqe_rects.specs.Rectangles.{Covers, plain_rects}

-- the plain rectangles cover
abbrev pub PlainRectanglesCover : Type 0
PlainRectanglesCover = (maps reducers : ℕ) → Covers (plain_rects maps reducers) maps reducers
