-- Answers that were worked out by hand from the rules: a check of the definitions.
use Rattle.std.proofs.Common.{◌≡◌, ℕ, [], ◌∷◌, refl}
use Rattle.aqe_base.specs.declared.cells.Rect.{Rect}
use Rattle.aqe_local_read.specs.LocalRects.{runs, local_rects}

abbrev rect : ℕ → ℕ → ℕ → ℕ → Rect
rect m0 m1 r0 r1 = record { m0 = m0; m1 = m1; r0 = r0; r1 = r1 }

-- longer runs first
eleven_in_four : runs 11 4 ≡ (0, 3) ∷ (3, 6) ∷ (6, 9) ∷ (9, 11) ∷ []
eleven_in_four = refl

-- two maps are fewer than five: the reducers of each are cut in two
reducers_cut : local_rects 2 5 5 ≡ rect 0 1 0 3 ∷ rect 0 1 3 5 ∷ rect 1 2 0 3 ∷ rect 1 2 3 5 ∷ []
reducers_cut = refl

-- five maps are enough: they are cut in two
maps_cut : local_rects 5 2 2 ≡ rect 0 3 0 2 ∷ rect 3 5 0 2 ∷ []
maps_cut = refl

-- three maps for four: the reducers of each stay together
reducers_whole : local_rects 3 4 4 ≡ rect 0 1 0 4 ∷ rect 1 2 0 4 ∷ rect 2 3 0 4 ∷ []
reducers_whole = refl

-- no more runs than reducers
few_reducers : local_rects 1 2 10 ≡ rect 0 1 0 1 ∷ rect 0 1 1 2 ∷ []
few_reducers = refl
