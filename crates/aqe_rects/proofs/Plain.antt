-- The plain rectangles cover.
use Rattle.std.proofs.Common.{◌≡◌, ℕ, zero, suc, ◌+◌, ◌&&◌, cond, map, ap, ◌∙◌, arith}
use Rattle.std.specs.Prelude.{count_by, nat_lt, nat_le}
use Rattle.std.specs.List.{range_with_len}
use Rattle.std.proofs.lemmas.Bool.Decides.{nat_tests}
use Rattle.std.proofs.lemmas.List.Sums.{sum_by-cons}
use Rattle.aqe_rects.specs.Rectangles.{has_cell, is_cell, plain_rect}
use Rattle.aqe_rects.specs.Laws.{PlainRectanglesCover}

-- a rectangle of one reducer has the cells of that reducer
one : (maps m r a : ℕ) → has_cell m r (plain_rect maps a) ≡ (nat_lt m maps && nat_le a r && nat_lt r (a + 1))
one maps m r a = grind (arith, nat_tests)

-- a reducer is the first of a row of them, or one of the others
first_or_later : (maps m r a n rest : ℕ) → rest ≡ cond (nat_lt m maps && nat_le (a + 1) r && nat_lt r (a + 1 + n)) 1 0
    → cond (nat_lt m maps && nat_le a r && nat_lt r (a + 1)) 1 0 + rest ≡ cond (nat_lt m maps && nat_le a r && nat_lt r (a + suc n)) 1 0
first_or_later maps m r a n rest h = grind (arith, nat_tests, h)

covered_from : (maps a n m r : ℕ) → count_by (has_cell m r) (map (plain_rect maps) (range_with_len a n)) ≡ cond (nat_lt m maps && nat_le a r && nat_lt r (a + n)) 1 0
covered_from maps a zero m r = grind (arith, nat_tests)
covered_from maps a (suc n) m r =
    sum_by-cons (λ rect. cond (has_cell m r rect) 1 0) (plain_rect maps a) (map (plain_rect maps) (range_with_len (a + 1) n)) ∙
    (ap (λ b. cond b 1 0 + count_by (has_cell m r) (map (plain_rect maps) (range_with_len (a + 1) n))) (one maps m r a) ∙
    first_or_later maps m r a n (count_by (has_cell m r) (map (plain_rect maps) (range_with_len (a + 1) n))) (covered_from maps (a + 1) n m r))

pub cover : PlainRectanglesCover
cover maps reducers m r = covered_from maps 0 reducers m r ∙ within maps reducers m r
  where
    within : (maps reducers m r : ℕ) → cond {A = ℕ} (nat_lt m maps && nat_le 0 r && nat_lt r (0 + reducers)) 1 0 ≡ cond (is_cell maps reducers m r) 1 0
    within maps reducers m r = grind (arith, nat_tests)
