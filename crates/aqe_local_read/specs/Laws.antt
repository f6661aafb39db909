-- The laws of local reads.
use Rattle.std.specs.Prelude.{ℕ, ◌≡◌, ◌<◌, ◌≤◌, ◌+◌, ◌-◌}
use Rattle.aqe_rects.specs.Rectangles.{Covers}
use Rattle.aqe_local_read.specs.LocalRects.{run_start, local_rects}

-- the rectangles of a local read have each cell once, and no other
abbrev pub LocalRectanglesCover : Type 0
LocalRectanglesCover = (maps reducers wanted : ℕ) → 1 ≤ maps → 1 ≤ reducers → 1 ≤ wanted → Covers (local_rects maps reducers wanted) maps reducers

-- how many things run i has
abbrev pub run_length : ℕ → ℕ → ℕ → ℕ
run_length n k i = run_start n k (i + 1) - run_start n k i

-- n things cut into k runs: the first run begins at 0, the last ends at n, none ends before it begins; a run is as long as a later one, or longer by one
pub record AreEven (n k : ℕ) : Type 0 where
  pub first : run_start n k 0 ≡ 0
  pub last : run_start n k k ≡ n
  pub forward : (i : ℕ) → run_start n k i ≤ run_start n k (i + 1)
  pub longer_first : (i j : ℕ) → i < j → (run_length n k j ≤ run_length n k i) × (run_length n k i ≤ run_length n k j + 1)

abbrev pub RunsAreEven : Type 0
RunsAreEven = (n k : ℕ) → 1 ≤ k → AreEven n k
