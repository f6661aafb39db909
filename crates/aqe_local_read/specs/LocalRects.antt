-- The rectangles of a local read: each has whole maps, or a part of the reducers of one map.
use Rattle.std.specs.Prelude.{ℕ, ◌+◌, ◌*◌, ◌/◌, ◌%◌, min, max, cond, List, map, flat_map, nat_le}
use Rattle.std.specs.List.{range_with_len}
use Rattle.aqe_base.specs.declared.cells.Rect.{Rect}

-- Where run i begins when n things are cut into k runs: each run has n / k of them, and the first n % k have one more.
abbrev pub run_start : ℕ → ℕ → ℕ → ℕ
run_start n k i = i * (n / k) + min i (n % k)

-- the runs: where each begins, and where it ends
abbrev pub run : ℕ → ℕ → ℕ → ℕ × ℕ
run n k i = (run_start n k i, run_start n k (i + 1))

abbrev pub runs : ℕ → ℕ → List (ℕ × ℕ)
runs n k = map (run n k) (range_with_len 0 k)

-- the rectangle of a run of maps, with all reducers; that of a map, with a run of reducers
abbrev pub rect_of_maps : ℕ → ℕ × ℕ → Rect
rect_of_maps reducers maps = record { m0 = maps.0; m1 = maps.1; r0 = 0; r1 = reducers }

abbrev pub rect_of_map : ℕ → ℕ × ℕ → Rect
rect_of_map m reducers = record { m0 = m; m1 = m + 1; r0 = reducers.0; r1 = reducers.1 }

-- into how many runs the reducers of each map are cut, so that there are as many rectangles as are wanted, or somewhat fewer
abbrev pub cuts_of_map : ℕ → ℕ → ℕ → ℕ
cuts_of_map maps reducers wanted = min reducers (max 1 (wanted / maps))

abbrev pub rects_of_map : ℕ → ℕ → ℕ → List Rect
rects_of_map reducers k m = map (rect_of_map m) (runs reducers k)

-- Where there are as many maps as rectangles are wanted, or more, the maps are cut into that many runs;
-- else the reducers of each map are cut, and the maps stand in order.
abbrev pub local_rects : ℕ → ℕ → ℕ → List Rect
local_rects maps reducers wanted =
    cond (nat_le wanted maps)
    (map (rect_of_maps reducers) (runs maps wanted))
    (flat_map (rects_of_map reducers (cuts_of_map maps reducers wanted)) (range_with_len 0 maps))
