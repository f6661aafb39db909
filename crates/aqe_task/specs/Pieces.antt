-- What private functions read and keep.
use Rattle.std.specs.Prelude.{◌≡◌, ◌≤◌, ◌<◌, ℕ, List, [], ◌∷◌, flat_map, Option, Some, None, IsSome}
use Rattle.std.specs.Option.{unwrap_or}
use Rattle.aqe_base.specs.declared.cells.Rect.{Rect}
use Rattle.aqe_base.specs.declared.stage_id.StageId.{StageId}
use Rattle.aqe_blocks.specs.Kept.{AllKept, output_at}
use Rattle.aqe_blocks.specs.Cells.{cell_of}
use Rattle.aqe_logical.specs.Answers.{Row}
use Rattle.aqe_logical.specs.Groups.{row_of}
use Rattle.aqe_logical.specs.Order.{key_of}
use Rattle.aqe_logical.specs.declared.plan.SortKey.{SortKey}
use Rattle.aqe_operators.specs.Lent.{lent_rows}
use Rattle.aqe_places.specs.Places.{by_hash, exchanged}
use Rattle.aqe_places.specs.Samples.{bounds}
use Rattle.aqe_ranges.specs.Order.{key_less, range_place}
use Rattle.aqe_physical.specs.declared.target.Target.{Target}
use Rattle.aqe_physical.specs.declared.target.Target.TheVariants.{Hash, Range}
use Rattle.aqe_physical.specs.declared.target.StageKind.{StageKind}
use Rattle.aqe_physical.specs.declared.target.StageKind.TheVariants as kind
use Rattle.aqe_stages.specs.Cells.{numbers}
use Rattle.aqe_stages.specs.Places.{sample_of}
use Rattle.aqe_stages.specs.Runnable.{NarrowKeys}
use Rattle.aqe_task.specs.declared.part_rows.PartRows.{PartRows}
use Rattle.aqe_task.specs.declared.part_rows.PartRows.TheVariants.{Lent, Owned}

abbrev pub rows_in : PartRows → List Row
rows_in (Lent pieces) = lent_rows pieces.items
rows_in (Owned rows) = rows

-- the outputs of the maps from one up to another are kept
abbrev pub AreKept : AllKept → ℕ → ℕ → ℕ → Type 0
AreKept kept stage m0 m1 = (m : ℕ) → m0 ≤ m → m < m1 → IsSome (output_at kept stage m)

-- the cell that is kept of a map and reducer; those of a reducer from one map up to another; those of a rectangle
abbrev pub kept_cell : AllKept → ℕ → ℕ → ℕ → List Row
kept_cell kept stage m r = cell_of (unwrap_or (output_at kept stage m) []) r

abbrev pub kept_column : AllKept → ℕ → ℕ → ℕ → ℕ → List Row
kept_column kept stage m0 m1 r = flat_map (λ m. kept_cell kept stage m r) (numbers m0 m1)

abbrev pub kept_rows : AllKept → ℕ → Rect → List Row
kept_rows kept stage rect = flat_map (kept_column kept stage rect.m0 rect.m1) (numbers rect.r0 rect.r1)

-- rows are the first cells, map by map, of all maps in front of the first that is not kept
abbrev pub AreFirstCells : AllKept → ℕ → List Row → Type 0
AreFirstCells kept stage rows = (n : ℕ) × AreKept kept stage 0 n × (output_at kept stage n ≡ None) × (rows ≡ kept_column kept stage 0 n 0)

-- what a target, and a kind of stage, ask of the rows of a part: key rows are narrow, and a range names its samples
abbrev pub CanSend : Target → List Row → Type 0
CanSend (Hash keys n) rows = (0 < n) × NarrowKeys (row_of keys) rows
CanSend (Range keys n sample) rows = (0 < n) × IsSome sample × NarrowKeys (key_of keys) rows
CanSend target rows = Unit {0}

abbrev pub CanKeepRows : StageKind → List Row → Type 0
CanKeepRows (kind.Shuffle target) rows = CanSend target rows
CanKeepRows (kind.Sample keys) rows = NarrowKeys (key_of keys) rows
CanKeepRows other rows = Unit {0}

-- rows are all samples that a range names
abbrev pub AreSamples : AllKept → Option StageId → List Row → Type 0
AreSamples kept None rows = ⊥
AreSamples kept (Some stage) rows = AreFirstCells kept stage.0 rows

-- rows are the bounds of n ranges, taken of the samples
abbrev pub AreBounds : AllKept → List SortKey → ℕ → Option StageId → List Row → Type 0
AreBounds kept keys n sample rows = (samples : List Row) × AreSamples kept sample samples × (rows ≡ bounds (key_less keys) n samples)

-- cells are those of rows by range
abbrev pub AreRanged : AllKept → List SortKey → ℕ → Option StageId → List Row → List (List Row) → Type 0
AreRanged kept keys n sample rows made = (taken : List Row) × AreBounds kept keys n sample taken × (made ≡ exchanged (range_place keys taken) n rows)

-- cells are those of rows under a target, and under a kind of stage
abbrev pub AreSent : AllKept → Target → List Row → List (List Row) → Type 0
AreSent kept (Hash keys n) rows made = made ≡ exchanged (by_hash n keys) n rows
AreSent kept (Range keys n sample) rows made = AreRanged kept keys n sample rows made
AreSent kept target rows made = made ≡ rows ∷ []

abbrev pub AreCells : AllKept → StageKind → List Row → List (List Row) → Type 0
AreCells kept (kind.Shuffle target) rows made = AreSent kept target rows made
AreCells kept (kind.Sample keys) rows made = made ≡ sample_of keys rows ∷ []
AreCells kept other rows made = made ≡ rows ∷ []
