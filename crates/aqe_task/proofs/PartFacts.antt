-- A part of a plan that is served.
use Rattle.std.proofs.Common.{◌≡◌, ℕ, zero, suc, ◌+◌, ◌<◌, ◌≤◌, List, [], ◌∷◌, ◌++◌, length, map, refl, ap, sym, subst, ◌∙◌, arith, slice_index_or}
use Rattle.std.specs.Prelude.{All, replicate, max, flat_map}
use Rattle.std.specs.Option.{is_some, unwrap_or}
use Rattle.std.specs.declared.option.Option.{Option}
use Rattle.std.proofs.lemmas.List.{get_or-map}
use Rattle.std.proofs.lemmas.List.FromFn.{get_or-map-range_with_len}
use Rattle.std.proofs.lemmas.List.Elements.{All-nil, All-head}
use Rattle.aqe_base.specs.declared.cells.Rect.{Rect}
use Rattle.aqe_base.specs.declared.stage_id.StageId.{StageId}
use Rattle.aqe_blocks.specs.Kept.{AllKept}
use Rattle.aqe_blocks.specs.Cells.{CellData}
use Rattle.aqe_logical.specs.Answers.{Row, Tables}
use Rattle.aqe_partial.specs.PartialRows.{joined_parts}
use Rattle.aqe_physical.specs.declared.plan.Plan.{Plan, OneRow, Scan, Nothing, Read, ReadBroadcast}
use Rattle.aqe_physical.specs.Shapes.{kept, mapped, moved, matched, grouped, finished, ordered, cut_locally, cut_globally, both_of}
use Rattle.aqe_physical.specs.Nodes.{nodes}
use Rattle.aqe_physical.proofs.Walk.{all_left, all_right}
use Rattle.aqe_stages.specs.Stages.{Stages}
use Rattle.aqe_stages.specs.Cells.{numbers, cell, rect_rows}
use Rattle.aqe_stages.specs.Parts.{parts, given_by, out, all, cells, file_rows}
use Rattle.aqe_stages.specs.Reads.{some_maps, rect_needs}
use Rattle.aqe_stages.specs.Runnable.{CanRun, Narrow}
use Rattle.aqe_stages.proofs.Counted.{counted}
use Rattle.aqe_task.specs.Tasks.{IsKept, IsMet, IsServed, GivesPart}
use Rattle.aqe_task.specs.Pieces.{AreKept, kept_cell, kept_column, kept_rows}
use Rattle.aqe_task.proofs.Lending.{numbers_same}

-- what holds of each plan within a plan holds of the plan itself
pub own : (P : Plan → Type 0) (plan : Plan) → All P (nodes plan) → P plan
own P OneRow h = All-head P OneRow [] h
own P (Scan table files) h = All-head P (Scan table files) [] h
own P (Nothing count width) h = All-head P (Nothing count width) [] h
own P (Read stage maps reducers rects) h = All-head P (Read stage maps reducers rects) [] h
own P (ReadBroadcast stage) h = All-head P (ReadBroadcast stage) [] h
own P (kept cond child) h = All-head P (kept cond child) (nodes child) h
own P (mapped items child) h = All-head P (mapped items child) (nodes child) h
own P (moved target child) h = All-head P (moved target child) (nodes child) h
own P (matched way kind keys v w left right) h = All-head P (matched way kind keys v w left right) (nodes left ++ nodes right) h
own P (grouped keys calls child) h = All-head P (grouped keys calls child) (nodes child) h
own P (finished keys calls child) h = All-head P (finished keys calls child) (nodes child) h
own P (ordered keys child) h = All-head P (ordered keys child) (nodes child) h
own P (cut_locally count child) h = All-head P (cut_locally count child) (nodes child) h
own P (cut_globally count skip child) h = All-head P (cut_globally count skip child) (nodes child) h
own P (both_of left right) h = All-head P (both_of left right) (nodes left ++ nodes right) h

-- what holds of all rows holds of those of a part
pub part_all : (P : Row → Type 0) (ps : List (List Row)) (k : ℕ) → All P (joined_parts ps) → All P (slice_index_or ps k [])
part_all P [] k h = All-nil P
part_all P (p ∷ ps) zero h = all_left P p (joined_parts ps) h
part_all P (p ∷ ps) (suc k) h = part_all P ps k (all_right P p (joined_parts ps) h)

-- what a plan that runs asks of each plan within it
abbrev pub Runs : Tables → Stages → Plan → Type 0
Runs tables stages node = CanRun tables stages node × Narrow (all tables stages node)

pub out_narrow : (tables : Tables) (stages : Stages) (kept_ : AllKept) (plan : Plan) (k : ℕ) → IsServed tables stages kept_ plan k → Narrow (out tables stages plan k)
out_narrow tables stages kept_ plan k s =
    part_all (λ (row : Row). length row ≤ 1024) (parts tables (given_by tables stages) plan) k (own (Runs tables stages) plan s.runs).1

-- the rows of a part that is served and given are narrow
pub given_narrow : (tables : Tables) (kept_ : AllKept) (plan : Plan) (k : ℕ) (rows : List Row)
    → (stages : Stages) × IsServed tables stages kept_ plan k → GivesPart tables kept_ plan k rows → Narrow rows
given_narrow tables kept_ plan k rows served gives =
    subst Narrow (sym (gives served.0 served.1)) (out_narrow tables served.0 kept_ plan k served.1)

pub within_parts : (tables : Tables) (stages : Stages) (kept_ : AllKept) (plan : Plan) (k : ℕ) → IsServed tables stages kept_ plan k
    → k < length (parts tables (given_by tables stages) plan)
within_parts tables stages kept_ plan k s =
    let count = counted tables (given_by tables stages) plan in
    let within = s.within in
    omega (arith, count, within)

-- a step that is done part by part
pub part_by_part : (tables : Tables) (stages : Stages) (kept_ : AllKept) (plan : Plan) (k : ℕ) (f : List Row → List Row) → IsServed tables stages kept_ plan k
    → slice_index_or (map f (parts tables (given_by tables stages) plan)) k [] ≡ f (out tables stages plan k)
part_by_part tables stages kept_ plan k f s = get_or-map f (parts tables (given_by tables stages) plan) k [] [] (within_parts tables stages kept_ plan k s)

-- the leaves
pub one_row_given : (tables : Tables) (kept_ : AllKept) (k : ℕ) → GivesPart tables kept_ OneRow k ([] ∷ [])
one_row_given tables kept_ zero stages s = refl
one_row_given tables kept_ (suc k) stages s = let within = s.within in absurd (omega (arith, within))

no_row_at : (none : List Row) (n k : ℕ) → slice_index_or (replicate n none) k none ≡ none
no_row_at none zero k = refl
no_row_at none (suc n) zero = refl
no_row_at none (suc n) (suc k) = no_row_at none n k

pub nothing_given : (tables : Tables) (kept_ : AllKept) (count width k : ℕ) → GivesPart tables kept_ (Nothing count width) k []
nothing_given tables kept_ count width k stages s = sym (no_row_at [] count k)

pub scan_given : (tables : Tables) (kept_ : AllKept) (table files k : ℕ) → GivesPart tables kept_ (Scan table files) k (file_rows tables table k)
scan_given tables kept_ table files k stages s =
    let same : 0 + k ≡ k = omega arith in
    sym (get_or-map-range_with_len (file_rows tables table) 0 (max 1 files) k k [] s.within same)

needs_rect : (stage : StageId) (rects : List Rect) (k : ℕ) (rect : Rect) → k < length rects
    → rect_needs stage rects k ≡ some_maps stage.0 (slice_index_or rects k rect).m0 (slice_index_or rects k rect).m1 ∷ []
needs_rect stage [] k rect h = absurd (omega (arith, h))
needs_rect stage (r ∷ rects) zero rect h = refl
needs_rect stage (r ∷ rects) (suc k) rect h = needs_rect stage rects k rect (omega (arith, h))

-- the maps of a rectangle that is read are kept
rect_kept : (tables : Tables) (stages : Stages) (kept_ : AllKept) (stage : StageId) (maps reducers : ℕ) (rects : List Rect) (k : ℕ) (rect : Rect)
    → rect ≡ slice_index_or rects k rect → IsServed tables stages kept_ (Read stage maps reducers rects) k
    → (m : ℕ) → rect.m0 ≤ m → m < rect.m1 → IsKept tables stages kept_ stage.0 m
rect_kept tables stages kept_ stage maps reducers rects k rect is s =
    let needed = subst (All (IsMet tables stages kept_)) (needs_rect stage rects k rect s.within) s.reads in
    let met = All-head (IsMet tables stages kept_) (some_maps stage.0 (slice_index_or rects k rect).m0 (slice_index_or rects k rect).m1) [] needed in
    subst (λ (r : Rect). (m : ℕ) → r.m0 ≤ m → m < r.m1 → IsKept tables stages kept_ stage.0 m) (sym is) met

pub read_kept : (tables : Tables) (kept_ : AllKept) (stage : StageId) (maps reducers : ℕ) (rects : List Rect) (k : ℕ) (rect : Rect)
    → rect ≡ slice_index_or rects k rect → (stages : Stages) × IsServed tables stages kept_ (Read stage maps reducers rects) k
    → AreKept kept_ stage.0 rect.m0 rect.m1
read_kept tables kept_ stage maps reducers rects k rect is served m low high =
    ap is_some (rect_kept tables served.0 kept_ stage maps reducers rects k rect is served.1 m low high)

pub read_given : (tables : Tables) (kept_ : AllKept) (stage : StageId) (maps reducers : ℕ) (rects : List Rect) (k : ℕ) (rect : Rect)
    → rect ≡ slice_index_or rects k rect → GivesPart tables kept_ (Read stage maps reducers rects) k (kept_rows kept_ stage.0 rect)
read_given tables kept_ stage maps reducers rects k rect is stages s =
    let held = cells tables stages stage.0 in
    let met = rect_kept tables stages kept_ stage maps reducers rects k rect is s in
    let column : (r : ℕ) → kept_column kept_ stage.0 rect.m0 rect.m1 r ≡ flat_map (λ m. cell (cells tables stages stage.0) m r) (numbers rect.m0 rect.m1) =
    (λ r. numbers_same (λ m. kept_cell kept_ stage.0 m r) (λ m. cell (cells tables stages stage.0) m r) rect.m0 rect.m1
    (λ m low high. ap (λ (o : Option (List CellData)). slice_index_or (unwrap_or o []) r []) (met m low high))) in
    let whole : kept_rows kept_ stage.0 rect ≡ rect_rows (cells tables stages stage.0) rect = (λ i. flat_map (λ r. column r i) (numbers rect.r0 rect.r1)) in
    whole ∙ (ap (rect_rows (cells tables stages stage.0)) is ∙ sym (get_or-map (rect_rows (cells tables stages stage.0)) rects k rect [] s.within))
