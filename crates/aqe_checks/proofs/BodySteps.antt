-- Bodies that are made node by node are ready.
use Rattle.std.proofs.Common.{◌≡◌, ℕ, zero, suc, ◌+◌, ◌<◌, ◌≤◌, List, [], ◌∷◌, ◌++◌, map, filter, take, length, refl, sym, subst, ap, ◌∙◌, arith, length-append, slice_index_or}
use Rattle.std.specs.Prelude.{All, max, replicate, flat_map}
use Rattle.std.specs.List.{range_with_len}
use Rattle.std.proofs.lemmas.List.{length-map}
use Rattle.std.proofs.lemmas.List.Elements.{All-nil, All-cons, All-append, All-map, All-weaker, All-filter, All-head, All-tail}
use Rattle.aqe_base.specs.declared.cells.Rect.{Rect}
use Rattle.aqe_base.specs.declared.stage_id.StageId.{StageId}
use Rattle.aqe_blocks.specs.Kept.{AllKept}
use Rattle.aqe_rects.specs.Rectangles.{LiesWithin}
use Rattle.aqe_values.specs.Bounds.{row_limit}
use Rattle.aqe_expr.specs.declared.expr.Expr.{Expr}
use Rattle.aqe_expr.specs.Meaning.{val, holds}
use Rattle.aqe_logical.specs.declared.plan.AggCall.{AggCall}
use Rattle.aqe_logical.specs.Answers.{Row, Tables, table_rows}
use Rattle.aqe_logical.specs.Groups.{row_of, distinct, group_keys, finish_rows, finished, rows_with, call_value}
use Rattle.aqe_logical.specs.WellFormed.{HaveWidth}
use Rattle.aqe_partial.specs.PartialRows.{joined_parts, partial_rows}
use Rattle.aqe_physical.specs.declared.plan.Plan.{Plan, OneRow, Scan, Nothing, Read}
use Rattle.aqe_physical.specs.declared.plan.Plan.TheVariants.{Filter, Project, PartialAgg, FinalAgg}
use Rattle.aqe_physical.specs.Shapes as shape
use Rattle.aqe_physical.specs.Nodes.{nodes}
use Rattle.aqe_physical.specs.Counts.{part_count}
use Rattle.aqe_physical.proofs.Shapes.{is_kept, is_mapped, is_grouped, is_finished}
use Rattle.aqe_physical.proofs.Walk.{all_left, all_right}
use Rattle.aqe_stages.specs.Stages.{Stages, Output}
use Rattle.aqe_stages.specs.Cells.{numbers, cell, rect_rows, all_rows}
use Rattle.aqe_stages.specs.Parts.{parts, given_by, all, cells, file_rows}
use Rattle.aqe_stages.specs.Reads.{some_maps, rect_needs}
use Rattle.aqe_stages.specs.Runnable.{OfStage, CanRun, Narrow, NarrowKeys, reducers_of}
use Rattle.aqe_task.specs.Tasks.{IsKept, IsMet}
use Rattle.aqe_checks.specs.Serving.{HasCells, IsReady, IsReadyAnywhere, Holds, Ready, Follows}

-- what a body that runs asks of each plan within it
abbrev Runs : Tables → Stages → Plan → Type 0
Runs tables stages node = CanRun tables stages node × Narrow (all tables stages node)

every : {X : Type 0} (P : X → Type 0) → ((x : X) → P x) → (xs : List X) → All P xs
every P h [] = All-nil P
every P h (x ∷ xs) = All-cons P x xs (h x) (every P h xs)

narrow : (m : ℕ) (rows : List Row) → m ≤ 256 → HaveWidth m rows → Narrow rows
narrow m rows few h = All-weaker (λ row. length row ≡ m) (λ row. length row ≤ row_limit) (λ row e. omega (arith, e, few)) rows h

pub narrow_keys : (keys : List Expr) (rows : List Row) → length keys ≤ 256 → NarrowKeys (row_of keys) rows
narrow_keys keys rows few = every (λ row. length (row_of keys row) ≤ row_limit) (λ row. let e = length-map keys (val row) in omega (arith, e, few)) rows

-- what holds of all rows holds of those of a part
part_all : (P : Row → Type 0) (ps : List (List Row)) (k : ℕ) → All P (joined_parts ps) → All P (slice_index_or ps k [])
part_all P [] k h = All-nil P
part_all P (p ∷ ps) zero h = all_left P p (joined_parts ps) h
part_all P (p ∷ ps) (suc k) h = part_all P ps k (all_right P p (joined_parts ps) h)

-- what holds of the rows that a step makes of each part holds of all that it makes
step_all : (P Q : Row → Type 0) (step : List Row → List Row) → ((rows : List Row) → All P rows → All Q (step rows))
    → (ps : List (List Row)) → All P (joined_parts ps) → All Q (joined_parts (map step ps))
step_all P Q step keeps [] h = All-nil Q
step_all P Q step keeps (p ∷ ps) h =
    All-append Q (step p) (joined_parts (map step ps)) (keeps p (all_left P p (joined_parts ps) h)) (step_all P Q step keeps ps (all_right P p (joined_parts ps) h))

-- a node over a body runs where it can, and its rows are as wide as it says
over : (tables : Tables) (stages : Stages) (node child : Plan) (width : ℕ) → nodes node ≡ node ∷ nodes child → width ≤ 256 → HaveWidth width (all tables stages node)
    → CanRun tables stages node → All (Runs tables stages) (nodes child) → All (Runs tables stages) (nodes node)
over tables stages node child width e few wide can h =
    subst (All (Runs tables stages)) (sym e) (All-cons (Runs tables stages) node (nodes child) (can, narrow width (all tables stages node) few wide) h)

alone : (tables : Tables) (stages : Stages) (node : Plan) (width : ℕ) → nodes node ≡ node ∷ [] → width ≤ 256 → HaveWidth width (all tables stages node)
    → CanRun tables stages node → All (Runs tables stages) (nodes node)
alone tables stages node width e few wide can =
    subst (All (Runs tables stages)) (sym e) (All-cons (Runs tables stages) node [] (can, narrow width (all tables stages node) few wide) (All-nil (Runs tables stages)))

pub filter_follows : (p : Plan) (c : Expr) (q : Plan) (n w : ℕ) → p ≡ Filter c q → Follows q n w p n w
filter_follows p c q n w e = record { follow = λ tables held maps h. record { stages = h.stages; is = at tables h.stages held maps h.is } }
  where
    at : (tables : Tables) (stages : Stages) (held : AllKept) (maps : ℕ) → IsReady tables stages held maps q n w → IsReady tables stages held maps p n w
    at tables stages held maps r =
        let wide : HaveWidth w (all tables stages (shape.kept c q)) =
        step_all (λ row. length row ≡ w) (λ row. length row ≡ w) (filter (holds c)) (λ rows. All-filter (holds c) (λ row. length row ≡ w) rows) (parts tables (given_by tables stages) q) r.wide in
        subst (λ (x : Plan). IsReady tables stages held maps x n w) (sym (e ∙ is_kept c q)) (record {
          bare = r.bare;
          built = r.built;
          runs = over tables stages (shape.kept c q) q w refl r.few wide tt r.runs;
          reads = r.reads;
          count = r.count;
          wide = wide;
          few = r.few;
        })

projected_wide : (items : List Expr) (v : ℕ) → v ≡ length items → (rows : List Row) → HaveWidth v (map (row_of items) rows)
projected_wide items v f rows =
    All-map (λ row. length row ≡ v) (row_of items) rows (every (λ row. length (row_of items row) ≡ v) (λ row. length-map items (val row) ∙ sym f) rows)

pub project_follows : (p : Plan) (items : List Expr) (q : Plan) (n w v : ℕ) → p ≡ Project items q → v ≡ length items → length items ≤ 256 → Follows q n w p n v
project_follows p items q n w v e f few = record { follow = λ tables held maps h. record { stages = h.stages; is = at tables h.stages held maps h.is } }
  where
    at : (tables : Tables) (stages : Stages) (held : AllKept) (maps : ℕ) → IsReady tables stages held maps q n w → IsReady tables stages held maps p n v
    at tables stages held maps r =
        let wide : HaveWidth v (all tables stages (shape.mapped items q)) =
        step_all (λ row. length row ≡ w) (λ row. length row ≡ v) (map (row_of items)) (λ rows h. projected_wide items v f rows) (parts tables (given_by tables stages) q) r.wide in
        let low : v ≤ 256 = omega (arith, few, f) in
        subst (λ (x : Plan). IsReady tables stages held maps x n v) (sym (e ∙ is_mapped items q)) (record {
          bare = r.bare;
          built = r.built;
          runs = over tables stages (shape.mapped items q) q v refl low wide tt r.runs;
          reads = r.reads;
          count = r.count;
          wide = wide;
          few = low;
        })

-- groups have a value for each key and call
distinct_all : (P : Row → Type 0) (ks : List Row) → All P ks → All P (distinct ks)
distinct_all P [] h = All-nil P
distinct_all P (k ∷ ks) h =
    All-cons P k _ (All-head P k ks h) (All-filter _ P (distinct ks) (distinct_all P ks (All-tail P k ks h)))

keys_wide : (n : ℕ) (ks : List Row) → HaveWidth n ks → HaveWidth n (group_keys n ks)
keys_wide zero ks h = All-cons (λ row. length row ≡ 0) [] [] refl (All-nil (λ row. length row ≡ 0))
keys_wide (suc n) ks h = distinct_all (λ row. length row ≡ suc n) ks h

grouped_wide : (n c : ℕ) (values : Row → Row) → ((k : Row) → length (values k) ≡ c) → (ks : List Row) → HaveWidth n ks → HaveWidth (n + c) (map (λ k. k ++ values k) ks)
grouped_wide n c values same ks h =
    All-map (λ row. length row ≡ n + c) (λ k. k ++ values k) ks
    (All-weaker (λ k. length k ≡ n) (λ k. length (k ++ values k) ≡ n + c) (λ k e. let one = length-append k (values k) in let two = same k in omega (arith, one, two, e)) ks h)

groups_wide : (keys : List Expr) (calls : List AggCall) (v : ℕ) → v ≡ length keys + length calls → (rows : List Row) → HaveWidth v (partial_rows (length keys) (row_of keys) calls rows)
groups_wide keys calls v f rows =
    subst (λ (m : ℕ). HaveWidth m (partial_rows (length keys) (row_of keys) calls rows)) (sym f)
    (grouped_wide (length keys) (length calls) (λ k. map (call_value (rows_with (row_of keys) k rows)) calls) (λ k. length-map calls (call_value (rows_with (row_of keys) k rows)))
    (group_keys (length keys) (map (row_of keys) rows)) (keys_wide (length keys) (map (row_of keys) rows) (projected_wide keys (length keys) refl rows)))

pub partial_follows : (p : Plan) (keys : List Expr) (calls : List AggCall) (q : Plan) (n w v : ℕ) → p ≡ PartialAgg keys calls q
    → v ≡ length keys + length calls → length keys ≤ 100 → length calls ≤ 100 → Follows q n w p n v
partial_follows p keys calls q n w v e f few some = record { follow = λ tables held maps h. record { stages = h.stages; is = at tables h.stages held maps h.is } }
  where
    at : (tables : Tables) (stages : Stages) (held : AllKept) (maps : ℕ) → IsReady tables stages held maps q n w → IsReady tables stages held maps p n v
    at tables stages held maps r =
        let wide : HaveWidth v (all tables stages (shape.grouped keys calls q)) =
        step_all (λ row. length row ≡ w) (λ row. length row ≡ v) (partial_rows (length keys) (row_of keys) calls) (λ rows h. groups_wide keys calls v f rows) (parts tables (given_by tables stages) q) r.wide in
        let low : v ≤ 256 = omega (arith, few, some, f) in
        let keys_low : length keys ≤ 256 = omega (arith, few) in
        subst (λ (x : Plan). IsReady tables stages held maps x n v) (sym (e ∙ is_grouped keys calls q)) (record {
          bare = r.bare;
          built = r.built;
          runs = over tables stages (shape.grouped keys calls q) q v refl low wide (narrow_keys keys (all tables stages q) keys_low) r.runs;
          reads = r.reads;
          count = r.count;
          wide = wide;
          few = low;
        })

-- what is finished has a value for each call
values_finished : (i : ℕ) (calls : List AggCall) (rows : List Row) → length (finished i calls rows) ≡ length calls
values_finished i [] rows = refl
values_finished i (call ∷ calls) rows = ap (λ (n : ℕ). suc n) (values_finished (i + 1) calls rows)

taken : (n c : ℕ) (row : Row) → length row ≡ n + c → length (take n row) ≡ n
taken zero c row e = refl
taken (suc n) c [] e = absurd (let no : ⊥ = omega (arith, e) in no)
taken (suc n) c (x ∷ row) e = ap (λ (m : ℕ). suc m) (taken n c row (omega (arith, e)))

finish_wide : (n : ℕ) (calls : List AggCall) (w : ℕ) → w ≡ n + length calls → (rows : List Row) → HaveWidth w rows → HaveWidth w (finish_rows n calls rows)
finish_wide n calls w f rows h =
    let cut : HaveWidth n (map (take n) rows) = All-map (λ row. length row ≡ n) (take n) rows
    (All-weaker (λ row. length row ≡ w) (λ row. length (take n row) ≡ n) (λ row e. taken n (length calls) row (e ∙ f)) rows h) in
    subst (λ (m : ℕ). HaveWidth m (finish_rows n calls rows)) (sym f)
    (grouped_wide n (length calls) (λ k. finished n calls (rows_with (take n) k rows)) (λ k. values_finished n calls (rows_with (take n) k rows))
    (group_keys n (map (take n) rows)) (keys_wide n (map (take n) rows) cut))

pub final_follows : (p : Plan) (keys : ℕ) (calls : List AggCall) (q : Plan) (n w : ℕ) → p ≡ FinalAgg keys calls q → w ≡ keys + length calls → Follows q n w p n w
final_follows p keys calls q n w e f = record { follow = λ tables held maps h. record { stages = h.stages; is = at tables h.stages held maps h.is } }
  where
    at : (tables : Tables) (stages : Stages) (held : AllKept) (maps : ℕ) → IsReady tables stages held maps q n w → IsReady tables stages held maps p n w
    at tables stages held maps r =
        let wide : HaveWidth w (all tables stages (shape.finished keys calls q)) =
        step_all (λ row. length row ≡ w) (λ row. length row ≡ w) (finish_rows keys calls) (finish_wide keys calls w f) (parts tables (given_by tables stages) q) r.wide in
        let can : HaveWidth (keys + length calls) (all tables stages q) = subst (λ (m : ℕ). HaveWidth m (all tables stages q)) f r.wide in
        subst (λ (x : Plan). IsReady tables stages held maps x n w) (sym (e ∙ is_finished keys calls q)) (record {
          bare = r.bare;
          built = r.built;
          runs = over tables stages (shape.finished keys calls q) q w refl r.few wide can r.runs;
          reads = r.reads;
          count = r.count;
          wide = wide;
          few = r.few;
        })

-- the leaves that read nothing are ready over no stage
one_row_at : (tables : Tables) (held : AllKept) (maps : ℕ) → Ready tables held maps OneRow 1 0
one_row_at tables held maps =
    let wide : HaveWidth 0 (all tables [] OneRow) = All-cons (λ (row : Row). length row ≡ 0) [] [] refl (All-nil (λ (row : Row). length row ≡ 0)) in
    record {
      stages = [];
      is = record {
        bare = λ e. refl;
        built = refl;
        runs = alone tables [] OneRow 0 refl (omega arith) wide tt;
        reads = λ k. All-nil (IsMet tables [] held);
        count = refl;
        wide = wide;
        few = omega arith;
      };
    }

no_rows : (P : Row → Type 0) (n : ℕ) → All P (joined_parts (replicate n []))
no_rows P zero = All-nil P
no_rows P (suc n) = no_rows P n

nothing_at : (tables : Tables) (held : AllKept) (maps parts width : ℕ) → width ≤ 256 → Ready tables held maps (Nothing parts width) parts width
nothing_at tables held maps count width few =
    let wide : HaveWidth width (all tables [] (Nothing count width)) = no_rows (λ (row : Row). length row ≡ width) count in
    record {
      stages = [];
      is = record {
        bare = λ e. refl;
        built = refl;
        runs = alone tables [] (Nothing count width) width refl few wide tt;
        reads = λ k. All-nil (IsMet tables [] held);
        count = refl;
        wide = wide;
        few = few;
      };
    }

files_all : (P : Row → Type 0) (tables : Tables) (table : ℕ) → All P (table_rows tables table) → (ks : List ℕ) → All P (joined_parts (map (file_rows tables table) ks))
files_all P tables table h [] = All-nil P
files_all P tables table h (k ∷ ks) =
    All-append P (file_rows tables table k) (joined_parts (map (file_rows tables table) ks)) (part_all P (slice_index_or tables table []) k h) (files_all P tables table h ks)

pub scan_ready : (tables : Tables) (held : AllKept) (maps files parts : ℕ) → 0 < length tables → files ≡ length (slice_index_or tables 0 []) → parts ≡ max 1 files
    → HaveWidth 2 (table_rows tables 0) → Ready tables held maps (Scan 0 files) parts 2
scan_ready tables held maps files count there e f h =
    let wide : HaveWidth 2 (all tables [] (Scan 0 files)) = files_all (λ (row : Row). length row ≡ 2) tables 0 h (range_with_len 0 (max 1 files)) in
    record {
      stages = [];
      is = record {
        bare = λ e. refl;
        built = refl;
        runs = alone tables [] (Scan 0 files) 2 refl (omega arith) wide (there, e);
        reads = λ k. All-nil (IsMet tables [] held);
        count = f;
        wide = wide;
        few = omega arith;
      };
    }

-- a cell of what is held, the cells of a rectangle, and what rectangles read
cell_all : (P : Row → Type 0) (output : Output) → All P (all_rows output) → (m r : ℕ) → All P (cell output m r)
cell_all P [] h m r = All-nil P
cell_all P (cs ∷ output) h zero r = part_all P cs r (all_left P (joined_parts cs) (all_rows output) h)
cell_all P (cs ∷ output) h (suc m) r = cell_all P output (all_right P (joined_parts cs) (all_rows output) h) m r

each_all : (P : Row → Type 0) (f : ℕ → List Row) → ((n : ℕ) → All P (f n)) → (ns : List ℕ) → All P (flat_map f ns)
each_all P f h [] = All-nil P
each_all P f h (n ∷ ns) = All-append P (f n) (flat_map f ns) (h n) (each_all P f h ns)

rect_all : (P : Row → Type 0) (output : Output) → All P (all_rows output) → (rect : Rect) → All P (rect_rows output rect)
rect_all P output h rect =
    each_all P (λ r. flat_map (λ m. cell output m r) (numbers rect.m0 rect.m1))
    (λ r. each_all P (λ m. cell output m r) (λ m. cell_all P output h m r) (numbers rect.m0 rect.m1)) (numbers rect.r0 rect.r1)

rects_all : (P : Row → Type 0) (output : Output) → All P (all_rows output) → (rects : List Rect) → All P (joined_parts (map (rect_rows output) rects))
rects_all P output h [] = All-nil P
rects_all P output h (rect ∷ rects) =
    All-append P (rect_rows output rect) (joined_parts (map (rect_rows output) rects)) (rect_all P output h rect) (rects_all P output h rects)

of_first : (stages : Stages) (maps reducers : ℕ) (rects : List Rect) → OfStage stages 0 (HasCells maps reducers) → All (LiesWithin maps reducers) rects
    → OfStage stages 0 (λ read. All (LiesWithin (part_count read.body) (reducers_of read.kind)) rects)
of_first [] maps reducers rects h within = h
of_first (stage ∷ stages) maps reducers rects (a, b) within =
    subst (λ (m : ℕ). All (LiesWithin m (reducers_of stage.kind)) rects) a (subst (λ (r : ℕ). All (LiesWithin maps r) rects) b within)

needs_met : (tables : Tables) (stages : Stages) (held : AllKept) (maps reducers : ℕ) (number : StageId) → number.0 ≡ 0 → ((m : ℕ) → m < maps → IsKept tables stages held 0 m)
    → (rects : List Rect) → All (LiesWithin maps reducers) rects → (k : ℕ) → All (IsMet tables stages held) (rect_needs number rects k)
needs_met tables stages held maps reducers number e each [] within k = All-nil (IsMet tables stages held)
needs_met tables stages held maps reducers number e each (rect ∷ rects) within zero =
    let first : LiesWithin maps reducers rect = All-head (LiesWithin maps reducers) rect rects within in
    let end : rect.m1 ≤ maps = first.0 in
    let met : IsMet tables stages held (some_maps number.0 rect.m0 rect.m1) =
    subst (λ (s : ℕ). IsMet tables stages held (some_maps s rect.m0 rect.m1)) (sym e) (λ m low high. each m (omega (arith, high, end))) in
    All-cons (IsMet tables stages held) (some_maps number.0 rect.m0 rect.m1) [] met (All-nil (IsMet tables stages held))
needs_met tables stages held maps reducers number e each (rect ∷ rects) within (suc k) =
    needs_met tables stages held maps reducers number e each rects (All-tail (LiesWithin maps reducers) rect rects within) k

abbrev zeroth : StageId
zeroth = record { 0 = 0 }

pub read_ready : (tables : Tables) (held : AllKept) (maps reducers width parts : ℕ) (rects : List Rect) → 0 < maps → Holds tables held maps reducers width
    → All (LiesWithin maps reducers) rects → parts ≡ length rects → Ready tables held maps (Read zeroth maps reducers rects) parts width
read_ready tables held maps reducers width count rects some h within f =
    let wide : HaveWidth width (all tables h.stages (Read zeroth maps reducers rects)) = rects_all (λ (row : Row). length row ≡ width) (cells tables h.stages 0) h.are.wide rects in
    record {
      stages = h.stages;
      is = record {
        bare = h.are.bare;
        built = refl;
        runs = alone tables h.stages (Read zeroth maps reducers rects) width refl h.are.few wide (of_first h.stages maps reducers rects (h.are.first some) within);
        reads = needs_met tables h.stages held maps reducers zeroth refl h.are.each rects within;
        count = f;
        wide = wide;
        few = h.are.few;
      };
    }

pub one_row_ready : IsReadyAnywhere OneRow 1 0
one_row_ready = record { ready = λ tables held maps. one_row_at tables held maps }

pub nothing_ready : (parts width : ℕ) → width ≤ 256 → IsReadyAnywhere (Nothing parts width) parts width
nothing_ready parts width few = record { ready = λ tables held maps. nothing_at tables held maps parts width few }

-- what is ready anywhere is ready here, and what follows a ready body is ready
pub ready_here : (tables : Tables) (held : AllKept) (maps : ℕ) (body : Plan) (parts width : ℕ) → IsReadyAnywhere body parts width → Ready tables held maps body parts width
ready_here tables held maps body parts width h = h.ready tables held maps

pub ready_after : (tables : Tables) (held : AllKept) (maps : ℕ) (before : Plan) (parts width : ℕ) (after : Plan) (more wide : ℕ) → Follows before parts width after more wide
    → Ready tables held maps before parts width → Ready tables held maps after more wide
ready_after tables held maps before parts width after more wide f h = f.follow tables held maps h
