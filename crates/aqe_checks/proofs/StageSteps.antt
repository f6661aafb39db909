-- What is kept of a stage is what it holds, and tasks are served over it.
use Rattle.std.proofs.Common.{◌≡◌, ℕ, ◌+◌, ◌<◌, ◌≤◌, ◌==◌, Bool, true, false, cond, List, [], ◌∷◌, map, length, refl, sym, subst, ap, ◌∙◌, arith, Some, None, slice_get, slice_index_or, append-nil, ◌≢◌, ◌⊎◌, inl, inr}
use Rattle.std.specs.Prelude.{All, IfSome, max}
use Rattle.std.specs.List.{range_with_len}
use Rattle.std.specs.Option.{option_map}
use Rattle.std.proofs.lemmas.List.{get_or-map}
use Rattle.std.proofs.lemmas.List.FromFn.{length-map-range_with_len}
use Rattle.std.proofs.lemmas.List.Elements.{All-nil, All-append, All-filter, All-head, All-tail}
use Rattle.std.proofs.lemmas.Map.Views.{All-values-insert_entry}
use Rattle.std.proofs.lemmas.Bool.Decides.{eqb_tells}
use Rattle.std.specs.Ordering.{nat_cmp}
use Rattle.aqe_blocks.specs.Cells.{CellData}
use Rattle.aqe_blocks.specs.Kept.{AllKept, Becomes, Changes, HaveCells, kept_of, output_at, with_output}
use Rattle.aqe_values.specs.declared.schema.Field.{Field}
use Rattle.aqe_logical.specs.Answers.{Row, Tables}
use Rattle.aqe_logical.specs.WellFormed.{HaveWidth}
use Rattle.aqe_tables.specs.declared.catalog.CatalogTable.{CatalogTable}
use Rattle.aqe_tables.specs.declared.loaded.Table.{Table}
use Rattle.aqe_tables.specs.Loaded.{AreShaped, IsLoaded, Slots, table_at}
use Rattle.aqe_estimates.specs.LoadedTables.{tables_of}
use Rattle.aqe_partial.specs.PartialRows.{joined_parts}
use Rattle.aqe_places.specs.Places.{part_of}
use Rattle.aqe_physical.specs.declared.target.Target.TheVariants.{Hash, Range, Single, Broadcast}
use Rattle.aqe_physical.specs.declared.target.StageKind.{StageKind}
use Rattle.aqe_physical.specs.declared.target.StageKind.TheVariants as kind
use Rattle.aqe_physical.specs.declared.plan.Plan.{Plan, Scan}
use Rattle.aqe_physical.specs.Counts.{part_count, target_count}
use Rattle.aqe_physical.proofs.Walk.{all_left, all_right}
use Rattle.aqe_stages.specs.Stages.{Stages, Given}
use Rattle.aqe_stages.specs.Cells.{all_rows}
use Rattle.aqe_stages.specs.Places.{place, cells_of}
use Rattle.aqe_stages.specs.Parts.{parts, all, cells}
use Rattle.aqe_stages.specs.Reads.{needs, task_needs}
use Rattle.aqe_stages.specs.Runnable.{reducers_of}
use Rattle.aqe_stages.proofs.Counted.{counted}
use Rattle.aqe_task.specs.Built.{IsBuiltBody}
use Rattle.aqe_task.specs.Tasks.{IsMet, IsServedTask, GivesTask, task_cells}
use Rattle.aqe_expr.specs.declared.expr.Expr.{Expr}
use Rattle.aqe_checks.proofs.BodySteps.{narrow_keys, scan_ready}
use Rattle.aqe_checks.specs.Serving.{HasTable, IsReady, IsUnsampled, IsEasy, Holds, Ready, IsKeptBelow}

-- what holds of all rows holds of those that an exchange sends, and of those that a stage keeps
exchanged_all : (P : Row → Type 0) (f : Row → ℕ) (rows : List Row) → All P rows → (rs : List ℕ) → All P (joined_parts (map (part_of f rows) rs))
exchanged_all P f rows h [] = All-nil P
exchanged_all P f rows h (r ∷ rs) = All-append P (part_of f rows r) (joined_parts (map (part_of f rows) rs)) (All-filter (λ row. f row == r) P rows h) (exchanged_all P f rows h rs)

cells_all : (P : Row → Type 0) (given : Given) (k : StageKind) (ps : List (List Row)) (part : List Row) → IsUnsampled k → All P part → All P (joined_parts (cells_of given k ps part))
cells_all P given (kind.Shuffle target) ps part plain h = exchanged_all P (place given target ps) part h (range_with_len 0 (target_count target))
cells_all P given kind.Broadcast ps part plain h = subst (All P) (sym (append-nil part)) h
cells_all P given (kind.Sample keys) ps part plain h = absurd plain
cells_all P given kind.Result ps part plain h = subst (All P) (sym (append-nil part)) h

kept_all : (P : Row → Type 0) (given : Given) (k : StageKind) (ps qs : List (List Row)) → IsUnsampled k → All P (joined_parts qs) → All P (all_rows (map (cells_of given k ps) qs))
kept_all P given k ps [] plain h = All-nil P
kept_all P given k ps (q ∷ qs) plain h =
    All-append P (joined_parts (cells_of given k ps q)) (all_rows (map (cells_of given k ps) qs)) (cells_all P given k ps q plain (all_left P q (joined_parts qs) h))
    (kept_all P given k ps qs plain (all_right P q (joined_parts qs) h))

-- a stage has as many cells of each part as its kind has reducers
cells_count : (given : Given) (k : StageKind) (ps : List (List Row)) (part : List Row) → length (cells_of given k ps part) ≡ reducers_of k
cells_count given (kind.Shuffle target) ps part = length-map-range_with_len (part_of (place given target ps) part) 0 (target_count target)
cells_count given kind.Broadcast ps part = refl
cells_count given (kind.Sample keys) ps part = refl
cells_count given kind.Result ps part = refl

abbrev one : StageKind → Plan → Stages
one k body = record { kind = k; body = body } ∷ []

-- a stage over none holds of each map what its task gives
held_cells : (tables : Tables) (k : StageKind) (body : Plan) (m : ℕ) → m < part_count body → slice_index_or (cells tables (one k body) 0) m [] ≡ task_cells tables [] k body m
held_cells tables k body m lt =
    let count = counted tables [] body in
    get_or-map (cells_of [] k (parts tables [] body)) (parts tables [] body) m [] [] (omega (arith, count, lt))

-- no map is kept at first
pub none_kept : (tables : Tables) (k : StageKind) (body : Plan) (held : AllKept) → held ≡ [] → IsKeptBelow tables k body held 0
none_kept tables k body held e = record {
  each = λ m lt. absurd (let no : ⊥ = omega (arith, lt) in no);
  alike = subst (λ (h : AllKept). HaveCells (reducers_of k) (kept_of h 0)) (sym e) (All-nil (λ (cs : List CellData). length cs ≡ reducers_of k));
}

-- what a task makes can be kept beside the others
pub made_fits : (tables : Tables) (k : StageKind) (body : Plan) (held : AllKept) (m : ℕ) (made : List CellData) → IsKeptBelow tables k body held m
    → made ≡ task_cells tables [] k body m → HaveCells (length made) (kept_of held 0)
made_fits tables k body held m made h e =
    let same : length made ≡ reducers_of k = ap (λ (cs : List CellData). length cs) e ∙ cells_count [] k (parts tables [] body) (slice_index_or (parts tables [] body) m []) in
    subst (λ (n : ℕ). HaveCells n (kept_of held 0)) (sym same) h.alike

pub one_more : (tables : Tables) (k : StageKind) (body : Plan) (old new : AllKept) (m : ℕ) (made : List CellData) → IsKeptBelow tables k body old m
    → made ≡ task_cells tables [] k body m → Changes old new 0 m (Some made) → Becomes old new 0 (with_output (kept_of old 0) m made) → IsKeptBelow tables k body new (m + 1)
one_more tables k body old new m made h e changes becomes = record {
  each = each;
  alike = subst (HaveCells (reducers_of k)) (sym (becomes 0)) (All-values-insert_entry nat_cmp m made (λ cs. length cs ≡ reducers_of k) (kept_of old 0) h.alike same);
}
  where
    same : length made ≡ reducers_of k
    same = ap (λ (cs : List CellData). length cs) e ∙ cells_count [] k (parts tables [] body) (slice_index_or (parts tables [] body) m [])

    by_test : (j : ℕ) → j < m + 1 → ((m == j) ≡ true) × (m ≡ j) ⊎ ((m == j) ≡ false) × (m ≢ j) → output_at new 0 j ≡ Some (task_cells tables [] k body j)
    by_test j lt (inl (t, p)) =
        changes 0 j ∙ (ap (λ (b : Bool). cond b (Some made) (output_at old 0 j)) t ∙ (ap (λ (cs : List CellData). Some cs) e ∙ ap (λ (n : ℕ). Some (task_cells tables [] k body n)) p))
    by_test j lt (inr (t, p)) =
        changes 0 j ∙ (ap (λ (b : Bool). cond b (Some made) (output_at old 0 j)) t ∙ h.each j (omega (arith, lt, p)))

    each : (j : ℕ) → j < m + 1 → output_at new 0 j ≡ Some (task_cells tables [] k body j)
    each j lt = by_test j lt (eqb_tells m j)

-- where the outputs of all maps are kept, they are what the stage holds
pub stage_holds : (tables : Tables) (bare : AllKept) (k : StageKind) (body : Plan) (held : AllKept) (maps reducers width : ℕ) → IsUnsampled k → Ready tables bare 0 body maps width
    → IsKeptBelow tables k body held maps → reducers ≡ reducers_of k → 0 < maps → Holds tables held maps reducers width
stage_holds tables bare k body held maps reducers width plain r h e some = record {
  stages = one k body;
  are = record {
    bare = λ no. absurd (let wrong : ⊥ = omega (arith, no, some) in wrong);
    first = λ lt. (r.is.count, e);
    each = λ m lt. h.each m lt ∙ ap (λ (cs : List CellData). Some cs) (sym (held_cells tables k body m (subst (λ (n : ℕ). m < n) r.is.count lt)));
    wide = kept_all (λ (row : Row). length row ≡ width) [] k (parts tables [] body) (parts tables [] body) plain
        (subst (λ (s : Stages). HaveWidth width (all tables s body)) (r.is.bare refl) r.is.wide);
    few = r.is.few;
  };
}

-- the task of a ready body is served, where the kind is easy
task_met : (tables : Tables) (stages : Stages) (held : AllKept) (k : StageKind) (body : Plan) (n : ℕ) → IsUnsampled k → All (IsMet tables stages held) (needs body n)
    → All (IsMet tables stages held) (task_needs k body n)
task_met tables stages held (kind.Shuffle (Hash keys count)) body n plain h = h
task_met tables stages held (kind.Shuffle (Range keys count sample)) body n plain h = absurd plain
task_met tables stages held (kind.Shuffle Single) body n plain h = h
task_met tables stages held (kind.Shuffle Broadcast) body n plain h = h
task_met tables stages held kind.Broadcast body n plain h = h
task_met tables stages held (kind.Sample keys) body n plain h = absurd plain
task_met tables stages held kind.Result body n plain h = h

served_over : (tables : Tables) (stages : Stages) (held : AllKept) (maps : ℕ) (k : StageKind) (body : Plan) (count width n : ℕ) → IsReady tables stages held maps body count width → IsEasy k → n < count
    → IsServedTask tables stages held k body n
served_over tables stages held maps k body count width n r easy lt = record {
  runs = r.runs;
  keeps = easy.keeps stages (all tables stages body);
  within = subst (λ (c : ℕ). n < c) r.count lt;
  reads = task_met tables stages held k body n easy.unsampled (r.reads n);
}

pub task_served : (tables : Tables) (held : AllKept) (maps : ℕ) (k : StageKind) (body : Plan) (count width n : ℕ) → Ready tables held maps body count width → IsEasy k → n < count
    → (stages : Stages) × IsServedTask tables stages held k body n
task_served tables held maps k body count width n r easy lt = (r.stages, served_over tables r.stages held maps k body count width n r.is easy lt)

-- over no stage
pub bare_served : (tables : Tables) (held : AllKept) (k : StageKind) (body : Plan) (count width n : ℕ) → Ready tables held 0 body count width → IsEasy k → n < count
    → IsServedTask tables [] held k body n
bare_served tables held k body count width n r easy lt =
    subst (λ (s : Stages). IsServedTask tables s held k body n) (r.is.bare refl) (served_over tables r.stages held 0 k body count width n r.is easy lt)

-- what a task gives over no stage can be kept beside the others
pub given_fits : (tables : Tables) (bare held : AllKept) (k : StageKind) (body : Plan) (count width m : ℕ) (made : List CellData) → Ready tables bare 0 body count width → IsEasy k → m < count
    → GivesTask tables bare k body m made → IsKeptBelow tables k body held m → HaveCells (length made) (kept_of held 0)
given_fits tables bare held k body count width m made r easy lt gives h =
    made_fits tables k body held m made h (gives [] (bare_served tables bare k body count width m r easy lt))

pub given_more : (tables : Tables) (bare old new : AllKept) (k : StageKind) (body : Plan) (count width m : ℕ) (made : List CellData) → Ready tables bare 0 body count width → IsEasy k → m < count
    → GivesTask tables bare k body m made → IsKeptBelow tables k body old m → Changes old new 0 m (Some made) → Becomes old new 0 (with_output (kept_of old 0) m made)
    → IsKeptBelow tables k body new (m + 1)
given_more tables bare old new k body count width m made r easy lt gives h changes becomes =
    one_more tables k body old new m made h (gives [] (bare_served tables bare k body count width m r easy lt)) changes becomes

pub ready_built : (tables : Tables) (held : AllKept) (maps : ℕ) (body : Plan) (count width : ℕ) → Ready tables held maps body count width → IsBuiltBody body
ready_built tables held maps body count width r = r.is.built

-- no stage is there before one is made
pub nothing_held : (tables : Tables) (held : AllKept) → Holds tables held 0 0 0
nothing_held tables held = record {
  stages = [];
  are = record {
    bare = λ e. refl;
    first = λ lt. absurd (let no : ⊥ = omega (arith, lt) in no);
    each = λ m lt. absurd (let no : ⊥ = omega (arith, lt) in no);
    wide = All-nil (λ (row : Row). length row ≡ 0);
    few = omega arith;
  };
}

-- kinds that keep any rows
pub single_easy : IsEasy (kind.Shuffle Single)
single_easy = record { unsampled = tt; keeps = λ stages rows. tt }

pub to_all_easy : IsEasy (kind.Shuffle Broadcast)
to_all_easy = record { unsampled = tt; keeps = λ stages rows. tt }

pub broadcast_easy : IsEasy kind.Broadcast
broadcast_easy = record { unsampled = tt; keeps = λ stages rows. tt }

pub result_easy : IsEasy kind.Result
result_easy = record { unsampled = tt; keeps = λ stages rows. tt }

pub ruleset easy_kinds = (single_easy, to_all_easy, broadcast_easy, result_easy)

pub hash_easy : (keys : List Expr) (n : ℕ) → length keys ≤ 100 → 0 < n → IsEasy (kind.Shuffle (Hash keys n))
hash_easy keys n few some = record { unsampled = tt; keeps = λ stages rows. (some, narrow_keys keys rows (omega (arith, few))) }

-- a table that was loaded as it was created
rows_wide : (n : ℕ) → n ≡ 2 → (files : List (List Row)) → All (HaveWidth n) files → HaveWidth 2 (joined_parts files)
rows_wide n e [] h = All-nil (λ (row : Row). length row ≡ 2)
rows_wide n e (file ∷ files) h =
    All-append (λ (row : Row). length row ≡ 2) file (joined_parts files) (subst (λ (m : ℕ). HaveWidth m file) e (All-head (HaveWidth n) file files h))
    (rows_wide n e files (All-tail (HaveWidth n) file files h))

pub has_table : (catalog : List CatalogTable) (slots : Slots) (schema : List Field) → AreShaped catalog slots → IsLoaded slots 0
    → option_map (λ (t : CatalogTable). t.form.schema) (slice_get catalog 0) ≡ Some schema → length schema ≡ 2 → HasTable slots
has_table catalog [] schema shaped loaded e two = cc loaded
has_table catalog (None ∷ slots) schema shaped loaded e two = cc loaded
has_table [] (Some table ∷ slots) schema shaped loaded e two = cc e
has_table (created ∷ catalog) (Some table ∷ slots) schema shaped loaded e two = record {
  loaded = loaded;
  wide = rows_wide (length created.form.schema) (let same : created.form.schema ≡ schema = cc e in ap (λ (fields : List Field). length fields) same ∙ two) table.files (shaped 0).wide;
}

pub files_there : (slots : Slots) (files : ℕ) → IsLoaded slots 0 → IfSome (table_at slots 0) (λ (loaded : Table). files ≡ length loaded.files)
    → (0 < length (tables_of slots)) × (files ≡ length (slice_index_or (tables_of slots) 0 []))
files_there [] files loaded h = cc loaded
files_there (None ∷ slots) files loaded h = cc loaded
files_there (Some table ∷ slots) files loaded h = (omega arith, h)

pub scan_here : (slots : Slots) (held : AllKept) (maps files count : ℕ) → HasTable slots → IfSome (table_at slots 0) (λ (loaded : Table). files ≡ length loaded.files)
    → count ≡ max 1 files → Ready (tables_of slots) held maps (Scan 0 files) count 2
scan_here slots held maps files count table h e =
    let there = files_there slots files table.loaded h in
    scan_ready (tables_of slots) held maps files count there.0 there.1 e table.wide
