-- A stage that keeps one cell of each part is read whole.
use Rattle.std.proofs.Common.{◌≡◌, ℕ, zero, suc, ◌+◌, ◌-◌, ◌<◌, List, [], ◌∷◌, ◌++◌, length, map, refl, ap, sym, subst, ◌∙◌, arith, append_assoc, append-nil, length-append, Option, None, slice_get, slice_index_or, true}
use Rattle.std.specs.Prelude.{flat_map}
use Rattle.std.specs.List.{range_with_len}
use Rattle.std.specs.Option.{is_some, unwrap_or}
use Rattle.std.proofs.Math.Seq.{get_or-append_seam}
use Rattle.aqe_blocks.specs.Kept.{AllKept, output_at}
use Rattle.aqe_blocks.specs.Cells.{CellData}
use Rattle.aqe_logical.specs.Answers.{Row, Tables}
use Rattle.aqe_logical.specs.declared.plan.SortKey.{SortKey}
use Rattle.aqe_physical.specs.declared.target.StageKind.{StageKind}
use Rattle.aqe_physical.specs.declared.target.StageKind.TheVariants as kind
use Rattle.aqe_stages.specs.Stages.{Stage, Stages, Given, Output, output_of}
use Rattle.aqe_stages.specs.Cells.{cell, all_rows}
use Rattle.aqe_stages.specs.Places.{cells_of, sample_of}
use Rattle.aqe_stages.specs.Parts.{parts, output, given_by, cells}
use Rattle.aqe_stages.specs.Reads.{all_maps}
use Rattle.aqe_stages.specs.Runnable.{OfStage}
use Rattle.aqe_stages.proofs.Later.{given_count, given_one_more, cells_stay}
use Rattle.aqe_task.specs.Tasks.{IsMet}
use Rattle.aqe_task.specs.Pieces.{AreFirstCells, kept_cell}
use Rattle.aqe_task.proofs.Lending.{numbers_same}

abbrev one_cell : List Row → List (List Row)
one_cell part = part ∷ []

-- cells of one a map
abbrev pub AreOneCells : Output → Type 0
AreOneCells held = (ps : List (List Row)) × (held ≡ map one_cell ps)

-- a stage keeps one cell of each part, over whatever is given
abbrev pub KeepsOneCell : Tables → Stage → Type 0
KeepsOneCell tables stage = (given : Given) → AreOneCells (output tables given stage)

pub broadcast_keeps : (tables : Tables) (stage : Stage) → stage.kind ≡ kind.Broadcast → KeepsOneCell tables stage
broadcast_keeps tables stage e given =
    let ps = parts tables given stage.body in
    (ps, ap (λ (k : StageKind). map (cells_of given k ps) ps) e)

sampled : (keys : List SortKey) (ps : List (List Row)) → map (λ p. sample_of keys p ∷ []) ps ≡ map one_cell (map (sample_of keys) ps)
sampled keys [] = refl
sampled keys (p ∷ ps) = ap (λ (l : Output). one_cell (sample_of keys p) ∷ l) (sampled keys ps)

pub sample_keeps : (tables : Tables) (stage : Stage) → (keys : List SortKey) × (stage.kind ≡ kind.Sample keys) → KeepsOneCell tables stage
sample_keeps tables stage e given =
    let ps = parts tables given stage.body in
    (map (sample_of e.0) ps, ap (λ (k : StageKind). map (cells_of given k ps) ps) e.1 ∙ sampled e.0 ps)

-- what the last stage holds
last_held : (tables : Tables) (before : Stages) (stage : Stage) (s : ℕ) → s ≡ length before
    → cells tables (before ++ stage ∷ []) s ≡ output tables (given_by tables before) stage
last_held tables before stage s e =
    let given = given_by tables before in
    ap (λ (g : Given). output_of g s) (given_one_more tables before stage) ∙
    (ap (λ (n : ℕ). output_of (given ++ output tables given stage ∷ []) n) (e ∙ sym (given_count tables before)) ∙
    get_or-append_seam given (output tables given stage) [] [])

stage_cells : (tables : Tables) (P : Stage → Type 0) → ((stage : Stage) → P stage → KeepsOneCell tables stage)
    → (before stages : Stages) (n s : ℕ) → s ≡ length before + n → OfStage stages n P → AreOneCells (cells tables (before ++ stages) s)
stage_cells tables P keeps before [] n s e h = absurd h
stage_cells tables P keeps before (stage ∷ stages) zero s e h =
    let front = before ++ stage ∷ [] in
    let long = length-append before (stage ∷ []) in
    let here : s ≡ length before = omega (arith, e) in
    let one = keeps stage h (given_by tables before) in (
      one.0,
      ap (λ (st : Stages). cells tables st s) (sym (append_assoc before (stage ∷ []) stages)) ∙
          (cells_stay tables front stages s (omega (arith, long, here)) ∙ (last_held tables before stage s here ∙ one.1)),
    )
stage_cells tables P keeps before (stage ∷ stages) (suc n) s e h =
    let front = before ++ stage ∷ [] in
    let long = length-append before (stage ∷ []) in
    let rest = stage_cells tables P keeps front stages n s (omega (arith, e, long)) h in
    (rest.0, ap (λ (st : Stages). cells tables st s) (sym (append_assoc before (stage ∷ []) stages)) ∙ rest.1)

-- where each map has one cell, the first cells are all rows
shifted : (f : ℕ → List Row) (a n : ℕ) → flat_map f (range_with_len (a + 1) n) ≡ flat_map (λ m. f (suc m)) (range_with_len a n)
shifted f a zero = refl
shifted f a (suc n) = let same : a + 1 ≡ suc a = omega arith in (λ i. f (same i) ++ shifted f (a + 1) n i)

first_cells : (ps : List (List Row)) → flat_map (λ m. cell (map one_cell ps) m 0) (range_with_len 0 (length (map one_cell ps))) ≡ all_rows (map one_cell ps)
first_cells [] = refl
first_cells (p ∷ ps) =
    let rest = shifted (λ m. cell (map one_cell (p ∷ ps)) m 0) 0 (length (map one_cell ps)) ∙ first_cells ps in
    (λ i. sym (append-nil p) i ++ rest i)

-- the first number at which a list ends is its length
ends_at : (held : Output) (n : ℕ) → slice_get held n ≡ None → ((m : ℕ) → m < n → is_some (slice_get held m) ≡ true) → n ≡ length held
ends_at [] zero e h = refl
ends_at [] (suc n) e h = let no = h 0 (omega arith) in cc no
ends_at (c ∷ held) zero e h = cc e
ends_at (c ∷ held) (suc n) e h = ap (λ (j : ℕ). suc j) (ends_at held n e (λ m lt. h (suc m) (omega (arith, lt))))

got : (held : Output) (m : ℕ) → unwrap_or (slice_get held m) [] ≡ slice_index_or held m []
got [] m = refl
got (c ∷ held) zero = refl
got (c ∷ held) (suc m) = got held m

-- the first cells of all maps that are kept, where these are all that a list of one cell a map has
whole_read : (kept_ : AllKept) (stage : ℕ) (held : Output) (ps : List (List Row)) (rows : List Row) → held ≡ map one_cell ps
    → ((m : ℕ) → output_at kept_ stage m ≡ slice_get held m) → AreFirstCells kept_ stage rows → rows ≡ all_rows held
whole_read kept_ stage held ps rows is met h =
    let n = h.0 in
    let many : n ≡ length held = ends_at held n (sym (met n) ∙ h.2) (λ m lt. ap is_some (sym (met m)) ∙ h.1 m (omega arith) lt) in
    let count : n - 0 ≡ length held = omega (arith, many) in
    h.3 ∙ (numbers_same (λ m. kept_cell kept_ stage m 0) (λ m. cell held m 0) 0 n
    (λ m low high. ap (λ (o : Option (List CellData)). slice_index_or (unwrap_or o []) 0 []) (met m) ∙ ap (λ (c : List CellData). slice_index_or c 0 []) (got held m)) ∙
    (ap (λ (j : ℕ). flat_map (λ m. cell held m 0) (range_with_len 0 j)) count ∙
    subst (λ (o : Output). flat_map (λ m. cell o m 0) (range_with_len 0 (length o)) ≡ all_rows o) (sym is) (first_cells ps)))

-- the first cells of a stage that keeps one of each part, of which all maps are kept and no other
pub all_read : (tables : Tables) (stages : Stages) (kept_ : AllKept) (P : Stage → Type 0) (s : ℕ) (rows : List Row) → ((stage : Stage) → P stage → KeepsOneCell tables stage)
    → OfStage stages s P → IsMet tables stages kept_ (all_maps s) → AreFirstCells kept_ s rows → rows ≡ all_rows (cells tables stages s)
all_read tables stages kept_ P s rows keeps is met h =
    let one = stage_cells tables P keeps [] stages s s (omega arith) is in
    whole_read kept_ s (cells tables stages s) one.0 rows one.1 met h
