-- The leaves of a plan, as the code makes them: what they need, and what their parts are.
use Rattle.std.proofs.Common.{◌≡◌, ℕ, ◌<◌, List, [], ◌∷◌, length, sym, subst, ◌∙◌, slice_index_or}
use Rattle.aqe_base.specs.declared.cells.Rect.{Rect}
use Rattle.aqe_base.specs.declared.stage_id.StageId.{StageId}
use Rattle.aqe_blocks.specs.Kept.{AllKept}
use Rattle.aqe_logical.specs.Answers.{Row, Tables}
use Rattle.aqe_physical.specs.declared.plan.Plan.{Plan, OneRow, Scan, Nothing, Read}
use Rattle.aqe_stages.specs.Stages.{Stages}
use Rattle.aqe_stages.specs.Parts.{file_rows}
use Rattle.aqe_task.specs.Tasks.{IsServed, GivesPart}
use Rattle.aqe_task.specs.Pieces.{AreKept, kept_rows}
use Rattle.aqe_task.proofs.PartFacts.{own, Runs, one_row_given, nothing_given, scan_given, read_kept, read_given}

-- served over some stages
abbrev pub Served : Tables → AllKept → ℕ → Plan → Type 0
Served tables held k plan = (stages : Stages) × IsServed tables stages held plan k

-- the leaves
pub gives-one_row : (tables : Tables) (held : AllKept) (k : ℕ) (p : Plan) (l : List Row) → p ≡ OneRow → l ≡ [] ∷ [] → GivesPart tables held p k l
gives-one_row tables held k p l e h = subst (λ (r : Plan). GivesPart tables held r k l) (sym e) (λ stages s. h ∙ one_row_given tables held k stages s)

pub gives-nothing : (tables : Tables) (held : AllKept) (k : ℕ) (p : Plan) (n w : ℕ) (l : List Row) → p ≡ Nothing n w → l ≡ [] → GivesPart tables held p k l
gives-nothing tables held k p n w l e h = subst (λ (r : Plan). GivesPart tables held r k l) (sym e) (λ stages s. h ∙ nothing_given tables held n w k stages s)

pub gives-scan : (tables : Tables) (held : AllKept) (k : ℕ) (p : Plan) (t n : ℕ) (l : List Row) → p ≡ Scan t n → l ≡ file_rows tables t k → GivesPart tables held p k l
gives-scan tables held k p t n l e h = subst (λ (r : Plan). GivesPart tables held r k l) (sym e) (λ stages s. h ∙ scan_given tables held t n k stages s)

pub files-scan : (tables : Tables) (held : AllKept) (k : ℕ) (p : Plan) (t n : ℕ) → p ≡ Scan t n → Served tables held k p → n ≡ length (slice_index_or tables t [])
files-scan tables held k p t n e h =
    (own (Runs tables h.0) (Scan t n) (subst (λ (r : Plan). IsServed tables h.0 held r k) e h.1).runs).0.1

pub rect-read : (tables : Tables) (held : AllKept) (k : ℕ) (p : Plan) (s : StageId) (m r : ℕ) (rects : List Rect) → p ≡ Read s m r rects → Served tables held k p → k < length rects
rect-read tables held k p s m r rects e h = (subst (λ (z : Plan). IsServed tables h.0 held z k) e h.1).within

pub kept-read : (tables : Tables) (held : AllKept) (k : ℕ) (p : Plan) (s : StageId) (m r : ℕ) (rects : List Rect) (rect : Rect) → p ≡ Read s m r rects
    → rect ≡ slice_index_or rects k rect → Served tables held k p → AreKept held s.0 rect.m0 rect.m1
kept-read tables held k p s m r rects rect e is h = read_kept tables held s m r rects k rect is (subst (Served tables held k) e h)

pub gives-read : (tables : Tables) (held : AllKept) (k : ℕ) (p : Plan) (s : StageId) (m r : ℕ) (rects : List Rect) (rect : Rect) (l : List Row) → p ≡ Read s m r rects
    → rect ≡ slice_index_or rects k rect → l ≡ kept_rows held s.0 rect → GivesPart tables held p k l
gives-read tables held k p s m r rects rect l e is h =
    subst (λ (z : Plan). GivesPart tables held z k l) (sym e) (λ stages served. h ∙ read_given tables held s m r rects k rect is stages served)
