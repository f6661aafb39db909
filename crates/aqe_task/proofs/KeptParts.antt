-- What a kind of stage keeps of a part.
use Rattle.std.proofs.Common.{◌≡◌, ℕ, List, [], ◌∷◌, length, filter, true, refl, ap, sym, subst, ◌∙◌, slice_index_or, Some, None}
use Rattle.std.specs.Prelude.{All, ◌≤◌, ◌<◌}
use Rattle.std.proofs.lemmas.List.Elements.{All-head}
use Rattle.aqe_blocks.specs.Kept.{AllKept}
use Rattle.aqe_expr.specs.declared.expr.Expr.{Expr}
use Rattle.aqe_logical.specs.Answers.{Row, Tables}
use Rattle.aqe_logical.specs.Groups.{row_of}
use Rattle.aqe_logical.specs.Order.{key_of}
use Rattle.aqe_places.specs.Places.{by_hash, by_range, exchanged}
use Rattle.aqe_places.specs.Samples.{bounds}
use Rattle.aqe_partial.specs.PartialRows.{joined_parts}
use Rattle.aqe_physical.specs.declared.target.Target.TheVariants.{Hash, Range, Single, Broadcast}
use Rattle.aqe_physical.specs.declared.target.StageKind.{StageKind}
use Rattle.aqe_physical.specs.declared.target.StageKind.TheVariants as kind
use Rattle.aqe_physical.specs.declared.plan.Plan.{Plan}
use Rattle.aqe_physical.proofs.Walk.{all_right}
use Rattle.aqe_stages.specs.Stages.{Stages}
use Rattle.aqe_stages.specs.Places.{cells_of, key_less}
use Rattle.aqe_stages.specs.Parts.{parts, given_by, out}
use Rattle.aqe_stages.specs.Reads.{all_maps, sample_needs, needs}
use Rattle.aqe_stages.specs.Runnable.{CanKeep, NarrowKeys}
use Rattle.aqe_task.specs.Tasks.{IsMet, IsServed, IsServedTask, GivesPart, GivesTask}
use Rattle.aqe_task.specs.Pieces.{AreCells, CanKeepRows}
use Rattle.aqe_task.proofs.Broadcasts.{samples_given}
use Rattle.aqe_task.proofs.PartFacts.{part_all}
use Rattle.aqe_task.proofs.Widths.{no_wide_keys}

-- no row is the same by any keys
pub no_keys : (n : ℕ) (keys : List Expr) (rows : List Row) → NarrowKeys (row_of keys) rows → 1024 < length keys
    → exchanged (by_hash n []) n [] ≡ exchanged (by_hash n keys) n rows
no_keys n keys rows h wide = ap (exchanged (by_hash n keys) n) (sym (no_wide_keys keys rows h wide))

all_kept : (rows : List Row) → filter (λ row. true) rows ≡ rows
all_kept [] = refl
all_kept (row ∷ rows) = ap (λ (l : List Row). row ∷ l) (all_kept rows)

keeps_part : (stages : Stages) (k : StageKind) (ps : List (List Row)) (n : ℕ) → CanKeep stages k (joined_parts ps) → CanKeepRows k (slice_index_or ps n [])
keeps_part stages (kind.Shuffle (Hash keys m)) ps n h = (h.0, part_all (λ (row : Row). length (row_of keys row) ≤ 1024) ps n h.1)
keeps_part stages (kind.Shuffle (Range keys m None)) ps n h = absurd h.1
keeps_part stages (kind.Shuffle (Range keys m (Some sample))) ps n h = (h.0, refl, part_all (λ (row : Row). length (key_of keys row) ≤ 1024) ps n h.2)
keeps_part stages (kind.Shuffle Single) ps n h = tt
keeps_part stages (kind.Shuffle Broadcast) ps n h = tt
keeps_part stages kind.Broadcast ps n h = tt
keeps_part stages (kind.Sample keys) ps n h = part_all (λ (row : Row). length (key_of keys row) ≤ 1024) ps n h
keeps_part stages kind.Result ps n h = tt

needs_body : (tables : Tables) (stages : Stages) (held : AllKept) (k : StageKind) (body : Plan) (n : ℕ) → IsServedTask tables stages held k body n → All (IsMet tables stages held) (needs body n)
needs_body tables stages held (kind.Shuffle target) body n s = all_right (IsMet tables stages held) (sample_needs target) (needs body n) s.reads
needs_body tables stages held kind.Broadcast body n s = s.reads
needs_body tables stages held (kind.Sample keys) body n s = s.reads
needs_body tables stages held kind.Result body n s = s.reads

served_body : (tables : Tables) (stages : Stages) (held : AllKept) (k : StageKind) (body : Plan) (n : ℕ) → IsServedTask tables stages held k body n → IsServed tables stages held body n
served_body tables stages held k body n s = record { runs = s.runs; within = s.within; reads = needs_body tables stages held k body n s }

pub body_served : (tables : Tables) (held : AllKept) (k : StageKind) (body : Plan) (n : ℕ) → (stages : Stages) × IsServedTask tables stages held k body n → (stages : Stages) × IsServed tables stages held body n
body_served tables held k body n h = (h.0, served_body tables h.0 held k body n h.1)

pub rows_fit : (tables : Tables) (held : AllKept) (k : StageKind) (body : Plan) (n : ℕ) (rows : List Row) → (stages : Stages) × IsServedTask tables stages held k body n
    → GivesPart tables held body n rows → CanKeepRows k rows
rows_fit tables held k body n rows h gives =
    subst (CanKeepRows k) (sym (gives h.0 (served_body tables h.0 held k body n h.1))) (keeps_part h.0 k (parts tables (given_by tables h.0) body) n h.1.keeps)

-- the cells are those of the stage
cells_are : (tables : Tables) (stages : Stages) (held : AllKept) (k : StageKind) (body : Plan) (n : ℕ) (ps : List (List Row)) (rows : List Row) (made : List (List Row))
    → IsServedTask tables stages held k body n → AreCells held k rows made → made ≡ cells_of (given_by tables stages) k ps rows
cells_are tables stages held (kind.Shuffle (Hash keys n)) body j ps rows made s h = h
cells_are tables stages held (kind.Shuffle (Range keys n None)) body j ps rows made s h = absurd s.keeps.1
cells_are tables stages held (kind.Shuffle (Range keys n (Some stage))) body j ps rows made s h =
    let met = All-head (IsMet tables stages held) (all_maps stage.0) (needs body j) s.reads in
    let limits = h.1.2 ∙ ap (λ (samples : List Row). bounds (key_less keys) n samples) (samples_given tables stages held stage h.1.0 s.keeps.1 met h.1.1) in
    h.2 ∙ ap (λ (l : List Row). exchanged (by_range (key_less keys) l (key_of keys)) n rows) limits
cells_are tables stages held (kind.Shuffle Single) body j ps rows made s h = h ∙ ap (λ (l : List Row). l ∷ []) (sym (all_kept rows))
cells_are tables stages held (kind.Shuffle Broadcast) body j ps rows made s h = h ∙ ap (λ (l : List Row). l ∷ []) (sym (all_kept rows))
cells_are tables stages held kind.Broadcast body j ps rows made s h = h
cells_are tables stages held (kind.Sample keys) body j ps rows made s h = h
cells_are tables stages held kind.Result body j ps rows made s h = h

pub task_given : (tables : Tables) (held : AllKept) (k : StageKind) (body : Plan) (n : ℕ) (rows : List Row) (made : List (List Row))
    → GivesPart tables held body n rows → AreCells held k rows made → GivesTask tables held k body n made
task_given tables held k body n rows made gives h stages s =
    let same = gives stages (served_body tables stages held k body n s) in
    cells_are tables stages held k body n (parts tables (given_by tables stages) body) (out tables stages body n) made s (subst (λ (l : List Row). AreCells held k l made) same h)
