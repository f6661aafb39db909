-- The cells that a stage has of a map are those that the task of the map gives.
use Rattle.std.proofs.Common.{◌≡◌, refl, ap, sym, subst, ◌∙◌, ◌<◌, ℕ, true, false, List, [], ◌∷◌, ◌++◌, length, arith, Some, slice_get, slice_index_or, length-append}
use Rattle.std.proofs.lemmas.List.{append_assoc, get_or-map, length-map}
use Rattle.std.proofs.lemmas.List.FromFn.{length-map-range_with_len}
use Rattle.aqe_logical.specs.Answers.{Row, Tables}
use Rattle.aqe_physical.specs.declared.target.Target.TheVariants as target
use Rattle.aqe_physical.specs.declared.target.StageKind.{StageKind}
use Rattle.aqe_physical.specs.declared.target.StageKind.TheVariants as kind
use Rattle.aqe_physical.specs.Counts.{part_count, target_count}
use Rattle.aqe_stages.specs.Stages.{Stage, Stages, Given, output_of}
use Rattle.aqe_stages.specs.Parts.{parts, given_by, cells, output}
use Rattle.aqe_places.specs.Places.{exchanged, part_of}
use Rattle.aqe_stages.specs.Places.{cells_of, place}
use Rattle.aqe_stages.specs.Reads.{ReadsBelow}
use Rattle.aqe_stages.specs.Runnable.{reducers_of}
use Rattle.aqe_stages.proofs.Later.{SameBelow, place_same, cells_stay, parts_stay}
use Rattle.aqe_stages.proofs.Counted.{counted as part_counted}
use Rattle.aqe_task.specs.Tasks.{task_cells}
use Rattle.aqe_calm.specs.Calm.{KindBelow}
use Rattle.aqe_calm.proofs.HeldCells.{held}

-- where the sample that a kind names is below a number, the cells of a part depend on what the stages below hold alone
same_cells : (n : ℕ) (k : StageKind) → KindBelow n k → (given other : Given) → SameBelow n given other → (ps : List (List Row)) (part : List Row) → cells_of given k ps part ≡ cells_of other k ps part
same_cells n (kind.Shuffle to) below given other same ps part =
    ap (λ (at : Row → ℕ). exchanged at (target_count to) part) (place_same n given other to ps below same)
same_cells n kind.Broadcast below given other same ps part = refl
same_cells n (kind.Sample keys) below given other same ps part = refl
same_cells n kind.Result below given other same ps part = refl

pub cells_at : (tables : Tables) (stages : Stages) (s : ℕ) (stage : Stage) (k : ℕ) → slice_get stages s ≡ Some stage → ReadsBelow s stage.body → KindBelow s stage.kind → k < part_count stage.body →
    task_cells tables stages stage.kind stage.body k ≡ slice_index_or (cells tables stages s) k []
cells_at tables stages s stage k is below names within =
    let r = held tables stages s stage is in
    let n = length r.before in
    let below_here : ReadsBelow n stage.body = subst (λ n. ReadsBelow n stage.body) (sym r.many) below in
    let names_here : KindBelow n stage.kind = subst (λ n. KindBelow n stage.kind) (sym r.many) names in
    let g = given_by tables r.before in
    let all = given_by tables stages in
    let ps = parts tables g stage.body in
    let alike : SameBelow n all g = λ t lt. ap (λ st. cells tables st t) r.is ∙ cells_stay tables r.before (stage ∷ r.behind) t lt in
    let same : parts tables all stage.body ≡ ps = ap (λ st. parts tables (given_by tables st) stage.body) r.is ∙ parts_stay tables r.before (stage ∷ r.behind) stage.body below_here in
    let counted = part_counted tables g stage.body in
    (λ i. cells_of all stage.kind (same i) (slice_index_or (same i) k []))
    ∙ same_cells n stage.kind names_here all g alike ps (slice_index_or ps k [])
    ∙ sym (ap (λ out. slice_index_or out k []) r.holds ∙ get_or-map (cells_of g stage.kind ps) ps k [] [] (omega (arith, counted, within)))

-- a task gives a cell for each reducer
pub cells_count : (given : Given) (k : StageKind) (ps : List (List Row)) (part : List Row) → length (cells_of given k ps part) ≡ reducers_of k
cells_count given (kind.Shuffle (target.Hash keys n)) ps part = length-map-range_with_len (part_of (place given (target.Hash keys n) ps) part) 0 n
cells_count given (kind.Shuffle (target.Range keys n sample)) ps part = length-map-range_with_len (part_of (place given (target.Range keys n sample) ps) part) 0 n
cells_count given (kind.Shuffle target.Single) ps part = refl
cells_count given (kind.Shuffle target.Broadcast) ps part = refl
cells_count given kind.Broadcast ps part = refl
cells_count given (kind.Sample keys) ps part = refl
cells_count given kind.Result ps part = refl
