-- All rows of a broadcast stage, and all samples of a sample stage.
use Rattle.std.proofs.Common.{◌≡◌, ℕ, zero, suc, List, [], sym, subst, arith}
use Rattle.std.proofs.lemmas.List.Elements.{All-head}
use Rattle.aqe_base.specs.declared.stage_id.StageId.{StageId}
use Rattle.aqe_blocks.specs.Kept.{AllKept}
use Rattle.aqe_logical.specs.Answers.{Row, Tables}
use Rattle.aqe_logical.specs.declared.plan.SortKey.{SortKey}
use Rattle.aqe_physical.specs.declared.target.StageKind.TheVariants as kind
use Rattle.aqe_physical.specs.declared.plan.Plan.{Plan, ReadBroadcast}
use Rattle.aqe_stages.specs.Stages.{Stage, Stages}
use Rattle.aqe_stages.specs.Cells.{all_rows}
use Rattle.aqe_stages.specs.Parts.{cells}
use Rattle.aqe_stages.specs.Reads.{all_maps}
use Rattle.aqe_stages.specs.Runnable.{OfStage}
use Rattle.aqe_task.specs.Tasks.{IsMet, GivesPart}
use Rattle.aqe_task.specs.Pieces.{AreFirstCells}
use Rattle.aqe_task.proofs.PartFacts.{own, Runs}
use Rattle.aqe_task.proofs.OneCells.{broadcast_keeps, sample_keeps, all_read}

abbrev IsBroadcast : Stage → Type 0
IsBroadcast stage = stage.kind ≡ kind.Broadcast

broadcast_given : (tables : Tables) (kept_ : AllKept) (stage : StageId) (k : ℕ) (rows : List Row) → AreFirstCells kept_ stage.0 rows → GivesPart tables kept_ (ReadBroadcast stage) k rows
broadcast_given tables kept_ stage zero rows h stages s =
    let can : OfStage stages stage.0 IsBroadcast = (own (Runs tables stages) (ReadBroadcast stage) s.runs).0 in
    all_read tables stages kept_ IsBroadcast stage.0 rows (broadcast_keeps tables) can (All-head (IsMet tables stages kept_) (all_maps stage.0) [] s.reads) h
broadcast_given tables kept_ stage (suc k) rows h stages s = let within = s.within in absurd (omega (arith, within))

pub gives-broadcast : (tables : Tables) (kept_ : AllKept) (k : ℕ) (p : Plan) (stage : StageId) (l : List Row) → p ≡ ReadBroadcast stage → AreFirstCells kept_ stage.0 l → GivesPart tables kept_ p k l
gives-broadcast tables kept_ k p stage l e h = subst (λ (q : Plan). GivesPart tables kept_ q k l) (sym e) (broadcast_given tables kept_ stage k l h)

-- the samples that a range names
abbrev IsSample : Stage → Type 0
IsSample stage = (keys : List SortKey) × (stage.kind ≡ kind.Sample keys)

pub samples_given : (tables : Tables) (stages : Stages) (kept_ : AllKept) (stage : StageId) (rows : List Row) → OfStage stages stage.0 IsSample
    → IsMet tables stages kept_ (all_maps stage.0) → AreFirstCells kept_ stage.0 rows → rows ≡ all_rows (cells tables stages stage.0)
samples_given tables stages kept_ stage rows is met h = all_read tables stages kept_ IsSample stage.0 rows (sample_keeps tables) is met h
