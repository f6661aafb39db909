-- The task of one row is served over no stages.
use Rattle.std.proofs.Common.{ℕ, ◌≤◌, List, [], ◌∷◌, length, arith}
use Rattle.std.specs.Prelude.{All}
use Rattle.std.proofs.lemmas.List.Elements.{All-nil, All-cons}
use Rattle.aqe_values.specs.Bounds.{row_limit}
use Rattle.aqe_logical.specs.Answers.{Row, Tables}
use Rattle.aqe_blocks.specs.Kept.{AllKept}
use Rattle.aqe_physical.specs.declared.target.StageKind.TheVariants as kind
use Rattle.aqe_physical.specs.declared.plan.Plan.{Plan, OneRow}
use Rattle.aqe_stages.specs.Stages.{Stages}
use Rattle.aqe_stages.specs.Parts.{all}
use Rattle.aqe_stages.specs.Reads.{Need}
use Rattle.aqe_stages.specs.Runnable.{CanRun, Narrow}
use Rattle.aqe_task.specs.Tasks.{IsServedTask, IsMet}

abbrev none : Stages
none = []

narrow : (tables : Tables) → Narrow (all tables none OneRow)
narrow tables = All-cons (λ (row : Row). length row ≤ row_limit) [] [] (omega (arith)) (All-nil (λ (row : Row). length row ≤ row_limit))

pub one_row : (tables : Tables) (kept : AllKept) → IsServedTask tables none kept kind.Result OneRow 0
one_row tables kept = record {
  runs = All-cons (λ (node : Plan). CanRun tables none node × Narrow (all tables none node)) OneRow [] (tt, narrow tables) (All-nil (λ (node : Plan). CanRun tables none node × Narrow (all tables none node)));
  keeps = tt;
  within = omega (arith);
  reads = All-nil (IsMet tables none kept);
}
