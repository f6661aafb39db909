-- The stages of a query, and what they hold.
use Rattle.std.specs.Prelude.{ℕ, List, [], slice_index_or}
use Rattle.aqe_logical.specs.Answers.{Row}
use Rattle.aqe_physical.specs.declared.target.StageKind.{StageKind}
use Rattle.aqe_physical.specs.declared.plan.Plan.{Plan}

-- a stage makes the parts of its body, each by a task of its own, and keeps of them what its kind says
pub record Stage : Type 0 where
  pub kind : StageKind
  pub body : Plan

-- the stages of a query, by their number
abbrev pub Stages : Type 0
Stages = List Stage

-- what a stage holds: for each of its maps, in order, a cell for each reducer
abbrev pub Output : Type 0
Output = List (List (List Row))

-- what the stages hold, by their number
abbrev pub Given : Type 0
Given = List Output

-- a stage that is not there holds nothing
abbrev pub output_of : Given → ℕ → Output
output_of given stage = slice_index_or given stage []
