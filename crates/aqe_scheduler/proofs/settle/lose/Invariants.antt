use Rattle.std.proofs.Common.{◌≡◌, ◌++◌, map, take, drop}
use Rattle.aqe_scheduler.specs.Changes.{loss_of}
use Rattle.aqe_scheduler.proofs.settle.lose.Given as goal

-- the stages behind are as they were, and those before have lost what stood on the executor
abbrev pub invariant-loop-stage : goal.invariant-loop-stage
invariant-loop-stage l = l.stages ≡ map (loss_of l.executor) (take l.stage-index l.initial.stages) ++ drop l.stage-index l.initial.stages
