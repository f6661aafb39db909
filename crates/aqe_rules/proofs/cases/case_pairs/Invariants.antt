use Rattle.std.proofs.Common.{◌≡◌, vec_len}
use Rattle.aqe_rules.specs.Operations.{case_pairs}
use Rattle.aqe_rules.proofs.CaseSteps.{arms_behind}
use Rattle.aqe_rules.proofs.cases.case_pairs.Given as goal

abbrev pub invariant-arms : goal.invariant-arms
invariant-arms l = arms_behind l.tested l.gives l.arms.items l.chain ≡ case_pairs l.tested l.gives l.initial.arms.items

abbrev pub decreases-arms : goal.decreases-arms
decreases-arms l = vec_len l.arms
