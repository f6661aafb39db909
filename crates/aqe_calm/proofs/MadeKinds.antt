-- The sample that the stage of an exchange names is one that the plan read.
use Rattle.std.proofs.Common.{ℕ}
use Rattle.aqe_base.specs.declared.stage_id.StageId.{StageId}
use Rattle.aqe_physical.specs.declared.plan.Plan.{Plan}
use Rattle.aqe_physical.proofs.Nodes.{Each}
use Rattle.aqe_stages.specs.Stages.{Stage}
use Rattle.aqe_stages.specs.Reads.{ReadsBelowAt}
use Rattle.aqe_stages.specs.Making.{Made, shuffled, broadcasted, sampled, in_kept, in_mapped, in_moved, in_left, in_right, in_grouped, in_finished, in_ordered, in_cut_locally, in_cut_globally, in_first, in_second}
use Rattle.aqe_calm.specs.Calm.{KindBelow}

pub kind_below : (n : ℕ) (number : StageId) (p q : Plan) (stage : Stage) → Made number p stage q → Each (ReadsBelowAt n) p → KindBelow n stage.kind
kind_below n number p q stage (shuffled to child s) h = h.0
kind_below n number p q stage (broadcasted child) h = tt
kind_below n number p q stage (sampled keys k child) h = tt
kind_below n number p q stage (in_kept c x y st m) h = kind_below n number x y st m h.1
kind_below n number p q stage (in_mapped items x y st m) h = kind_below n number x y st m h.1
kind_below n number p q stage (in_moved to x y st m) h = kind_below n number x y st m h.1
kind_below n number p q stage (in_left how k keys v w x y other st m) h = kind_below n number x y st m h.1
kind_below n number p q stage (in_right how k keys v w other x y st m) h = kind_below n number x y st m h.2
kind_below n number p q stage (in_grouped keys calls x y st m) h = kind_below n number x y st m h.1
kind_below n number p q stage (in_finished k calls x y st m) h = kind_below n number x y st m h.1
kind_below n number p q stage (in_ordered keys x y st m) h = kind_below n number x y st m h.1
kind_below n number p q stage (in_cut_locally k x y st m) h = kind_below n number x y st m h.1
kind_below n number p q stage (in_cut_globally k j x y st m) h = kind_below n number x y st m h.1
kind_below n number p q stage (in_first x y other st m) h = kind_below n number x y st m h.1
kind_below n number p q stage (in_second other x y st m) h = kind_below n number x y st m h.2
