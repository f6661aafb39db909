-- No exchange becomes a result stage.
use Rattle.std.proofs.Common.{◌≡◌, true, false}
use Rattle.aqe_base.specs.declared.stage_id.StageId.{StageId}
use Rattle.aqe_physical.specs.declared.plan.Plan.{Plan}
use Rattle.aqe_stages.specs.Stages.{Stage}
use Rattle.aqe_stages.specs.Making.{Made, shuffled, broadcasted, sampled, in_kept, in_mapped, in_moved, in_left, in_right, in_grouped, in_finished, in_ordered, in_cut_locally, in_cut_globally, in_first, in_second}
use Rattle.aqe_journal.specs.Needed.{is_result}

clash : false ≡ true → ⊥
clash e = cc (e)

pub no_result : (number : StageId) (p q : Plan) (stage : Stage) → Made number p stage q → is_result stage.kind ≡ true → ⊥
no_result number p q stage (shuffled to child s) h = clash h
no_result number p q stage (broadcasted child) h = clash h
no_result number p q stage (sampled keys n child) h = clash h
no_result number p q stage (in_kept c x y st m) h = no_result number x y st m h
no_result number p q stage (in_mapped items x y st m) h = no_result number x y st m h
no_result number p q stage (in_moved to x y st m) h = no_result number x y st m h
no_result number p q stage (in_left how k keys v w x y other st m) h = no_result number x y st m h
no_result number p q stage (in_right how k keys v w other x y st m) h = no_result number x y st m h
no_result number p q stage (in_grouped keys calls x y st m) h = no_result number x y st m h
no_result number p q stage (in_finished n calls x y st m) h = no_result number x y st m h
no_result number p q stage (in_ordered keys x y st m) h = no_result number x y st m h
no_result number p q stage (in_cut_locally n x y st m) h = no_result number x y st m h
no_result number p q stage (in_cut_globally n k x y st m) h = no_result number x y st m h
no_result number p q stage (in_first x y other st m) h = no_result number x y st m h
no_result number p q stage (in_second other x y st m) h = no_result number x y st m h
