-- The join of two sides, from what it is besides them.
use Rattle.aqe_physical.specs.declared.plan.Joining.{Joining}
use Rattle.aqe_physical.specs.declared.plan.Plan.{Plan}
use Rattle.aqe_physical.specs.declared.plan.Plan.TheVariants.{Join}

abbrev pub join_of : Joining → Plan → Plan → Plan
join_of joining left right = Join joining.way joining.kind joining.keys joining.left_width joining.right_width left right
