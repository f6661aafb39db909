-- The limits of a plan that is well formed have numbers that fit.
use Rattle.std.proofs.lemmas.List.Elements.{All-weaker}
use Rattle.aqe_logical.specs.declared.plan.Logical.{Logical}
use Rattle.aqe_logical.specs.Shapes.{limited}
use Rattle.aqe_logical.specs.Nodes.{nodes}
use Rattle.aqe_logical.specs.WellFormed.{IsSound, WellFormed}
use Rattle.aqe_planner.specs.Built.{HasLimitNumbers, LimitsFit}

has_numbers : (node : Logical) → IsSound node → HasLimitNumbers node
has_numbers (limited count skip child) h = h
has_numbers node h = tt

pub limits_fit : (plan : Logical) → WellFormed plan → LimitsFit plan
limits_fit plan h = All-weaker IsSound HasLimitNumbers has_numbers (nodes plan) h.0
