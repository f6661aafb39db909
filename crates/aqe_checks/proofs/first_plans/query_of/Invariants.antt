-- the query so far has a first plan
use Rattle.aqe_checks.specs.Planning.{HasFirstPlan}
use Rattle.aqe_checks.proofs.first_plans.query_of.Given as goal

abbrev pub invariant-words : goal.invariant-words
invariant-words l = HasFirstPlan 2 l.query
