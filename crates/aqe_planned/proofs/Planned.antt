-- Each form that a query's plan is made of is planned.
use Rattle.std.proofs.Common.{ℕ, Bool, true, false, ◌&&◌, List, Option, Some, None, refl, subst}
use Rattle.std.specs.Prelude.{IsTrue}
use Rattle.aqe_values.specs.declared.schema.Field.{Field}
use Rattle.aqe_logical.specs.declared.plan.Logical.{Scan}
use Rattle.aqe_rules.specs.Sources.{table_named}
use Rattle.aqe_rules.proofs.Gives.{Gives, IfAny}
use Rattle.aqe_laws.proofs.Walks.{PlanKeeps, walk-holds}
use Rattle.aqe_planner.specs.Built.{is_built, IsBuilt}
use Rattle.aqe_planned.specs.Laws.{QueriesArePlanned}

-- a node with two sides is built where both are
both_built : (a b : Bool) → IsTrue a → IsTrue b → IsTrue (a && b)
both_built true b h k = k
both_built false b h k = cc h

forms_planned : PlanKeeps IsBuilt
forms_planned = record {
  one_row = refl;
  filtered_keeps = λ condition p h. h;
  projected_keeps = λ items schema p h. h;
  joined_keeps = λ kind condition l r h k. both_built (is_built l) (is_built r) h k;
  aggregated_keeps = λ keys calls schema p h. h;
  united_keeps = λ l r h k. both_built (is_built l) (is_built r) h k;
  sorted_keeps = λ keys p h. h;
  limited_keeps = λ count skip p h. h;
}

scan_planned : (table : Option (ℕ × List Field)) → IfAny (λ t. IsBuilt (Scan t.0 t.1)) table
scan_planned None = tt
scan_planned (Some table) = refl

pub planned : QueriesArePlanned
planned tree catalog plan e = subst (Gives IsBuilt) e (walk-holds (λ catalog. IsBuilt) (λ catalog. forms_planned) (λ catalog name. scan_planned (table_named name catalog 0)) tree catalog)
