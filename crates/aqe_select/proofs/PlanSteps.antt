-- The plan of a SELECT, one part at a time.
use Rattle.std.proofs.Common.{◌≡◌, true, List, ◌++◌, map, Option, Some, refl}
use Rattle.aqe_values.specs.declared.schema.Field.{Field}
use Rattle.aqe_expr.specs.declared.expr.Expr.{Expr}
use Rattle.aqe_logical.specs.declared.plan.AggCall.{AggCall}
use Rattle.aqe_logical.specs.declared.plan.Logical.{Logical}
use Rattle.aqe_logical.specs.declared.plan.Logical.TheVariants.{Filter, Project, Aggregate}
use Rattle.aqe_logical.proofs.Shapes.{is_filtered, is_projected, is_aggregated}
use Rattle.aqe_rules.specs.declared.typed.Typed.{Typed}
use Rattle.aqe_rules.specs.Readings.{Call}
use Rattle.aqe_rules.specs.Selects.{Output}
use Rattle.aqe_rules.specs.Plans.{aggregate_fields, groups_of, filtered_by, fields_of, projected_to, distinct_if}
use Rattle.aqe_outputs.specs.Items.{exprs_of}
use Rattle.aqe_outputs.specs.Shown.{outputs_seen}
use Rattle.aqe_select.specs.declared.plans.Selected.{Selected}
use Rattle.aqe_select.specs.Clauses.{plan_from}

-- the groups
pub groups_made : (keys : List Typed) (calls : List Call) (below p : Logical) (ks : List Expr) (cs : List AggCall) (schema : List Field) → ks ≡ map (λ k. k.expr) keys →
    cs ≡ map (λ c. c.call) calls → schema ≡ aggregate_fields keys calls → p ≡ Aggregate ks cs schema below → p ≡ groups_of true keys calls below
groups_made keys calls below p ks cs schema e h k m = rw (m, h, k, e) (is_aggregated (map (λ k. k.expr) keys) (map (λ c. c.call) calls) (aggregate_fields keys calls) below)

-- HAVING
pub having_made : (having : Option Typed) (a : Typed) (below p : Logical) → having ≡ Some a → p ≡ Filter a.expr below → p ≡ filtered_by having below
having_made having a below p e h = rw (h, e) (is_filtered a.expr below)

-- the output columns
pub projection_made : (outputs : List Output) (items : List Expr) (schema : List Field) (below p : Logical) → items ≡ exprs_of outputs → schema ≡ fields_of outputs → p ≡ Project items schema below →
    p ≡ projected_to outputs below
projection_made outputs items schema below p e f h = rw (h, e, f) (is_projected (exprs_of outputs) (fields_of outputs) below)

-- the whole
pub plan_made : (s : Selected) (calls : List Call) (more : List Output) (groups kept p : Logical) → groups ≡ groups_of s.is_grouped s.keys calls s.below → kept ≡ filtered_by s.having groups →
    p ≡ distinct_if s.distinct (fields_of (outputs_seen s.outputs)) (projected_to (outputs_seen s.outputs ++ more) kept) → p ≡ plan_from s calls more
plan_made s calls more groups kept p e f h = rw (h, f, e) refl
