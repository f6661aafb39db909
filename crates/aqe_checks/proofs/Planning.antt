-- Queries built node by node have first plans.
use Rattle.std.proofs.Common.{◌≡◌, ℕ, ◌<◌, List, [], refl, sym, subst, ◌∙◌}
use Rattle.std.specs.Prelude.{All}
use Rattle.std.proofs.lemmas.List.Elements.{All-nil, All-cons}
use Rattle.aqe_values.specs.declared.schema.Field.{Field}
use Rattle.aqe_expr.specs.declared.expr.Expr.{Expr}
use Rattle.aqe_logical.specs.declared.plan.AggCall.{AggCall}
use Rattle.aqe_logical.specs.declared.plan.Logical.{Logical, OneRow, Scan}
use Rattle.aqe_logical.specs.declared.plan.Logical.TheVariants.{Filter, Project, Aggregate}
use Rattle.aqe_logical.specs.Shapes.{filtered, projected, aggregated}
use Rattle.aqe_logical.specs.Nodes.{nodes}
use Rattle.aqe_logical.proofs.Shapes.{is_filtered, is_projected, is_aggregated}
use Rattle.aqe_planner.specs.Built.{IsBuilt, HasLimitNumbers, LimitsFit, IsReached, Reaches}
use Rattle.aqe_checks.specs.Planning.{HasFirstPlan}

pub one_row_planned : (tables : ℕ) → HasFirstPlan tables OneRow
one_row_planned tables = record {
  built = refl;
  reached = All-cons (IsReached tables) OneRow [] tt (All-nil (IsReached tables));
  limits = All-cons HasLimitNumbers OneRow [] tt (All-nil HasLimitNumbers);
}

pub scan_planned : (tables table : ℕ) (schema : List Field) → table < tables → HasFirstPlan tables (Scan table schema)
scan_planned tables table schema low = record {
  built = refl;
  reached = All-cons (IsReached tables) (Scan table schema) [] low (All-nil (IsReached tables));
  limits = All-cons HasLimitNumbers (Scan table schema) [] tt (All-nil HasLimitNumbers);
}

pub filter_planned : (tables : ℕ) (p : Logical) (c : Expr) (q : Logical) → p ≡ Filter c q → HasFirstPlan tables q → HasFirstPlan tables p
filter_planned tables p c q e h = subst (HasFirstPlan tables) (sym (e ∙ is_filtered c q))
    (record { built = h.built; reached = All-cons (IsReached tables) (filtered c q) (nodes q) tt h.reached; limits = All-cons HasLimitNumbers (filtered c q) (nodes q) tt h.limits })

pub project_planned : (tables : ℕ) (p : Logical) (items : List Expr) (schema : List Field) (q : Logical) → p ≡ Project items schema q → HasFirstPlan tables q → HasFirstPlan tables p
project_planned tables p items schema q e h = subst (HasFirstPlan tables) (sym (e ∙ is_projected items schema q))
    (record { built = h.built; reached = All-cons (IsReached tables) (projected items schema q) (nodes q) tt h.reached; limits = All-cons HasLimitNumbers (projected items schema q) (nodes q) tt h.limits })

pub aggregate_planned : (tables : ℕ) (p : Logical) (keys : List Expr) (calls : List AggCall) (schema : List Field) (q : Logical) → p ≡ Aggregate keys calls schema q
    → HasFirstPlan tables q → HasFirstPlan tables p
aggregate_planned tables p keys calls schema q e h = subst (HasFirstPlan tables) (sym (e ∙ is_aggregated keys calls schema q))
    (record { built = h.built; reached = All-cons (IsReached tables) (aggregated keys calls schema q) (nodes q) tt h.reached; limits = All-cons HasLimitNumbers (aggregated keys calls schema q) (nodes q) tt h.limits })

pub built_of : (tables : ℕ) (query : Logical) → HasFirstPlan tables query → IsBuilt query
built_of tables query h = h.built

pub reached_of : (tables count : ℕ) (query : Logical) → HasFirstPlan tables query → count ≡ tables → Reaches count query
reached_of tables count query h e = subst (λ (n : ℕ). Reaches n query) (sym e) h.reached

pub limits_of : (tables : ℕ) (query : Logical) → HasFirstPlan tables query → LimitsFit query
limits_of tables query h = h.limits
