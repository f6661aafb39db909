use Rattle.std.proofs.Common.{◌≡◌, drop}
use Rattle.aqe_expr.specs.declared.expr.Expr.{Expr}
use Rattle.aqe_rules.specs.Grouping.{from_key}
use Rattle.aqe_rules.specs.Outcomes.{Outcome}
use Rattle.aqe_grouping.specs.Keys.{exprs_of}
use Rattle.aqe_grouping.proofs.groups.key_place.Given as goal

abbrev pub invariant-keys : goal.invariant-keys
invariant-keys l = (other : Outcome Expr) → from_key (exprs_of (drop l.place l.keys)) l.place l.expr other ≡ from_key (exprs_of l.keys) 0 l.expr other
