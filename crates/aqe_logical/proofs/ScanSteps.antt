-- The scans of each form of a plan, as the code makes it.
use Rattle.std.proofs.Common.{◌≡◌, ℕ, ◌++◌, List, Option, append_assoc, ap, sym, ◌∙◌}
use Rattle.aqe_base.specs.declared.join_kind.JoinKind.{JoinKind}
use Rattle.aqe_base.specs.declared.stage_id.StageId.{StageId}
use Rattle.aqe_values.specs.declared.schema.Field.{Field}
use Rattle.aqe_expr.specs.declared.expr.Expr.{Expr}
use Rattle.aqe_logical.specs.declared.plan.AggCall.{AggCall}
use Rattle.aqe_logical.specs.declared.plan.SortKey.{SortKey}
use Rattle.aqe_logical.specs.declared.plan.Logical.{Logical}
use Rattle.aqe_logical.specs.declared.plan.Logical.TheVariants.{Filter, Project, Join, Aggregate, Union, Sort, Limit, Sampled}
use Rattle.aqe_logical.proofs.Shapes.{is_filtered, is_projected, is_joined, is_aggregated, is_united, is_sorted, is_limited, is_sampled}
use Rattle.aqe_logical.specs.Nodes.{scans}
use Rattle.aqe_logical.proofs.Nodes.{scans_two}

pub scans-filter : (p : Logical) (c : Expr) (q : Logical) → p ≡ Filter c q → scans p ≡ scans q
scans-filter p c q e = ap scans (e ∙ is_filtered c q)

pub scans-project : (p : Logical) (i : List Expr) (s : List Field) (q : Logical) → p ≡ Project i s q → scans p ≡ scans q
scans-project p i s q e = ap scans (e ∙ is_projected i s q)

pub scans-join : (p : Logical) (k : JoinKind) (c : Expr) (l r : Logical) → p ≡ Join k c l r → scans p ≡ scans l ++ scans r
scans-join p k c l r e = ap scans (e ∙ is_joined k c l r) ∙ scans_two l r

pub scans-aggregate : (p : Logical) (k : List Expr) (c : List AggCall) (s : List Field) (q : Logical) → p ≡ Aggregate k c s q → scans p ≡ scans q
scans-aggregate p k c s q e = ap scans (e ∙ is_aggregated k c s q)

pub scans-union : (p l r : Logical) → p ≡ Union l r → scans p ≡ scans l ++ scans r
scans-union p l r e = ap scans (e ∙ is_united l r) ∙ scans_two l r

pub scans-sort : (p : Logical) (k : List SortKey) (q : Logical) → p ≡ Sort k q → scans p ≡ scans q
scans-sort p k q e = ap scans (e ∙ is_sorted k q)

pub scans-limit : (p : Logical) (c : Option ℕ) (s : ℕ) (q : Logical) → p ≡ Limit c s q → scans p ≡ scans q
scans-limit p c s q e = ap scans (e ∙ is_limited c s q)

pub scans-sampled : (p : Logical) (s : StageId) (q : Logical) → p ≡ Sampled s q → scans p ≡ scans q
scans-sampled p s q e = ap scans (e ∙ is_sampled s q)

-- the scans of both sides, pushed one after the other
pushed : (old mid new l r : List ℕ) → mid ≡ old ++ l → new ≡ mid ++ r → new ≡ old ++ (l ++ r)
pushed old mid new l r first then = then ∙ ap (λ (xs : List ℕ). xs ++ r) first ∙ append_assoc old l r

pub pushed-join : (p : Logical) (k : JoinKind) (c : Expr) (l r : Logical) (old mid new : List ℕ) → p ≡ Join k c l r
    → mid ≡ old ++ scans l → new ≡ mid ++ scans r → new ≡ old ++ scans p
pushed-join p k c l r old mid new e first then =
    pushed old mid new (scans l) (scans r) first then ∙ ap (λ (xs : List ℕ). old ++ xs) (sym (scans-join p k c l r e))

pub pushed-union : (p l r : Logical) (old mid new : List ℕ) → p ≡ Union l r
    → mid ≡ old ++ scans l → new ≡ mid ++ scans r → new ≡ old ++ scans p
pushed-union p l r old mid new e first then =
    pushed old mid new (scans l) (scans r) first then ∙ ap (λ (xs : List ℕ). old ++ xs) (sym (scans-union p l r e))

pub ruleset scan_steps = (scans-filter, scans-project, scans-join, scans-aggregate, scans-union, scans-sort, scans-limit, scans-sampled)
