-- The columns of each form of a plan, as the code makes it.
use Rattle.std.proofs.Common.{◌≡◌, ℕ, ◌+◌, ◌<◌, ◌≤◌, max, cond, Bool, true, false, List, length, Option, Ok, subst, sym, refl, ◌∙◌, ◌++◌}
use Rattle.std.proofs.lemmas.Bool.{le-leb, lt-leb}
use Rattle.std.proofs.Common.{length-append}
use Rattle.aqe_base.specs.declared.join_kind.JoinKind.{JoinKind}
use Rattle.aqe_base.specs.declared.stage_id.StageId.{StageId}
use Rattle.aqe_values.specs.declared.schema.Field.{Field}
use Rattle.aqe_expr.specs.declared.expr.Expr.{Expr}
use Rattle.aqe_logical.specs.declared.plan.AggCall.{AggCall}
use Rattle.aqe_logical.specs.declared.plan.SortKey.{SortKey}
use Rattle.aqe_logical.specs.declared.plan.Logical.{Logical}
use Rattle.aqe_logical.specs.declared.plan.Logical.TheVariants.{Filter, Project, Join, Aggregate, Union, Sort, Limit, Sampled}
use Rattle.aqe_logical.specs.Columns.{schema_of, width, shows_right}
use Rattle.aqe_logical.specs.WellFormed.{column_limit}
use Rattle.aqe_logical.proofs.Shapes.{is_filtered, is_projected, is_joined, is_aggregated, is_united, is_sorted, is_limited, is_sampled}
use Rattle.aqe_rules.specs.declared.fault.AnalysisFault.{AnalysisFault}
use Rattle.aqe_rules.specs.declared.fault.AnalysisFault.TheVariants as fault
use Rattle.aqe_rules.specs.Faults.{Fails}
use Rattle.aqe_rules.specs.Limits.{operator_limit, operator_count, most_columns, within_limits}
use Rattle.aqe_sources.specs.Widths.{IsWithin}

-- what is known of a plan's columns
abbrev IsOf : Logical → Option ℕ → Type 0
IsOf p o = IsWithin (most_columns p) (width p) o

pub within-filter : (p : Logical) (c : Expr) (q : Logical) (o : Option ℕ) → p ≡ Filter c q → IsWithin (most_columns q) (width q) o → IsWithin (most_columns p) (width p) o
within-filter p c q o e h = subst (λ x. IsOf x o) (sym (e ∙ is_filtered c q)) h

pub within-limit : (p : Logical) (n : Option ℕ) (s : ℕ) (q : Logical) (o : Option ℕ) → p ≡ Limit n s q → IsWithin (most_columns q) (width q) o → IsWithin (most_columns p) (width p) o
within-limit p n s q o e h = subst (λ x. IsOf x o) (sym (e ∙ is_limited n s q)) h

pub within-sampled : (p : Logical) (s : StageId) (q : Logical) (o : Option ℕ) → p ≡ Sampled s q → IsWithin (most_columns q) (width q) o → IsWithin (most_columns p) (width p) o
within-sampled p s q o e h = subst (λ x. IsOf x o) (sym (e ∙ is_sampled s q)) h

pub within-project : (p : Logical) (i : List Expr) (s : List Field) (q : Logical) (o : Option ℕ) → p ≡ Project i s q → IsWithin (max (most_columns q) (length i)) (length s) o → IsWithin (most_columns p) (width p) o
within-project p i s q o e h = subst (λ x. IsOf x o) (sym (e ∙ is_projected i s q)) h

pub within-aggregate : (p : Logical) (k : List Expr) (c : List AggCall) (s : List Field) (q : Logical) (o : Option ℕ) → p ≡ Aggregate k c s q → IsWithin (max (most_columns q) (length k + length c)) (length s) o → IsWithin (most_columns p) (width p) o
within-aggregate p k c s q o e h = subst (λ x. IsOf x o) (sym (e ∙ is_aggregated k c s q)) h

pub within-union : (p l r : Logical) (o : Option ℕ) → p ≡ Union l r → IsWithin (max (most_columns l) (most_columns r)) (width l) o → IsWithin (most_columns p) (width p) o
within-union p l r o e h = subst (λ x. IsOf x o) (sym (e ∙ is_united l r)) h

pub within-sort : (p : Logical) (k : List SortKey) (q : Logical) (o : Option ℕ) → p ≡ Sort k q → IsWithin (max (most_columns q) (length k)) (width q) o → IsWithin (most_columns p) (width p) o
within-sort p k q o e h = subst (λ x. IsOf x o) (sym (e ∙ is_sorted k q)) h

-- the width of a join
join-width : (b : Bool) (l r : List Field) → length (cond b (l ++ r) l) ≡ cond b (length l + length r) (length l)
join-width true l r = length-append l r
join-width false l r = refl

pub within-join : (p : Logical) (k : JoinKind) (c : Expr) (l r : Logical) (o : Option ℕ) → p ≡ Join k c l r →
    IsWithin (max (max (most_columns l) (most_columns r)) (cond (shows_right k) (width l + width r) (width l))) (cond (shows_right k) (width l + width r) (width l)) o →
    IsWithin (most_columns p) (width p) o
within-join p k c l r o e h =
    subst (λ x. IsOf x o) (sym (e ∙ is_joined k c l r))
    (subst (λ w. IsWithin (max (max (most_columns l) (most_columns r)) w) w o) (sym (join-width (shows_right k) (schema_of l) (schema_of r))) h)

pub ruleset column_steps = (within-filter, within-limit, within-sampled, within-project, within-aggregate, within-union, within-sort, within-join)

-- a plan that breaks a limit is refused, and one that keeps both is let pass
pub few_operators : (p : Logical) (f : AnalysisFault) → operator_limit < operator_count p → f ≡ fault.TooManyOperators → Fails f (within_limits p)
few_operators p f h e = rw (lt-leb (operator_count p) operator_limit h, e) refl

pub few_columns : (p : Logical) (f : AnalysisFault) → operator_count p ≤ operator_limit → column_limit < most_columns p → f ≡ fault.TooManyColumns → Fails f (within_limits p)
few_columns p f h k e = rw (le-leb (operator_count p) operator_limit h, lt-leb (most_columns p) column_limit k, e) refl

pub kept_both : (p : Logical) → operator_count p ≤ operator_limit → most_columns p ≤ column_limit → within_limits p ≡ Ok p
kept_both p h k = rw (le-leb (operator_count p) operator_limit h, le-leb (most_columns p) column_limit k) refl

pub ruleset limit_steps = (few_operators, few_columns, kept_both)
