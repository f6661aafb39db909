-- The columns of a plan, one more at a time.
use Rattle.std.proofs.Common.{◌≡◌, ℕ, ◌+◌, ◌<◌, List, [], ◌∷◌, ◌++◌, length, refl, ap, arith, take, get_or}
use Rattle.std.proofs.lemmas.List.{take_more}
use Rattle.aqe_values.specs.declared.sql_type.SqlType.TheVariants as sql
use Rattle.aqe_values.specs.declared.schema.Field.{Field}
use Rattle.aqe_expr.specs.declared.expr.Expr.{Expr, Column}
use Rattle.aqe_logical.specs.declared.plan.AggCall.{AggCall}
use Rattle.aqe_logical.specs.declared.plan.Logical.{Logical}
use Rattle.aqe_logical.specs.declared.plan.Logical.TheVariants.{Aggregate}
use Rattle.aqe_logical.proofs.Shapes.{is_aggregated}
use Rattle.aqe_rules.specs.Selects.{field}
use Rattle.aqe_rules.specs.Plans.{columns_up_to, distinct_rows}

columns_length : (n : ℕ) (fs : List Field) → length (columns_up_to n fs) ≡ length fs
columns_length n [] = refl
columns_length n (f ∷ fs) = rw (columns_length (n + 1) fs) refl

columns_last : (n m : ℕ) (fs : List Field) (f : Field) → m ≡ n + length fs → columns_up_to n (fs ++ f ∷ []) ≡ columns_up_to n fs ++ Column m ∷ []
columns_last n m [] f e = let k : m ≡ n = omega (arith, e) in rw k refl
columns_last n m (g ∷ fs) f e = ap (λ (es : List Expr). Column n ∷ es) (columns_last (n + 1) m fs f (omega (arith, e)))

one_column_more : (fs : List Field) (f : Field) (all now : List Expr) (c : Expr) → all ≡ columns_up_to 0 fs → c ≡ Column (length all) → now ≡ all ++ c ∷ [] → now ≡ columns_up_to 0 (fs ++ f ∷ [])
one_column_more fs f all now c e h k =
    let size : length all ≡ length fs = rw e (columns_length 0 fs) in
    let place : length all ≡ 0 + length fs = omega (arith, size) in
    rw (k, h, columns_last 0 (length all) fs f place, ← e) refl

-- at the step of a loop
pub column_step : (fs : List Field) (i : ℕ) (all now : List Expr) (c : Expr) → i < length fs → all ≡ columns_up_to 0 (take i fs) → c ≡ Column (length all) → now ≡ all ++ c ∷ [] → now ≡ columns_up_to 0 (take (i + 1) fs)
column_step fs i all now c lt e h k = rw (take_more fs i (field [] sql.Int) lt) (one_column_more (take i fs) (get_or fs i (field [] sql.Int)) all now c e h k)

pub distinct_made : (fields : List Field) (columns : List Expr) (calls : List AggCall) (plan p : Logical) → columns ≡ columns_up_to 0 fields → calls ≡ [] → p ≡ Aggregate columns calls fields plan → p ≡ distinct_rows fields plan
distinct_made fields columns calls plan p e f h = rw (h, e, f) (is_aggregated (columns_up_to 0 fields) [] fields plan)
