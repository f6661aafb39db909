-- A side that is cast, one column more at a time.
use Rattle.std.proofs.Common.{◌≡◌, ℕ, ◌+◌, ◌<◌, true, false, List, [], ◌∷◌, ◌++◌, length, refl, ap, sym, ◌∙◌, drop, get_or, append_assoc, append-nil, length-append, Result}
use Rattle.std.specs.Prelude.{IfOk}
use Rattle.std.proofs.lemmas.List.{drop_more}
use Rattle.aqe_values.specs.declared.sql_type.SqlType.{SqlType}
use Rattle.aqe_values.specs.declared.schema.Field.{Field}
use Rattle.aqe_expr.specs.declared.expr.Expr.{Expr, Column}
use Rattle.aqe_logical.specs.declared.plan.Logical.{Logical}
use Rattle.aqe_logical.specs.declared.plan.Logical.TheVariants.{Project}
use Rattle.aqe_logical.specs.Columns.{schema_of}
use Rattle.aqe_logical.specs.Shapes.{projected}
use Rattle.aqe_logical.proofs.Shapes.{is_projected}
use Rattle.aqe_rules.specs.Kinds.{is_same_kind}
use Rattle.aqe_rules.specs.declared.typed.Typed.{Typed}
use Rattle.aqe_rules.specs.Operations.{typed, cast, converted}
use Rattle.aqe_rules.specs.Selects.{field}
use Rattle.aqe_rules.specs.Unions.{has_kinds, cast_columns, cast_fields, cast_side}

-- one column
pub stays : (wanted own : SqlType) (place : ℕ) (e : Expr) → is_same_kind own wanted ≡ true → e ≡ Column place → e ≡ converted wanted (typed (Column place) own)
stays wanted own place e h is = rw (h, is) refl

pub changes : (wanted own : SqlType) (place : ℕ) (e : Expr) (t : Typed) → is_same_kind own wanted ≡ false → e ≡ Column place → t ≡ cast wanted (typed e own) → t.expr ≡ converted wanted (typed (Column place) own)
changes wanted own place e t h is made = rw (made, h, is) refl

pub ruleset column_steps = (stays, changes)

next_field : (fields : List Field) (i : ℕ) (f : Field) → i < length fields → f ≡ get_or fields i f → drop i fields ≡ f ∷ drop (i + 1) fields
next_field fields i f lt at = drop_more fields i f lt ∙ ap (λ (x : Field). x ∷ drop (i + 1) fields) (sym at)

-- the expressions and the fields of one column more
columns_more : (items : List Expr) (e : Expr) (k : SqlType) (ks : List SqlType) (f : Field) (fs : List Field) → e ≡ converted k (typed (Column (length items)) f.kind) →
    items ++ cast_columns (length items) (k ∷ ks) (f ∷ fs) ≡ (items ++ e ∷ []) ++ cast_columns (length (items ++ e ∷ [])) ks fs
columns_more items e k ks f fs is =
    let size : length (items ++ e ∷ []) ≡ length items + 1 = length-append items (e ∷ []) in
    rw (size, append_assoc items (e ∷ []) (cast_columns (length items + 1) ks fs), is) refl

module _ (fields : List Field) (others behind_others : List SqlType) (i : ℕ) (f : Field) (k : SqlType) (lt : i < length fields) (at : f ≡ get_or fields i f) (is : others ≡ k ∷ behind_others) where
  pub column_more : (items now whole : List Expr) (e : Expr) → e ≡ converted k (typed (Column (length items)) f.kind) → now ≡ items ++ e ∷ [] →
      items ++ cast_columns (length items) others (drop i fields) ≡ whole → now ++ cast_columns (length now) behind_others (drop (i + 1) fields) ≡ whole
  column_more items now whole e made n h =
      rw n (sym (ap (λ (fs : List Field). items ++ cast_columns (length items) others fs) (next_field fields i f lt at) ∙
      ap (λ (ks : List SqlType). items ++ cast_columns (length items) ks (f ∷ drop (i + 1) fields)) is ∙ columns_more items e k behind_others f (drop (i + 1) fields) made) ∙ h)

  pub field_more : (schema now whole : List Field) (g : Field) → g ≡ field f.name k → now ≡ schema ++ g ∷ [] →
      schema ++ cast_fields others (drop i fields) ≡ whole → now ++ cast_fields behind_others (drop (i + 1) fields) ≡ whole
  field_more schema now whole g made n h =
      rw (n, made) (append_assoc schema (field f.name k ∷ []) (cast_fields behind_others (drop (i + 1) fields)) ∙
      sym (ap (λ (fs : List Field). schema ++ cast_fields others fs) (next_field fields i f lt at) ∙ ap (λ (ks : List SqlType). schema ++ cast_fields ks (f ∷ drop (i + 1) fields)) is) ∙ h)

-- where a side or the types are at their end
no_columns : (n : ℕ) (ks : List SqlType) → cast_columns n ks [] ≡ []
no_columns n [] = refl
no_columns n (k ∷ ks) = refl

no_fields : (ks : List SqlType) → cast_fields ks [] ≡ []
no_fields [] = refl
no_fields (k ∷ ks) = refl

pub columns_end : (items whole : List Expr) (n : ℕ) (ks : List SqlType) (fields : List Field) → ks ≡ [] → items ++ cast_columns n ks fields ≡ whole → items ≡ whole
columns_end items whole n ks fields e h = sym (append-nil items) ∙ sym (ap (λ (ts : List SqlType). items ++ cast_columns n ts fields) e) ∙ h

pub columns_all : (items whole : List Expr) (n : ℕ) (ks : List SqlType) (fields : List Field) → fields ≡ [] → items ++ cast_columns n ks fields ≡ whole → items ≡ whole
columns_all items whole n ks fields e h = sym (append-nil items) ∙ sym (ap (λ (fs : List Field). items ++ cast_columns n ks fs) e ∙ ap (λ (all : List Expr). items ++ all) (no_columns n ks)) ∙ h

pub fields_end : (schema whole : List Field) (ks : List SqlType) (fields : List Field) → ks ≡ [] → schema ++ cast_fields ks fields ≡ whole → schema ≡ whole
fields_end schema whole ks fields e h = sym (append-nil schema) ∙ sym (ap (λ (ts : List SqlType). schema ++ cast_fields ts fields) e) ∙ h

pub fields_all : (schema whole : List Field) (ks : List SqlType) (fields : List Field) → fields ≡ [] → schema ++ cast_fields ks fields ≡ whole → schema ≡ whole
fields_all schema whole ks fields e h = sym (append-nil schema) ∙ sym (ap (λ (fs : List Field). schema ++ cast_fields ks fs) e ∙ ap (λ (all : List Field). schema ++ all) (no_fields ks)) ∙ h

-- the side
pub rows_cast : {E : Type 0} (items a : List Expr) (schema b : List Field) (q plan : Logical) (result : Result Logical E) → items ≡ a → schema ≡ b → q ≡ plan →
    IfOk result (λ p. p ≡ Project items schema q) → IfOk result (λ p. p ≡ projected a b plan)
rows_cast items a schema b q plan result e h k made = rw (← is_projected a b plan, ← e, ← h, ← k) made

pub side_stays : (kinds : List SqlType) (fields : List Field) (plan : Logical) → fields ≡ schema_of plan → has_kinds kinds fields ≡ true → plan ≡ cast_side kinds plan
side_stays kinds fields plan e h = let k : has_kinds kinds (schema_of plan) ≡ true = ap (has_kinds kinds) (sym e) ∙ h in rw k refl

pub side_cast : (kinds : List SqlType) (fields : List Field) (plan p : Logical) → fields ≡ schema_of plan → has_kinds kinds fields ≡ false →
    p ≡ projected (cast_columns 0 kinds fields) (cast_fields kinds fields) plan → p ≡ cast_side kinds plan
side_cast kinds fields plan p e h made = let k : has_kinds kinds (schema_of plan) ≡ false = ap (has_kinds kinds) (sym e) ∙ h in rw (made, e, k) refl

pub ruleset side_steps = (side_stays, side_cast)
