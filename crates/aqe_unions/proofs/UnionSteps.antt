-- The union of two sides, as the code makes it.
use Rattle.std.proofs.Common.{◌≡◌, ◌==◌, Bool, true, false, List, [], length, Result, Ok, Err, refl, subst, ◌∙◌}
use Rattle.std.specs.Prelude.{IfOk}
use Rattle.aqe_base.specs.declared.status.AnalysisKind.TheVariants.{UnionWidth}
use Rattle.aqe_values.specs.declared.sql_type.SqlType.{SqlType}
use Rattle.aqe_values.specs.declared.schema.Field.{Field}
use Rattle.aqe_logical.specs.declared.plan.Logical.{Logical}
use Rattle.aqe_logical.specs.declared.plan.Logical.TheVariants.{Union}
use Rattle.aqe_logical.specs.Columns.{schema_of}
use Rattle.aqe_logical.specs.Shapes.{united}
use Rattle.aqe_logical.proofs.Shapes.{is_united}
use Rattle.aqe_rules.specs.declared.fault.AnalysisFault.{AnalysisFault}
use Rattle.aqe_rules.specs.Faults.{Tells, Fails, Says}
use Rattle.aqe_rules.specs.Limits.{within_limits}
use Rattle.aqe_rules.specs.Outcomes.{Outcome, Check, refused, upon, provided}
use Rattle.aqe_rules.specs.Plans.{distinct_rows, distinct_if}
use Rattle.aqe_rules.specs.Unions.{common_kinds, cast_side, union_of}
use Rattle.aqe_rules.proofs.Steps.{memory_fails}
use Rattle.aqe_unions.specs.Sides.{kinds_of, union_to}

-- a step that fails
pub step_fails : {T U : Type 0} (f : AnalysisFault) (o : Outcome T) (next : T → Outcome U) → Fails f o → Fails f (upon o next)
step_fails f (Ok t) next h = memory_fails f (next t) h
step_fails f (Err check) next h = h

said : {T : Type 0} (a : Result T AnalysisFault) (o : Outcome T) (x : T) → a ≡ Ok x → Says a o → o ≡ Ok x
said a o x e h = subst (λ (r : Result _ AnalysisFault). Says r o) e h

failed : {T : Type 0} (a : Result T AnalysisFault) (o : Outcome T) (f : AnalysisFault) → a ≡ Err f → Says a o → Fails f o
failed a o f e h = subst (λ (r : Result _ AnalysisFault). Says r o) e h

-- the types, once the columns of both sides are known
module _ (l r : Logical) (fs gs : List Field) (a : Result (List SqlType) AnalysisFault) (left : fs ≡ schema_of l) (right : gs ≡ schema_of r) (h : Says a (common_kinds fs gs)) where
  pub kinds_fail : (f : AnalysisFault) → a ≡ Err f → Fails f (kinds_of l r)
  kinds_fail f e =
      step_fails f (common_kinds (schema_of l) (schema_of r)) (λ kinds. provided (length (schema_of l) == length (schema_of r)) (refused UnionWidth []) (Ok kinds))
      (subst (λ (xs : List Field). Fails f (common_kinds xs (schema_of r))) left (subst (λ (ys : List Field). Fails f (common_kinds fs ys)) right (failed a (common_kinds fs gs) f e h)))

  known : (kinds : List SqlType) → a ≡ Ok kinds → kinds_of l r ≡ provided (length fs == length gs) (refused UnionWidth []) (Ok kinds)
  known kinds e = rw (← left, ← right, said a (common_kinds fs gs) kinds e h) refl

  pub widths_differ : (kinds : List SqlType) (f : AnalysisFault) → a ≡ Ok kinds → (length fs == length gs) ≡ false → Tells f (refused UnionWidth []) → Fails f (kinds_of l r)
  widths_differ kinds f e d t = rw (known kinds e, d) t

  pub kinds_known : (kinds : List SqlType) → a ≡ Ok kinds → (length fs == length gs) ≡ true → kinds_of l r ≡ Ok kinds
  kinds_known kinds e d = known kinds e ∙ rw d refl

pub ruleset width_steps = (memory_fails, kinds_fail, widths_differ, kinds_known)

-- the plan
pub rows_once : {E : Type 0} (l r q : Logical) (fields : List Field) (result : Result Logical E) → fields ≡ schema_of l → q ≡ Union l r →
    IfOk result (λ p. p ≡ distinct_rows fields q) → IfOk result (λ p. p ≡ distinct_rows (schema_of l) (united l r))
rows_once l r q fields result e h made = rw (← is_united l r, ← e, ← h) made

pub once_if : {E : Type 0} (distinct : Bool) (l r : Logical) (result : Result Logical E) → distinct ≡ true →
    IfOk result (λ p. p ≡ distinct_rows (schema_of l) (united l r)) → IfOk result (λ p. p ≡ distinct_if distinct (schema_of l) (united l r))
once_if distinct l r result e made = rw e made

pub all_rows : {E : Type 0} (distinct : Bool) (l r : Logical) (result : Result Logical E) → distinct ≡ false → IfOk result (λ p. p ≡ Union l r) → IfOk result (λ p. p ≡ distinct_if distinct (schema_of l) (united l r))
all_rows distinct l r result e made = rw (e, ← is_united l r) made

pub ruleset plan_steps = (once_if, all_rows)

-- the union
pub limits_said : (distinct : Bool) (kinds : List SqlType) (l r a b p : Logical) (result : Result Logical AnalysisFault) → a ≡ cast_side kinds l → b ≡ cast_side kinds r →
    p ≡ distinct_if distinct (schema_of a) (united a b) → Says result (within_limits p) → Says result (union_to distinct kinds l r)
limits_said distinct kinds l r a b p result e h k s = rw (← e, ← h, ← k) s

-- the two steps are the union
widths_first : (b : Bool) (check : Check) (o : Outcome (List SqlType)) (next : List SqlType → Outcome Logical) → upon (upon o (λ kinds. provided b check (Ok kinds))) next ≡ upon o (λ kinds. provided b check (next kinds))
widths_first true check (Ok kinds) next = refl
widths_first false check (Ok kinds) next = refl
widths_first b check (Err other) next = refl

in_steps : (distinct : Bool) (l r : Logical) → upon (kinds_of l r) (λ kinds. union_to distinct kinds l r) ≡ union_of distinct l r
in_steps distinct l r = widths_first (length (schema_of l) == length (schema_of r)) (refused UnionWidth []) (common_kinds (schema_of l) (schema_of r)) (λ kinds. union_to distinct kinds l r)

module _ (distinct : Bool) (l r : Logical) (a : Result (List SqlType) AnalysisFault) (h : Says a (kinds_of l r)) where
  pub union_said : (kinds : List SqlType) (result : Result Logical AnalysisFault) → a ≡ Ok kinds → Says result (union_to distinct kinds l r) → Says result (union_of distinct l r)
  union_said kinds result e s = rw (← in_steps distinct l r, said a (kinds_of l r) kinds e h) s

  pub union_fails : (f : AnalysisFault) → a ≡ Err f → Fails f (union_of distinct l r)
  union_fails f e = rw (← in_steps distinct l r) (step_fails f (kinds_of l r) (λ kinds. union_to distinct kinds l r) (failed a (kinds_of l r) f e h))

pub ruleset union_steps = (memory_fails, limits_said, union_said, union_fails)
