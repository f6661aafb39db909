-- Plans in an order, and cut, as the code makes them.
use Rattle.std.proofs.Common.{◌≡◌, arith, ℕ, ◌==◌, ◌&&◌, Bool, true, false, not, List, [], ◌∷◌, length, Option, Some, None, Result, refl, ap, sym, subst, ◌∙◌, append-nil}
use Rattle.std.specs.Prelude.{option_map, IfOk}
use Rattle.std.proofs.lemmas.Bool.{eqb-true}
use Rattle.std.specs.Option.{is_none, unwrap_or}
use Rattle.aqe_values.specs.declared.schema.Field.{Field}
use Rattle.aqe_expr.specs.declared.expr.Expr.{Expr}
use Rattle.aqe_logical.specs.declared.plan.SortKey.{SortKey}
use Rattle.aqe_logical.specs.declared.plan.Logical.{Logical}
use Rattle.aqe_logical.specs.declared.plan.Logical.TheVariants.{Sort, Limit, Project}
use Rattle.aqe_logical.proofs.Shapes.{is_sorted, is_limited, is_projected}
use Rattle.aqe_rules.specs.declared.names.Named.{Named}
use Rattle.aqe_rules.specs.Analysis.{bounded, cut}
use Rattle.aqe_rules.specs.Plans.{sorted_by, columns_up_to}
use Rattle.aqe_rules.specs.Sources.{numbered, columns_of, item}
use Rattle.aqe_rules.specs.declared.fault.AnalysisFault.{AnalysisFault}
use Rattle.aqe_logical.specs.Shapes.{limited}
use Rattle.aqe_sources.specs.Given.{Gives}
use Rattle.aqe_ordered.specs.Orders.{dropped}

-- the columns of one item without a name
pub column_steps : (fields : List Field) (result : Result (List Named) AnalysisFault) → Gives result (λ all. all ≡ columns_of (item None fields ∷ [])) → Gives result (λ all. all ≡ numbered None 0 fields)
column_steps fields result made = subst (λ (columns : List Named). Gives result (λ all. all ≡ columns)) (append-nil (numbered None 0 fields)) made

-- a sort
pub unsorted : (keys : List SortKey) (plan : Logical) → (length keys == 0) ≡ true → plan ≡ sorted_by keys plan
unsorted [] plan e = refl
unsorted (k ∷ ks) plan e = absurd (let same : length (k ∷ ks) ≡ 0 = eqb-true (length (k ∷ ks)) 0 e in let no : ⊥ = omega (arith, same) in no)

pub sorted_so : {E : Type 0} (keys : List SortKey) (plan : Logical) (result : Result Logical E) → (length keys == 0) ≡ false → IfOk result (λ p. p ≡ Sort keys plan) → IfOk result (λ p. p ≡ sorted_by keys plan)
sorted_so [] plan result e made = absurd (cc e)
sorted_so (k ∷ ks) plan result e made = rw (← is_sorted (k ∷ ks) plan) made

pub ruleset sort_steps = (unsorted, sorted_so)

-- hidden columns
pub none_dropped : (b : Bool) (fields : List Field) (plan : Logical) → b ≡ false → plan ≡ dropped b fields plan
none_dropped b fields plan e = rw e refl

pub some_dropped : {E : Type 0} (b : Bool) (fields : List Field) (columns : List Expr) (q plan : Logical) (result : Result Logical E) → b ≡ true → columns ≡ columns_up_to 0 fields → q ≡ plan →
    IfOk result (λ p. p ≡ Project columns fields q) → IfOk result (λ p. p ≡ dropped b fields plan)
some_dropped b fields columns q plan result e h k made = rw (e, ← is_projected (columns_up_to 0 fields) fields plan, ← h, ← k) made

pub ruleset drop_steps = (none_dropped, some_dropped)

-- LIMIT and OFFSET
pub uncut : (limit offset : Option ℕ) (plan : Logical) → is_none limit ≡ true → is_none offset ≡ true → plan ≡ cut limit offset plan
uncut None None plan e h = refl
uncut None (Some n) plan e h = absurd (cc h)
uncut (Some n) offset plan e h = absurd (cc e)

-- what is cut where one of the two is there
cut_is : (limit offset : Option ℕ) (plan : Logical) → (is_none limit && is_none offset) ≡ false → cut limit offset plan ≡ limited (option_map bounded limit) (bounded (unwrap_or offset 0)) plan
cut_is (Some n) offset plan e = refl
cut_is None (Some n) plan e = refl
cut_is None None plan e = absurd (cc e)

pub cut_so : {E : Type 0} (limit offset count : Option ℕ) (skip : ℕ) (plan : Logical) (result : Result Logical E) → (is_none limit && is_none offset) ≡ false → count ≡ option_map bounded limit → skip ≡ bounded (unwrap_or offset 0) →
    IfOk result (λ p. p ≡ Limit count skip plan) → IfOk result (λ p. p ≡ cut limit offset plan)
cut_so limit offset count skip plan result e c s made = rw (cut_is limit offset plan e, ← is_limited (option_map bounded limit) (bounded (unwrap_or offset 0)) plan, ← c, ← s) made

pub cut_at_limit : {E : Type 0} (limit offset count : Option ℕ) (skip : ℕ) (plan : Logical) (result : Result Logical E) → is_none limit ≡ false → count ≡ option_map bounded limit → skip ≡ bounded (unwrap_or offset 0) →
    IfOk result (λ p. p ≡ Limit count skip plan) → IfOk result (λ p. p ≡ cut limit offset plan)
cut_at_limit limit offset count skip plan result e c s made = cut_so limit offset count skip plan result (rw e refl) c s made

pub ruleset cut_steps = (uncut, cut_so, cut_at_limit)
