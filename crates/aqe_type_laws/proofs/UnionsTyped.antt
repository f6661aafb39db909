-- The nodes of the plan of a UNION give what their columns say, where those of both sides do.
use Rattle.std.proofs.Common.{◌≡◌, ℕ, suc, ◌+◌, ◌==◌, Bool, true, List, [], ◌∷◌, length, arith, refl, sym, ap, subst, ◌∙◌, eqb-true}
use Rattle.std.specs.Prelude.{slice_index_or}
use Rattle.std.proofs.lemmas.List.{append-nil}
use Rattle.aqe_base.specs.declared.status.AnalysisKind.TheVariants.{UnionWidth}
use Rattle.aqe_values.specs.declared.value.Value.TheVariants.{Null}
use Rattle.aqe_values.specs.declared.schema.Field.{Field}
use Rattle.aqe_values.specs.declared.sql_type.SqlType.{SqlType}
use Rattle.aqe_expr.specs.declared.expr.Expr.{Column}
use Rattle.aqe_logical.specs.declared.plan.Logical.{Logical}
use Rattle.aqe_logical.specs.Shapes.{projected, united}
use Rattle.aqe_logical.specs.Answers.{Row}
use Rattle.aqe_logical.specs.Columns.{schema_of, width}
use Rattle.aqe_logical.specs.Groups.{row_of}
use Rattle.aqe_rules.specs.Outcomes.{refused, provided}
use Rattle.aqe_rules.specs.Kinds.{is_same_kind}
use Rattle.aqe_rules.specs.Operations.{typed}
use Rattle.aqe_rules.specs.Limits.{within_limits}
use Rattle.aqe_rules.specs.Plans.{distinct_if}
use Rattle.aqe_rules.specs.Unions.{common_kinds, has_kinds, cast_columns, cast_fields, cast_side, union_of}
use Rattle.aqe_rules.proofs.Gives.{Gives, gives_upon}
use Rattle.aqe_laws.proofs.OperationsBelow.{either_one}
use Rattle.aqe_laws.proofs.Bounds.{passed}
use Rattle.aqe_laws.proofs.Same as same
use Rattle.aqe_laws.proofs.Unions.{Enough, kinds-enough}
use Rattle.aqe_laws.proofs.Walks.{limits-keep}
use Rattle.aqe_type_laws.specs.Fits.{IsOf, FitsColumns}
use Rattle.aqe_type_laws.specs.Plans.{KeepsTypes}
use Rattle.aqe_type_laws.proofs.Values.{same_kind}
use Rattle.aqe_type_laws.proofs.OperationsTyped.{either_known, converted-typed}
use Rattle.aqe_type_laws.proofs.ExpressionsTyped.{types}
use Rattle.aqe_type_laws.proofs.GroupedValues.{from_here, one_on}
use Rattle.aqe_type_laws.proofs.PlansTyped.{kept-holds, projected-keeps, distinct-keeps}

-- Which rows fit is decided by the types of the columns alone.
abbrev FitsTypes : List SqlType → Row → Type 0
FitsTypes [] [] = Unit {0}
FitsTypes (k ∷ ks) (v ∷ row) = IsOf v k × FitsTypes ks row
FitsTypes ks row = ⊥

to-types : (fs : List Field) (row : Row) → FitsColumns fs row → FitsTypes (types fs) row
to-types [] [] h = tt
to-types [] (v ∷ row) h = absurd h
to-types (f ∷ fs) [] h = absurd h
to-types (f ∷ fs) (v ∷ row) h = (h.0, to-types fs row h.1)

from-types : (fs : List Field) (row : Row) → FitsTypes (types fs) row → FitsColumns fs row
from-types [] [] h = tt
from-types [] (v ∷ row) h = absurd h
from-types (f ∷ fs) [] h = absurd h
from-types (f ∷ fs) (v ∷ row) h = (h.0, from-types fs row h.1)

fits-like : (a b : List Field) (row : Row) → types a ≡ types b → FitsColumns a row → FitsColumns b row
fits-like a b row e h = from-types b row (subst (λ ks. FitsTypes ks row) e (to-types a row h))

-- a side that is cast
cast-fit : (ks : List SqlType) (fs : List Field) (n : ℕ) (whole rest : Row) → ((k : ℕ) → slice_index_or whole (n + k) Null ≡ slice_index_or rest k Null) → FitsColumns fs rest →
    FitsColumns (cast_fields ks fs) (row_of (cast_columns n ks fs) whole)
cast-fit [] fs n whole rest at h = tt
cast-fit (k ∷ ks) [] n whole rest at h = tt
cast-fit (k ∷ ks) (f ∷ fs) n whole [] at h = absurd h
cast-fit (k ∷ ks) (f ∷ fs) n whole (v ∷ rest) at h = (
  converted-typed (λ row. IsOf (slice_index_or row n Null) f.kind) k (typed (Column n) f.kind) (λ row r. r) whole
      (subst (λ w. IsOf w f.kind) (sym (subst (λ m. slice_index_or whole m Null ≡ v) (from_here n) (at 0))) h.0),
  cast-fit ks fs (n + 1) whole rest (λ j. subst (λ m. slice_index_or whole m Null ≡ slice_index_or rest j Null) (one_on n j) (at (suc j))) h.1,
)

side-keeps : (ks : List SqlType) (plan : Logical) → KeepsTypes plan → KeepsTypes (cast_side ks plan)
side-keeps ks plan k =
    either_one KeepsTypes (has_kinds ks (schema_of plan)) plan (projected (cast_columns 0 ks (schema_of plan)) (cast_fields ks (schema_of plan)) plan) k
    (projected-keeps (FitsColumns (schema_of plan)) (cast_columns 0 ks (schema_of plan)) (cast_fields ks (schema_of plan)) plan
    (λ row f. cast-fit ks (schema_of plan) 0 row row (λ k. subst (λ m. slice_index_or row m Null ≡ slice_index_or row k Null) (from_zero k) refl) f)
    (kept-holds (FitsColumns (schema_of plan)) plan (λ row f. f) k))
  where
    from_zero : (k : ℕ) → k ≡ 0 + k
    from_zero k = omega arith

-- the types of a side are the common ones
has-types : (ks : List SqlType) (fs : List Field) → length ks ≡ length fs → has_kinds ks fs ≡ true → types fs ≡ ks
has-types [] [] e h = refl
has-types [] (f ∷ fs) e h = absurd (let no : ⊥ = omega (arith, e) in no)
has-types (k ∷ ks) [] e h = absurd (let no : ⊥ = omega (arith, e) in no)
has-types (k ∷ ks) (f ∷ fs) e h =
    let here : f.kind ≡ k = same_kind f.kind k (same.first (is_same_kind f.kind k) (has_kinds ks fs) h) in
    let rest : types fs ≡ ks = has-types ks fs (omega (arith, e)) (same.second (is_same_kind f.kind k) (has_kinds ks fs) h) in
    (λ i. here i ∷ rest i)

cast-types : (ks : List SqlType) (fs : List Field) → length ks ≡ length fs → types (cast_fields ks fs) ≡ ks
cast-types [] [] e = refl
cast-types [] (f ∷ fs) e = refl
cast-types (k ∷ ks) [] e = absurd (let no : ⊥ = omega (arith, e) in no)
cast-types (k ∷ ks) (f ∷ fs) e = ap (λ js. k ∷ js) (cast-types ks fs (omega (arith, e)))

side-types : (ks : List SqlType) (plan : Logical) → length ks ≡ width plan → types (schema_of (cast_side ks plan)) ≡ ks
side-types ks plan e =
    either_known (λ p. types (schema_of p) ≡ ks) (has_kinds ks (schema_of plan)) plan (projected (cast_columns 0 ks (schema_of plan)) (cast_fields ks (schema_of plan)) plan)
    (λ h. has-types ks (schema_of plan) e h) (cast-types ks (schema_of plan) e)

pub union-keeps : (distinct : Bool) (left right : Logical) → KeepsTypes left → KeepsTypes right → Gives KeepsTypes (union_of distinct left right)
union-keeps distinct left right g h =
    gives_upon (Enough (schema_of left) (schema_of right)) KeepsTypes (common_kinds (schema_of left) (schema_of right))
    (λ kinds. provided (length (schema_of left) == length (schema_of right)) (refused UnionWidth [])
    (within_limits (distinct_if distinct (schema_of (cast_side kinds left)) (united (cast_side kinds left) (cast_side kinds right)))))
    (kinds-enough (schema_of left) (schema_of right)) (λ kinds enough.
    passed KeepsTypes (length (schema_of left) == length (schema_of right)) (refused UnionWidth [])
    (within_limits (distinct_if distinct (schema_of (cast_side kinds left)) (united (cast_side kinds left) (cast_side kinds right)))) (λ t.
    let wide : width left ≡ width right = eqb-true (width left) (width right) t in
    let l : types (schema_of (cast_side kinds left)) ≡ kinds = side-types kinds left (enough wide) in
    let r : types (schema_of (cast_side kinds right)) ≡ kinds = side-types kinds right (enough wide ∙ wide) in
    limits-keep KeepsTypes (distinct_if distinct (schema_of (cast_side kinds left)) (united (cast_side kinds left) (cast_side kinds right)))
    (distinct-keeps distinct (schema_of (cast_side kinds left)) [] (united (cast_side kinds left) (cast_side kinds right)) (sym (append-nil (schema_of (cast_side kinds left)))) (
      side-keeps kinds left g,
      side-keeps kinds right h,
      λ row f. fits-like (schema_of (cast_side kinds right)) (schema_of (cast_side kinds left)) row (r ∙ sym l) f,
    ))))
