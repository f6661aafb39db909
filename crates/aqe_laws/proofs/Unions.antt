-- The plan of a UNION is laid out right.
use Rattle.std.proofs.Common.{◌≡◌, ℕ, suc, ◌+◌, ◌≤◌, ◌==◌, Bool, true, false, List, [], ◌∷◌, length, Ok, arith, refl, sym, ap, ◌∙◌, eqb-true}
use Rattle.std.proofs.lemmas.List.Elements.{All-nil, All-cons}
use Rattle.aqe_base.specs.declared.status.AnalysisKind.TheVariants.{UnionWidth}
use Rattle.aqe_values.specs.declared.schema.Field.{Field}
use Rattle.aqe_values.specs.declared.sql_type.SqlType.{SqlType}
use Rattle.aqe_expr.specs.declared.expr.Expr.{Column}
use Rattle.aqe_expr.specs.Below.{ColumnsBelow}
use Rattle.aqe_logical.specs.declared.plan.Logical.{Logical}
use Rattle.aqe_logical.specs.Shapes.{projected, united}
use Rattle.aqe_logical.specs.Columns.{schema_of, width}
use Rattle.aqe_logical.specs.WellFormed.{ItemsBelow}
use Rattle.aqe_rules.specs.Outcomes.{refused, upon, provided, present}
use Rattle.aqe_rules.specs.Kinds.{common}
use Rattle.aqe_rules.specs.Operations.{typed, mismatch, converted}
use Rattle.aqe_rules.specs.Limits.{within_limits}
use Rattle.aqe_rules.specs.Plans.{distinct_if}
use Rattle.aqe_rules.specs.Unions.{common_kinds, has_kinds, cast_columns, cast_fields, cast_side, union_of}
use Rattle.aqe_rules.proofs.Gives.{Gives, gives_upon, gives_all}
use Rattle.aqe_laws.proofs.OperationsBelow.{converted-below, either_one}
use Rattle.aqe_laws.proofs.Bounds.{Laid, passed}
use Rattle.aqe_laws.proofs.Sources.{within-laid}
use Rattle.aqe_laws.proofs.Plans.{Has, distinct-laid}

-- as many common types as columns, where both sides have as many
abbrev pub Enough : List Field → List Field → List SqlType → Type 0
Enough fs gs kinds = length fs ≡ length gs → length kinds ≡ length fs

abbrev AnyKind : SqlType → Type 0
AnyKind kind = Unit {0}

pub kinds-enough : (fs gs : List Field) → Gives (Enough fs gs) (common_kinds fs gs)
kinds-enough [] gs = λ e. refl
kinds-enough (f ∷ fs) [] = λ e. omega (arith, e)
kinds-enough (f ∷ fs) (g ∷ gs) =
    gives_upon AnyKind (Enough (f ∷ fs) (g ∷ gs)) (present (common f.kind g.kind) mismatch) (λ kind. upon (common_kinds fs gs) (λ kinds. Ok (kind ∷ kinds)))
    (gives_all AnyKind (λ k. tt) (present (common f.kind g.kind) mismatch)) (λ kind u.
    gives_upon (Enough fs gs) (Enough (f ∷ fs) (g ∷ gs)) (common_kinds fs gs) (λ kinds. Ok (kind ∷ kinds)) (kinds-enough fs gs) (λ kinds h e.
    (let rest : length kinds ≡ length fs = h (omega (arith, e)) in omega (arith, rest))))

cast-fields-length : (ks : List SqlType) (fs : List Field) → length ks ≡ length fs → length (cast_fields ks fs) ≡ length fs
cast-fields-length [] [] e = refl
cast-fields-length [] (f ∷ fs) e = absurd (let no : ⊥ = omega (arith, e) in no)
cast-fields-length (k ∷ ks) [] e = refl
cast-fields-length (k ∷ ks) (f ∷ fs) e = ap suc (cast-fields-length ks fs (omega (arith, e)))

cast-columns-length : (n : ℕ) (ks : List SqlType) (fs : List Field) → length (cast_fields ks fs) ≡ length (cast_columns n ks fs)
cast-columns-length n [] fs = refl
cast-columns-length n (k ∷ ks) [] = refl
cast-columns-length n (k ∷ ks) (f ∷ fs) = ap suc (cast-columns-length (n + 1) ks fs)

cast-columns-below : (m n : ℕ) (ks : List SqlType) (fs : List Field) → n + length fs ≤ m → ItemsBelow m (cast_columns n ks fs)
cast-columns-below m n [] fs fits = All-nil (ColumnsBelow m)
cast-columns-below m n (k ∷ ks) [] fits = All-nil (ColumnsBelow m)
cast-columns-below m n (k ∷ ks) (f ∷ fs) fits =
    All-cons (ColumnsBelow m) (converted k (typed (Column n) f.kind)) (cast_columns (n + 1) ks fs)
    (converted-below m k (typed (Column n) f.kind) (omega (arith, fits))) (cast-columns-below m (n + 1) ks fs (omega (arith, fits)))

side-laid : (kinds : List SqlType) (plan : Logical) → Laid plan → length kinds ≡ width plan → Has (width plan) (cast_side kinds plan)
side-laid kinds plan h e =
    either_one (Has (width plan)) (has_kinds kinds (schema_of plan)) plan (projected (cast_columns 0 kinds (schema_of plan)) (cast_fields kinds (schema_of plan)) plan)
    (h, refl) (
      (h, cast-columns-length 0 kinds (schema_of plan), cast-columns-below (width plan) 0 kinds (schema_of plan) (omega arith)),
      cast-fields-length kinds (schema_of plan) e,
    )

pub distinct_if-laid : (distinct : Bool) (fields : List Field) (plan : Logical) → Laid plan → length fields ≤ width plan → Laid (distinct_if distinct fields plan)
distinct_if-laid true fields plan h le = (distinct-laid fields plan h le).0
distinct_if-laid false fields plan h le = h

pub union-laid : (distinct : Bool) (left right : Logical) → Laid left → Laid right → Gives Laid (union_of distinct left right)
union-laid distinct left right h k =
    gives_upon (Enough (schema_of left) (schema_of right)) Laid (common_kinds (schema_of left) (schema_of right))
    (λ kinds. provided (length (schema_of left) == length (schema_of right)) (refused UnionWidth [])
    (within_limits (distinct_if distinct (schema_of (cast_side kinds left)) (united (cast_side kinds left) (cast_side kinds right)))))
    (kinds-enough (schema_of left) (schema_of right)) (λ kinds enough.
    passed Laid (length (schema_of left) == length (schema_of right)) (refused UnionWidth [])
    (within_limits (distinct_if distinct (schema_of (cast_side kinds left)) (united (cast_side kinds left) (cast_side kinds right)))) (λ t.
    let same : width left ≡ width right = eqb-true (width left) (width right) t in
    let l : Has (width left) (cast_side kinds left) = side-laid kinds left h (enough same) in
    let r : Has (width right) (cast_side kinds right) = side-laid kinds right k (enough same ∙ same) in
    within-laid (distinct_if distinct (schema_of (cast_side kinds left)) (united (cast_side kinds left) (cast_side kinds right)))
    (distinct_if-laid distinct (schema_of (cast_side kinds left)) (united (cast_side kinds left) (cast_side kinds right))
    (l.0, r.0, l.1 ∙ (same ∙ sym r.1)) (omega arith))))
