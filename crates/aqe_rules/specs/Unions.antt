-- UNION: both sides get common types.
use Rattle.std.specs.Prelude.{ℕ, ◌+◌, ◌==◌, Bool, true, cond, ◌&&◌, List, [], ◌∷◌, length, Ok}
use Rattle.aqe_base.specs.declared.status.AnalysisKind.TheVariants.{UnionWidth}
use Rattle.aqe_values.specs.declared.schema.Field.{Field}
use Rattle.aqe_values.specs.declared.sql_type.SqlType.{SqlType}
use Rattle.aqe_expr.specs.declared.expr.Expr.{Expr, Column}
use Rattle.aqe_logical.specs.declared.plan.Logical.{Logical}
use Rattle.aqe_logical.specs.Shapes.{projected, united}
use Rattle.aqe_logical.specs.Columns.{schema_of}
use Rattle.aqe_rules.specs.Outcomes.{refused, Outcome, upon, provided, present}
use Rattle.aqe_rules.specs.Kinds.{common, is_same_kind}
use Rattle.aqe_rules.specs.Operations.{typed, mismatch, converted}
use Rattle.aqe_rules.specs.Selects.{field}
use Rattle.aqe_rules.specs.Limits.{within_limits}
use Rattle.aqe_rules.specs.Plans.{distinct_if}

-- the common type of each column that both sides have
abbrev pub common_kinds : List Field → List Field → Outcome (List SqlType)
common_kinds (f ∷ fs) (g ∷ gs) =
    upon (present (common f.kind g.kind) mismatch) (λ kind. upon (common_kinds fs gs) (λ kinds. Ok (kind ∷ kinds)))
common_kinds fs gs = Ok []

-- a side whose types differ from these is cast by a Project, which keeps its names
abbrev pub has_kinds : List SqlType → List Field → Bool
has_kinds (k ∷ ks) (f ∷ fs) = is_same_kind f.kind k && has_kinds ks fs
has_kinds ks fs = true

abbrev pub cast_columns : ℕ → List SqlType → List Field → List Expr
cast_columns n (k ∷ ks) (f ∷ fs) = converted k (typed (Column n) f.kind) ∷ cast_columns (n + 1) ks fs
cast_columns n ks fs = []

abbrev pub cast_fields : List SqlType → List Field → List Field
cast_fields (k ∷ ks) (f ∷ fs) = field f.name k ∷ cast_fields ks fs
cast_fields ks fs = []

abbrev pub cast_side : List SqlType → Logical → Logical
cast_side kinds plan =
    cond (has_kinds kinds (schema_of plan)) plan (projected (cast_columns 0 kinds (schema_of plan)) (cast_fields kinds (schema_of plan)) plan)

-- a side more; plain UNION keeps each row once
abbrev pub union_of : Bool → Logical → Logical → Outcome Logical
union_of distinct left right =
    upon (common_kinds (schema_of left) (schema_of right)) (λ kinds.
    provided (length (schema_of left) == length (schema_of right)) (refused UnionWidth [])
    (within_limits (distinct_if distinct (schema_of (cast_side kinds left)) (united (cast_side kinds left) (cast_side kinds right)))))
