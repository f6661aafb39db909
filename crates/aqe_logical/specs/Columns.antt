-- The columns of a plan's answers.
use Rattle.std.specs.Prelude.{ℕ, Bool, true, false, cond, List, [], ◌++◌, length}
use Rattle.aqe_base.specs.declared.join_kind.JoinKind.{JoinKind}
use Rattle.aqe_base.specs.declared.join_kind.JoinKind.TheVariants.{LeftSemi, LeftAnti}
use Rattle.aqe_values.specs.declared.schema.Field.{Field}
use Rattle.aqe_logical.specs.declared.plan.Logical.{Logical, OneRow, Scan, Empty, Held, HeldPartial}
use Rattle.aqe_logical.specs.Shapes.{filtered, projected, joined, aggregated, united, sorted, limited, sampled}

-- a semi or anti join shows its left side alone
abbrev pub shows_right : JoinKind → Bool
shows_right LeftSemi = false
shows_right LeftAnti = false
shows_right kind = true

abbrev pub schema_of : Logical → List Field
schema_of OneRow = []
schema_of (Scan table schema) = schema
schema_of (filtered condition child) = schema_of child
schema_of (projected items schema child) = schema
schema_of (joined kind condition left right) = cond (shows_right kind) (schema_of left ++ schema_of right) (schema_of left)
schema_of (aggregated keys calls schema child) = schema
schema_of (united left right) = schema_of left
schema_of (sorted keys child) = schema_of child
schema_of (limited count skip child) = schema_of child
schema_of (Empty schema) = schema
schema_of (Held stage place schema) = schema
schema_of (HeldPartial stage calls schema) = schema
schema_of (sampled stage child) = schema_of child

-- the number of columns
abbrev pub width : Logical → ℕ
width plan = length (schema_of plan)
