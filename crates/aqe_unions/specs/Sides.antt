-- The two steps of a union: the common types of its columns, and the plan of the sides that get them.
use Rattle.std.specs.Prelude.{◌==◌, Bool, List, [], length, Ok}
use Rattle.aqe_base.specs.declared.status.AnalysisKind.TheVariants.{UnionWidth}
use Rattle.aqe_values.specs.declared.sql_type.SqlType.{SqlType}
use Rattle.aqe_logical.specs.declared.plan.Logical.{Logical}
use Rattle.aqe_logical.specs.Shapes.{united}
use Rattle.aqe_logical.specs.Columns.{schema_of}
use Rattle.aqe_rules.specs.Outcomes.{refused, Outcome, upon, provided}
use Rattle.aqe_rules.specs.Limits.{within_limits}
use Rattle.aqe_rules.specs.Plans.{distinct_if}
use Rattle.aqe_rules.specs.Unions.{common_kinds, cast_side}

-- both sides must have as many columns; that is looked at once the columns that both have are known to meet
abbrev pub kinds_of : Logical → Logical → Outcome (List SqlType)
kinds_of left right =
    upon (common_kinds (schema_of left) (schema_of right)) (λ kinds.
    provided (length (schema_of left) == length (schema_of right)) (refused UnionWidth []) (Ok kinds))

-- the sides with these types, joined
abbrev pub union_to : Bool → List SqlType → Logical → Logical → Outcome Logical
union_to distinct kinds left right =
    within_limits (distinct_if distinct (schema_of (cast_side kinds left)) (united (cast_side kinds left) (cast_side kinds right)))
