-- Groups of rows that stand in parts.
use Rattle.std.specs.Prelude.{◌≡◌, ℕ, ◌+◌, List, flat_map, length}
use Rattle.aqe_base.specs.declared.stage_id.StageId.{StageId}
use Rattle.aqe_values.specs.declared.schema.Field.{Field}
use Rattle.aqe_expr.specs.declared.expr.Expr.{Expr}
use Rattle.aqe_logical.specs.declared.plan.AggCall.{AggCall}
use Rattle.aqe_logical.specs.declared.plan.Logical.{Logical, HeldPartial}
use Rattle.aqe_logical.specs.Shapes.{aggregated}
use Rattle.aqe_logical.specs.Answers.{Row, Tables, Stages, Answer}
use Rattle.aqe_logical.specs.Groups.{row_of, group_rows, finish_rows}

-- the rows of all parts, part by part
abbrev pub joined_parts : List (List Row) → List Row
joined_parts parts = flat_map (λ part. part) parts

-- The partial rows of one part, for keys of n values: a row for each group of the part, with the key
-- and then what each call makes of the rows of the part that have this key.
abbrev pub partial_rows : ℕ → (Row → Row) → List AggCall → List Row → List Row
partial_rows n key calls part = group_rows n key calls part

-- finishing the partial rows of the parts gives the groups of all rows, in the same order
abbrev pub FinishingPartsIsGrouping : Type 0
FinishingPartsIsGrouping =
    (n : ℕ) (key : Row → Row) (calls : List AggCall) (parts : List (List Row)) → ((row : Row) → length (key row) ≡ n) →
    finish_rows n calls (flat_map (partial_rows n key calls) parts) ≡ group_rows n key calls (joined_parts parts)

-- where a stage holds the partial rows of the parts of an answer of a plan, what answers HeldPartial
-- answers the aggregate over the plan
abbrev pub HeldPartialAnswersAsTheAggregate : Type 0
HeldPartialAnswersAsTheAggregate =
    (tables : Tables) (stages : Stages) (stage : StageId) (keys : List Expr) (calls : List AggCall) →
    (schema : List Field) (child : Logical) (parts : List (List Row)) (l : List Row) →
    length schema ≡ length keys + length calls → Answer tables stages child (joined_parts parts) →
    stages stage.0 ≡ flat_map (partial_rows (length keys) (row_of keys) calls) parts →
    Answer tables stages (HeldPartial stage calls schema) l → Answer tables stages (aggregated keys calls schema child) l
