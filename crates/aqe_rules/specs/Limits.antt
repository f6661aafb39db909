-- The two limits of a plan: how many operators it has, and how many columns a node has.
use Rattle.std.specs.Prelude.{ℕ, ◌+◌, max, nat_le, length, Ok}
use Rattle.aqe_logical.specs.declared.plan.Logical.{Logical, OneRow, Scan, Empty, Held, HeldPartial}
use Rattle.aqe_logical.specs.Shapes.{filtered, projected, joined, aggregated, united, sorted, limited, sampled}
use Rattle.aqe_logical.specs.Columns.{width}
use Rattle.aqe_logical.specs.WellFormed.{column_limit}
use Rattle.aqe_rules.specs.Outcomes.{too_many_operators, too_many_columns, Outcome, provided}

abbrev pub operator_limit : ℕ
operator_limit = 256

-- the operators of a plan
abbrev pub operator_count : Logical → ℕ
operator_count (filtered condition child) = operator_count child + 1
operator_count (projected items schema child) = operator_count child + 1
operator_count (joined kind condition left right) = operator_count left + operator_count right + 1
operator_count (aggregated keys calls schema child) = operator_count child + 1
operator_count (united left right) = operator_count left + operator_count right + 1
operator_count (sorted keys child) = operator_count child + 1
operator_count (limited count skip child) = operator_count child + 1
operator_count (sampled stage child) = operator_count child + 1
operator_count leaf = 1

-- The most columns that a node of a plan has; an aggregate has one for each key and call, and the keys of a sort count too.
abbrev pub most_columns : Logical → ℕ
most_columns OneRow = 0
most_columns (Scan table schema) = length schema
most_columns (filtered condition child) = most_columns child
most_columns (projected items schema child) = max (most_columns child) (length items)
most_columns (joined kind condition left right) =
    max (max (most_columns left) (most_columns right)) (width (joined kind condition left right))
most_columns (aggregated keys calls schema child) = max (most_columns child) (length keys + length calls)
most_columns (united left right) = max (most_columns left) (most_columns right)
most_columns (sorted keys child) = max (most_columns child) (length keys)
most_columns (limited count skip child) = most_columns child
most_columns (Empty schema) = length schema
most_columns (Held stage place schema) = length schema
most_columns (HeldPartial stage calls schema) = length schema
most_columns (sampled stage child) = most_columns child

-- a node's plan, where it keeps the limits with all that is below it
abbrev pub within_limits : Logical → Outcome Logical
within_limits plan =
    provided (nat_le (operator_count plan) operator_limit) too_many_operators
    (provided (nat_le (most_columns plan) column_limit) too_many_columns (Ok plan))
