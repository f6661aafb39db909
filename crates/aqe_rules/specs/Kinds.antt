-- Types of expressions.
use Rattle.std.specs.Prelude.{Bool, true, false, Option, Some, None, option_and_then}
use Rattle.aqe_values.specs.declared.sql_type.SqlType.{SqlType}
use Rattle.aqe_values.specs.declared.sql_type.SqlType.TheVariants as sql

-- Two types meet in one: a type meets itself and NULL in itself, INT and BIGINT meet in BIGINT, and others do not meet.
abbrev pub common : SqlType → SqlType → Option SqlType
common sql.NullType b = Some b
common a sql.NullType = Some a
common sql.Boolean sql.Boolean = Some sql.Boolean
common sql.Int sql.Int = Some sql.Int
common sql.Int sql.BigInt = Some sql.BigInt
common sql.BigInt sql.Int = Some sql.BigInt
common sql.BigInt sql.BigInt = Some sql.BigInt
common sql.Text sql.Text = Some sql.Text
common a b = None

-- the common type of some and one more
abbrev pub common_with : Option SqlType → SqlType → Option SqlType
common_with so_far kind = option_and_then (λ a. common a kind) so_far

abbrev pub is_same_kind : SqlType → SqlType → Bool
is_same_kind sql.NullType sql.NullType = true
is_same_kind sql.Boolean sql.Boolean = true
is_same_kind sql.Int sql.Int = true
is_same_kind sql.BigInt sql.BigInt = true
is_same_kind sql.Text sql.Text = true
is_same_kind a b = false

-- NULL fits where a number, a truth or a text is wanted
abbrev pub is_number : SqlType → Bool
is_number sql.NullType = true
is_number sql.Int = true
is_number sql.BigInt = true
is_number a = false

abbrev pub is_truth : SqlType → Bool
is_truth sql.NullType = true
is_truth sql.Boolean = true
is_truth a = false

abbrev pub is_text : SqlType → Bool
is_text sql.NullType = true
is_text sql.Text = true
is_text a = false

-- arithmetic gives BIGINT where one of its operands is BIGINT, and else INT
abbrev pub wider : SqlType → SqlType → SqlType
wider sql.BigInt b = sql.BigInt
wider a sql.BigInt = sql.BigInt
wider a b = sql.Int
