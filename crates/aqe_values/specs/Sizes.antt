-- The size of a value and of a row, in bytes: a tag of one byte, and the content.
use Rattle.std.specs.Prelude.{ℕ, List, ◌+◌, length, sum_by}
use Rattle.aqe_values.specs.declared.value.Value.{Value}
use Rattle.aqe_values.specs.declared.value.Value.TheVariants as value

-- NULL has its tag alone; a BOOLEAN has one byte more, an INT four, a BIGINT eight;
-- a STRING has four bytes for its length, and then its bytes
abbrev pub value_size : Value → ℕ
value_size value.Null = 1
value_size (value.Boolean b) = 2
value_size (value.Int n) = 5
value_size (value.BigInt n) = 9
value_size (value.Text bytes) = 5 + length bytes

-- the size of a row is the sum of the sizes of its values
abbrev pub row_size_of : List Value → ℕ
row_size_of values = sum_by value_size values
