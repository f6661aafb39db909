-- When two values, and two rows, count as equal.
use Rattle.std.specs.Prelude.{Bool, true, false, List, IsTrue, ◌≡◌, ◌==◌, ◌↔◌}
use Rattle.std.specs.Bool.{beq}
use Rattle.std.specs.Ordering.{int_eq}
use Rattle.std.specs.Cmp.{IsEquivalence, IsPartialEquivalence, partial_equiv_from_equiv}
use Rattle.std.specs.Cmp.Lexicographic.{pointwise, lists_equiv}
use Rattle.aqe_values.specs.declared.value.Value.{Value}
use Rattle.aqe_values.specs.declared.value.Value.TheVariants.{Null, Boolean, Int, BigInt, Text}
use Rattle.aqe_values.specs.contracts.value.ValuePartialEq.TheImpl as eq
use Rattle.aqe_values.specs.contracts.value.ValueEq.TheImpl.Laws.{laws-law}

-- what `==` answers for two values
abbrev pub value_eq : Value → Value → Bool
value_eq = (eq.ghosts).eq

-- Whether two values are the same, by cases: both NULL, or of one type and with the same content.
-- So NULL equals NULL, and an INT never equals a BIGINT.
abbrev pub same_value : Value → Value → Bool
same_value Null Null = true
same_value (Boolean a) (Boolean b) = beq a b
same_value (Int a) (Int b) = int_eq a b
same_value (BigInt a) (BigInt b) = int_eq a b
same_value (Text a) (Text b) = pointwise ◌==◌ a b
same_value a b = false

-- `==`, which the derive on `Value` gives, is the test written out above
abbrev pub ValuesEqualByCases : Type 0
ValuesEqualByCases = (a b : Value) → value_eq a b ≡ same_value a b

-- what `==` answers for two rows: they are as long, and each pair of values is equal
abbrev pub row_eq : List Value → List Value → Bool
row_eq = pointwise value_eq

pub rows_equiv : IsEquivalence row_eq
rows_equiv = lists_equiv laws-law

pub rows_partial_equiv : IsPartialEquivalence row_eq
rows_partial_equiv = partial_equiv_from_equiv rows_equiv

-- two values are equal where they are the same data
abbrev pub ValuesEqualAsData : Type 0
ValuesEqualAsData = (a b : Value) → IsTrue (value_eq a b) ↔ (a ≡ b)

-- two rows are equal where they have the same values in the same order
abbrev pub RowsEqualAsData : Type 0
RowsEqualAsData = (a b : List Value) → IsTrue (row_eq a b) ↔ (a ≡ b)
