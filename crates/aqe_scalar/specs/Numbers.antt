-- Arithmetic over values.
use Rattle.std.specs.Prelude.{ℕ, zero, ℤ, pos, ◌+ℤ◌, ◌-ℤ◌, ◌*ℤ◌, neg_ℤ, Bool, true, false, ◌||◌, Option, Some, None, option_map, option_and_then, int_div, int_rem}
use Rattle.std.specs.Int.{w32, w64, int_wrap}
use Rattle.aqe_values.specs.declared.value.Value.{Value}
use Rattle.aqe_values.specs.declared.value.Value.TheVariants.{Null, Boolean, Int, BigInt, Text}

-- the number that an INT or a BIGINT is; other values are none
abbrev pub number_of : Value → Option ℤ
number_of (Int n) = Some n
number_of (BigInt n) = Some n
number_of _ = None

abbrev pub is_bigint : Value → Bool
is_bigint (BigInt n) = true
is_bigint _ = false

-- A number as a value of INT or of BIGINT. What does not fit wraps: the value is the one of the
-- type that differs from it by a multiple of 2^32, or of 2^64. No number is NULL.
abbrev pub int_value : Option ℤ → Value
int_value None = Null
int_value (Some n) = Int (int_wrap w32 n)

abbrev pub bigint_value : Option ℤ → Value
bigint_value None = Null
bigint_value (Some n) = BigInt (int_wrap w64 n)

abbrev pub number_value : Bool → Option ℤ → Value
number_value false n = int_value n
number_value true n = bigint_value n

-- an operation on two numbers has no result where one of them is missing
abbrev pub on_numbers : (ℤ → ℤ → Option ℤ) → Value → Value → Option ℤ
on_numbers operation a b = option_and_then (λ m. option_and_then (operation m) (number_of b)) (number_of a)

-- The operations: a result of `+`, `-` and `*` is always there. `/` cuts towards zero, and the
-- remainder has the sign of what is divided; neither has a result where the divisor is zero.
abbrev pub sum_of : ℤ → ℤ → Option ℤ
sum_of m n = Some (m +ℤ n)

abbrev pub difference_of : ℤ → ℤ → Option ℤ
difference_of m n = Some (m -ℤ n)

abbrev pub product_of : ℤ → ℤ → Option ℤ
product_of m n = Some (m *ℤ n)

abbrev pub quotient_of : ℤ → ℤ → Option ℤ
quotient_of m (pos zero) = None
quotient_of m n = Some (int_div m n)

abbrev pub remainder_of : ℤ → ℤ → Option ℤ
remainder_of m (pos zero) = None
remainder_of m n = Some (int_rem m n)

-- the result of an operation is a BIGINT where one operand is, else an INT
abbrev pub arithmetic : (ℤ → ℤ → Option ℤ) → Value → Value → Value
arithmetic operation a b = number_value (is_bigint a || is_bigint b) (on_numbers operation a b)

-- the whole quotient is always a BIGINT
abbrev pub whole_quotient : Value → Value → Value
whole_quotient a b = bigint_value (on_numbers quotient_of a b)

abbrev pub negated : Value → Value
negated a = number_value (is_bigint a) (option_map neg_ℤ (number_of a))
