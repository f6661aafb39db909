-- What a field of a file is worth in a column of each type.
use Rattle.std.specs.Prelude.{Bool, true, false, ℕ, List, [], ◌∷◌, length, ◌&&◌, nat_lt, if◌then◌else◌, ℤ, pos, negsuc, codes}
use Rattle.std.specs.List.{list_all}
use Rattle.std.specs.Char.{digit_value}
use Rattle.std.specs.Str.{str_eq_ignore_ascii_case}
use Rattle.std.specs.Str.Parse.{signed_digits_value, without_leading_sign}
use Rattle.aqe_values.specs.declared.sql_type.SqlType.{SqlType}
use Rattle.aqe_values.specs.declared.sql_type.SqlType.TheVariants as type
use Rattle.aqe_values.specs.declared.value.Value.{Value}
use Rattle.aqe_values.specs.declared.value.Value.TheVariants as value

-- a field is a whole number where it is one digit or more, with or without a `+` or a `-` before them
abbrev pub is_whole_number : List ℕ → Bool
is_whole_number field =
    nat_lt 0 (length (without_leading_sign field))
    && list_all (λ c. nat_lt (digit_value c) 10) (without_leading_sign field)

-- an INT goes from -2^31 to 2^31 - 1; `negsuc n` is -(n + 1)
abbrev pub is_int : ℤ → Bool
is_int (pos n) = nat_lt n 2147483648
is_int (negsuc n) = nat_lt n 2147483648

-- a BIGINT goes from -2^63 to 2^63 - 1
abbrev pub is_big_int : ℤ → Bool
is_big_int (pos n) = nat_lt n 9223372036854775808
is_big_int (negsuc n) = nat_lt n 9223372036854775808

-- a whole number in range is that INT, and any other field is NULL
unfoldable pub int_value : List ℕ → Value
int_value field =
    if is_whole_number field && is_int (signed_digits_value 10 field)
    then value.Int (signed_digits_value 10 field)
    else value.Null

-- the same of BIGINT
unfoldable pub big_int_value : List ℕ → Value
big_int_value field =
    if is_whole_number field && is_big_int (signed_digits_value 10 field)
    then value.BigInt (signed_digits_value 10 field)
    else value.Null

-- the words `true` and `false`, in any mix of cases, are a BOOLEAN, and any other field is NULL
unfoldable pub boolean_value : List ℕ → Value
boolean_value field =
    if str_eq_ignore_ascii_case field (codes "true") then value.Boolean true
    else if str_eq_ignore_ascii_case field (codes "false") then value.Boolean false
    else value.Null

-- an empty field is NULL; another is read by its column's type
abbrev pub field_value : SqlType → List ℕ → Value
field_value kind [] = value.Null
field_value type.NullType (c ∷ cs) = value.Null
field_value type.Boolean (c ∷ cs) = boolean_value (c ∷ cs)
field_value type.Int (c ∷ cs) = int_value (c ∷ cs)
field_value type.BigInt (c ∷ cs) = big_int_value (c ∷ cs)
field_value type.Text (c ∷ cs) = value.Text (c ∷ cs)
