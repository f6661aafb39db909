-- Three-valued logic, and comparisons. A truth is true, false, or not known.
use Rattle.std.specs.Prelude.{Bool, true, false, not, Option, Some, None, option_map, nat_eq, List}
use Rattle.std.specs.Ordering.{nat_cmp, int_cmp, bool_cmp}
use Rattle.std.specs.Cmp.Lexicographic.{slice_cmp}
use Rattle.std.specs.declared.cmp.Ordering.{Ordering}
use Rattle.std.specs.declared.cmp.Ordering.TheVariants.{Less, Equal, Greater}
use Rattle.aqe_values.specs.declared.value.Value.{Value}
use Rattle.aqe_values.specs.declared.value.Value.TheVariants.{Null, Boolean, Int, BigInt, Text}

abbrev pub Truth : Type 0
Truth = Option Bool

-- what a BOOLEAN says; every other value counts as NULL, whose truth is not known
abbrev pub truth_of : Value → Truth
truth_of (Boolean b) = Some b
truth_of _ = None

-- the value of a truth: NULL where it is not known
abbrev pub truth_value : Truth → Value
truth_value None = Null
truth_value (Some b) = Boolean b

abbrev pub is_true : Value → Bool
is_true (Boolean true) = true
is_true _ = false

abbrev pub is_false : Value → Bool
is_false (Boolean false) = true
is_false _ = false

abbrev pub is_null : Value → Bool
is_null Null = true
is_null _ = false

abbrev pub is_known_true : Truth → Bool
is_known_true (Some true) = true
is_known_true _ = false

-- `a AND b` is false where one of them is false, true where both are true, else not known
abbrev pub both : Truth → Truth → Truth
both (Some true) b = b
both (Some false) b = Some false
both None (Some false) = Some false
both None _ = None

-- `a OR b` is true where one of them is true, false where both are false, else not known
abbrev pub either : Truth → Truth → Truth
either (Some false) b = b
either (Some true) b = Some true
either None (Some true) = Some true
either None _ = None

abbrev pub opposite : Truth → Truth
opposite a = option_map not a

-- How two values of one type compare: false before true, numbers by their size, texts by their
-- bytes. With NULL, and between two types, nothing is known.
abbrev pub compared : Value → Value → Option Ordering
compared (Boolean a) (Boolean b) = Some (bool_cmp a b)
compared (Int a) (Int b) = Some (int_cmp a b)
compared (BigInt a) (BigInt b) = Some (int_cmp a b)
compared (Text a) (Text b) = Some (slice_cmp nat_cmp a b)
compared _ _ = None

-- the orders at which each comparison is true
abbrev pub equal_at : Ordering → Bool
equal_at Equal = true
equal_at _ = false

abbrev pub less_at : Ordering → Bool
less_at Less = true
less_at _ = false

abbrev pub greater_at : Ordering → Bool
greater_at Greater = true
greater_at _ = false

abbrev pub comparison : (Ordering → Bool) → Value → Value → Truth
comparison test a b = option_map test (compared a b)

abbrev pub equals : Value → Value → Truth
equals a b = comparison equal_at a b

abbrev pub differs : Value → Value → Truth
differs a b = opposite (equals a b)

abbrev pub less : Value → Value → Truth
less a b = comparison less_at a b

abbrev pub greater : Value → Value → Truth
greater a b = comparison greater_at a b

abbrev pub at_most : Value → Value → Truth
at_most a b = opposite (greater a b)

abbrev pub at_least : Value → Value → Truth
at_least a b = opposite (less a b)

-- `v BETWEEN low AND high` is `v >= low AND v <= high`
abbrev pub between : Value → Value → Value → Truth
between v low high = both (at_least v low) (at_most v high)
