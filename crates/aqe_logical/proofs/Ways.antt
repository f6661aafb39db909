-- The order under a sort key is total, and only equal values stand level in it.
use Rattle.std.proofs.Common.{◌≡◌, ℕ, Bool, true, false, cond, refl, sym, ◌∙◌, ap, subst}
use Rattle.std.specs.Ordering.{nat_cmp, then_cmp, on, flip_args, ordering_then, ordering_reverse, is_eq}
use Rattle.std.specs.Cmp.{IsTotalOrder, then_total, on_total, back_total, nat_cmp_total}
use Rattle.std.specs.declared.cmp.Ordering.{Ordering}
use Rattle.std.specs.declared.cmp.Ordering.TheVariants.{Less, Equal, Greater}
use Rattle.aqe_values.specs.declared.value.Value.{Value}
use Rattle.aqe_values.specs.declared.value.Value.TheVariants.{Null, Boolean, Int, BigInt, Text}
use Rattle.aqe_values.specs.declared.sort_way.SortWay.{SortWay}
use Rattle.aqe_values.specs.contracts.value.ValueOrd.TheImpl.Laws.{total-law, matches_eq-law}
use Rattle.aqe_values.specs.Order.{derived_cmp, value_cmp, way_cmp, ValuesOrderedByType}
use Rattle.aqe_logical.proofs.Rows.{values_same}

derived_is : ValuesOrderedByType
derived_is Null Null = refl
derived_is Null (Boolean b) = refl
derived_is Null (Int b) = refl
derived_is Null (BigInt b) = refl
derived_is Null (Text b) = refl
derived_is (Boolean a) Null = refl
derived_is (Boolean a) (Boolean b) = refl
derived_is (Boolean a) (Int b) = refl
derived_is (Boolean a) (BigInt b) = refl
derived_is (Boolean a) (Text b) = refl
derived_is (Int a) Null = refl
derived_is (Int a) (Boolean b) = refl
derived_is (Int a) (Int b) = refl
derived_is (Int a) (BigInt b) = refl
derived_is (Int a) (Text b) = refl
derived_is (BigInt a) Null = refl
derived_is (BigInt a) (Boolean b) = refl
derived_is (BigInt a) (Int b) = refl
derived_is (BigInt a) (BigInt b) = refl
derived_is (BigInt a) (Text b) = refl
derived_is (Text a) Null = refl
derived_is (Text a) (Boolean b) = refl
derived_is (Text a) (Int b) = refl
derived_is (Text a) (BigInt b) = refl
derived_is (Text a) (Text b) = refl

-- it goes first by where NULL stands, and then by the order of values or its reverse
abbrev null_place : Bool → Value → ℕ
null_place last Null = cond last 2 0
null_place last (Boolean v) = 1
null_place last (Int v) = 1
null_place last (BigInt v) = 1
null_place last (Text v) = 1

abbrev turned : Bool → Value → Value → Ordering
turned true = flip_args derived_cmp
turned false = derived_cmp

abbrev by_parts : Bool → Bool → Value → Value → Ordering
by_parts down last = then_cmp (on (null_place last) nat_cmp) (turned down)

by_parts_total : (down last : Bool) → IsTotalOrder (by_parts down last)
by_parts_total true last = then_total (on_total (null_place last) nat_cmp_total) (back_total total-law)
by_parts_total false last = then_total (on_total (null_place last) nat_cmp_total) total-law

reversed : (a b : Value) → ordering_reverse (value_cmp a b) ≡ derived_cmp b a
reversed a b = sym (total-law.antisymm b a ∙ ap ordering_reverse (derived_is a b))

by_parts_is : (down last : Bool) (a b : Value) → way_cmp (record { descending = down; nulls_last = last }) a b ≡ by_parts down last a b
by_parts_is true true Null Null = refl
by_parts_is true false Null Null = refl
by_parts_is false true Null Null = refl
by_parts_is false false Null Null = refl
by_parts_is true true Null (Boolean b) = refl
by_parts_is true false Null (Boolean b) = refl
by_parts_is false true Null (Boolean b) = refl
by_parts_is false false Null (Boolean b) = refl
by_parts_is true true Null (Int b) = refl
by_parts_is true false Null (Int b) = refl
by_parts_is false true Null (Int b) = refl
by_parts_is false false Null (Int b) = refl
by_parts_is true true Null (BigInt b) = refl
by_parts_is true false Null (BigInt b) = refl
by_parts_is false true Null (BigInt b) = refl
by_parts_is false false Null (BigInt b) = refl
by_parts_is true true Null (Text b) = refl
by_parts_is true false Null (Text b) = refl
by_parts_is false true Null (Text b) = refl
by_parts_is false false Null (Text b) = refl
by_parts_is true true (Boolean a) Null = refl
by_parts_is true false (Boolean a) Null = refl
by_parts_is false true (Boolean a) Null = refl
by_parts_is false false (Boolean a) Null = refl
by_parts_is true last (Boolean a) (Boolean b) = reversed (Boolean a) (Boolean b)
by_parts_is false last (Boolean a) (Boolean b) = sym (derived_is (Boolean a) (Boolean b))
by_parts_is true last (Boolean a) (Int b) = reversed (Boolean a) (Int b)
by_parts_is false last (Boolean a) (Int b) = sym (derived_is (Boolean a) (Int b))
by_parts_is true last (Boolean a) (BigInt b) = reversed (Boolean a) (BigInt b)
by_parts_is false last (Boolean a) (BigInt b) = sym (derived_is (Boolean a) (BigInt b))
by_parts_is true last (Boolean a) (Text b) = reversed (Boolean a) (Text b)
by_parts_is false last (Boolean a) (Text b) = sym (derived_is (Boolean a) (Text b))
by_parts_is true true (Int a) Null = refl
by_parts_is true false (Int a) Null = refl
by_parts_is false true (Int a) Null = refl
by_parts_is false false (Int a) Null = refl
by_parts_is true last (Int a) (Boolean b) = reversed (Int a) (Boolean b)
by_parts_is false last (Int a) (Boolean b) = sym (derived_is (Int a) (Boolean b))
by_parts_is true last (Int a) (Int b) = reversed (Int a) (Int b)
by_parts_is false last (Int a) (Int b) = sym (derived_is (Int a) (Int b))
by_parts_is true last (Int a) (BigInt b) = reversed (Int a) (BigInt b)
by_parts_is false last (Int a) (BigInt b) = sym (derived_is (Int a) (BigInt b))
by_parts_is true last (Int a) (Text b) = reversed (Int a) (Text b)
by_parts_is false last (Int a) (Text b) = sym (derived_is (Int a) (Text b))
by_parts_is true true (BigInt a) Null = refl
by_parts_is true false (BigInt a) Null = refl
by_parts_is false true (BigInt a) Null = refl
by_parts_is false false (BigInt a) Null = refl
by_parts_is true last (BigInt a) (Boolean b) = reversed (BigInt a) (Boolean b)
by_parts_is false last (BigInt a) (Boolean b) = sym (derived_is (BigInt a) (Boolean b))
by_parts_is true last (BigInt a) (Int b) = reversed (BigInt a) (Int b)
by_parts_is false last (BigInt a) (Int b) = sym (derived_is (BigInt a) (Int b))
by_parts_is true last (BigInt a) (BigInt b) = reversed (BigInt a) (BigInt b)
by_parts_is false last (BigInt a) (BigInt b) = sym (derived_is (BigInt a) (BigInt b))
by_parts_is true last (BigInt a) (Text b) = reversed (BigInt a) (Text b)
by_parts_is false last (BigInt a) (Text b) = sym (derived_is (BigInt a) (Text b))
by_parts_is true true (Text a) Null = refl
by_parts_is true false (Text a) Null = refl
by_parts_is false true (Text a) Null = refl
by_parts_is false false (Text a) Null = refl
by_parts_is true last (Text a) (Boolean b) = reversed (Text a) (Boolean b)
by_parts_is false last (Text a) (Boolean b) = sym (derived_is (Text a) (Boolean b))
by_parts_is true last (Text a) (Int b) = reversed (Text a) (Int b)
by_parts_is false last (Text a) (Int b) = sym (derived_is (Text a) (Int b))
by_parts_is true last (Text a) (BigInt b) = reversed (Text a) (BigInt b)
by_parts_is false last (Text a) (BigInt b) = sym (derived_is (Text a) (BigInt b))
by_parts_is true last (Text a) (Text b) = reversed (Text a) (Text b)
by_parts_is false last (Text a) (Text b) = sym (derived_is (Text a) (Text b))

pub way_total : (way : SortWay) → IsTotalOrder (way_cmp way)
way_total way = subst IsTotalOrder (λ i a b. sym (by_parts_is way.descending way.nulls_last a b) i) (by_parts_total way.descending way.nulls_last)

equal_second : (r s : Ordering) → ordering_then r s ≡ Equal → s ≡ Equal
equal_second Less s h = absurd (cc)
equal_second Equal s h = h
equal_second Greater s h = absurd (cc)

equal_values : (a b : Value) → derived_cmp a b ≡ Equal → a ≡ b
equal_values a b h = (values_same a b).0 (matches_eq-law a b ∙ ap is_eq h)

turned_equal : (down : Bool) (a b : Value) → turned down a b ≡ Equal → a ≡ b
turned_equal true a b h = sym (equal_values b a h)
turned_equal false a b h = equal_values a b h

pub way_equal : (way : SortWay) (a b : Value) → way_cmp way a b ≡ Equal → a ≡ b
way_equal way a b h = turned_equal way.descending a b (equal_second (nat_cmp (null_place way.nulls_last a) (null_place way.nulls_last b)) (turned way.descending a b) (sym (by_parts_is way.descending way.nulls_last a b) ∙ h))
