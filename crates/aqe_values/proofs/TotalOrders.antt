-- That values under a way, and key rows under ways, are totally ordered.
use Rattle.std.proofs.Common.{◌≡◌, Bool, true, false, cond, ℕ, List, [], ◌∷◌, refl, subst, rules}
use Rattle.std.specs.Cmp.{IsTotalOrder, on_total, then_total, back_total, nat_cmp_total}
use Rattle.std.specs.Ordering.{on, then_cmp, nat_cmp, ordering_reverse}
use Rattle.std.specs.declared.cmp.Ordering.{Ordering}
use Rattle.aqe_values.specs.declared.value.Value.{Value}
use Rattle.aqe_values.specs.declared.value.Value.TheVariants.{Null}
use Rattle.aqe_values.specs.declared.sort_way.SortWay.{SortWay}
use Rattle.aqe_values.specs.Order.{value_cmp, way_cmp, ValuesOrderedByType}
use Rattle.aqe_values.specs.KeyOrder.{first_column, other_columns, key_order}
use Rattle.aqe_values.specs.contracts.value.ValueOrd.TheImpl.Laws.{total-law}

values_ordered : ValuesOrderedByType
values_ordered a b = search rules

pub values_total : IsTotalOrder value_cmp
values_total = subst IsTotalOrder (λ i a b. values_ordered a b i) total-law

-- where NULL stands among all values, and the order of values that are not NULL
abbrev null_rank : Bool → Value → ℕ
null_rank last Null = cond last 2 0
null_rank last value = 1

abbrev directed : Bool → Value → Value → Ordering
directed true a b = ordering_reverse (value_cmp a b)
directed false a b = value_cmp a b

abbrev ranked : Bool → Bool → Value → Value → Ordering
ranked descending last = then_cmp (on (null_rank last) nat_cmp) (directed descending)

turned : (a b : Value) → value_cmp b a ≡ ordering_reverse (value_cmp a b)
turned a b = values_total.antisymm b a

directed_total : (descending : Bool) → IsTotalOrder (directed descending)
directed_total true = subst IsTotalOrder (λ i a b. turned a b i) (back_total values_total)
directed_total false = values_total

way_is : (descending last : Bool) (a b : Value) → ranked descending last a b ≡ way_cmp (record { descending = descending; nulls_last = last }) a b
way_is descending last a b = search rules

pub way_total : (way : SortWay) → IsTotalOrder (way_cmp way)
way_total way =
    subst IsTotalOrder (λ i a b. way_is way.descending way.nulls_last a b i)
    (then_total (on_total (null_rank way.nulls_last) nat_cmp_total) (directed_total way.descending))

none_total : IsTotalOrder (key_order [])
none_total = record { antisymm = λ x y. refl; trans = λ x y z p q. p; congr = λ x y z p. refl }

pub keys_total : (ways : List SortWay) → IsTotalOrder (key_order ways)
keys_total [] = none_total
keys_total (way ∷ ways) = then_total (on_total first_column (way_total way)) (on_total other_columns (keys_total ways))
