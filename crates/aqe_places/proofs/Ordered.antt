-- The order under sort keys, and that it orders.
use Rattle.std.proofs.Common.{◌≡◌, List, true, false, refl, ap, sym, ◌∙◌}
use Rattle.std.specs.Cmp.{IsTotalOrder}
use Rattle.std.specs.Ordering.{ordering_reverse, is_lt}
use Rattle.std.specs.declared.cmp.Ordering.{Ordering}
use Rattle.std.specs.declared.cmp.Ordering.TheVariants.{Less, Equal, Greater}
use Rattle.aqe_values.specs.KeyOrder.{key_order}
use Rattle.aqe_values.proofs.TotalOrders.{keys_total}
use Rattle.aqe_logical.specs.Answers.{Row}
use Rattle.aqe_logical.specs.Order.{row_order, ways_of, key_of, before}
use Rattle.aqe_logical.specs.declared.plan.SortKey.{SortKey}
use Rattle.aqe_values.specs.declared.sort_way.SortWay.{SortWay}
use Rattle.aqe_places.specs.Laws.{IsOrder, before_by, SortKeysDecideInTurn, SortKeysOrder}

pub in_turn : SortKeysDecideInTurn
in_turn key keys x y = refl

module _ (cmp : Row → Row → Ordering) (turned : (x y : Row) → cmp x y ≡ ordering_reverse (cmp y x)) (trans : (x y z : Row) → cmp x y ≡ Less → cmp y z ≡ Less → cmp x z ≡ Less) (congr : (x y z : Row) → cmp x y ≡ Equal → cmp x z ≡ cmp y z) where
  is_less : (o : Ordering) → is_lt o ≡ true → o ≡ Less
  is_less Less h = refl
  is_less Equal h = absurd (cc)
  is_less Greater h = absurd (cc)

  one_way : (x y : Row) → is_lt (cmp x y) ≡ true → is_lt (cmp y x) ≡ false
  one_way x y h = ap is_lt (turned y x ∙ ap ordering_reverse (is_less (cmp x y) h))

  goes_on : (x y z : Row) → is_lt (cmp x y) ≡ false → is_lt (cmp y z) ≡ false → is_lt (cmp x z) ≡ false
  goes_on x y z h k = by (cmp x z) refl (cmp x y) refl
    where
      by : (o : Ordering) → cmp x z ≡ o → (p : Ordering) → cmp x y ≡ p → is_lt o ≡ false
      by Equal e p f = refl
      by Greater e p f = refl
      by Less e Less f = absurd (let up : true ≡ false = ap is_lt (sym f) ∙ h in cc)
      by Less e Equal f = absurd (let up : true ≡ false = ap is_lt (sym e ∙ congr x y z f) ∙ k in cc)
      by Less e Greater f = absurd (let up : true ≡ false = ap is_lt (sym (trans y x z (turned y x ∙ ap ordering_reverse f) e)) ∙ k in cc)

pub orders : SortKeysOrder
orders keys =
    let total : IsTotalOrder (key_order (ways_of keys)) = keys_total (ways_of keys) in
    let key : Row → Row = key_of keys in
    let turned : (x y : Row) → row_order keys x y ≡ ordering_reverse (row_order keys y x) = λ x y. total.antisymm (key x) (key y) in
    let trans : (x y z : Row) → row_order keys x y ≡ Less → row_order keys y z ≡ Less → row_order keys x z ≡ Less = λ x y z. total.trans (key x) (key y) (key z) in
    let congr : (x y z : Row) → row_order keys x y ≡ Equal → row_order keys x z ≡ row_order keys y z = λ x y z. total.congr (key x) (key y) (key z) in
    record { one_way = one_way (row_order keys) turned trans congr; goes_on = goes_on (row_order keys) turned trans congr }

-- the order of key rows orders them, as an order of keys for ranges
pub key_rows_order : (ways : List SortWay) → IsOrder (λ a b. is_lt (key_order ways a b))
key_rows_order ways =
    let total : IsTotalOrder (key_order ways) = keys_total ways in
    record { one_way = one_way (key_order ways) total.antisymm total.trans total.congr; goes_on = goes_on (key_order ways) total.antisymm total.trans total.congr }

-- rows by their key rows are in the order of the sort keys
pub by_key_rows : (keys : List SortKey) → before_by (λ a b. is_lt (key_order (ways_of keys) a b)) (key_of keys) ≡ before keys
by_key_rows keys = refl
