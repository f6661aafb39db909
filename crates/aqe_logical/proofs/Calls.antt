-- The order of the values does not matter to an aggregate call.
use Rattle.std.proofs.Common.{◌≡◌, Bool, true, false, List, Option, Some, None, map, refl, sym, ap, ◌∙◌, arith, ℤ, ◌+ℤ◌, w64}
use Rattle.std.specs.Prelude.{IsPermutation}
use Rattle.std.specs.Int.{int_wrap}
use Rattle.std.specs.Ordering.{ordering_reverse}
use Rattle.std.specs.declared.cmp.Ordering.{Ordering}
use Rattle.std.specs.declared.cmp.Ordering.TheVariants.{Less, Equal, Greater}
use Rattle.std.proofs.lemmas.Int.{ints, int_wrap_fits, SFits-int_wrap, int_wrap-add_left}
use Rattle.std.proofs.lemmas.List.Sorted.{IsPermutation-map}
use Rattle.aqe_values.specs.declared.value.Value.{Value}
use Rattle.aqe_values.specs.declared.value.Value.TheVariants.{BigInt}
use Rattle.aqe_values.specs.declared.sort_way.SortWay.{SortWay}
use Rattle.aqe_values.specs.Equality.{value_eq}
use Rattle.aqe_values.specs.Order.{way_cmp}
use Rattle.aqe_logical.proofs.Ways.{way_total, way_equal}
use Rattle.aqe_expr.specs.Numbers.{number_of}
use Rattle.aqe_logical.specs.declared.plan.AggFun.{AggFun}
use Rattle.aqe_logical.specs.declared.plan.AggFun.TheVariants.{Count, Sum, Min, Max}
use Rattle.aqe_logical.specs.Groups.{nothing, single, merged, folded, total_of, first_of, is_greater, number_or_zero, ascending, descending}
use Rattle.aqe_logical.proofs.Rearranged.{fold-rearranged, rearranged}
use Rattle.aqe_logical.proofs.Rows.{values_same}

twice : (n : ℤ) → int_wrap w64 (int_wrap w64 n) ≡ int_wrap w64 n
twice n = int_wrap_fits w64 (int_wrap w64 n) (SFits-int_wrap w64 n)

swapped : (a x y : ℤ) → (a +ℤ x) +ℤ y ≡ (a +ℤ y) +ℤ x
swapped a x y = omega (arith, ints)

wrap_swapped : (a x y : ℤ) → int_wrap w64 (int_wrap w64 (a +ℤ x) +ℤ y) ≡ int_wrap w64 (int_wrap w64 (a +ℤ y) +ℤ x)
wrap_swapped a x y = int_wrap-add_left w64 (a +ℤ x) y ∙ (ap (int_wrap w64) (swapped a x y) ∙ sym (int_wrap-add_left w64 (a +ℤ y) x))

plus_comm : (x y : ℤ) → x +ℤ y ≡ y +ℤ x
plus_comm x y = omega (arith, ints)

count_swaps : (z x y : Value) → merged Count (merged Count z x) y ≡ merged Count (merged Count z y) x
count_swaps z x y = ap (λ n. BigInt n) (wrap_swapped (number_or_zero z) (number_or_zero x) (number_or_zero y))

total_swaps : (a x y : Option ℤ) → total_of (number_of (total_of a x)) y ≡ total_of (number_of (total_of a y)) x
total_swaps None None None = refl
total_swaps None None (Some y) = ap (λ n. BigInt n) (sym (twice y))
total_swaps None (Some x) None = ap (λ n. BigInt n) (twice x)
total_swaps None (Some x) (Some y) = ap (λ n. BigInt n) (int_wrap-add_left w64 x y ∙ (ap (int_wrap w64) (plus_comm x y) ∙ sym (int_wrap-add_left w64 y x)))
total_swaps (Some a) None None = refl
total_swaps (Some a) None (Some y) = ap (λ n. BigInt n) (int_wrap-add_left w64 a y ∙ sym (twice (a +ℤ y)))
total_swaps (Some a) (Some x) None = ap (λ n. BigInt n) (twice (a +ℤ x) ∙ sym (int_wrap-add_left w64 a x))
total_swaps (Some a) (Some x) (Some y) = ap (λ n. BigInt n) (wrap_swapped a x y)

is_only_greater : (r : Ordering) → is_greater r ≡ true → r ≡ Greater
is_only_greater Less h = absurd (cc)
is_only_greater Equal h = absurd (cc)
is_only_greater Greater h = refl

neither_greater : (r s : Ordering) → r ≡ ordering_reverse s → is_greater r ≡ false → is_greater s ≡ false → r ≡ Equal
neither_greater r Less e h k = absurd (let up : true ≡ false = ap is_greater (sym e) ∙ h in cc)
neither_greater r Equal e h k = e
neither_greater r Greater e h k = absurd (cc)

-- in the order under a sort key, whether a value stands behind another
abbrev pub behind : SortWay → Value → Value → Bool
behind way a b = is_greater (way_cmp way a b)

behind_turned : (way : SortWay) (a b : Value) → behind way a b ≡ true → way_cmp way b a ≡ Less
behind_turned way a b h = (way_total way).antisymm b a ∙ ap ordering_reverse (is_only_greater (way_cmp way a b) h)

pub not_both : (way : SortWay) (a b : Value) → behind way a b ≡ true → behind way b a ≡ false
not_both way a b h = ap is_greater (behind_turned way a b h)

behind_trans : (way : SortWay) (a b c : Value) → behind way a b ≡ true → behind way b c ≡ true → behind way a c ≡ true
behind_trans way a b c h k =
    let less : way_cmp way c a ≡ Less = (way_total way).trans c b a (behind_turned way b c k) (behind_turned way a b h) in
    ap is_greater ((way_total way).antisymm a c ∙ ap ordering_reverse less)

pub level : (way : SortWay) (a b : Value) → behind way a b ≡ false → behind way b a ≡ false → a ≡ b
level way a b h k = way_equal way a b (neither_greater (way_cmp way a b) (way_cmp way b a) ((way_total way).antisymm a b) h k)

first_swaps_by : (way : SortWay) (z x y : Value) (zx zy xy yx : Bool) → behind way z x ≡ zx → behind way z y ≡ zy → behind way x y ≡ xy → behind way y x ≡ yx → first_of way (first_of way z x) y ≡ first_of way (first_of way z y) x
first_swaps_by way z x y true true true yx a b c d = rw (a, b, c, not_both way x y c) refl
first_swaps_by way z x y true true false true a b c d = rw (a, b, c, d) refl
first_swaps_by way z x y true true false false a b c d = rw (a, b, c, d) (level way x y c d)
first_swaps_by way z x y true false true yx a b c d = absurd (let up : true ≡ false = sym (behind_trans way z x y a c) ∙ b in cc)
first_swaps_by way z x y true false false yx a b c d = rw (a, b, c) (rw a refl)
first_swaps_by way z x y false true xy true a b c d = absurd (let up : true ≡ false = sym (behind_trans way z y x b d) ∙ a in cc)
first_swaps_by way z x y false true xy false a b c d = rw (a, b, d) refl
first_swaps_by way z x y false false xy yx a b c d = rw (a, b) (rw a refl)

first_swaps : (way : SortWay) (z x y : Value) → first_of way (first_of way z x) y ≡ first_of way (first_of way z y) x
first_swaps way z x y = first_swaps_by way z x y (behind way z x) (behind way z y) (behind way x y) (behind way y x) refl refl refl refl

pub merged_swaps : (fun : AggFun) (z x y : Value) → merged fun (merged fun z x) y ≡ merged fun (merged fun z y) x
merged_swaps Count z x y = count_swaps z x y
merged_swaps Sum z x y = total_swaps (number_of z) (number_of x) (number_of y)
merged_swaps Min z x y = first_swaps ascending z x y
merged_swaps Max z x y = first_swaps descending z x y

pub folded-permuted : (fun : AggFun) (vs ws : List Value) → IsPermutation vs ws → folded fun vs ≡ folded fun ws
folded-permuted fun vs ws h =
    fold-rearranged (merged fun) (merged_swaps fun) (nothing fun) (map (single fun) vs) (map (single fun) ws)
    (rearranged value_eq values_same (map (single fun) vs) (map (single fun) ws) (IsPermutation-map (single fun) vs ws h))
