-- What a call makes of parts, merged, is what it makes of the whole.
use Rattle.std.proofs.Common.{◌≡◌, Bool, true, false, cond, List, [], ◌∷◌, ◌++◌, map, Option, Some, None, refl, ap, sym, ◌∙◌, arith, ℤ, pos, ◌+ℤ◌, w64}
use Rattle.std.specs.Prelude.{fold, filter, flat_map}
use Rattle.std.specs.Int.{int_wrap}
use Rattle.std.proofs.lemmas.Int.{ints, int_wrap_fits}
use mir.Val.{SFits}
use Rattle.aqe_values.specs.declared.value.Value.{Value}
use Rattle.aqe_values.specs.declared.value.Value.TheVariants.{BigInt}
use Rattle.aqe_values.specs.declared.sort_way.SortWay.{SortWay}
use Rattle.aqe_expr.specs.Numbers.{number_of}
use Rattle.aqe_logical.specs.declared.plan.AggFun.{AggFun}
use Rattle.aqe_logical.specs.declared.plan.AggFun.TheVariants.{Count, Sum, Min, Max}
use Rattle.aqe_logical.specs.Groups.{nothing, merged, total_of, first_of, number_or_zero, ascending, descending}
use Rattle.aqe_logical.proofs.Calls.{behind, not_both, level, merged_swaps}

plus_comm : (x y : ℤ) → x +ℤ y ≡ y +ℤ x
plus_comm x y = omega (arith, ints)

total_comm : (a b : Option ℤ) → total_of a b ≡ total_of b a
total_comm None None = refl
total_comm None (Some n) = refl
total_comm (Some m) None = refl
total_comm (Some m) (Some n) = ap (λ k. BigInt (int_wrap w64 k)) (plus_comm m n)

first_comm : (way : SortWay) (a b : Value) → first_of way a b ≡ first_of way b a
first_comm way a b = by (behind way a b) (behind way b a) refl refl
  where
    by : (s t : Bool) → behind way a b ≡ s → behind way b a ≡ t → first_of way a b ≡ first_of way b a
    by true true h k = absurd (let up : true ≡ false = sym k ∙ not_both way a b h in cc)
    by true false h k = rw (h, k) refl
    by false true h k = rw (h, k) refl
    by false false h k = rw (h, k) (level way a b h k)

pub merged_comm : (fun : AggFun) (a b : Value) → merged fun a b ≡ merged fun b a
merged_comm Count a b = ap (λ n. BigInt (int_wrap w64 n)) (plus_comm (number_or_zero a) (number_or_zero b))
merged_comm Sum a b = total_comm (number_of a) (number_of b)
merged_comm Min a b = first_comm ascending a b
merged_comm Max a b = first_comm descending a b

pub merged_assoc : (fun : AggFun) (a b c : Value) → merged fun (merged fun a b) c ≡ merged fun a (merged fun b c)
merged_assoc fun a b c = ap (λ x. merged fun x c) (merged_comm fun a b) ∙ (merged_swaps fun b a c ∙ merged_comm fun (merged fun b c) a)

nothing_merged : (fun : AggFun) → merged fun (nothing fun) (nothing fun) ≡ nothing fun
nothing_merged Count = let f : SFits w64 (pos 0) = record { sfits = omega arith } in ap (λ n. BigInt n) (int_wrap_fits w64 (pos 0) f)
nothing_merged Sum = refl
nothing_merged Min = refl
nothing_merged Max = refl

-- what a call made of rows, merged with nothing, stays
abbrev IsTotal : AggFun → Value → Type 0
IsTotal fun v = merged fun (nothing fun) v ≡ v

abbrev pub total : AggFun → List Value → Value
total fun vs = fold (merged fun) (nothing fun) vs

step_total : (fun : AggFun) (a v : Value) → IsTotal fun a → IsTotal fun (merged fun a v)
step_total fun a v h = sym (merged_assoc fun (nothing fun) a v) ∙ ap (λ x. merged fun x v) h

fold_total : (fun : AggFun) (a : Value) (vs : List Value) → IsTotal fun a → IsTotal fun (fold (merged fun) a vs)
fold_total fun a [] h = h
fold_total fun a (v ∷ vs) h = fold_total fun (merged fun a v) vs (step_total fun a v h)

folds : (fun : AggFun) (a : Value) (vs : List Value) → IsTotal fun a → fold (merged fun) a vs ≡ merged fun a (total fun vs)
folds fun a [] h = sym (merged_comm fun a (nothing fun) ∙ h)
folds fun a (v ∷ vs) h =
    folds fun (merged fun a v) vs (step_total fun a v h) ∙
    sym (ap (merged fun a) (folds fun (merged fun (nothing fun) v) vs (step_total fun (nothing fun) v (nothing_merged fun))) ∙
    (sym (merged_assoc fun a (merged fun (nothing fun) v) (total fun vs)) ∙
    ap (λ x. merged fun x (total fun vs)) (sym (merged_assoc fun a (nothing fun) v) ∙ ap (λ x. merged fun x v) (merged_comm fun a (nothing fun) ∙ h))))

fold_append : {X Y : Type 0} (g : Y → X → Y) (z : Y) (us vs : List X) → fold g z (us ++ vs) ≡ fold g (fold g z us) vs
fold_append g z [] vs = refl
fold_append g z (u ∷ us) vs = fold_append g (g z u) us vs

total_append : (fun : AggFun) (us vs : List Value) → total fun (us ++ vs) ≡ merged fun (total fun us) (total fun vs)
total_append fun us vs = fold_append (merged fun) (nothing fun) us vs ∙ folds fun (total fun us) vs (fold_total fun (nothing fun) us (nothing_merged fun))

-- the totals of those parts that have any rows, merged
pub total_parts : {P : Type 0} (fun : AggFun) (has : P → Bool) (g : P → List Value) (ps : List P) → ((p : P) → has p ≡ false → g p ≡ []) → total fun (map (λ p. total fun (g p)) (filter has ps)) ≡ total fun (flat_map g ps)
total_parts fun has g [] h = refl
total_parts {P} fun has g (p ∷ ps) h = by (has p) refl (total_parts fun has g ps h)
  where
    by : (b : Bool) → has p ≡ b → total fun (map (λ (q : P). total fun (g q)) (filter has ps)) ≡ total fun (flat_map g ps) → total fun (map (λ (q : P). total fun (g q)) (cond b (p ∷ filter has ps) (filter has ps))) ≡ total fun (g p ++ flat_map g ps)
    by true e i =
        folds fun (merged fun (nothing fun) (total fun (g p))) (map (λ (q : P). total fun (g q)) (filter has ps)) (step_total fun (nothing fun) (total fun (g p)) (nothing_merged fun)) ∙
        (ap (λ x. merged fun x (total fun (map (λ (q : P). total fun (g q)) (filter has ps)))) (fold_total fun (nothing fun) (g p) (nothing_merged fun)) ∙
        (ap (merged fun (total fun (g p))) i ∙ sym (total_append fun (g p) (flat_map g ps))))
    by false e i = i ∙ ap (λ vs. total fun (vs ++ flat_map g ps)) (sym (h p e))
