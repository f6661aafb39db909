-- What is kept of tasks, and taken out again.
use Rattle.std.proofs.Common.{◌≡◌, refl, ap, sym, ◌∙◌, ◌≤◌, ◌+◌, ◌==◌, suc, ℕ, Bool, true, false, cond, ◌&&◌, List, [], ◌∷◌, ◌++◌, arith, Option, Some, None, is_some, inl, inr}
use Rattle.std.specs.Prelude.{filter_map}
use Rattle.std.specs.List.{range_with_len, cons_option}
use Rattle.std.specs.Option.{option_map}
use Rattle.std.proofs.lemmas.Bool.{cases_Bool, eqb-true}
use Rattle.std.proofs.lemmas.List.{append-nil}
use Rattle.std.proofs.lemmas.List.Elements.{filter_map-append}
use Rattle.aqe_base.specs.declared.ids.MapId.{MapId}
use Rattle.aqe_blocks.specs.Cells.{CellData}
use Rattle.aqe_blocks.specs.Kept.{AllKept, Changes, output_at}
use Rattle.aqe_endings.proofs.Wholes.{range_end}
use Rattle.aqe_session.specs.Finished.{OthersStay, kept_at}

-- the outputs of the first maps were taken out, and all others stay
pub record TakenTo (entry now : AllKept) (s m : ℕ) (taken : List (MapId × List CellData)) : Type 0 where
  pub taken_are : taken ≡ filter_map (kept_at entry s) (range_with_len 0 m)
  pub ahead : (k : ℕ) → m ≤ k → output_at now s k ≡ output_at entry s k
  pub others : OthersStay entry now s

pub taken_none : (entry : AllKept) (s : ℕ) → TakenTo entry entry s 0 []
taken_none entry s = record { taken_are = refl; ahead = λ k le. refl; others = λ a b c. refl }

abbrev kept_pair : ℕ → List CellData → MapId × List CellData
kept_pair m cells = (record { 0 = m }, cells)

next_range : (entry : AllKept) (s m : ℕ) → filter_map (kept_at entry s) (range_with_len 0 (m + 1)) ≡ filter_map (kept_at entry s) (range_with_len 0 m) ++ cons_option (kept_at entry s m) []
next_range entry s m =
    let more : m + 1 ≡ suc m = omega arith in
    let none : 0 + m ≡ m = omega arith in
    ap (λ n. filter_map (kept_at entry s) (range_with_len 0 n)) more ∙ ap (filter_map (kept_at entry s)) (range_end 0 m ∙ ap (λ k. range_with_len 0 m ++ k ∷ []) none)
    ∙ filter_map-append (kept_at entry s) (range_with_len 0 m) (m ∷ [])

not_same : (a b : ℕ) → (a ≡ b → ⊥) → (a == b) ≡ false
not_same a b differs = elim (cases_Bool (a == b)) as (λ w. (a == b) ≡ false) [
  | inl so ↦ absurd (differs (eqb-true a b so))
  | inr not_so ↦ not_so
]

and_false : (b : Bool) → (b && false) ≡ false
and_false true = refl
and_false false = refl

pub taken_kept : (entry now new : AllKept) (s m : ℕ) (taken pushed : List (MapId × List CellData)) (output : List CellData) → TakenTo entry now s m taken → output_at now s m ≡ Some output →
    Changes now new s m None → pushed ≡ taken ++ (record { 0 = m }, output) ∷ [] → TakenTo entry new s (m + 1) pushed
taken_kept entry now new s m taken pushed output t found changes push = record {
  taken_are = push ∙ ap (λ ts. ts ++ (record { 0 = m }, output) ∷ []) t.taken_are
      ∙ ap (λ o. filter_map (kept_at entry s) (range_with_len 0 m) ++ cons_option (option_map (kept_pair m) o) []) (sym found ∙ t.ahead m (omega arith))
      ∙ sym (next_range entry s m);
  ahead = λ k le. changes s k ∙ ap (λ b. cond (s == s && b) None (output_at now s k)) (not_same m k (λ e. omega (arith, e, le))) ∙ ap (λ b. cond b None (output_at now s k)) (and_false (s == s)) ∙ t.ahead k (omega (arith, le));
  others = λ a b differs. changes a b ∙ ap (λ c. cond (c && m == b) None (output_at now a b)) (not_same s a (λ e. differs (sym e))) ∙ t.others a b differs;
}

none_of : {X : Type 0} (o : Option X) → is_some o ≡ false → o ≡ None
none_of None e = refl
none_of (Some x) e = absurd (clash e)
  where
    clash : true ≡ false → ⊥
    clash c = cc (c)

pub taken_not : (entry now : AllKept) (s m : ℕ) (taken : List (MapId × List CellData)) → TakenTo entry now s m taken → is_some (output_at now s m) ≡ false → TakenTo entry now s (m + 1) taken
taken_not entry now s m taken t none = record {
  taken_are = t.taken_are ∙ sym (append-nil (filter_map (kept_at entry s) (range_with_len 0 m)))
      ∙ ap (λ o. filter_map (kept_at entry s) (range_with_len 0 m) ++ cons_option (option_map (kept_pair m) o) []) (sym (none_of (output_at now s m) none) ∙ t.ahead m (omega arith))
      ∙ sym (next_range entry s m);
  ahead = λ k le. t.ahead k (omega (arith, le));
  others = t.others;
}

pub taken_end : (entry now : AllKept) (s m n : ℕ) (taken : List (MapId × List CellData)) → TakenTo entry now s m taken → m ≤ n → n ≤ m → taken ≡ filter_map (kept_at entry s) (range_with_len 0 n)
taken_end entry now s m n taken t low high = let same : m ≡ n = omega (arith, low, high) in t.taken_are ∙ ap (λ k. filter_map (kept_at entry s) (range_with_len 0 k)) same
