-- There is one list of groups at most.
use Rattle.std.proofs.Common.{◌≡◌, ℕ, ◌+◌, ◌<◌, ◌≤◌, List, [], ◌∷◌, length, refl, sym, ◌∙◌, arith, subst, inl, inr}
use Rattle.std.specs.Prelude.{All}
use Rattle.std.proofs.lemmas.List.Elements.{All-head, All-tail}
use Rattle.std.proofs.lemmas.Bool.{cases_lt}
use Rattle.aqe_coalesce.specs.Coalesced.{Group, size_of, Follow, HasPartitions, IsWithin, IsFull}
use Rattle.aqe_coalesce.specs.Laws.{OneListOfGroups}
use Rattle.aqe_coalesce.proofs.Sums.{size_of_grows}

-- groups that follow one another end behind where they begin
follow_le : (a end : ℕ) (groups : List Group) → Follow a end groups → All HasPartitions groups → a ≤ end
follow_le a end [] at filled = omega (arith, at)
follow_le a end (group ∷ groups) follow filled =
    let here : group.0 < group.1 = All-head HasPartitions group groups filled in
    let later : group.1 ≤ end = follow_le group.1 end groups follow.1 (All-tail HasPartitions group groups filled) in
    omega (arith, here, later, follow.0)

module _ (sizes : List ℕ) (target : ℕ) where
  -- a group that is full is not shorter than one within the target that begins where it does
  not_shorter : (g h : Group) → g.0 ≡ h.0 → HasPartitions g → IsFull sizes target g → IsWithin sizes target h → h.1 ≤ length sizes → g.1 < h.1 → ⊥
  not_shorter g h same filled full within end shorter = elim within [
    | inl one ↦ omega (arith, one, filled, same, shorter)
    | inr fits ↦
        let over : target < size_of sizes (g.0, g.1 + 1) = full (omega (arith, shorter, end)) in
        let grows : size_of sizes (g.0, g.1 + 1) ≤ size_of sizes (g.0, h.1) = size_of_grows sizes g.0 (g.1 + 1) h.1 (omega (arith, shorter)) in
        let here : size_of sizes (g.0, h.1) ≤ target = rw same fits in
        omega (arith, over, grows, here)
  ]

  same_group : (g h : Group) → g.0 ≡ h.0 → g.1 ≡ h.1 → g ≡ h
  same_group g h first second = λ i. (first i, second i)

  one_from : (a : ℕ) (gs hs : List Group) → Follow a (length sizes) gs → Follow a (length sizes) hs
      → All HasPartitions gs → All HasPartitions hs → All (IsWithin sizes target) gs → All (IsWithin sizes target) hs
      → All (IsFull sizes target) gs → All (IsFull sizes target) hs → gs ≡ hs
  one_from a [] [] follow_g follow_h filled_g filled_h within_g within_h full_g full_h = refl
  one_from a [] (h ∷ hs) follow_g follow_h filled_g filled_h within_g within_h full_g full_h =
      let here : h.0 < h.1 = All-head HasPartitions h hs filled_h in
      let later : h.1 ≤ length sizes = follow_le h.1 (length sizes) hs follow_h.1 (All-tail HasPartitions h hs filled_h) in
      absurd (let no : ⊥ = omega (arith, here, later, follow_g, follow_h.0) in no)
  one_from a (g ∷ gs) [] follow_g follow_h filled_g filled_h within_g within_h full_g full_h =
      let here : g.0 < g.1 = All-head HasPartitions g gs filled_g in
      let later : g.1 ≤ length sizes = follow_le g.1 (length sizes) gs follow_g.1 (All-tail HasPartitions g gs filled_g) in
      absurd (let no : ⊥ = omega (arith, here, later, follow_h, follow_g.0) in no)
  one_from a (g ∷ gs) (h ∷ hs) follow_g follow_h filled_g filled_h within_g within_h full_g full_h =
      let start : g.0 ≡ h.0 = follow_g.0 ∙ sym follow_h.0 in
      let end_g : g.1 ≤ length sizes = follow_le g.1 (length sizes) gs follow_g.1 (All-tail HasPartitions g gs filled_g) in
      let end_h : h.1 ≤ length sizes = follow_le h.1 (length sizes) hs follow_h.1 (All-tail HasPartitions h hs filled_h) in
      let no_g : g.1 < h.1 → ⊥ = not_shorter g h start (All-head HasPartitions g gs filled_g) (All-head (IsFull sizes target) g gs full_g)
      (All-head (IsWithin sizes target) h hs within_h) end_h in
      let no_h : h.1 < g.1 → ⊥ = not_shorter h g (sym start) (All-head HasPartitions h hs filled_h) (All-head (IsFull sizes target) h hs full_h)
      (All-head (IsWithin sizes target) g gs within_g) end_g in
      let end : g.1 ≡ h.1 = as_long g.1 h.1 no_g no_h in
      λ i. same_group g h start end i ∷
      one_from g.1 gs hs follow_g.1 (subst (λ b. Follow b (length sizes) hs) (sym end) follow_h.1)
      (All-tail HasPartitions g gs filled_g) (All-tail HasPartitions h hs filled_h)
      (All-tail (IsWithin sizes target) g gs within_g) (All-tail (IsWithin sizes target) h hs within_h)
      (All-tail (IsFull sizes target) g gs full_g) (All-tail (IsFull sizes target) h hs full_h) i
    where
      as_long : (m n : ℕ) → (m < n → ⊥) → (n < m → ⊥) → m ≡ n
      as_long m n not_less not_more = elim (cases_lt m n) [
        | inl less ↦ absurd (not_less less)
        | inr le ↦ elim (cases_lt n m) [ inl more ↦ absurd (not_more more) | inr ge ↦ omega (arith, le, ge) ]
      ]

pub one_list : OneListOfGroups
one_list sizes target groups others here there =
    one_from sizes target 0 groups others here.contiguous there.contiguous here.filled there.filled here.within there.within here.full there.full
