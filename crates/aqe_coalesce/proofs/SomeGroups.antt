-- There is a list of groups: the one that is packed from the left.
use Rattle.std.proofs.Common.{ℕ, zero, suc, ◌+◌, ◌≤◌, List, [], ◌∷◌, ◌++◌, length, get_or, refl, arith, inl, inr}
use Rattle.std.proofs.lemmas.Bool.{cases_lt}
use Rattle.aqe_coalesce.specs.Coalesced.{Group, IsFull, Coalesced}
use Rattle.aqe_coalesce.specs.Laws.{SomeListOfGroups}
use Rattle.aqe_coalesce.proofs.Filling.{IsFilling, begun, filled_more, full_at, ArePacked, none_packed, packed_more, packed_all}

module _ (sizes : List ℕ) (target : ℕ) where
  -- a group that is filled until it is full: where it ends
  pub record Closed (start : ℕ) : Type 0 where
    pub end : ℕ
    pub filled : ℕ
    pub filling : IsFilling sizes target start end filled
    pub full : IsFull sizes target (start, end)

  closes : (n start end filled : ℕ) → IsFilling sizes target start end filled → length sizes ≤ end + n → Closed start
  closes zero start end filled filling over =
      record { end = end; filled = filled; filling = filling; full = λ lt. absurd (let no : ⊥ = omega (arith, lt, over) in no) }
  closes (suc n) start end filled filling over = elim (cases_lt end (length sizes)) [
    | inr at_end ↦ record { end = end; filled = filled; filling = filling; full = λ lt. absurd (let no : ⊥ = omega (arith, lt, at_end) in no) }
    | inl lt ↦ elim (cases_lt target (filled + get_or sizes end 0)) [
      | inl passes ↦ record { end = end; filled = filled; filling = filling; full = full_at sizes target start end filled 0 filling (λ _. passes) }
      | inr fits ↦ closes n start (end + 1) (filled + get_or sizes end 0) (filled_more sizes target start end filled _ 0 filling lt refl fits) (omega (arith, over))
    ]
  ]

  packs : (n start : ℕ) (groups : List Group) → ArePacked sizes target start groups → length sizes ≤ start + n → (all : List Group) × Coalesced sizes target all
  packs zero start groups packed over = (groups, packed_all sizes target start groups packed (omega (arith, over)))
  packs (suc n) start groups packed over = elim (cases_lt start (length sizes)) [
    | inr at_end ↦ (groups, packed_all sizes target start groups packed at_end)
    | inl lt ↦
        let closed : Closed start = closes (length sizes) start (start + 1) (get_or sizes start 0) (begun sizes target start (start + 1) _ 0 lt refl refl) (omega arith) in
        packs n closed.end (groups ++ (start, closed.end) ∷ [])
        (packed_more sizes target start closed.end groups _ packed closed.filling.forward closed.filling.inside closed.filling.within closed.full refl)
        (omega (arith, over, closed.filling.forward))
  ]

pub some_list : SomeListOfGroups
some_list sizes target = packs sizes target (length sizes) 0 [] (none_packed sizes target) (omega arith)
