-- Answers that were worked out by hand from the rules: a check of the definitions.
use Rattle.std.proofs.Common.{◌≡◌, ℕ, List, [], ◌∷◌, refl, arith, inl, inr}
use Rattle.std.proofs.lemmas.List.Elements.{All-nil, All-cons}
use Rattle.aqe_coalesce.specs.Target.{target_of}
use Rattle.aqe_coalesce.specs.Coalesced.{HasPartitions, IsWithin, IsFull, Coalesced}

-- 100 bytes for one task are below the least size
at_least : target_of 100 1 67108864 1048576 ≡ 1048576
at_least = refl

shared : target_of 10 4 67108864 1 ≡ 3
shared = refl

at_most : target_of 1000 4 64 1 ≡ 64
at_most = refl

-- 10 and 20 go together, and 30 with them would be more than 50; 30 and 40 would be so too
abbrev four : List ℕ
four = 10 ∷ 20 ∷ 30 ∷ 40 ∷ []

two_one_one : Coalesced four 50 ((0, 2) ∷ (2, 3) ∷ (3, 4) ∷ [])
two_one_one = record {
  contiguous = (refl, (refl, (refl, refl)));
  filled = All-cons HasPartitions (0, 2) ((2, 3) ∷ (3, 4) ∷ []) (omega arith) (All-cons HasPartitions (2, 3) ((3, 4) ∷ []) (omega arith) (All-cons HasPartitions (3, 4) [] (omega arith) (All-nil HasPartitions)));
  within = All-cons (IsWithin four 50) (0, 2) ((2, 3) ∷ (3, 4) ∷ []) (inr (omega arith)) (All-cons (IsWithin four 50) (2, 3) ((3, 4) ∷ []) (inl refl) (All-cons (IsWithin four 50) (3, 4) [] (inl refl) (All-nil (IsWithin four 50))));
  full = All-cons (IsFull four 50) (0, 2) ((2, 3) ∷ (3, 4) ∷ []) (λ _. omega arith) (All-cons (IsFull four 50) (2, 3) ((3, 4) ∷ []) (λ _. omega arith) (All-cons (IsFull four 50) (3, 4) [] (λ h. absurd (let no : ⊥ = omega (arith, h) in no)) (All-nil (IsFull four 50))));
}

-- 50 is not more than 50, so that the size of 0 goes with it
abbrev three : List ℕ
three = 50 ∷ 0 ∷ 1 ∷ []

two_one : Coalesced three 50 ((0, 2) ∷ (2, 3) ∷ [])
two_one = record {
  contiguous = (refl, (refl, refl));
  filled = All-cons HasPartitions (0, 2) ((2, 3) ∷ []) (omega arith) (All-cons HasPartitions (2, 3) [] (omega arith) (All-nil HasPartitions));
  within = All-cons (IsWithin three 50) (0, 2) ((2, 3) ∷ []) (inr (omega arith)) (All-cons (IsWithin three 50) (2, 3) [] (inl refl) (All-nil (IsWithin three 50)));
  full = All-cons (IsFull three 50) (0, 2) ((2, 3) ∷ []) (λ _. omega arith) (All-cons (IsFull three 50) (2, 3) [] (λ h. absurd (let no : ⊥ = omega (arith, h) in no)) (All-nil (IsFull three 50)));
}

-- no partitions, no groups
nothing : Coalesced [] 50 []
nothing = record { contiguous = refl; filled = All-nil HasPartitions; within = All-nil (IsWithin [] 50); full = All-nil (IsFull [] 50) }
