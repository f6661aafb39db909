-- The walk over the partitions of a group, and over groups.
use Rattle.std.proofs.Common.{◌≡◌, ℕ, ◌+◌, ◌-◌, ◌<◌, ◌≤◌, List, [], ◌∷◌, ◌++◌, length, take, drop, get_or, refl, ap, sym, subst, ◌∙◌, arith, inl, inr}
use Rattle.std.specs.Prelude.{sum, All}
use Rattle.std.proofs.lemmas.List.Elements.{All-nil, All-push}
use Rattle.aqe_coalesce.specs.Coalesced.{Group, size_of, Follow, HasPartitions, IsWithin, IsFull, Coalesced}
use Rattle.aqe_coalesce.proofs.Sums.{size_of_more, size_of_le}

-- a group of one partition
pub one_partition : (sizes : List ℕ) (a b d : ℕ) → a < length sizes → b ≡ a + 1 → size_of sizes (a, b) ≡ get_or sizes a d
one_partition sizes a b d lt one =
    let none : size_of sizes (a, a) ≡ 0 = nothing sizes a in
    let more : size_of sizes (a, a + 1) ≡ size_of sizes (a, a) + get_or sizes a d = size_of_more sizes a a d (omega arith) lt in
    ap (λ e. size_of sizes (a, e)) one ∙ omega (arith, none, more)
  where
    nothing : (xs : List ℕ) (i : ℕ) → size_of xs (i, i) ≡ 0
    nothing xs i = let zero_long : i - i ≡ 0 = omega arith in ap (λ n. sum (take n (drop i xs))) zero_long

-- what is known while a group is filled: it has partitions, its size is the sum, and it is within the target or one partition
pub record IsFilling (sizes : List ℕ) (target start end filled : ℕ) : Type 0 where
  pub forward : start < end
  pub inside : end ≤ length sizes
  pub size : filled ≡ size_of sizes (start, end)
  pub within : IsWithin sizes target (start, end)

pub begun : (sizes : List ℕ) (target start end filled d : ℕ) → start < length sizes → end ≡ start + 1 → filled ≡ get_or sizes start d → IsFilling sizes target start end filled
begun sizes target start end filled d lt one first = record {
  forward = omega (arith, one);
  inside = omega (arith, one, lt);
  size = first ∙ sym (one_partition sizes start end d lt one);
  within = inl one;
}

pub filled_more : (sizes : List ℕ) (target start end filled filled' d : ℕ) → IsFilling sizes target start end filled → end < length sizes
    → filled' ≡ filled + get_or sizes end d → filled' ≤ target → IsFilling sizes target start (end + 1) filled'
filled_more sizes target start end filled filled' d before lt more fits = record {
  forward = omega (arith, before.forward);
  inside = omega (arith, lt);
  size = larger;
  within = inr (rw (sym larger) fits);
}
  where
    larger : filled' ≡ size_of sizes (start, end + 1)
    larger = let step : size_of sizes (start, end + 1) ≡ size_of sizes (start, end) + get_or sizes end d = size_of_more sizes start end d (omega (arith, before.forward)) lt in
        omega (arith, step, more, before.size)

-- the next partition can be added without passing the whole
pub stays_within : (sizes : List ℕ) (target start end filled d : ℕ) → IsFilling sizes target start end filled → end < length sizes
    → filled + get_or sizes end d ≤ sum sizes
stays_within sizes target start end filled d before lt =
    let step : size_of sizes (start, end + 1) ≡ size_of sizes (start, end) + get_or sizes end d = size_of_more sizes start end d (omega (arith, before.forward)) lt in
    let whole : size_of sizes (start, end + 1) ≤ sum sizes = size_of_le sizes start (end + 1) in
    omega (arith, step, whole, before.size)

-- a group is full where the next partition would pass the target
pub full_at : (sizes : List ℕ) (target start end filled d : ℕ) → IsFilling sizes target start end filled
    → (end < length sizes → target < filled + get_or sizes end d) → IsFull sizes target (start, end)
full_at sizes target start end filled d before over lt =
    let step : size_of sizes (start, end + 1) ≡ size_of sizes (start, end) + get_or sizes end d = size_of_more sizes start end d (omega (arith, before.forward)) lt in
    let passes : target < filled + get_or sizes end d = over lt in
    omega (arith, step, passes, before.size)

-- what is known while groups are made, up to a partition: they follow one another, and each is a group as it should be
pub record ArePacked (sizes : List ℕ) (target end : ℕ) (groups : List Group) : Type 0 where
  pub inside : end ≤ length sizes
  pub contiguous : Follow 0 end groups
  pub filled : All HasPartitions groups
  pub within : All (IsWithin sizes target) groups
  pub full : All (IsFull sizes target) groups

pub none_packed : (sizes : List ℕ) (target : ℕ) → ArePacked sizes target 0 []
none_packed sizes target = record {
  inside = omega arith;
  contiguous = refl;
  filled = All-nil HasPartitions;
  within = All-nil (IsWithin sizes target);
  full = All-nil (IsFull sizes target);
}

follow_push : (a start end : ℕ) (groups : List Group) → Follow a start groups → Follow a end (groups ++ (start, end) ∷ [])
follow_push a start end [] at = (sym at, refl)
follow_push a start end (group ∷ groups) follow = (follow.0, follow_push group.1 start end groups follow.1)

pub packed_more : (sizes : List ℕ) (target start end : ℕ) (groups groups' : List Group) → ArePacked sizes target start groups
    → start < end → end ≤ length sizes → IsWithin sizes target (start, end) → IsFull sizes target (start, end)
    → groups' ≡ groups ++ (start, end) ∷ [] → ArePacked sizes target end groups'
packed_more sizes target start end groups groups' before forward inside within full push = rw push (record {
  inside = inside;
  contiguous = follow_push 0 start end groups before.contiguous;
  filled = All-push HasPartitions groups (start, end) before.filled forward;
  within = All-push (IsWithin sizes target) groups (start, end) before.within within;
  full = All-push (IsFull sizes target) groups (start, end) before.full full;
})

-- groups up to the end are all
pub packed_all : (sizes : List ℕ) (target end : ℕ) (groups : List Group) → ArePacked sizes target end groups → length sizes ≤ end → Coalesced sizes target groups
packed_all sizes target end groups packed over =
    let at : end ≡ length sizes = omega (arith, packed.inside, over) in
    record {
      contiguous = subst (λ e. Follow 0 e groups) at packed.contiguous;
      filled = packed.filled;
      within = packed.within;
      full = packed.full;
    }
