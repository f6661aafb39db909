-- The pairs of two sides are determined.
use Rattle.std.proofs.Common.{◌≡◌, ℕ, ◌+◌, ◌<◌, ◌≤◌, ◌⊎◌, Bool, true, false, List, [], ◌∷◌, ◌++◌, map, Option, Some, None, refl, ap, sym, subst, ◌∙◌, arith, inl, inr}
use Rattle.std.specs.Bool.{MatchBool}
use Rattle.std.proofs.lemmas.Bool.{cases_lt}
use Rattle.aqe_base.specs.declared.join_kind.JoinKind.{JoinKind}
use Rattle.aqe_base.specs.declared.join_kind.Side.{Side}
use Rattle.aqe_base.specs.declared.join_kind.Side.TheVariants.{Left, Right}
use Rattle.aqe_coalesce.specs.Coalesced.{Group}
use Rattle.aqe_coalesce.proofs.Unique.{one_list}
use Rattle.aqe_rects.specs.Pairs.{RectPair}
use Rattle.aqe_skew.specs.declared.rule.SkewRule.{SkewRule}
use Rattle.aqe_skew.specs.Splits.{Split, starts_of, parts_of}
use Rattle.aqe_skew.specs.Skewed.{split_target}
use Rattle.aqe_skew.specs.Paired.{SideCells, map_sizes, partition_sizes, both_sizes, may_be_split, PartsAt, PartsOfBoth, are_split, IsSplitAt, IsWholeAt, Grouped, all_pairs, rects_at, group_pair, PairsFrom, at_end, in_parts, in_groups}
use Rattle.aqe_skew.specs.Laws.{OneListOfPairs}

-- a partition is split in one way
one_split : (sizes : List ℕ) (target : ℕ) (starts others : List ℕ) → Split sizes target starts → Split sizes target others → starts ≡ others
one_split sizes target starts others here there =
    here.merges ∙ (ap (λ groups. starts_of target (parts_of sizes groups)) (one_list sizes target here.groups there.groups here.closed there.closed) ∙ sym there.merges)

one_choice : (b : Bool) (sizes : List ℕ) (target : ℕ) (starts others : List ℕ) → MatchBool b (Split sizes target starts) (starts ≡ 0 ∷ [])
    → MatchBool b (Split sizes target others) (others ≡ 0 ∷ []) → starts ≡ others
one_choice true sizes target starts others here there = one_split sizes target starts others here there
one_choice false sizes target starts others here there = here ∙ sym there

one_parts : (kind : JoinKind) (side : Side) (cells : SideCells) (rule : SkewRule) (r : ℕ) (starts others : List ℕ)
    → PartsAt kind side cells rule r starts → PartsAt kind side cells rule r others → starts ≡ others
one_parts kind side cells rule r starts others here there =
    one_choice (may_be_split kind side cells rule r) (map_sizes cells r) (split_target (partition_sizes cells) rule) starts others here there

one_grouping : (target : Option ℕ) (sizes : List ℕ) (groups others : List Group) → Grouped target sizes groups → Grouped target sizes others → groups ≡ others
one_grouping None sizes groups others here there = here ∙ sym there
one_grouping (Some target) sizes groups others here there = one_list sizes target groups others here there

no_both : (b c : Bool) → b ≡ c → b ≡ true → c ≡ false → ⊥
no_both b c same is_true is_false = grind (arith, same, is_true, is_false)

module _ (kind : JoinKind) (left right : SideCells) (rule : SkewRule) where
  -- a reducer at which a side is split is not one at which neither is
  split_not_whole : (r : ℕ) → IsSplitAt kind left right rule r → IsWholeAt kind left right rule r → ⊥
  split_not_whole r split whole =
      let lefts : split.0 ≡ whole.0 = one_parts kind Left left rule r split.0 whole.0 split.2.0 whole.2.0 in
      let rights : split.1 ≡ whole.1 = one_parts kind Right right rule r split.1 whole.1 split.2.1 whole.2.1 in
      no_both _ _ (λ i. are_split (lefts i) (rights i)) split.3 whole.3

  module _ (target : Option ℕ) where
    -- runs from one reducer to the next at which a side is split are as long
    not_longer : (a m n : ℕ) → (a + m ≡ left.reducers) ⊎ IsSplitAt kind left right rule (a + m) → a + n ≤ left.reducers
        → ((r : ℕ) → a ≤ r → r < a + n → IsWholeAt kind left right rule r) → m < n → ⊥
    not_longer a m n ends within whole shorter = elim ends [
      | inl over ↦ omega (arith, over, within, shorter)
      | inr split ↦ split_not_whole (a + m) split (whole (a + m) (omega arith) (omega (arith, shorter)))
    ]

    as_long : (m n : ℕ) → (m < n → ⊥) → (n < m → ⊥) → m ≡ n
    as_long m n not_less not_more = elim (cases_lt m n) [
      | inl less ↦ absurd (not_less less)
      | inr le ↦ elim (cases_lt n m) [ inl more ↦ absurd (not_more more) | inr ge ↦ omega (arith, le, ge) ]
    ]

    one_from : (a b : ℕ) (pairs others : List RectPair) → a ≡ b → PairsFrom kind left right rule target a pairs → PairsFrom kind left right rule target b others → pairs ≡ others
    one_from a b pairs others same (at_end end none) (at_end end' none') = none ∙ sym none'
    one_from a b pairs others same (at_end end none) (in_parts lefts rights rest lt parts split is from) = absurd (let no : ⊥ = omega (arith, end, lt, same) in no)
    one_from a b pairs others same (at_end end none) (in_groups n groups rest some within whole ends grouped is from) = absurd (let no : ⊥ = omega (arith, end, some, within, same) in no)
    one_from a b pairs others same (in_parts lefts rights rest lt parts split is from) (at_end end none) = absurd (let no : ⊥ = omega (arith, end, lt, same) in no)
    one_from a b pairs others same (in_groups n groups rest some within whole ends grouped is from) (at_end end none) = absurd (let no : ⊥ = omega (arith, end, some, within, same) in no)
    one_from a b pairs others same (in_parts lefts rights rest lt parts split is from) (in_parts lefts' rights' rest' lt' parts' split' is' from') =
        let there : PartsOfBoth kind left right rule a lefts' rights' = subst (λ c. PartsOfBoth kind left right rule c lefts' rights') (sym same) parts' in
        let l : lefts ≡ lefts' = one_parts kind Left left rule a lefts lefts' parts.0 there.0 in
        let r : rights ≡ rights' = one_parts kind Right right rule a rights rights' parts.1 there.1 in
        is ∙ ((λ i. all_pairs (rects_at left.maps (same i) (l i)) (rects_at right.maps (same i) (r i)) ++ one_from (a + 1) (b + 1) rest rest' (ap (λ c. c + 1) same) from from' i)
        ∙ sym is')
    one_from a b pairs others same (in_parts lefts rights rest lt parts split is from) (in_groups n groups rest' some within whole ends grouped is' from') =
        absurd (split_not_whole a (lefts, rights, parts, split) (whole a (omega (arith, same)) (omega (arith, same, some))))
    one_from a b pairs others same (in_groups n groups rest some within whole ends grouped is from) (in_parts lefts rights rest' lt parts split is' from') =
        absurd (split_not_whole b (lefts, rights, parts, split) (whole b (omega (arith, same)) (omega (arith, same, some))))
    one_from a b pairs others same (in_groups n groups rest some within whole ends grouped is from) (in_groups n' groups' rest' some' within' whole' ends' grouped' is' from') =
        let there : (a + n' ≡ left.reducers) ⊎ IsSplitAt kind left right rule (a + n') =
        subst (λ c. (c + n' ≡ left.reducers) ⊎ IsSplitAt kind left right rule (c + n')) (sym same) ends' in
        let not_less : n < n' → ⊥ = not_longer a n n' ends (omega (arith, within', same)) (λ r le lt. whole' r (omega (arith, le, same)) (omega (arith, lt, same))) in
        let not_more : n' < n → ⊥ = not_longer a n' n there within whole in
        let long : n ≡ n' = as_long n n' not_less not_more in
        let gathered : Grouped target (both_sizes kind left right rule a n) groups' =
        subst (λ c. Grouped target (both_sizes kind left right rule a c) groups') (sym long)
        (subst (λ c. Grouped target (both_sizes kind left right rule c n') groups') (sym same) grouped') in
        let g : groups ≡ groups' = one_grouping target (both_sizes kind left right rule a n) groups groups' grouped gathered in
        is ∙ ((λ i. map (group_pair left.maps right.maps (same i)) (g i) ++ one_from (a + n) (b + n') rest rest' (λ j. same j + long j) from from' i)
        ∙ sym is')

pub one : OneListOfPairs
one kind left right rule target None None here there = refl
one kind left right rule target None (Some others) here there = absurd (split_not_whole kind left right rule there.0.0 there.0.2 (here there.0.0 there.0.1))
one kind left right rule target (Some pairs) None here there = absurd (split_not_whole kind left right rule here.0.0 here.0.2 (there here.0.0 here.0.1))
one kind left right rule target (Some pairs) (Some others) here there = ap (λ p. Some p) (one_from kind left right rule target 0 0 pairs others refl here.1 there.1)
