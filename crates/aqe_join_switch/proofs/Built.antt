-- A side that is chosen may be built.
use Rattle.std.proofs.Common.{◌≡◌, ℕ, Bool, true, false, ◌&&◌, Option, Some, None, refl, rules}
use Rattle.aqe_base.specs.declared.join_kind.JoinKind.{JoinKind}
use Rattle.aqe_base.specs.declared.join_kind.Side.{Side}
use Rattle.aqe_base.specs.declared.join_kind.Side.TheVariants.{Left, Right}
use Rattle.aqe_base.specs.Joins.{may_build}
use Rattle.aqe_join_switch.specs.declared.sizes.JoinChoice.{JoinChoice}
use Rattle.aqe_join_switch.specs.declared.sizes.JoinChoice.TheVariants.{Broadcast, ShuffledHash}
use Rattle.aqe_join_switch.specs.Choice.{SideData, known, right_first, smaller, in_case, held_side, small_side, hashed_side}
use Rattle.aqe_join_switch.specs.Laws.{BuildsWhatMayBeBuilt, ChosenSidesMayBeBuilt}

-- a side, if there is one, has what is said of it
abbrev HasSide : (Side → Type 0) → Option Side → Type 0
HasSide P None = Unit {0}
HasSide P (Some side) = P side

first_has : (P : Side → Type 0) (l r : Bool) → (l ≡ true → P Left) → (r ≡ true → P Right) → HasSide P (right_first l r)
first_has P true true left right = right refl
first_has P false true left right = right refl
first_has P true false left right = left refl
first_has P false false left right = tt

both_true : (a b : Bool) → (a && b) ≡ true → a ≡ true
both_true true b h = refl
both_true false b h = h

smaller_has : (P : Side → Type 0) (l r : Bool) (m n : ℕ) → (l ≡ true → P Left) → (r ≡ true → P Right) → HasSide P (smaller l r m n)
smaller_has P l r m n left right = first_has P l _ left (λ h. right (both_true r _ h))

-- what is known of a side passed a test that asks first whether the side may be built
known_first : (b : Bool) (test : SideData → Bool) (sizes : Option SideData) → known (λ data'. b && test data') sizes ≡ true → b ≡ true
known_first b test None h = elim (no_truth h) [ ]
  where
    no_truth : false ≡ true → ⊥
    no_truth e = search rules
known_first b test (Some sizes) h = both_true b (test sizes) h

in_case_has : (kind : JoinKind) (side : Option Side) (behind : JoinChoice) → HasSide (λ s. may_build kind s ≡ true) side → BuildsWhatMayBeBuilt kind behind
    → BuildsWhatMayBeBuilt kind (in_case Broadcast side behind)
in_case_has kind None behind has rest = rest
in_case_has kind (Some side) behind has rest = has

hashed_has : (kind : JoinKind) (side : Option Side) (behind : JoinChoice) → HasSide (λ s. may_build kind s ≡ true) side → BuildsWhatMayBeBuilt kind behind
    → BuildsWhatMayBeBuilt kind (in_case ShuffledHash side behind)
hashed_has kind None behind has rest = rest
hashed_has kind (Some side) behind has rest = has

pub built : ChosenSidesMayBeBuilt
built kind left right rule =
    in_case_has kind (held_side kind left right) _ (first_has (λ s. may_build kind s ≡ true) _ _ (known_first (may_build kind Left) _ left) (known_first (may_build kind Right) _ right))
    (in_case_has kind (small_side kind left right rule) _
    (smaller_has (λ s. may_build kind s ≡ true) _ _ _ _ (known_first (may_build kind Left) _ left) (known_first (may_build kind Right) _ right))
    (hashed_has kind (hashed_side kind left right rule) _
    (smaller_has (λ s. may_build kind s ≡ true) _ _ _ _ (known_first (may_build kind Left) _ left) (known_first (may_build kind Right) _ right))
    tt))
