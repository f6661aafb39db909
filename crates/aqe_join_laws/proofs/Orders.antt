-- The rows that each way of joining gives, in its order, are the rows of the join.
use Rattle.std.proofs.Common.{◌≡◌, ℕ, ◌+◌, Bool, cond, IsTrue, List, [], ◌∷◌, ◌++◌, map, refl, ap, sym, ◌∙◌, arith}
use Rattle.std.specs.Prelude.{filter}
use Rattle.std.proofs.lemmas.List.Sorted.{IsPermutation-refl}
use Rattle.aqe_base.specs.declared.join_kind.JoinKind.{JoinKind}
use Rattle.aqe_base.specs.declared.join_kind.JoinKind.TheVariants.{Inner, Cross, LeftOuter, RightOuter, FullOuter, LeftSemi, LeftAnti}
use Rattle.aqe_base.specs.declared.join_kind.Side.TheVariants.{Left, Right}
use Rattle.aqe_base.specs.Joins.{may_build}
use Rattle.aqe_values.specs.Equality.{row_eq}
use Rattle.aqe_logical.specs.Answers.{Row}
use Rattle.aqe_logical.specs.Joins.{with_matches, left_over, half, pairs}
use Rattle.aqe_logical.specs.Order.{before}
use Rattle.aqe_logical.proofs.Joined.{pairs-permuted}
use Rattle.aqe_logical.proofs.Rearranged.{total, total-append, total-filter, total-flat_map, bit, from_counts, permuted}
use Rattle.aqe_logical.proofs.Rows.{rows_same}
use Rattle.aqe_places.proofs.Sorted.{keep}
use Rattle.aqe_join_rows.specs.Matching.{matches}
use Rattle.aqe_join_rows.specs.Orders.{with_left_matches, right_to_left, sorted_by, ascending}
use Rattle.aqe_physical.specs.declared.target.JoinWay.TheVariants as way
use Rattle.aqe_join_laws.specs.Laws.{MergedRowsAreTheJoin, RowsFromTheRightAreTheJoin, RowsOfEachWayAreTheJoin}

-- sorting the sides does not change which rows a join has
pub merged : MergedRowsAreTheJoin
merged kind v w keys a b =
    pairs-permuted kind v w (matches keys) a (sorted_by keys.left a) b (sorted_by keys.right b)
    (keep (before (map ascending keys.left)) a) (keep (before (map ascending keys.right)) b)

total_none : {X : Type 0} (xs : List X) → total (λ x. 0) xs ≡ 0
total_none [] = refl
total_none (x ∷ xs) = let h = total_none xs in omega (arith, h)

total_add : {X : Type 0} (f g : X → ℕ) (xs : List X) → total (λ x. f x + g x) xs ≡ total f xs + total g xs
total_add f g [] = refl
total_add f g (x ∷ xs) = let h = total_add f g xs in omega (arith, h)

total_map : {X Y : Type 0} (f : Y → ℕ) (g : X → Y) (xs : List X) → total f (map g xs) ≡ total (λ x. f (g x)) xs
total_map f g [] = refl
total_map f g (x ∷ xs) = ap (λ n. f (g x) + n) (total_map f g xs)

-- sums over two lists, in either order
total_turned : {X Y : Type 0} (f : X → Y → ℕ) (xs : List X) (ys : List Y) → total (λ y. total (λ x. f x y) xs) ys ≡ total (λ x. total (λ y. f x y) ys) xs
total_turned f [] ys = total_none ys
total_turned f (x ∷ xs) ys = total_add (λ y. f x y) (λ y. total (λ z. f z y) xs) ys ∙ ap (λ n. total (λ y. f x y) ys + n) (total_turned f xs ys)

abbrev each_pair : Row → List Row → List Row
each_pair x ms = map (λ y. x ++ y) ms

-- how often something comes among the pairs of two sides, counted from either side
module _ (count : Row → ℕ) (meets : Row → Row → Bool) where
  abbrev at_pair : Row → Row → ℕ
  at_pair x y = cond (meets x y) (count (x ++ y)) 0

  from_left : (a b : List Row) → total count (half each_pair meets a b) ≡ total (λ x. total (λ y. at_pair x y) b) a
  from_left a b =
      total-flat_map count (λ x. map (λ y. x ++ y) (filter (meets x) b)) a ∙
      (λ i. total (λ x. (total_map count (λ y. x ++ y) (filter (meets x) b) ∙ total-filter (λ y. count (x ++ y)) (meets x) b) i) a)

  from_right : (a b : List Row) → total (λ y. total count (map (λ x. x ++ y) (filter (λ x. meets x y) a))) b ≡ total (λ x. total (λ y. at_pair x y) b) a
  from_right a b =
      (λ i. total (λ y. (total_map count (λ x. x ++ y) (filter (λ x. meets x y) a) ∙ total-filter (λ x. count (x ++ y)) (λ x. meets x y) a) i) b) ∙
      total_turned at_pair a b

  -- what a right row gives is its pairs, and what is left over of it
  parted : (kind : JoinKind) (v : ℕ) (y : Row) (ms : List Row) → IsTrue (may_build kind Left) →
      total count (with_left_matches kind v y ms) ≡ total count (map (λ x. x ++ y) ms) + total count (left_over kind v y ms)
  parted Inner v y ms h = omega arith
  parted Cross v y ms h = omega arith
  parted RightOuter v y [] h = omega arith
  parted RightOuter v y (m ∷ ms) h = omega arith
  parted LeftOuter v y ms h = absurd (cc)
  parted FullOuter v y ms h = absurd (cc)
  parted LeftSemi v y ms h = absurd (cc)
  parted LeftAnti v y ms h = absurd (cc)

  -- a left row without a match gives nothing
  only_pairs : (kind : JoinKind) (w : ℕ) (a b : List Row) → IsTrue (may_build kind Left) →
      half (with_matches kind w) meets a b ≡ half each_pair meets a b
  only_pairs Inner w a b h = refl
  only_pairs Cross w a b h = refl
  only_pairs RightOuter w a b h = refl
  only_pairs LeftOuter w a b h = absurd (cc)
  only_pairs FullOuter w a b h = absurd (cc)
  only_pairs LeftSemi w a b h = absurd (cc)
  only_pairs LeftAnti w a b h = absurd (cc)

  as_often : (kind : JoinKind) (v w : ℕ) (a b : List Row) → IsTrue (may_build kind Left) →
      total count (pairs kind v w meets a b) ≡ total count (half (with_left_matches kind v) (λ y x. meets x y) b a)
  as_often kind v w a b h =
      total-append count (half (with_matches kind w) meets a b) (half (left_over kind v) (λ y x. meets x y) b a) ∙
      ((λ i. (ap (total count) (only_pairs kind w a b h) ∙ (from_left a b ∙ sym (from_right a b))) i + total-flat_map count (λ y. left_over kind v y (here y)) b i) ∙
      (sym (total_add (λ y. total count (map (λ x. x ++ y) (here y))) (λ y. total count (left_over kind v y (here y))) b) ∙
      ((λ i. total (λ y. sym (parted kind v y (here y) h) i) b) ∙
      sym (total-flat_map count (λ y. with_left_matches kind v y (here y)) b))))
    where
      here : Row → List Row
      here y = filter (λ x. meets x y) a

pub from_the_right : RowsFromTheRightAreTheJoin
from_the_right kind v w keys a b h =
    permuted (pairs kind v w (matches keys) a b) (right_to_left kind v keys a b)
    (from_counts row_eq rows_same (pairs kind v w (matches keys) a b) (right_to_left kind v keys a b) (λ k. as_often (λ z. bit (row_eq k z)) (matches keys) kind v w a b h))

pub each_way : RowsOfEachWayAreTheJoin
each_way way.SortMerge kind keys v w a b h = merged kind v w keys a b
each_way (way.ShuffledHash Left) kind keys v w a b h = from_the_right kind v w keys a b h
each_way (way.ShuffledHash Right) kind keys v w a b h = IsPermutation-refl (pairs kind v w (matches keys) a b)
each_way (way.Broadcast Left) kind keys v w a b h = from_the_right kind v w keys a b h
each_way (way.Broadcast Right) kind keys v w a b h = IsPermutation-refl (pairs kind v w (matches keys) a b)
each_way way.NestedLoop kind keys v w a b h = IsPermutation-refl (pairs kind v w (matches keys) a b)
