-- What holds of the rows of one side of a join, whatever stands beside them, holds of the rows that the join makes.
use Rattle.std.proofs.Common.{◌≡◌, ℕ, Bool, List, [], ◌∷◌, ◌++◌, map, length, append-nil, subst}
use Rattle.std.specs.Prelude.{filter, All}
use Rattle.std.proofs.lemmas.List.{length-replicate}
use Rattle.std.proofs.lemmas.List.Elements.{All-nil, All-cons, All-head, All-tail, All-append, All-map, All-weaker, All-filter}
use Rattle.std.proofs.lemmas.List.Sorted.{All-permutation}
use Rattle.aqe_base.specs.declared.join_kind.JoinKind.{JoinKind}
use Rattle.aqe_base.specs.declared.join_kind.JoinKind.TheVariants.{Inner, Cross, LeftOuter, RightOuter, FullOuter, LeftSemi, LeftAnti}
use Rattle.aqe_base.specs.declared.join_kind.Side.TheVariants.{Left, Right}
use Rattle.aqe_values.specs.declared.value.Value.TheVariants.{Null}
use Rattle.aqe_expr.specs.declared.expr.Expr.{Expr}
use Rattle.aqe_logical.specs.Answers.{Row}
use Rattle.aqe_logical.specs.Joins.{nulls, where_none, with_matches, left_over, half}
use Rattle.aqe_logical.specs.Order.{before}
use Rattle.aqe_logical.specs.WellFormed.{HaveWidth}
use Rattle.aqe_places.proofs.Sorted.{keep}
use Rattle.aqe_join_rows.specs.declared.join_keys.JoinKeys.{JoinKeys}
use Rattle.aqe_join_rows.specs.Matching.{matches}
use Rattle.aqe_join_rows.specs.Orders.{left_to_right, with_left_matches, right_to_left, ascending, sorted_by}
use Rattle.aqe_physical.specs.declared.target.JoinWay.{JoinWay}
use Rattle.aqe_physical.specs.declared.target.JoinWay.TheVariants as way
use Rattle.aqe_stages.specs.Parts.{join_rows}
use Rattle.aqe_fit_laws.proofs.Widths.{every}

-- the kinds of which each row that comes out begins with a left row, and those of which each ends with a right row
abbrev pub KeepsLeft : JoinKind → Type 0
KeepsLeft RightOuter = ⊥
KeepsLeft FullOuter = ⊥
KeepsLeft kind = Unit {0}

abbrev pub KeepsRight : JoinKind → Type 0
KeepsRight Inner = Unit {0}
KeepsRight Cross = Unit {0}
KeepsRight RightOuter = Unit {0}
KeepsRight kind = ⊥

abbrev Whatever : Row → Type 0
Whatever row = Unit {0}

whatever : (rows : List Row) → All Whatever rows
whatever rows = every Whatever (λ row. tt) rows

half_all : (P Q R : Row → Type 0) (each : Row → List Row → List Row) → ((x : Row) → P x → (ms : List Row) → All Q ms → All R (each x ms)) → (meets : Row → Row → Bool) (a b : List Row) →
    All P a → All Q b → All R (half each meets a b)
half_all P Q R each to meets [] b h k = All-nil R
half_all P Q R each to meets (x ∷ xs) b h k =
    All-append R (each x (filter (meets x) b)) (half each meets xs b)
    (to x (All-head P x xs h) (filter (meets x) b) (All-filter (meets x) Q b k))
    (half_all P Q R each to meets xs b (All-tail P x xs h) k)

sorted_all : (P : Row → Type 0) (keys : List Expr) (rows : List Row) → All P rows → All P (sorted_by keys rows)
sorted_all P keys rows h = All-permutation P rows (sorted_by keys rows) (keep (before (map ascending keys)) rows) h

module _ (P : Row → Type 0) where
  one : (x : Row) → P x → All P (x ∷ [])
  one x h = All-cons P x [] h (All-nil P)

  where_none_all : (ms lone met : List Row) → All P lone → All P met → All P (where_none ms lone met)
  where_none_all [] lone met h k = h
  where_none_all (m ∷ ms) lone met h k = k

  -- P holds of a row, whatever stands behind it
  abbrev pub InFront : Row → Type 0
  InFront x = (more : Row) → P (x ++ more)

  alone : (x : Row) → InFront x → P x
  alone x h = subst P (append-nil x) (h [])

  before_each : (x : Row) → InFront x → (ms : List Row) → All P (map (λ y. x ++ y) ms)
  before_each x h ms = All-map P (λ y. x ++ y) ms (every (λ y. P (x ++ y)) h ms)

  with_matches_left : (kind : JoinKind) (w : ℕ) (x : Row) → InFront x → (ms : List Row) → All P (with_matches kind w x ms)
  with_matches_left Inner w x h ms = before_each x h ms
  with_matches_left Cross w x h ms = before_each x h ms
  with_matches_left RightOuter w x h ms = before_each x h ms
  with_matches_left LeftOuter w x h ms = where_none_all ms ((x ++ nulls w) ∷ []) (map (λ y. x ++ y) ms) (one (x ++ nulls w) (h (nulls w))) (before_each x h ms)
  with_matches_left FullOuter w x h ms = where_none_all ms ((x ++ nulls w) ∷ []) (map (λ y. x ++ y) ms) (one (x ++ nulls w) (h (nulls w))) (before_each x h ms)
  with_matches_left LeftSemi w x h ms = where_none_all ms [] (x ∷ []) (All-nil P) (one x (alone x h))
  with_matches_left LeftAnti w x h ms = where_none_all ms (x ∷ []) [] (one x (alone x h)) (All-nil P)

  none_left_over : (kind : JoinKind) (v : ℕ) → KeepsLeft kind → (y : Row) (ms : List Row) → All P (left_over kind v y ms)
  none_left_over RightOuter v k y ms = absurd k
  none_left_over FullOuter v k y ms = absurd k
  none_left_over Inner v k y ms = All-nil P
  none_left_over Cross v k y ms = All-nil P
  none_left_over LeftOuter v k y ms = All-nil P
  none_left_over LeftSemi v k y ms = All-nil P
  none_left_over LeftAnti v k y ms = All-nil P

  behind_each : (y : Row) (ms : List Row) → All InFront ms → All P (map (λ x. x ++ y) ms)
  behind_each y ms h = All-map P (λ x. x ++ y) ms (All-weaker InFront (λ x. P (x ++ y)) (λ x all. all y) ms h)

  left_matches_left : (kind : JoinKind) (v : ℕ) → KeepsLeft kind → (y : Row) (ms : List Row) → All InFront ms → All P (with_left_matches kind v y ms)
  left_matches_left RightOuter v k y ms h = absurd k
  left_matches_left FullOuter v k y ms h = absurd k
  left_matches_left Inner v k y ms h = behind_each y ms h
  left_matches_left Cross v k y ms h = behind_each y ms h
  left_matches_left LeftOuter v k y ms h = behind_each y ms h
  left_matches_left LeftSemi v k y ms h = behind_each y ms h
  left_matches_left LeftAnti v k y ms h = behind_each y ms h

  module _ (kind : JoinKind) (keys : JoinKeys) (v w : ℕ) (keeps : KeepsLeft kind) where
    by_left_rows : (a b : List Row) → All InFront a → All P (left_to_right kind v w keys a b)
    by_left_rows a b h =
        All-append P (half (with_matches kind w) (matches keys) a b) (half (left_over kind v) (λ y x. matches keys x y) b a)
        (half_all InFront Whatever P (with_matches kind w) (λ x all ms k. with_matches_left kind w x all ms) (matches keys) a b h (whatever b))
        (half_all Whatever Whatever P (left_over kind v) (λ y k ms m. none_left_over kind v keeps y ms) (λ y x. matches keys x y) b a (whatever b) (whatever a))

    by_right_rows : (a b : List Row) → All InFront a → All P (right_to_left kind v keys a b)
    by_right_rows a b h =
        half_all Whatever InFront P (with_left_matches kind v) (λ y k ms all. left_matches_left kind v keeps y ms all) (λ y x. matches keys x y) b a (whatever b) h

    -- of a kind that keeps no right row alone, each row begins with a left one
    pub rows_of_left : (how : JoinWay) (a b : List Row) → All InFront a → All P (join_rows how kind keys v w a b)
    rows_of_left way.SortMerge a b h = by_left_rows (sorted_by keys.left a) (sorted_by keys.right b) (sorted_all InFront keys.left a h)
    rows_of_left (way.ShuffledHash Left) a b h = by_right_rows a b h
    rows_of_left (way.ShuffledHash Right) a b h = by_left_rows a b h
    rows_of_left (way.Broadcast Left) a b h = by_right_rows a b h
    rows_of_left (way.Broadcast Right) a b h = by_left_rows a b h
    rows_of_left way.NestedLoop a b h = by_left_rows a b h

  -- P holds of a row, whatever row of v values stands before it
  module _ (v : ℕ) where
    abbrev pub Behind : Row → Type 0
    Behind y = (front : Row) → length front ≡ v → P (front ++ y)

    abbrev Wide : Row → Type 0
    Wide x = length x ≡ v

    front_of_each : (x : Row) → Wide x → (ms : List Row) → All Behind ms → All P (map (λ y. x ++ y) ms)
    front_of_each x e ms h = All-map P (λ y. x ++ y) ms (All-weaker Behind (λ y. P (x ++ y)) (λ y all. all x e) ms h)

    with_matches_right : (kind : JoinKind) (w : ℕ) → KeepsRight kind → (x : Row) → Wide x → (ms : List Row) → All Behind ms → All P (with_matches kind w x ms)
    with_matches_right Inner w k x e ms h = front_of_each x e ms h
    with_matches_right Cross w k x e ms h = front_of_each x e ms h
    with_matches_right RightOuter w k x e ms h = front_of_each x e ms h
    with_matches_right LeftOuter w k x e ms h = absurd k
    with_matches_right FullOuter w k x e ms h = absurd k
    with_matches_right LeftSemi w k x e ms h = absurd k
    with_matches_right LeftAnti w k x e ms h = absurd k

    padded : (y : Row) → Behind y → P (nulls v ++ y)
    padded y h = h (nulls v) (length-replicate v Null)

    left_over_right : (kind : JoinKind) → KeepsRight kind → (y : Row) → Behind y → (ms : List Row) → All P (left_over kind v y ms)
    left_over_right RightOuter k y h ms = where_none_all ms ((nulls v ++ y) ∷ []) [] (one (nulls v ++ y) (padded y h)) (All-nil P)
    left_over_right FullOuter k y h ms = absurd k
    left_over_right Inner k y h ms = All-nil P
    left_over_right Cross k y h ms = All-nil P
    left_over_right LeftOuter k y h ms = absurd k
    left_over_right LeftSemi k y h ms = absurd k
    left_over_right LeftAnti k y h ms = absurd k

    after_each : (y : Row) → Behind y → (ms : List Row) → All Wide ms → All P (map (λ x. x ++ y) ms)
    after_each y h ms e = All-map P (λ x. x ++ y) ms (All-weaker Wide (λ x. P (x ++ y)) (λ x wide. h x wide) ms e)

    left_matches_right : (kind : JoinKind) → KeepsRight kind → (y : Row) → Behind y → (ms : List Row) → All Wide ms → All P (with_left_matches kind v y ms)
    left_matches_right RightOuter k y h ms e = where_none_all ms ((nulls v ++ y) ∷ []) (map (λ x. x ++ y) ms) (one (nulls v ++ y) (padded y h)) (after_each y h ms e)
    left_matches_right FullOuter k y h ms e = absurd k
    left_matches_right Inner k y h ms e = after_each y h ms e
    left_matches_right Cross k y h ms e = after_each y h ms e
    left_matches_right LeftOuter k y h ms e = absurd k
    left_matches_right LeftSemi k y h ms e = absurd k
    left_matches_right LeftAnti k y h ms e = absurd k

    module _ (kind : JoinKind) (keys : JoinKeys) (w : ℕ) (keeps : KeepsRight kind) where
      by_left_rows_right : (a b : List Row) → HaveWidth v a → All Behind b → All P (left_to_right kind v w keys a b)
      by_left_rows_right a b e h =
          All-append P (half (with_matches kind w) (matches keys) a b) (half (left_over kind v) (λ y x. matches keys x y) b a)
          (half_all Wide Behind P (with_matches kind w) (λ x wide ms all. with_matches_right kind w keeps x wide ms all) (matches keys) a b e h)
          (half_all Behind Whatever P (left_over kind v) (λ y all ms k. left_over_right kind keeps y all ms) (λ y x. matches keys x y) b a h (whatever a))

      by_right_rows_right : (a b : List Row) → HaveWidth v a → All Behind b → All P (right_to_left kind v keys a b)
      by_right_rows_right a b e h =
          half_all Behind Wide P (with_left_matches kind v) (λ y all ms wide. left_matches_right kind keeps y all ms wide) (λ y x. matches keys x y) b a h e

      -- of a kind that keeps no left row alone, each row ends with a right one, behind v values
      pub rows_of_right : (how : JoinWay) (a b : List Row) → HaveWidth v a → All Behind b → All P (join_rows how kind keys v w a b)
      rows_of_right way.SortMerge a b e h =
          by_left_rows_right (sorted_by keys.left a) (sorted_by keys.right b) (sorted_all Wide keys.left a e) (sorted_all Behind keys.right b h)
      rows_of_right (way.ShuffledHash Left) a b e h = by_right_rows_right a b e h
      rows_of_right (way.ShuffledHash Right) a b e h = by_left_rows_right a b e h
      rows_of_right (way.Broadcast Left) a b e h = by_right_rows_right a b e h
      rows_of_right (way.Broadcast Right) a b e h = by_left_rows_right a b e h
      rows_of_right way.NestedLoop a b e h = by_left_rows_right a b e h
