-- The laws of joined rows: in the order of each way of joining, and part by part, they are the rows of the join.
use Rattle.std.specs.Prelude.{◌≡◌, ℕ, Bool, true, IsTrue, List, map, length, IsPermutation}
use Rattle.aqe_base.specs.declared.join_kind.JoinKind.{JoinKind}
use Rattle.aqe_base.specs.declared.join_kind.Side.TheVariants.{Left, Right}
use Rattle.aqe_base.specs.Joins.{may_build}
use Rattle.aqe_logical.specs.Answers.{Row}
use Rattle.aqe_logical.specs.Groups.{row_of}
use Rattle.aqe_logical.specs.Joins.{pairs}
use Rattle.aqe_logical.specs.WellFormed.{HaveWidth}
use Rattle.aqe_partial.specs.PartialRows.{joined_parts}
use Rattle.aqe_places.specs.Places.{by_hash}
use Rattle.aqe_places.specs.Laws.{Placed}
use Rattle.aqe_join_rows.specs.declared.join_keys.JoinKeys.{JoinKeys}
use Rattle.aqe_join_rows.specs.Matching.{matches}
use Rattle.aqe_join_rows.specs.Orders.{right_to_left, by_merging}
use Rattle.aqe_physical.specs.declared.target.JoinWay.{JoinWay}
use Rattle.aqe_physical.specs.declared.target.JoinWay.TheVariants as way
use Rattle.aqe_stages.specs.Parts.{join_rows, side_by_side, joined_sides}
use Rattle.aqe_stages.specs.Runnable.{SidesServe}

-- the rows of a sort-merge join are the rows of the join
abbrev pub MergedRowsAreTheJoin : Type 0
MergedRowsAreTheJoin = (kind : JoinKind) (v w : ℕ) (keys : JoinKeys) (a b : List Row) →
    IsPermutation (pairs kind v w (matches keys) a b) (by_merging kind v w keys a b)

-- where the left side may be built, so are the rows that are given from the right side
abbrev pub RowsFromTheRightAreTheJoin : Type 0
RowsFromTheRightAreTheJoin = (kind : JoinKind) (v w : ℕ) (keys : JoinKeys) (a b : List Row) → IsTrue (may_build kind Left) →
    IsPermutation (pairs kind v w (matches keys) a b) (right_to_left kind v keys a b)

-- a side that a way builds is one that the kind lets build
abbrev pub MayBuild : JoinWay → JoinKind → Type 0
MayBuild (way.ShuffledHash side) kind = IsTrue (may_build kind side)
MayBuild (way.Broadcast side) kind = IsTrue (may_build kind side)
MayBuild how kind = Unit {0}

-- whatever the way, the rows in its order are the rows of the join
abbrev pub RowsOfEachWayAreTheJoin : Type 0
RowsOfEachWayAreTheJoin = (how : JoinWay) (kind : JoinKind) (keys : JoinKeys) (v w : ℕ) (a b : List Row) → MayBuild how kind →
    IsPermutation (pairs kind v w (matches keys) a b) (join_rows how kind keys v w a b)

-- rows that match have equal key rows, since only values of one type are equal and NULL equals nothing
abbrev pub MatchingRowsHaveEqualKeys : Type 0
MatchingRowsHaveEqualKeys = (keys : JoinKeys) (x y : Row) → matches keys x y ≡ true → row_of keys.left x ≡ row_of keys.right y

-- and so they have one place by the hash of their keys
abbrev pub MatchingRowsHaveOnePlace : Type 0
MatchingRowsHaveOnePlace = (n : ℕ) (keys : JoinKeys) (x y : Row) → matches keys x y ≡ true → by_hash n keys.left x ≡ by_hash n keys.right y

-- two tests that agree at left rows of their width give the same rows
abbrev pub SameMatchesGiveTheSameRows : Type 0
SameMatchesGiveTheSameRows = (kind : JoinKind) (v w : ℕ) (meets others : Row → Row → Bool) (a b : List Row) →
    ((x y : Row) → length x ≡ v → meets x y ≡ others x y) → HaveWidth v a → pairs kind v w meets a b ≡ pairs kind v w others a b

-- Where rows that meet have one place, and the rows of both sides stand in the parts of their places, joining parts of one
-- number with each other gives the rows of the join of the wholes.
abbrev pub JoinsOfPlacedParts : Type 0
JoinsOfPlacedParts = (kind : JoinKind) (v w : ℕ) (meets : Row → Row → Bool) (f g : Row → ℕ) (as_ bs : List (List Row)) →
    ((x y : Row) → meets x y ≡ true → f x ≡ g y) → Placed f 0 as_ → Placed g 0 bs → length as_ ≡ length bs →
    IsPermutation (pairs kind v w meets (joined_parts as_) (joined_parts bs)) (joined_parts (side_by_side (pairs kind v w meets) as_ bs))

-- where the right side may be built, no right row is left over, and so it may be taken whole with each left part
abbrev pub JoinsWithAWholeRight : Type 0
JoinsWithAWholeRight = (kind : JoinKind) (v w : ℕ) (meets : Row → Row → Bool) (as_ : List (List Row)) (b : List Row) → IsTrue (may_build kind Right) →
    joined_parts (map (λ a. pairs kind v w meets a b) as_) ≡ pairs kind v w meets (joined_parts as_) b

-- and rows that are given from the right side may be given from each right part with the whole left side
abbrev pub JoinsWithAWholeLeft : Type 0
JoinsWithAWholeLeft = (kind : JoinKind) (v : ℕ) (keys : JoinKeys) (a : List Row) (bs : List (List Row)) →
    joined_parts (map (λ b. right_to_left kind v keys a b) bs) ≡ right_to_left kind v keys a (joined_parts bs)

-- where a way joins parts of one number with each other, the rows of both sides stand in the parts of their places
abbrev pub StandTogether : JoinWay → (Row → ℕ) → (Row → ℕ) → List (List Row) → List (List Row) → Type 0
StandTogether way.SortMerge f g as_ bs = Placed f 0 as_ × Placed g 0 bs
StandTogether (way.ShuffledHash side) f g as_ bs = Placed f 0 as_ × Placed g 0 bs
StandTogether how f g as_ bs = Unit {0}

-- The joined parts of two sides, end to end, are the rows of the join of the wholes: whatever the way, where its sides serve
-- and rows that match have one place.
abbrev pub JoinedSidesOverAPlace : Type 0
JoinedSidesOverAPlace =
    (how : JoinWay) (kind : JoinKind) (keys : JoinKeys) (v w : ℕ) (f g : Row → ℕ) (as_ bs : List (List Row)) →
    ((x y : Row) → matches keys x y ≡ true → f x ≡ g y) → SidesServe how kind (length as_) (length bs) → StandTogether how f g as_ bs →
    IsPermutation (pairs kind v w (matches keys) (joined_parts as_) (joined_parts bs)) (joined_parts (joined_sides how (join_rows how kind keys v w) as_ bs))

-- so are those of sides that stand by the hash of their keys
abbrev pub JoinedSidesAreTheJoin : Type 0
JoinedSidesAreTheJoin =
    (how : JoinWay) (kind : JoinKind) (keys : JoinKeys) (v w n : ℕ) (as_ bs : List (List Row)) →
    SidesServe how kind (length as_) (length bs) → StandTogether how (by_hash n keys.left) (by_hash n keys.right) as_ bs →
    IsPermutation (pairs kind v w (matches keys) (joined_parts as_) (joined_parts bs)) (joined_parts (joined_sides how (join_rows how kind keys v w) as_ bs))
