-- Where the rows of a join stand.
use Rattle.std.proofs.Common.{◌≡◌, ℕ, ◌+◌, Bool, true, false, List, [], ◌∷◌, ◌++◌, map, length, refl, ap, ◌∙◌, subst}
use Rattle.std.specs.Prelude.{filter, All}
use Rattle.std.specs.Ordering.{is_lt}
use Rattle.std.proofs.lemmas.List.{length-map}
use Rattle.std.proofs.lemmas.List.Elements.{All-nil, All-append, All-weaker}
use Rattle.aqe_base.specs.declared.join_kind.JoinKind.{JoinKind}
use Rattle.aqe_base.specs.declared.join_kind.JoinKind.TheVariants.{Inner, Cross, LeftOuter, RightOuter, FullOuter, LeftSemi, LeftAnti}
use Rattle.aqe_base.specs.declared.join_kind.Side.TheVariants.{Left, Right}
use Rattle.aqe_base.specs.Joins.{may_build}
use Rattle.aqe_values.specs.KeyOrder.{key_order}
use Rattle.aqe_values.specs.Murmur.{hash_place}
use Rattle.aqe_expr.specs.declared.expr.Expr.{Expr}
use Rattle.aqe_logical.specs.declared.plan.Placement.{Placement}
use Rattle.aqe_logical.specs.declared.plan.Placement.TheVariants as place
use Rattle.aqe_logical.specs.declared.plan.SortKey.{SortKey}
use Rattle.aqe_logical.specs.Answers.{Row}
use Rattle.aqe_logical.specs.Groups.{row_of}
use Rattle.aqe_logical.specs.Order.{ways_of, key_of, before}
use Rattle.aqe_logical.specs.WellFormed.{ItemsBelow, HaveWidth}
use Rattle.aqe_partial.specs.PartialRows.{joined_parts}
use Rattle.aqe_physical.proofs.Walk.{all_left, all_right}
use Rattle.aqe_places.specs.Places.{by_hash, by_range}
use Rattle.aqe_places.specs.Laws.{Placed, PartsInOrder}
use Rattle.aqe_join_rows.specs.declared.join_keys.JoinKeys.{JoinKeys}
use Rattle.aqe_physical.specs.declared.target.JoinWay.{JoinWay}
use Rattle.aqe_physical.specs.declared.target.JoinWay.TheVariants as way
use Rattle.aqe_stages.specs.Places.{key_less}
use Rattle.aqe_stages.specs.Parts.{join_rows, side_by_side, joined_sides}
use Rattle.aqe_stages.proofs.Counted.{side_count}
use Rattle.aqe_fitting.specs.Placing.{behind, after_join, placed_behind}
use Rattle.aqe_fitting.specs.Planning.{is_by_parts}
use Rattle.aqe_fit_laws.specs.Standing.{Cut, Stands, plainly}
use Rattle.aqe_fit_laws.specs.Serving.{KeysOver}
use Rattle.aqe_fit_laws.specs.Laws.{JoinsByPartsMovePlaces, JoinsKeepTheLeftPlace, JoinsMoveTheRightPlace}
use Rattle.aqe_fit_laws.proofs.GroupPlaces.{all_both}
use Rattle.aqe_fit_laws.proofs.JoinedRows.{KeepsLeft, KeepsRight, InFront, Behind, rows_of_left, rows_of_right}
use Rattle.aqe_fit_laws.proofs.JoinedKeys.{row_in_front, key_in_front, row_behind, key_behind, keys_behind, same_ways}

-- What is made of each part by itself, where each row that is made of a part is one that its rows Q make by R.
module _ (g : List Row → List Row) (Q : Row → Type 0) (R : Row → Row → Type 0)
    (only : (P : Row → Type 0) (part : List Row) → All Q part → All (λ x. (z : Row) → R x z → P z) part → All P (g part)) where
  carried : (P P2 : Row → Type 0) → ((x z : Row) → Q x → R x z → P x → P2 z) → (part : List Row) → All Q part → All P part → All P2 (g part)
  carried P P2 to part q h =
      only P2 part q (All-weaker (λ x. Q x × P x) (λ x. (z : Row) → R x z → P2 z) (λ x both z r. to x z both.0 r both.1) part (all_both Q P part q h))

  pub placed_carried : (f f2 : Row → ℕ) → ((x z : Row) → Q x → R x z → f2 z ≡ f x) → (a : ℕ) (parts : List (List Row)) → All Q (joined_parts parts) → Placed f a parts → Placed f2 a (map g parts)
  placed_carried f f2 same a [] q h = tt
  placed_carried f f2 same a (part ∷ parts) q (h, k) = (
    carried (λ row. f row ≡ a) (λ row. f2 row ≡ a) (λ x z one r e. same x z one r ∙ e) part (all_left Q part (joined_parts parts) q) h,
    placed_carried f f2 same (a + 1) parts (all_right Q part (joined_parts parts) q) k,
  )

  later_carried : (P P2 : Row → Type 0) → ((x z : Row) → Q x → R x z → P x → P2 z) → (parts : List (List Row)) → All Q (joined_parts parts) → All P (joined_parts parts) → All P2 (joined_parts (map g parts))
  later_carried P P2 to [] q h = All-nil P2
  later_carried P P2 to (part ∷ parts) q h =
      All-append P2 (g part) (joined_parts (map g parts))
      (carried P P2 to part (all_left Q part (joined_parts parts) q) (all_left P part (joined_parts parts) h))
      (later_carried P P2 to parts (all_right Q part (joined_parts parts) q) (all_right P part (joined_parts parts) h))

  pub order_carried : (less less2 : Row → Row → Bool) → ((x z y u : Row) → Q x → R x z → Q y → R y u → less2 u z ≡ less y x) → (parts : List (List Row)) → All Q (joined_parts parts) → PartsInOrder less parts → PartsInOrder less2 (map g parts)
  order_carried less less2 same [] q h = tt
  order_carried less less2 same (part ∷ parts) q (h, k) = (
    carried (λ x. All (λ y. less y x ≡ false) (joined_parts parts)) (λ z. All (λ u. less2 u z ≡ false) (joined_parts (map g parts)))
        (λ x z one r all. later_carried (λ y. less y x ≡ false) (λ u. less2 u z ≡ false) (λ y u other s e. same x z y u one r other s ∙ e) parts (all_right Q part (joined_parts parts) q) all)
        part (all_left Q part (joined_parts parts) q) h,
    order_carried less less2 same parts (all_right Q part (joined_parts parts) q) k,
  )

  module _ (n : ℕ) (cut : Cut) (parts : List (List Row)) (all : All Q (joined_parts parts)) where
    -- keys that are spelled anew over what is made have the values that they had
    pub hash_carried : (keys others : List Expr) → ((x z : Row) → Q x → R x z → row_of others z ≡ row_of keys x) → Stands n cut (place.Hash keys) parts → Stands n cut (place.Hash others) (map g parts)
    hash_carried keys others same (count, h) = (
      length-map parts g ∙ count,
      placed_carried (λ row. cut.number (by_hash n keys row)) (λ row. cut.number (by_hash n others row)) (λ x z one r. ap (λ k. cut.number (hash_place n k)) (same x z one r)) 0 parts all h,
    )

    pub range_carried : (keys others : List SortKey) → ways_of others ≡ ways_of keys → ((x z : Row) → Q x → R x z → key_of others z ≡ key_of keys x) → Stands n cut (place.Range keys) parts → Stands n cut (place.Range others) (map g parts)
    range_carried keys others ways same (order, bounds, h) = (
      order_carried (before keys) (before others) (λ x z y u one r other s. (λ i. is_lt (key_order (ways i) (same y u other s i) (same x z one r i)))) parts all order,
      bounds,
      placed_carried (λ row. cut.number (by_range (key_less keys) bounds (key_of keys) row)) (λ row. cut.number (by_range (key_less others) bounds (key_of others) row))
          (λ x z one r. (λ i. cut.number (length (filter (λ bound. is_lt (key_order (ways i) bound (same x z one r i))) bounds)))) 0 parts all h,
    )

-- a row that begins with another, and one that ends with another behind v values
abbrev Begins : Row → Row → Type 0
Begins x z = (more : Row) × (z ≡ x ++ more)

abbrev Ends : ℕ → Row → Row → Type 0
Ends v y z = (front : Row) × (length front ≡ v) × (z ≡ front ++ y)

-- the kinds that let a side be built keep the other one
keeps_left : (kind : JoinKind) → may_build kind Right ≡ true → KeepsLeft kind
keeps_left Inner h = tt
keeps_left Cross h = tt
keeps_left LeftOuter h = tt
keeps_left RightOuter h = absurd (cc)
keeps_left FullOuter h = absurd (cc)
keeps_left LeftSemi h = tt
keeps_left LeftAnti h = tt

pub keeps_right : (kind : JoinKind) → may_build kind Left ≡ true → KeepsRight kind
keeps_right Inner h = tt
keeps_right Cross h = tt
keeps_right LeftOuter h = absurd (cc)
keeps_right RightOuter h = tt
keeps_right FullOuter h = absurd (cc)
keeps_right LeftSemi h = absurd (cc)
keeps_right LeftAnti h = absurd (cc)

-- where one side is taken whole with each part of the other, that other side stands as it did
module _ (how : JoinWay) (kind : JoinKind) (keys : JoinKeys) (v w n : ℕ) (cut : Cut) where
  module _ (keeps : KeepsLeft kind) (bs : List Row) where
    left_only : (P : Row → Type 0) (part : List Row) → HaveWidth v part → All (λ x. (z : Row) → Begins x z → P z) part → All P (join_rows how kind keys v w part bs)
    left_only P part q h =
        rows_of_left P kind keys v w keeps how part bs
        (All-weaker (λ x. (z : Row) → Begins x z → P z) (InFront P) (λ x all more. all (x ++ more) (more, refl)) part h)

    left_stays : (u : Placement) (as_ : List (List Row)) → KeysOver v u → HaveWidth v (joined_parts as_) → Stands n cut u as_ → Stands n cut u (map (λ a. join_rows how kind keys v w a bs) as_)
    left_stays place.Any as_ over wide h = tt
    left_stays place.Single as_ over wide h = length-map as_ (λ a. join_rows how kind keys v w a bs) ∙ h
    left_stays (place.Hash others) as_ over wide h =
        hash_carried (λ a. join_rows how kind keys v w a bs) (λ x. length x ≡ v) Begins left_only n cut as_ wide others others
        (λ x z q r. ap (row_of others) r.1 ∙ row_in_front v others over x r.0 q) h
    left_stays (place.Range others) as_ over wide h =
        range_carried (λ a. join_rows how kind keys v w a bs) (λ x. length x ≡ v) Begins left_only n cut as_ wide others others refl
        (λ x z q r. ap (key_of others) r.1 ∙ key_in_front v others over x r.0 q) h
    left_stays place.Broadcast as_ over wide h = tt

  module _ (keeps : KeepsRight kind) (as_ : List Row) (left_wide : HaveWidth v as_) where
    right_only : (P : Row → Type 0) (part : List Row) → HaveWidth w part → All (λ y. (z : Row) → Ends v y z → P z) part → All P (join_rows how kind keys v w as_ part)
    right_only P part q h =
        rows_of_right P v kind keys w keeps how as_ part left_wide
        (All-weaker (λ y. (z : Row) → Ends v y z → P z) (Behind P v) (λ y all front e. all (front ++ y) (front, e, refl)) part h)

    right_stays : (u : Placement) (bs : List (List Row)) → HaveWidth w (joined_parts bs) → Stands n cut u bs → Stands n cut (placed_behind v w u) (map (λ b. join_rows how kind keys v w as_ b) bs)
    right_stays place.Any bs wide h = tt
    right_stays place.Single bs wide h = length-map bs (λ b. join_rows how kind keys v w as_ b) ∙ h
    right_stays (place.Hash others) bs wide h =
        hash_carried (λ b. join_rows how kind keys v w as_ b) (λ y. length y ≡ w) (Ends v) right_only n cut bs wide others (map (behind v w) others)
        (λ y z q r. ap (row_of (map (behind v w) others)) r.2 ∙ row_behind v w others r.0 y r.1 q) h
    right_stays (place.Range others) bs wide h =
        range_carried (λ b. join_rows how kind keys v w as_ b) (λ y. length y ≡ w) (Ends v) right_only n cut bs wide others (map (key_behind v w) others) (same_ways v w others)
        (λ y z q r. ap (key_of (map (key_behind v w) others)) r.2 ∙ keys_behind v w others r.0 y r.1 q) h
    right_stays place.Broadcast bs wide h = tt

-- what holds of the rows of each part by its number
abbrev EachPart : (ℕ → Row → Type 0) → ℕ → List (List Row) → Type 0
EachPart A k [] = Unit {0}
EachPart A k (part ∷ parts) = All (A k) part × EachPart A (k + 1) parts

each_part : (f : Row → ℕ) (Q : Row → Type 0) (k : ℕ) (parts : List (List Row)) → Placed f k parts → All Q (joined_parts parts) → EachPart (λ k x. (f x ≡ k) × Q x) k parts
each_part f Q k [] h q = tt
each_part f Q k (part ∷ parts) (h, more) q = (
  all_both (λ x. f x ≡ k) Q part h (all_left Q part (joined_parts parts) q),
  each_part f Q (k + 1) parts more (all_right Q part (joined_parts parts) q),
)

module _ (join : List Row → List Row → List Row) (g : Row → ℕ) (A B : ℕ → Row → Type 0)
    (puts : (k : ℕ) (a b : List Row) → All (A k) a → All (B k) b → All (λ row. g row ≡ k) (join a b)) where
  placed_beside : (k : ℕ) (as_ bs : List (List Row)) → EachPart A k as_ → EachPart B k bs → Placed g k (side_by_side join as_ bs)
  placed_beside k [] bs h q = tt
  placed_beside k (a ∷ as_) [] (h, more) q = (puts k a [] h (All-nil (B k)), placed_beside (k + 1) as_ [] more tt)
  placed_beside k (a ∷ as_) (b ∷ bs) (h, more) (q, rest) = (puts k a b h q, placed_beside (k + 1) as_ bs more rest)

-- Parts by the hash of the keys of each side, taken together: the rows stand by the hash of the keys of the side that is kept.
module _ (how : JoinWay) (kind : JoinKind) (keys : JoinKeys) (v w n : ℕ) (as_ bs : List (List Row))
    (left_over : ItemsBelow v keys.left) (left_wide : HaveWidth v (joined_parts as_)) (right_wide : HaveWidth w (joined_parts bs))
    (left : Stands n (plainly n) (place.Hash keys.left) as_) (right : Stands n (plainly n) (place.Hash keys.right) bs) where
  abbrev LeftAt : ℕ → Row → Type 0
  LeftAt k x = (by_hash n keys.left x ≡ k) × (length x ≡ v)

  abbrev RightAt : ℕ → Row → Type 0
  RightAt k y = (by_hash n keys.right y ≡ k) × (length y ≡ w)

  abbrev Matched : List Expr → Type 0
  Matched others = Stands n (plainly n) (place.Hash others) (side_by_side (join_rows how kind keys v w) as_ bs)

  lefts : EachPart LeftAt 0 as_
  lefts = each_part (by_hash n keys.left) (λ x. length x ≡ v) 0 as_ left.1 left_wide

  rights : EachPart RightAt 0 bs
  rights = each_part (by_hash n keys.right) (λ y. length y ≡ w) 0 bs right.1 right_wide

  by_left_keys : KeepsLeft kind → Matched keys.left
  by_left_keys keeps = (
    side_count (join_rows how kind keys v w) as_ bs ∙ left.0,
    placed_beside (join_rows how kind keys v w) (by_hash n keys.left) LeftAt RightAt
        (λ k a b h q. rows_of_left (λ row. by_hash n keys.left row ≡ k) kind keys v w keeps how a b
        (All-weaker (LeftAt k) (InFront (λ row. by_hash n keys.left row ≡ k)) (λ x at more. ap (hash_place n) (row_in_front v keys.left left_over x more at.1) ∙ at.0) a h)) 0 as_ bs lefts rights,
  )

  by_right_keys : KeepsRight kind → Matched (map (behind v w) keys.right)
  by_right_keys keeps = (
    side_count (join_rows how kind keys v w) as_ bs ∙ left.0,
    placed_beside (join_rows how kind keys v w) (by_hash n (map (behind v w) keys.right)) LeftAt RightAt
        (λ k a b h q. rows_of_right (λ row. by_hash n (map (behind v w) keys.right) row ≡ k) v kind keys w keeps how a b
        (All-weaker (LeftAt k) (λ x. length x ≡ v) (λ x at. at.1) a h)
        (All-weaker (RightAt k) (Behind (λ row. by_hash n (map (behind v w) keys.right) row ≡ k) v)
        (λ y at front long. ap (hash_place n) (row_behind v w keys.right front y long at.1) ∙ at.0) b q)) 0 as_ bs lefts rights,
  )

  beside_stands : (other : JoinKind) → other ≡ kind → Stands n (plainly n) (after_join other keys v w) (side_by_side (join_rows how kind keys v w) as_ bs)
  beside_stands Inner e = by_left_keys (subst KeepsLeft e tt)
  beside_stands Cross e = by_left_keys (subst KeepsLeft e tt)
  beside_stands LeftOuter e = by_left_keys (subst KeepsLeft e tt)
  beside_stands RightOuter e = by_right_keys (subst KeepsRight e tt)
  beside_stands FullOuter e = tt
  beside_stands LeftSemi e = by_left_keys (subst KeepsLeft e tt)
  beside_stands LeftAnti e = by_left_keys (subst KeepsLeft e tt)

-- the ways that join part by part
by_parts_stand : (how : JoinWay) (kind : JoinKind) (keys : JoinKeys) (v w n : ℕ) (as_ bs : List (List Row)) → is_by_parts how ≡ true → ItemsBelow v keys.left →
    HaveWidth v (joined_parts as_) → HaveWidth w (joined_parts bs) → Stands n (plainly n) (place.Hash keys.left) as_ → Stands n (plainly n) (place.Hash keys.right) bs →
    Stands n (plainly n) (after_join kind keys v w) (joined_sides how (join_rows how kind keys v w) as_ bs)
by_parts_stand way.SortMerge kind keys v w n as_ bs h below a b s t = beside_stands way.SortMerge kind keys v w n as_ bs below a b s t kind refl
by_parts_stand (way.ShuffledHash side) kind keys v w n as_ bs h below a b s t = beside_stands (way.ShuffledHash side) kind keys v w n as_ bs below a b s t kind refl
by_parts_stand (way.Broadcast side) kind keys v w n as_ bs h below a b s t = absurd (cc)
by_parts_stand way.NestedLoop kind keys v w n as_ bs h below a b s t = absurd (cc)

pub parts_joined : JoinsByPartsMovePlaces
parts_joined n how kind keys v w as_ bs h below a b s t = by_parts_stand how kind keys v w n as_ bs h below a b s t

pub left_kept : JoinsKeepTheLeftPlace
left_kept n cut kind keys v w u as_ b h over wide s = left_stays (way.Broadcast Right) kind keys v w n cut (keeps_left kind h) b u as_ over wide s

pub right_moved : JoinsMoveTheRightPlace
right_moved n cut kind keys v w u a bs h left_wide wide s = right_stays (way.Broadcast Left) kind keys v w n cut (keeps_right kind h) a left_wide u bs wide s
