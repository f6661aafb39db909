-- The parts of a first plan can be numbered: each leaf of the query brings at most those of its files or of an exchange, and a union has those of both sides.
use Rattle.std.proofs.Common.{◌≡◌, ℕ, ◌+◌, ◌*◌, ◌<◌, ◌≤◌, ◌^◌, List, [], ◌∷◌, ◌++◌, length, filter, zero, suc, Bool, true, false, ◌&&◌, refl, ap, sym, subst, ◌∙◌, arith}
use Rattle.std.specs.Prelude.{All, IsTrue, max}
use Rattle.std.proofs.Math.Nat.{add-mul, one-mul, mul-le-mul_right}
use Rattle.std.proofs.lemmas.List.Elements.{All-head, All-tail}
use Rattle.aqe_base.specs.declared.join_kind.JoinKind.{JoinKind}
use Rattle.aqe_base.specs.declared.join_kind.Side.TheVariants.{Left, Right}
use Rattle.aqe_expr.specs.declared.expr.Expr.{Expr}
use Rattle.aqe_logical.specs.declared.plan.Placement.{Placement}
use Rattle.aqe_logical.specs.declared.plan.Logical.{Logical, OneRow, Scan, Empty, Held, HeldPartial}
use Rattle.aqe_logical.specs.Shapes.{filtered, projected, joined, aggregated, united, sorted, limited, sampled}
use Rattle.aqe_logical.specs.Nodes.{nodes, is_leaf, leaf_count}
use Rattle.aqe_logical.proofs.Nodes.{count_two}
use Rattle.aqe_join_rows.specs.declared.join_keys.JoinKeys.{JoinKeys}
use Rattle.aqe_physical.specs.declared.sizes.Estimate.{Estimate}
use Rattle.aqe_physical.specs.declared.target.Target.{Target}
use Rattle.aqe_physical.specs.declared.target.JoinWay.{JoinWay}
use Rattle.aqe_physical.specs.declared.target.JoinWay.TheVariants as way
use Rattle.aqe_physical.specs.declared.plan.Plan.{Plan}
use Rattle.aqe_physical.specs.Shapes.{matched}
use Rattle.aqe_physical.specs.Counts.{part_count, target_count, join_count}
use Rattle.aqe_physical.proofs.Nodes.{Each, all_nodes}
use Rattle.aqe_settings.specs.Values.{partitions}
use Rattle.aqe_fitting.specs.InForce.{in_force}
use Rattle.aqe_fitting.specs.Known.{files_of}
use Rattle.aqe_fitting.specs.Placing.{Asks, groups_target}
use Rattle.aqe_fitting.specs.Ways.{ways_by_sizes}
use Rattle.aqe_fitting.specs.Planning as table
use Rattle.aqe_fitting.specs.Planning.{Planned, Brought, stays, goes}
use Rattle.aqe_planner.specs.Built.{is_built, IsBuilt}
use Rattle.aqe_replan.specs.Laws.{FirstPlansHaveFewParts, HasFewFiles}

abbrev Fits : Plan → Type 0
Fits node = part_count node < 2 ^ 32

not_built : false ≡ true → ⊥
not_built h = cc (h)

pub both_left : (a b : Bool) → IsTrue (a && b) → IsTrue a
both_left true b h = refl
both_left false b h = absurd (not_built h)

pub both_right : (a b : Bool) → IsTrue (a && b) → IsTrue b
both_right true b h = h
both_right false b h = absurd (not_built h)

-- each plan has a leaf
some_leaf : (x : Logical) → 1 ≤ leaf_count x
some_leaf OneRow = omega arith
some_leaf (Scan table schema) = omega arith
some_leaf (filtered condition child) = some_leaf child
some_leaf (projected items schema child) = some_leaf child
some_leaf (joined kind condition left right) = omega (arith, count_two is_leaf left right, some_leaf left)
some_leaf (aggregated keys calls schema child) = some_leaf child
some_leaf (united left right) = omega (arith, count_two is_leaf left right, some_leaf left)
some_leaf (sorted keys child) = some_leaf child
some_leaf (limited count skip child) = some_leaf child
some_leaf (Empty schema) = omega arith
some_leaf (Held stage place schema) = omega arith
some_leaf (HeldPartial stage calls schema) = omega arith
some_leaf (sampled stage child) = some_leaf child

-- where a leaf brings at most so many parts, a scan and an exchange among them
module _ (most : ℕ) (some : 1 ≤ most) where
  -- what the leaves of a plan bring
  abbrev room : Logical → ℕ
  room x = leaf_count x * most

  most_in : (x : Logical) → most ≤ room x
  most_in x = let below = mul-le-mul_right most (some_leaf x) in let one = one-mul most in omega (arith, below, one)

  one_in : (x : Logical) → 1 ≤ room x
  one_in x = let most_below = most_in x in omega (arith, some, most_below)

  both_rooms : (x y : Logical) → length (filter is_leaf (nodes x ++ nodes y)) * most ≡ room x + room y
  both_rooms x y = ap (λ k. k * most) (count_two is_leaf x y) ∙ add-mul (leaf_count x) (leaf_count y) most

  scan_few : (count : ℕ) → count ≤ most → max 1 count ≤ most
  scan_few zero h = some
  scan_few (suc count) h = let e : suc count ≡ max 1 (suc count) = omega arith in subst (λ k. k ≤ most) e h

  groups_few : (n count : ℕ) → n ≤ most → target_count (groups_target n count) ≤ most
  groups_few n zero h = some
  groups_few n (suc count) h = h

  files_few : (estimates : List Estimate) (index : ℕ) → All (HasFewFiles most) estimates → files_of estimates index ≤ most
  files_few [] index h = omega arith
  files_few (e ∷ estimates) zero h = All-head (HasFewFiles most) e estimates h
  files_few (e ∷ estimates) (suc index) h = files_few estimates index (All-tail (HasFewFiles most) e estimates h)

  -- a plan has no more parts than its leaves bring, and each plan within it has parts that can be numbered
  abbrev IsFew : Logical → Plan → Type 0
  IsFew x p = (part_count p ≤ room x) × Each Fits p

  abbrev CanBeNumbered : Logical → Type 0
  CanBeNumbered x = room x < 2 ^ 32

  fits : (x : Logical) (count : ℕ) → CanBeNumbered x → count ≤ room x → count < 2 ^ 32
  fits x count c h = omega (arith, c, h)

  -- a side that is brought has as many parts as before, or those of an exchange
  brought_few : (x : Logical) (asks : Asks) (to : Target) (p : Plan) (w : Placement) (q : Plan) → CanBeNumbered x → target_count to ≤ most → Brought asks to p w q → IsFew x p → IsFew x q
  brought_few x asks to p w q c few (stays r u s) h = h
  brought_few x asks to p w q c few (goes r u s) h =
      let most_below = most_in x in
      let sent : target_count to ≤ room x = omega (arith, few, most_below) in
      (sent, (fits x (target_count to) c sent, h.1))

  join_few : (how : JoinWay) (m n a b : ℕ) → 1 ≤ a → m ≤ a → n ≤ b → join_count how m n ≤ a + b
  join_few way.SortMerge m n a b s h k = omega (arith, h)
  join_few (way.ShuffledHash side) m n a b s h k = omega (arith, h)
  join_few (way.Broadcast Left) m n a b s h k = omega (arith, k)
  join_few (way.Broadcast Right) m n a b s h k = omega (arith, h)
  join_few way.NestedLoop m n a b s h k = omega (arith, s)

  module _ (ways : JoinKind → Logical → Logical → JoinWay → Type 0) (n : ℕ) (files : ℕ → ℕ) (few : n ≤ most) (few_files : (index : ℕ) → files index ≤ most) where
    -- a side of a join or of a union can be numbered where both together can
    left_room : (x y : Logical) → length (filter is_leaf (nodes x ++ nodes y)) * most < 2 ^ 32 → CanBeNumbered x
    left_room x y c = let both = both_rooms x y in omega (arith, both, c)

    right_room : (x y : Logical) → length (filter is_leaf (nodes x ++ nodes y)) * most < 2 ^ 32 → CanBeNumbered y
    right_room x y c = let both = both_rooms x y in omega (arith, both, c)

    -- a plan over both sides that has no more parts than both together
    over : (x y : Logical) (count : ℕ) → count ≤ room x + room y → count ≤ length (filter is_leaf (nodes x ++ nodes y)) * most
    over x y count h = let both = both_rooms x y in omega (arith, both, h)

    joined_few : (kind : JoinKind) (condition : Expr) (x y : Logical) (how : JoinWay) (keys : JoinKeys) (v w : ℕ) (p q : Plan) → CanBeNumbered (joined kind condition x y) → IsFew x p → IsFew y q → IsFew (joined kind condition x y) (matched how kind keys v w p q)
    joined_few kind condition x y how keys v w p q c h k =
        let here = over x y (join_count how (part_count p) (part_count q)) (join_few how (part_count p) (part_count q) (room x) (room y) (one_in x) h.0 k.0) in
        (here, (fits (joined kind condition x y) _ c here, h.1, k.1))

    counted : (x : Logical) (p : Plan) (w : Placement) → Planned ways n files x p w → IsBuilt x → CanBeNumbered x → IsFew x p
    counted x p w table.a_row h c = (one_in OneRow, fits OneRow 1 c (one_in OneRow))
    counted x p w (table.a_scan t schema count e) h c =
        let small = scan_few count (subst (λ k. k ≤ most) (sym e) (few_files t)) in
        let most_below = most_in (Scan t schema) in
        let here : max 1 count ≤ room (Scan t schema) = omega (arith, small, most_below) in
        (here, fits (Scan t schema) (max 1 count) c here)
    counted x q w (table.a_filter condition y p u d) h c = let below = counted y p u d h c in (below.0, (fits y (part_count p) c below.0, below.1))
    counted x q w (table.a_project items schema y p u out d e) h c = let below = counted y p u d h c in (below.0, (fits y (part_count p) c below.0, below.1))
    counted x q w (table.groups_here keys calls schema count y p u out d s e f) h c =
        let below = counted y p u d h c in
        let here = fits y (part_count p) c below.0 in
        (below.0, (here, (here, below.1)))
    counted x q w (table.groups_moved keys calls schema count to y p u out d s e f g) h c =
        let below = counted y p u d h c in
        let sent = subst (λ (t : Target). target_count t ≤ most) (sym f) (groups_few n count few) in
        let most_below = most_in y in
        let all : target_count to ≤ room y = omega (arith, sent, most_below) in
        let here = fits y (target_count to) c all in
        (all, (here, (here, (fits y (part_count p) c below.0, below.1))))
    counted x q w (table.by_parts how k condition keys v l a b p p1 r r1 u z out d e cut has by o b1 b2 f) h c =
        joined_few k condition a b how keys v l p1 r1 c
        (brought_few a _ _ p u p1 (left_room a b c) few b1 (counted a p u d (both_left (is_built a) (is_built b) h) (left_room a b c)))
        (brought_few b _ _ r z r1 (right_room a b c) few b2 (counted b r z e (both_right (is_built a) (is_built b) h) (right_room a b c)))
    counted x q w (table.by_whole_right k condition keys v l a b p r r1 u z d e cut has o b1) h c =
        joined_few k condition a b (way.Broadcast Right) keys v l p r1 c
        (counted a p u d (both_left (is_built a) (is_built b) h) (left_room a b c))
        (brought_few b _ _ r z r1 (right_room a b c) some b1 (counted b r z e (both_right (is_built a) (is_built b) h) (right_room a b c)))
    counted x q w (table.by_whole_left k condition keys v l a b p p1 r u z out d e cut has o b1 f) h c =
        joined_few k condition a b (way.Broadcast Left) keys v l p1 r c
        (brought_few a _ _ p u p1 (left_room a b c) some b1 (counted a p u d (both_left (is_built a) (is_built b) h) (left_room a b c)))
        (counted b r z e (both_right (is_built a) (is_built b) h) (right_room a b c))
    counted x q w (table.by_loop k condition keys v l a b p p1 r r1 u z d e cut has b1 b2) h c =
        joined_few k condition a b way.NestedLoop keys v l p1 r1 c
        (brought_few a _ _ p u p1 (left_room a b c) some b1 (counted a p u d (both_left (is_built a) (is_built b) h) (left_room a b c)))
        (brought_few b _ _ r z r1 (right_room a b c) some b2 (counted b r z e (both_right (is_built a) (is_built b) h) (right_room a b c)))
    counted x q w (table.a_union a b p r u z d e) h c =
        let left = counted a p u d (both_left (is_built a) (is_built b) h) (left_room a b c) in
        let right = counted b r z e (both_right (is_built a) (is_built b) h) (right_room a b c) in
        let first = left.0 in
        let second = right.0 in
        let here = over a b (part_count p + part_count r) (omega (arith, first, second)) in
        (here, (fits (united a b) (part_count p + part_count r) c here, left.1, right.1))
    counted x q w (table.sort_here keys y p u d s) h c = let below = counted y p u d h c in (below.0, (fits y (part_count p) c below.0, below.1))
    counted x q w (table.sort_moved keys sample y p u d s e) h c =
        let below = counted y p u d h c in
        let most_below = most_in y in
        let all : n ≤ room y = omega (arith, few, most_below) in
        let here = fits y n c all in
        (all, (here, (here, below.1)))
    counted x q w (table.limit_here count skip y p u d s) h c = let below = counted y p u d h c in (below.0, (fits y (part_count p) c below.0, below.1))
    counted x q w (table.limit_moved count skip first y p u d s e) h c =
        let below = counted y p u d h c in
        let here = fits y 1 c (one_in y) in
        (one_in y, (here, (here, (fits y (part_count p) c below.0, below.1))))
    counted x q w (table.skip_moved skip y p u d s) h c =
        let below = counted y p u d h c in
        let here = fits y 1 c (one_in y) in
        (one_in y, (here, (here, below.1)))
    counted x p w d h c = absurd (not_built h)

pub few_parts : FirstPlansHaveFewParts
few_parts plan x estimates sizes settings most fits_all built some room few files =
    all_nodes Fits plan (counted most some (ways_by_sizes estimates sizes (in_force settings)) (partitions settings) (files_of estimates) few
    (λ index. files_few most some estimates index files) x plan fits_all.0.0 fits_all.0.1 built room).1
