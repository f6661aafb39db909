-- Joins serve, where their sides do.
use Rattle.std.proofs.Common.{◌≡◌, ℕ, ◌+◌, ◌≤◌, Bool, true, false, cond, List, ◌++◌, length, refl, sym, ◌∙◌, arith, subst, length-append}
use Rattle.std.specs.Prelude.{All, IsPermutation}
use Rattle.std.proofs.lemmas.List.Elements.{All-weaker}
use Rattle.std.proofs.lemmas.List.Sorted.{IsPermutation-trans}
use Rattle.aqe_base.specs.declared.join_kind.JoinKind.{JoinKind}
use Rattle.aqe_base.specs.declared.join_kind.JoinKind.TheVariants.{Inner, Cross, LeftOuter, RightOuter, FullOuter, LeftSemi, LeftAnti}
use Rattle.aqe_base.specs.declared.join_kind.Side.TheVariants.{Left, Right}
use Rattle.aqe_base.specs.Joins.{may_build}
use Rattle.aqe_values.specs.Bounds.{row_limit}
use Rattle.aqe_expr.specs.declared.expr.Expr.{Expr}
use Rattle.aqe_expr.specs.Meaning.{holds}
use Rattle.aqe_logical.specs.declared.plan.Placement.{Placement}
use Rattle.aqe_logical.specs.declared.plan.Placement.TheVariants as place
use Rattle.aqe_logical.specs.declared.plan.Logical.{Logical}
use Rattle.aqe_logical.specs.Shapes.{joined}
use Rattle.aqe_logical.specs.Answers.{Row, Tables, Answer, meets}
use Rattle.aqe_logical.specs.Columns.{width, schema_of, shows_right}
use Rattle.aqe_logical.specs.Joins.{pairs}
use Rattle.aqe_logical.specs.WellFormed.{HaveWidth, ItemsBelow, column_limit}
use Rattle.aqe_logical.proofs.Joined.{pairs-permuted}
use Rattle.aqe_places.specs.Places.{by_hash}
use Rattle.aqe_places.specs.Laws.{Placed}
use Rattle.aqe_join_rows.specs.declared.join_keys.JoinKeys.{JoinKeys}
use Rattle.aqe_join_rows.specs.Matching.{matches}
use Rattle.aqe_join_keys.specs.Keys.{keys_of}
use Rattle.aqe_join_keys.proofs.InPairs.{are_pairs}
use Rattle.aqe_join_keys.proofs.Meaning.{mean_the_condition}
use Rattle.aqe_join_keys.proofs.Sides.{over_their_sides}
use Rattle.aqe_join_laws.specs.Laws.{StandTogether}
use Rattle.aqe_join_laws.proofs.Agreeing.{same_matches}
use Rattle.aqe_join_laws.proofs.Sides.{sides_are_the_join}
use Rattle.aqe_physical.specs.declared.target.Target.TheVariants as target
use Rattle.aqe_physical.specs.declared.target.JoinWay.{JoinWay}
use Rattle.aqe_physical.specs.declared.target.JoinWay.TheVariants as way
use Rattle.aqe_physical.specs.declared.plan.Plan.{Plan}
use Rattle.aqe_physical.specs.Shapes.{matched}
use Rattle.aqe_physical.specs.Counts.{part_count}
use Rattle.aqe_stages.specs.Stages.{Stages}
use Rattle.aqe_stages.specs.Parts.{parts, given_by, all}
use Rattle.aqe_stages.specs.Runnable.{SidesServe, NarrowPairs}
use Rattle.aqe_stages.proofs.Counted.{counted}
use Rattle.aqe_fitting.specs.Laws.{may_be_built}
use Rattle.aqe_fitting.specs.Placing.{one_part, hash_of, whole, is_nothing, after_join, placed_behind}
use Rattle.aqe_fitting.specs.Planning.{Brought, IsCut, is_by_parts}
use Rattle.aqe_fit_laws.specs.Standing.{Stands, plainly}
use Rattle.aqe_fit_laws.specs.Leaves.{held_rows}
use Rattle.aqe_fit_laws.specs.Serving.{KeysOver}
use Rattle.aqe_fit_laws.proofs.Widths.{few_columns, narrow_keys, items_up}
use Rattle.aqe_fit_laws.proofs.NodeServes.{Fine, Served, narrow_answer}
use Rattle.aqe_fit_laws.proofs.JoinedRows.{KeepsRight}
use Rattle.aqe_fit_laws.proofs.JoinedKeys.{rows_below, over_more, over_behind}
use Rattle.aqe_fit_laws.proofs.JoinPlaces.{keeps_right, parts_joined, left_kept, right_moved}
use Rattle.aqe_fit_laws.proofs.JoinSides.{Brings, left_side, right_side, as_planned, brought_by_keys, brought_whole, brought_to_one}

-- the columns of a join are those of its sides
shown : {X : Type 0} (both : Bool) (xs ys : List X) → length xs ≤ length (cond both (xs ++ ys) xs)
shown true xs ys = let one = length-append xs ys in omega (arith, one)
shown false xs ys = omega arith

left_width : (kind : JoinKind) (condition : Expr) (x y : Logical) → width x ≤ width (joined kind condition x y)
left_width kind condition x y = shown (shows_right kind) (schema_of x) (schema_of y)

both_widths : (kind : JoinKind) (condition : Expr) (x y : Logical) → KeepsRight kind → width x + width y ≤ width (joined kind condition x y)
both_widths Inner condition x y k = let one = length-append (schema_of x) (schema_of y) in omega (arith, one)
both_widths Cross condition x y k = let one = length-append (schema_of x) (schema_of y) in omega (arith, one)
both_widths RightOuter condition x y k = let one = length-append (schema_of x) (schema_of y) in omega (arith, one)
both_widths LeftOuter condition x y k = absurd k
both_widths FullOuter condition x y k = absurd k
both_widths LeftSemi condition x y k = absurd k
both_widths LeftAnti condition x y k = absurd k

over_after : (kind : JoinKind) (keys : JoinKeys) (v w n : ℕ) → v ≤ n → (KeepsRight kind → v + w ≤ n) → ItemsBelow v keys.left → KeysOver n (after_join kind keys v w)
over_after Inner keys v w n le both below = items_up v n le keys.left below
over_after Cross keys v w n le both below = items_up v n le keys.left below
over_after LeftOuter keys v w n le both below = items_up v n le keys.left below
over_after RightOuter keys v w n le both below = rows_below v w n (both tt) keys.right
over_after FullOuter keys v w n le both below = tt
over_after LeftSemi keys v w n le both below = items_up v n le keys.left below
over_after LeftAnti keys v w n le both below = items_up v n le keys.left below

narrow_pairs : (v w : ℕ) (as_ bs : List Row) → v ≤ column_limit → w ≤ column_limit → HaveWidth v as_ → HaveWidth w bs → NarrowPairs as_ bs
narrow_pairs v w as_ bs few small h k =
    All-weaker (λ a. length a ≡ v) (λ a. All (λ b. length a + length b ≤ row_limit) bs)
    (λ a e. All-weaker (λ b. length b ≡ w) (λ b. length a + length b ≤ row_limit) (λ b d. omega (arith, e, d, few, small)) bs k) as_ h

-- what is known of the keys of a join
record Keyed (condition : Expr) (x y : Logical) (keys : JoinKeys) (v w : ℕ) : Type 0 where
  left : v ≡ width x
  right : w ≡ width y
  as_many : length keys.left ≡ length keys.right
  few : length keys.left ≤ column_limit
  below : ItemsBelow v keys.left
  mean : (a b : Row) → length a ≡ v → matches keys a b ≡ holds condition (a ++ b)

module _ (tables : Tables) (stages : Stages) (n : ℕ) (files : ℕ → ℕ) (some : 1 ≤ n) where
  abbrev PartsOf : Plan → List (List Row)
  PartsOf p = parts tables (given_by tables stages) p

  abbrev FineAt : Logical → Type 0
  FineAt x = Fine tables stages n files some x

  abbrev ServedAt : Logical → Plan → Placement → Type 0
  ServedAt x p w = Served tables stages n files some x p w

  abbrev BringsAt : Logical → Plan → Type 0
  BringsAt x p = Brings tables stages n files some x p

  keyed : (kind : JoinKind) (condition : Expr) (x y : Logical) (keys : JoinKeys) (v w : ℕ) → FineAt (joined kind condition x y) → IsCut condition x y keys v w → Keyed condition x y keys v w
  keyed kind condition x y keys v w fine (k, l, r) =
      subst (λ (ks : JoinKeys). Keyed condition x y ks v w) (sym k)
      (subst (λ (a : ℕ). Keyed condition x y (keys_of condition (width x)) a w) (sym l)
      (subst (λ (b : ℕ). Keyed condition x y (keys_of condition (width x)) (width x) b) (sym r)
      (record {
        left = refl;
        right = refl;
        as_many = (are_pairs condition (width x)).0;
        few = (are_pairs condition (width x)).1;
        below = (over_their_sides condition (width x) (width y) fine.sound.0.1).0;
        mean = λ a b e. mean_the_condition condition (width x) a b e;
      })))

  module _ (how : JoinWay) (kind : JoinKind) (condition : Expr) (keys : JoinKeys) (v w : ℕ) (x y : Logical) (fine : FineAt (joined kind condition x y)) (known : Keyed condition x y keys v w) where
    left_few : v ≤ column_limit
    left_few = let small = few_columns x fine.sound.1 in omega (arith, small, known.left)

    right_few : w ≤ column_limit
    right_few = let small = few_columns y fine.sound.2 in omega (arith, small, known.right)

    left_rows : (p : Plan) → BringsAt x p → HaveWidth v (all tables stages p)
    left_rows p l = subst (λ (m : ℕ). HaveWidth m (all tables stages p)) (sym known.left) l.wide

    right_rows : (q : Plan) → BringsAt y q → HaveWidth w (all tables stages q)
    right_rows q r = subst (λ (m : ℕ). HaveWidth m (all tables stages q)) (sym known.right) r.wide

    -- a join serves where its sides bring rows that serve its way, and stand as it asks
    join_serves : (p q : Plan) (out : Placement) → BringsAt x p → BringsAt y q → SidesServe how kind (length (PartsOf p)) (length (PartsOf q)) →
        StandTogether how (by_hash n keys.left) (by_hash n keys.right) (PartsOf p) (PartsOf q) → Stands n (plainly n) out (PartsOf (matched how kind keys v w p q)) → KeysOver (width (joined kind condition x y)) out →
        ServedAt (joined kind condition x y) (matched how kind keys v w p q) out
    join_serves p q out l r serve together stands over =
        let as_ : List Row = all tables stages p in
        let bs : List Row = all tables stages q in
        let rows : List Row = all tables stages (matched how kind keys v w p q) in
        let same : pairs kind v w (matches keys) as_ bs ≡ pairs kind (width x) (width y) (meets condition) as_ bs =
        same_matches kind v w (matches keys) (meets condition) as_ bs (λ a b e. known.mean a b e) (left_rows p l) ∙
        (λ i. pairs kind (known.left i) (known.right i) (meets condition) as_ bs) in
        let a : Answer tables (held_rows tables stages) (joined kind condition x y) rows = (
          l.rows,
          r.rows,
          l.answers,
          r.answers,
          IsPermutation-trans (pairs kind (width x) (width y) (meets condition) l.rows r.rows) (pairs kind (width x) (width y) (meets condition) as_ bs) rows
              (pairs-permuted kind (width x) (width y) (meets condition) l.rows as_ r.rows bs l.has r.has)
              (subst (λ (ps : List Row). IsPermutation ps rows) same (sides_are_the_join how kind keys v w n (PartsOf p) (PartsOf q) serve together)),
        ) in
        record {
          answers = a;
          stands = stands;
          over = over;
          runs = (
            (
              (
                subst (λ (m : ℕ). SidesServe how kind m (part_count q)) (counted tables (given_by tables stages) p)
                    (subst (λ (m : ℕ). SidesServe how kind (length (PartsOf p)) m) (counted tables (given_by tables stages) q) serve),
                known.as_many,
                left_rows p l,
                right_rows q r,
                narrow_keys keys.left as_ known.few,
                narrow_keys keys.right bs (omega (arith, known.few, known.as_many)),
                narrow_pairs v w as_ bs left_few right_few (left_rows p l) (right_rows q r),
              ),
              narrow_answer tables stages n files some (joined kind condition x y) rows fine a,
            ),
            l.runs,
            r.runs,
          );
        }

  -- as many parts on both sides serve a way that joins part by part
  parts_serve : (how : JoinWay) (kind : JoinKind) (x y : Logical) (a b : ℕ) → is_by_parts how ≡ true → may_be_built kind x y how → a ≡ b → SidesServe how kind a b
  parts_serve way.SortMerge kind x y a b h m e = e
  parts_serve (way.ShuffledHash side) kind x y a b h m e = (e, m)
  parts_serve (way.Broadcast side) kind x y a b h m e = absurd (cc)
  parts_serve way.NestedLoop kind x y a b h m e = absurd (cc)

  parts_together : (how : JoinWay) (f g : Row → ℕ) (as_ bs : List (List Row)) → is_by_parts how ≡ true → Placed f 0 as_ → Placed g 0 bs → StandTogether how f g as_ bs
  parts_together way.SortMerge f g as_ bs h s t = (s, t)
  parts_together (way.ShuffledHash side) f g as_ bs h s t = (s, t)
  parts_together (way.Broadcast side) f g as_ bs h s t = absurd (cc)
  parts_together way.NestedLoop f g as_ bs h s t = absurd (cc)

  module _ (kind : JoinKind) (condition : Expr) (keys : JoinKeys) (v w : ℕ) (x y : Logical) (fine : FineAt (joined kind condition x y)) (cut : IsCut condition x y keys v w) where
    abbrev known : Keyed condition x y keys v w
    known = keyed kind condition x y keys v w fine cut

    abbrev fine_left : FineAt x
    fine_left = left_side tables stages n files some kind condition x y fine

    abbrev fine_right : FineAt y
    fine_right = right_side tables stages n files some kind condition x y fine

    abbrev Join : JoinWay → Plan → Plan → Placement → Type 0
    Join how p q out = ServedAt (joined kind condition x y) (matched how kind keys v w p q) out

    -- the widths of the sides within that of the join
    left_within : v ≤ width (joined kind condition x y)
    left_within = let le = left_width kind condition x y in omega (arith, le, known.left)

    both_within : KeepsRight kind → v + w ≤ width (joined kind condition x y)
    both_within keeps = let le = both_widths kind condition x y keeps in omega (arith, le, known.left, known.right)

    pub parts_join_serves : (how : JoinWay) (p p1 q q1 : Plan) (u t out : Placement) → is_by_parts how ≡ true → may_be_built kind x y how →
        Brought (hash_of keys.left) (target.Hash keys.left n) p u p1 → Brought (hash_of keys.right) (target.Hash keys.right n) q t q1 → out ≡ after_join kind keys v w →
        is_nothing p ≡ false → is_nothing q ≡ false → ServedAt x p u → ServedAt y q t → Join how p1 q1 out
    parts_join_serves how p p1 q q1 u t out h m b c o some_left some_right left right =
        let l = brought_by_keys tables stages n files some x fine_left keys.left known.few p u p1 b some_left left in
        let r = brought_by_keys tables stages n files some y fine_right keys.right (omega (arith, known.few, known.as_many)) q t q1 c some_right right in
        subst (λ (at : Placement). Join how p1 q1 at) (sym o)
        (join_serves how kind condition keys v w x y fine known p1 q1 (after_join kind keys v w) l.0 r.0
        (parts_serve how kind x y (length (PartsOf p1)) (length (PartsOf q1)) h m (l.1.0 ∙ sym r.1.0))
        (parts_together how (by_hash n keys.left) (by_hash n keys.right) (PartsOf p1) (PartsOf q1) h l.1.1 r.1.1)
        (parts_joined n how kind keys v w (PartsOf p1) (PartsOf q1) h known.below (left_rows how kind condition keys v w x y fine known p1 l.0) (right_rows how kind condition keys v w x y fine known q1 r.0) l.1 r.1)
        (over_after kind keys v w (width (joined kind condition x y)) left_within both_within known.below))

    pub whole_right_serves : (p q q1 : Plan) (u t : Placement) → may_build kind Right ≡ true → Brought whole target.Broadcast q t q1 → is_nothing q ≡ false → ServedAt x p u → ServedAt y q t →
        Join (way.Broadcast Right) p q1 u
    whole_right_serves p q q1 u t m b some_right left right =
        let l = as_planned tables stages n files some x fine_left p u left in
        let r = brought_whole tables stages n files some y fine_right q t q1 b some_right right in
        join_serves (way.Broadcast Right) kind condition keys v w x y fine known p q1 u l r.0 (r.1, m) tt
        (left_kept n (plainly n) kind keys v w u (PartsOf p) (all tables stages q1) m
        (subst (λ (k : ℕ). KeysOver k u) (sym known.left) left.over) (left_rows (way.Broadcast Right) kind condition keys v w x y fine known p l) left.stands)
        (over_more (width x) (width (joined kind condition x y)) (left_width kind condition x y) u left.over)

    pub whole_left_serves : (p p1 q : Plan) (u t out : Placement) → may_build kind Left ≡ true → Brought whole target.Broadcast p u p1 → out ≡ placed_behind v w t → is_nothing p ≡ false → ServedAt x p u → ServedAt y q t →
        Join (way.Broadcast Left) p1 q out
    whole_left_serves p p1 q u t out m b o some_left left right =
        let l = brought_whole tables stages n files some x fine_left p u p1 b some_left left in
        let r = as_planned tables stages n files some y fine_right q t right in
        subst (λ (at : Placement). Join (way.Broadcast Left) p1 q at) (sym o)
        (join_serves (way.Broadcast Left) kind condition keys v w x y fine known p1 q (placed_behind v w t) l.0 r (l.1, m) tt
        (right_moved n (plainly n) kind keys v w t (all tables stages p1) (PartsOf q) m (left_rows (way.Broadcast Left) kind condition keys v w x y fine known p1 l.0)
        (right_rows (way.Broadcast Left) kind condition keys v w x y fine known q r) right.stands)
        (over_behind v w (width (joined kind condition x y)) (both_within (keeps_right kind m)) t))

    pub loop_serves : (p p1 q q1 : Plan) (u t : Placement) → Brought one_part target.Single p u p1 → Brought one_part target.Single q t q1 → is_nothing p ≡ false → is_nothing q ≡ false → ServedAt x p u → ServedAt y q t →
        Join way.NestedLoop p1 q1 place.Single
    loop_serves p p1 q q1 u t b c some_left some_right left right =
        let l = brought_to_one tables stages n files some x fine_left p u p1 b some_left left in
        let r = brought_to_one tables stages n files some y fine_right q t q1 c some_right right in
        join_serves way.NestedLoop kind condition keys v w x y fine known p1 q1 place.Single l.0 r.0 (l.1, r.1) tt refl tt
