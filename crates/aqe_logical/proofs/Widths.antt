-- What a well-formed plan answers has the width of its columns.
use Rattle.std.proofs.Common.{◌≡◌, ℕ, zero, suc, ◌+◌, ◌-◌, Bool, true, false, not, cond, List, [], ◌∷◌, ◌++◌, map, take, drop, length, refl, sym, ap, ◌∙◌, arith, Option, Some, None, length-append, subst, inl, inr}
use Rattle.std.specs.Prelude.{filter, All, slice_index_or}
use Rattle.std.proofs.lemmas.List.{length-map, length-take, length-replicate}
use Rattle.std.proofs.lemmas.List.Elements.{All-nil, All-cons, All-head, All-tail, All-append, All-map, All-filter, All-take, All-drop, All-weaker}
use Rattle.std.proofs.lemmas.List.Sorted.{All-permutation}
use Rattle.aqe_base.specs.declared.join_kind.JoinKind.{JoinKind}
use Rattle.aqe_base.specs.declared.join_kind.JoinKind.TheVariants.{Inner, Cross, LeftOuter, RightOuter, FullOuter, LeftSemi, LeftAnti}
use Rattle.aqe_values.specs.declared.value.Value.TheVariants.{Null}
use Rattle.aqe_values.specs.Equality.{row_eq}
use Rattle.aqe_expr.specs.declared.expr.Expr.{Expr}
use Rattle.aqe_expr.specs.Meaning.{val, holds}
use Rattle.aqe_logical.specs.declared.plan.AggCall.{AggCall}
use Rattle.aqe_logical.specs.declared.plan.Logical.{Logical, OneRow, Scan, Empty, Held, HeldPartial}
use Rattle.aqe_logical.specs.Shapes.{filtered, projected, joined, aggregated, united, sorted, limited, sampled}
use Rattle.aqe_logical.specs.Answers.{Tables, Stages, Row, Answer, table_rows, meets, at_most_rows}
use Rattle.aqe_logical.specs.Columns.{width, schema_of, shows_right}
use Rattle.aqe_logical.specs.Groups.{row_of, distinct, group_keys, group_rows, finish_rows, finished, rows_with, call_value}
use Rattle.aqe_logical.specs.Joins.{nulls, where_none, with_matches, left_over, half, pairs}
use Rattle.aqe_logical.specs.WellFormed.{IsSound, Fits, HaveWidth}
use Rattle.aqe_logical.proofs.Nodes.{Each, each}
use Rattle.aqe_logical.specs.Laws.{AnswersHaveTheWidth}

abbrev Wide : ℕ → Row → Type 0
Wide n row = length row ≡ n

every : {X : Type 0} (P : X → Type 0) → ((x : X) → P x) → (xs : List X) → All P xs
every P h xs = λ k d lt. h (slice_index_or xs k d)

-- a join is as wide as both sides, or for semi and anti joins as the left one
abbrev join_width : JoinKind → ℕ → ℕ → ℕ
join_width kind v w = cond (shows_right kind) (v + w) v

width_joined : {X : Type 0} (both : Bool) (a b : List X) → length (cond both (a ++ b) a) ≡ cond both (length a + length b) (length a)
width_joined true a b = length-append a b
width_joined false a b = refl

where_none-all : (P : Row → Type 0) (ms lone met : List Row) → All P lone → All P met → All P (where_none ms lone met)
where_none-all P [] lone met h k = h
where_none-all P (m ∷ ms) lone met h k = k

pair-wide : (v w : ℕ) (x y : Row) → Wide v x → Wide w y → Wide (v + w) (x ++ y)
pair-wide v w x y h k = length-append x y ∙ (ap (λ n. n + length y) h ∙ ap (λ n. v + n) k)

nulls-wide : (n : ℕ) → Wide n (nulls n)
nulls-wide n = length-replicate n Null

pairs-wide : (v w : ℕ) (x : Row) (ms : List Row) → Wide v x → HaveWidth w ms → HaveWidth (v + w) (map (λ y. x ++ y) ms)
pairs-wide v w x ms h all = All-map (Wide (v + w)) (λ y. x ++ y) ms (All-weaker (Wide w) (λ y. Wide (v + w) (x ++ y)) (λ y k. pair-wide v w x y h k) ms all)

one-wide : (n : ℕ) (x : Row) → Wide n x → HaveWidth n (x ∷ [])
one-wide n x h = All-cons (Wide n) x [] h (All-nil (Wide n))

with_matches-wide : (kind : JoinKind) (v w : ℕ) (x : Row) → Wide v x → (ms : List Row) → HaveWidth w ms → HaveWidth (join_width kind v w) (with_matches kind w x ms)
with_matches-wide Inner v w x h ms all = pairs-wide v w x ms h all
with_matches-wide Cross v w x h ms all = pairs-wide v w x ms h all
with_matches-wide RightOuter v w x h ms all = pairs-wide v w x ms h all
with_matches-wide LeftOuter v w x h ms all = where_none-all (Wide (v + w)) ms ((x ++ nulls w) ∷ []) (map (λ y. x ++ y) ms) (one-wide (v + w) (x ++ nulls w) (pair-wide v w x (nulls w) h (nulls-wide w))) (pairs-wide v w x ms h all)
with_matches-wide FullOuter v w x h ms all = where_none-all (Wide (v + w)) ms ((x ++ nulls w) ∷ []) (map (λ y. x ++ y) ms) (one-wide (v + w) (x ++ nulls w) (pair-wide v w x (nulls w) h (nulls-wide w))) (pairs-wide v w x ms h all)
with_matches-wide LeftSemi v w x h ms all = where_none-all (Wide v) ms [] (x ∷ []) (All-nil (Wide v)) (one-wide v x h)
with_matches-wide LeftAnti v w x h ms all = where_none-all (Wide v) ms (x ∷ []) [] (one-wide v x h) (All-nil (Wide v))

left_over-wide : (kind : JoinKind) (v w : ℕ) (y : Row) → Wide w y → (ms : List Row) → HaveWidth v ms → HaveWidth (join_width kind v w) (left_over kind v y ms)
left_over-wide RightOuter v w y h ms all = where_none-all (Wide (v + w)) ms ((nulls v ++ y) ∷ []) [] (one-wide (v + w) (nulls v ++ y) (pair-wide v w (nulls v) y (nulls-wide v) h)) (All-nil (Wide (v + w)))
left_over-wide FullOuter v w y h ms all = where_none-all (Wide (v + w)) ms ((nulls v ++ y) ∷ []) [] (one-wide (v + w) (nulls v ++ y) (pair-wide v w (nulls v) y (nulls-wide v) h)) (All-nil (Wide (v + w)))
left_over-wide Inner v w y h ms all = All-nil (Wide (v + w))
left_over-wide Cross v w y h ms all = All-nil (Wide (v + w))
left_over-wide LeftOuter v w y h ms all = All-nil (Wide (v + w))
left_over-wide LeftSemi v w y h ms all = All-nil (Wide v)
left_over-wide LeftAnti v w y h ms all = All-nil (Wide v)

half-all : (P Q R : Row → Type 0) (each : Row → List Row → List Row) → ((x : Row) → P x → (ms : List Row) → All Q ms → All R (each x ms)) → (meets : Row → Row → Bool) (a b : List Row) → All P a → All Q b → All R (half each meets a b)
half-all P Q R each f meets [] b h k = All-nil R
half-all P Q R each f meets (x ∷ xs) b h k =
    All-append R (each x (filter (meets x) b)) (half each meets xs b)
    (f x (All-head P x xs h) (filter (meets x) b) (All-filter (meets x) Q b k))
    (half-all P Q R each f meets xs b (All-tail P x xs h) k)

join-wide : (kind : JoinKind) (v w : ℕ) (meets : Row → Row → Bool) (a b : List Row) → HaveWidth v a → HaveWidth w b → HaveWidth (join_width kind v w) (pairs kind v w meets a b)
join-wide kind v w meets a b h k =
    All-append (Wide (join_width kind v w)) (half (with_matches kind w) meets a b) (half (left_over kind v) (λ y x. meets x y) b a)
    (half-all (Wide v) (Wide w) (Wide (join_width kind v w)) (with_matches kind w) (with_matches-wide kind v w) meets a b h k)
    (half-all (Wide w) (Wide v) (Wide (join_width kind v w)) (left_over kind v) (left_over-wide kind v w) (λ y x. meets x y) b a k h)

distinct-all : (P : Row → Type 0) (ks : List Row) → All P ks → All P (distinct ks)
distinct-all P [] h = All-nil P
distinct-all P (k ∷ ks) h =
    All-cons P k (filter (λ j. not (row_eq k j)) (distinct ks)) (All-head P k ks h)
    (All-filter (λ j. not (row_eq k j)) P (distinct ks) (distinct-all P ks (All-tail P k ks h)))

group_keys-wide : (n : ℕ) (ks : List Row) → HaveWidth n ks → HaveWidth n (group_keys n ks)
group_keys-wide zero ks h = one-wide zero [] refl
group_keys-wide (suc n) ks h = distinct-all (Wide (suc n)) ks h

-- rows made of keys of n values and of m values behind them
behind-wide : (n m : ℕ) (f : Row → Row) → ((k : Row) → length (f k) ≡ m) → (ks : List Row) → HaveWidth n ks → HaveWidth (n + m) (map (λ k. k ++ f k) ks)
behind-wide n m f h ks all = All-map (Wide (n + m)) (λ k. k ++ f k) ks (All-weaker (Wide n) (λ k. Wide (n + m) (k ++ f k)) (λ k e. pair-wide n m k (f k) e (h k)) ks all)

groups-wide : (keys : List Expr) (calls : List AggCall) (rows : List Row) → HaveWidth (length keys + length calls) (group_rows (length keys) (row_of keys) calls rows)
groups-wide keys calls rows =
    behind-wide (length keys) (length calls) (λ k. map (call_value (rows_with (row_of keys) k rows)) calls)
    (λ k. length-map calls (call_value (rows_with (row_of keys) k rows)))
    (group_keys (length keys) (map (row_of keys) rows))
    (group_keys-wide (length keys) (map (row_of keys) rows)
    (All-map (Wide (length keys)) (row_of keys) rows (every (λ row. Wide (length keys) (row_of keys row)) (λ row. length-map keys (val row)) rows)))

finished-wide : (i : ℕ) (calls : List AggCall) (rows : List Row) → length (finished i calls rows) ≡ length calls
finished-wide i [] rows = refl
finished-wide i (call ∷ calls) rows = ap suc (finished-wide (i + 1) calls rows)

finish-wide : (n : ℕ) (calls : List AggCall) (rows : List Row) → HaveWidth (n + length calls) rows → HaveWidth (n + length calls) (finish_rows n calls rows)
finish-wide n calls rows h =
    behind-wide n (length calls) (λ k. finished n calls (rows_with (take n) k rows))
    (λ k. finished-wide n calls (rows_with (take n) k rows))
    (group_keys n (map (take n) rows))
    (group_keys-wide n (map (take n) rows)
    (All-map (Wide n) (take n) rows (All-weaker (Wide (n + length calls)) (λ row. Wide n (take n row)) (λ row e. taken row e) rows h)))
  where
    taken : (row : Row) → Wide (n + length calls) row → Wide n (take n row)
    taken row e = omega (arith, length-take n row, e)

at_most-all : (P : Row → Type 0) (count : Option ℕ) (rows : List Row) → All P rows → All P (at_most_rows count rows)
at_most-all P None rows h = h
at_most-all P (Some n) rows h = All-take P n rows h

wide : (tables : Tables) (stages : Stages) (plan : Logical) (l : List Row) → Each IsSound plan → Each (Fits tables stages) plan → Answer tables stages plan l → HaveWidth (width plan) l
wide tables stages OneRow l s f h = rw h (one-wide zero [] refl)
wide tables stages (Scan table schema) l s f h = All-permutation (Wide (length schema)) (table_rows tables table) l h f
wide tables stages (filtered condition child) l (below, s) (t, f) (rows, h, e) =
    rw e (All-filter (holds condition) (Wide (width child)) rows (wide tables stages child rows s f h))
wide tables stages (projected items schema child) l ((as_long, small, below), s) (t, f) (rows, h, e) =
    rw e (All-map (Wide (length schema)) (row_of items) rows (every (λ row. Wide (length schema) (row_of items row)) (λ row. length-map items (val row) ∙ sym as_long) rows))
wide tables stages (joined kind condition left right) l ((small, below), s, t) (u, f, g) (a, b, h, k, p) =
    All-permutation (Wide (width (joined kind condition left right))) (pairs kind (width left) (width right) (meets condition) a b) l p
    (subst (λ n. HaveWidth n (pairs kind (width left) (width right) (meets condition) a b))
    (sym (width_joined (shows_right kind) (schema_of left) (schema_of right)))
    (join-wide kind (width left) (width right) (meets condition) a b (wide tables stages left a s f h) (wide tables stages right b t g k)))
wide tables stages (aggregated keys calls schema child) l ((as_long, small, below, calls_below), s) (t, f) (rows, h, p) =
    All-permutation (Wide (length schema)) (group_rows (length keys) (row_of keys) calls rows) l p
    (subst (λ n. HaveWidth n (group_rows (length keys) (row_of keys) calls rows)) (sym as_long) (groups-wide keys calls rows))
wide tables stages (united left right) l (as_wide, s, t) (u, f, g) (a, b, h, k, p) =
    All-permutation (Wide (width left)) (a ++ b) l p
    (All-append (Wide (width left)) a b (wide tables stages left a s f h)
    (subst (λ n. HaveWidth n b) (sym as_wide) (wide tables stages right b t g k)))
wide tables stages (sorted keys child) l ((small, below), s) (t, f) (rows, h, p, order) =
    All-permutation (Wide (width child)) rows l p (wide tables stages child rows s f h)
wide tables stages (limited count skip child) l ((c, d), s) (t, f) (rows, h, e) =
    rw e (at_most-all (Wide (width child)) count (drop skip rows) (All-drop (Wide (width child)) skip rows (wide tables stages child rows s f h)))
wide tables stages (Empty schema) l s f h = rw h (All-nil (Wide (length schema)))
wide tables stages (Held stage place schema) l s f (p, order) = All-permutation (Wide (length schema)) (stages stage.0) l p f
wide tables stages (HeldPartial stage calls schema) l (fits, small) f p =
    All-permutation (Wide (length schema)) (finish_rows (length schema - length calls) calls (stages stage.0)) l p
    (let whole : (length schema - length calls) + length calls ≡ length schema = omega (arith, fits) in
    subst (λ n. HaveWidth n (finish_rows (length schema - length calls) calls (stages stage.0))) whole
    (finish-wide (length schema - length calls) calls (stages stage.0)
    (subst (λ n. HaveWidth n (stages stage.0)) (sym whole) f)))
wide tables stages (sampled stage child) l s f (inl h) = wide tables stages child l s.1 f.1 h
wide tables stages (sampled stage child) l s f (inr (e, held)) = rw e (All-nil (Wide (width child)))

pub have_the_width : AnswersHaveTheWidth
have_the_width tables stages plan l (s, leaves) f h = wide tables stages plan l (each IsSound plan s) (each (Fits tables stages) plan f) h
