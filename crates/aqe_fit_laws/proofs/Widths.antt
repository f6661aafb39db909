-- How wide rows are.
use Rattle.std.proofs.Common.{◌≡◌, ℕ, zero, suc, ◌+◌, ◌≤◌, ◌==◌, List, [], ◌∷◌, ◌++◌, map, length, refl, arith, length-append}
use Rattle.std.specs.Prelude.{All}
use Rattle.std.specs.List.{range_with_len}
use Rattle.std.proofs.lemmas.List.{length-map}
use Rattle.std.proofs.lemmas.List.Elements.{All-nil, All-cons, All-append, All-map, All-weaker, All-filter}
use Rattle.aqe_rects.specs.Rectangles.{LiesWithin, plain_rect, plain_rects}
use Rattle.aqe_values.specs.Bounds.{row_limit}
use Rattle.aqe_expr.specs.declared.expr.Expr.{Expr}
use Rattle.aqe_expr.specs.Below.{ColumnsBelow}
use Rattle.aqe_expr.specs.Meaning.{val}
use Rattle.aqe_logical.specs.declared.plan.AggCall.{AggCall}
use Rattle.aqe_logical.specs.declared.plan.Logical.{Logical, OneRow, Scan, Empty, Held, HeldPartial}
use Rattle.aqe_logical.specs.Shapes.{filtered, projected, joined, aggregated, united, sorted, limited, sampled}
use Rattle.aqe_logical.specs.Answers.{Row}
use Rattle.aqe_logical.specs.Columns.{width}
use Rattle.aqe_logical.specs.Groups.{row_of, group_keys, group_rows, rows_with, call_value}
use Rattle.aqe_logical.specs.WellFormed.{IsSound, HaveWidth, ItemsBelow, column_limit}
use Rattle.aqe_logical.proofs.Nodes.{Each}
use Rattle.aqe_columns.specs.Reading.{columns_of}
use Rattle.aqe_columns.proofs.Read.{as_data}
use Rattle.aqe_partial.specs.PartialRows.{joined_parts, partial_rows}
use Rattle.aqe_places.specs.Places.{part_of}
use Rattle.aqe_stages.specs.Runnable.{Narrow, NarrowKeys}
use Rattle.aqe_fit_laws.proofs.Together.{distinct_all}

pub every : {X : Type 0} (P : X → Type 0) → ((x : X) → P x) → (xs : List X) → All P xs
every P h [] = All-nil P
every P h (x ∷ xs) = All-cons P x xs (h x) (every P h xs)

-- no plan that is well formed has more columns than the limit
pub few_columns : (x : Logical) → Each IsSound x → width x ≤ column_limit
few_columns OneRow s = omega arith
few_columns (Scan table schema) s = s
few_columns (filtered condition child) s = few_columns child s.1
few_columns (projected items schema child) ((e, few, below), s) = few
few_columns (joined kind condition left right) ((few, below), s, t) = few
few_columns (aggregated keys calls schema child) ((e, few, below, calls_below), s) = few
few_columns (united left right) (e, s, t) = few_columns left s
few_columns (sorted keys child) s = few_columns child s.1
few_columns (limited count skip child) s = few_columns child s.1
few_columns (Empty schema) s = s
few_columns (Held stage place schema) s = s.0
few_columns (HeldPartial stage calls schema) s = s.1
few_columns (sampled stage child) s = few_columns child s.1

pub narrow : (m : ℕ) (rows : List Row) → m ≤ column_limit → HaveWidth m rows → Narrow rows
narrow m rows few h = All-weaker (λ row. length row ≡ m) (λ row. length row ≤ row_limit) (λ row e. omega (arith, e, few)) rows h

pub narrow_keys : (keys : List Expr) (rows : List Row) → length keys ≤ column_limit → NarrowKeys (row_of keys) rows
narrow_keys keys rows few = every (λ row. length (row_of keys row) ≤ row_limit) (λ row. let e = length-map keys (val row) in omega (arith, e, few)) rows

-- groups have a value for each key and call
keys_wide : (n : ℕ) (ks : List Row) → HaveWidth n ks → HaveWidth n (group_keys n ks)
keys_wide zero ks h = All-cons (λ row. length row ≡ 0) [] [] refl (All-nil (λ row. length row ≡ 0))
keys_wide (suc n) ks h = distinct_all (λ row. length row ≡ suc n) ks h

pub groups_wide : (keys : List Expr) (calls : List AggCall) (rows : List Row) → HaveWidth (length keys + length calls) (group_rows (length keys) (row_of keys) calls rows)
groups_wide keys calls rows =
    All-map (λ row. length row ≡ length keys + length calls) (λ k. k ++ map (call_value (rows_with (row_of keys) k rows)) calls) (group_keys (length keys) (map (row_of keys) rows))
    (All-weaker (λ k. length k ≡ length keys) (λ k. length (k ++ map (call_value (rows_with (row_of keys) k rows)) calls) ≡ length keys + length calls)
    (λ k e. let one = length-append k (map (call_value (rows_with (row_of keys) k rows)) calls) in let two = length-map calls (call_value (rows_with (row_of keys) k rows)) in omega (arith, one, two, e))
    (group_keys (length keys) (map (row_of keys) rows))
    (keys_wide (length keys) (map (row_of keys) rows)
    (All-map (λ k. length k ≡ length keys) (row_of keys) rows (every (λ row. length (row_of keys row) ≡ length keys) (λ row. length-map keys (val row)) rows))))

pub partials_wide : (keys : List Expr) (calls : List AggCall) (parts : List (List Row)) → HaveWidth (length keys + length calls) (joined_parts (map (partial_rows (length keys) (row_of keys) calls) parts))
partials_wide keys calls [] = All-nil (λ row. length row ≡ length keys + length calls)
partials_wide keys calls (part ∷ parts) =
    All-append (λ row. length row ≡ length keys + length calls) (partial_rows (length keys) (row_of keys) calls part) (joined_parts (map (partial_rows (length keys) (row_of keys) calls) parts))
    (groups_wide keys calls part) (partials_wide keys calls parts)

-- what holds of all rows holds of all rows of an exchange
pub exchanged_all : (P : Row → Type 0) (f : Row → ℕ) (rows : List Row) → All P rows → (rs : List ℕ) → All P (joined_parts (map (part_of f rows) rs))
exchanged_all P f rows h [] = All-nil P
exchanged_all P f rows h (r ∷ rs) = All-append P (part_of f rows r) (joined_parts (map (part_of f rows) rs)) (All-filter (λ row. f row == r) P rows h) (exchanged_all P f rows h rs)

-- plain rectangles lie within the cells
lie_from : (maps reducers a k : ℕ) → a + k ≤ reducers → All (LiesWithin maps reducers) (map (plain_rect maps) (range_with_len a k))
lie_from maps reducers a zero le = All-nil (LiesWithin maps reducers)
lie_from maps reducers a (suc k) le =
    All-cons (LiesWithin maps reducers) (plain_rect maps a) (map (plain_rect maps) (range_with_len (a + 1) k)) (omega arith, omega (arith, le)) (lie_from maps reducers (a + 1) k (omega (arith, le)))

pub plain_lie : (maps reducers : ℕ) → All (LiesWithin maps reducers) (plain_rects maps reducers)
plain_lie maps reducers = lie_from maps reducers 0 reducers (omega arith)

-- columns below a number are below a greater one
pub items_up : (m n : ℕ) → m ≤ n → (items : List Expr) → ItemsBelow m items → ItemsBelow n items
items_up m n le items h =
    All-weaker (ColumnsBelow m) (ColumnsBelow n)
    (λ e b. (as_data n e).1 (All-weaker (λ k. suc k ≤ m) (λ k. suc k ≤ n) (λ k lt. omega (arith, lt, le)) (columns_of e) ((as_data m e).0 b))) items h
