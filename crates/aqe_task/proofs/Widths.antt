-- Where rows would be too wide, there is none.
use Rattle.std.proofs.Common.{◌≡◌, ℕ, zero, suc, ◌+◌, ◌<◌, ◌≤◌, List, [], ◌∷◌, ◌++◌, length, map, refl, ap, arith, length-append}
use Rattle.std.proofs.lemmas.List.{length-map}
use Rattle.std.proofs.lemmas.List.Elements.{All-head}
use Rattle.aqe_values.specs.Bounds.{row_limit}
use Rattle.aqe_expr.specs.declared.expr.Expr.{Expr}
use Rattle.aqe_expr.specs.Meaning.{val}
use Rattle.aqe_logical.specs.declared.plan.AggCall.{AggCall}
use Rattle.aqe_logical.specs.declared.plan.SortKey.{SortKey}
use Rattle.aqe_logical.specs.Order.{key_of}
use Rattle.aqe_logical.specs.Answers.{Row}
use Rattle.aqe_logical.specs.Groups.{row_of, group_rows, finish_rows, finished, rows_with, call_value}
use Rattle.std.specs.Prelude.{take}
use Rattle.aqe_logical.specs.WellFormed.{HaveWidth}
use Rattle.aqe_stages.specs.Runnable.{Narrow, NarrowKeys}

first_narrow : (row : Row) (rows : List Row) → Narrow (row ∷ rows) → length row ≤ 1024
first_narrow row rows h = All-head (λ (r : Row). length r ≤ row_limit) row rows h

pub no_wide_items : (items : List Expr) (rows : List Row) → Narrow (map (row_of items) rows) → 1024 < length items → map (row_of items) rows ≡ []
no_wide_items items [] h wide = refl
no_wide_items items (row ∷ rows) h wide =
    let narrow = first_narrow (row_of items row) (map (row_of items) rows) h in
    let same = length-map items (val row) in
    absurd (omega (arith, narrow, same, wide))

pub no_wide_keys : (keys : List Expr) (rows : List Row) → NarrowKeys (row_of keys) rows → 1024 < length keys → rows ≡ []
no_wide_keys keys [] h wide = refl
no_wide_keys keys (row ∷ rows) h wide =
    let narrow : length (row_of keys row) ≤ 1024 = All-head (λ (r : Row). length (row_of keys r) ≤ row_limit) row rows h in
    let same = length-map keys (val row) in
    absurd (omega (arith, narrow, same, wide))

pub no_wide_sort : (keys : List SortKey) (rows : List Row) → NarrowKeys (key_of keys) rows → 1024 < length keys → rows ≡ []
no_wide_sort keys [] h wide = refl
no_wide_sort keys (row ∷ rows) h wide =
    let narrow : length (key_of keys row) ≤ 1024 = All-head (λ (r : Row). length (key_of keys r) ≤ row_limit) row rows h in
    let same = length-map keys (λ (key : SortKey). val row key.expr) in
    absurd (omega (arith, narrow, same, wide))

-- the row of a group, and how many values it has
abbrev group_row : (Row → Row) → List AggCall → List Row → Row → Row
group_row key calls rows k = k ++ map (call_value (rows_with key k rows)) calls

group_width : (key : Row → Row) (calls : List AggCall) (rows : List Row) (k : Row) → length (group_row key calls rows k) ≡ length k + length calls
group_width key calls rows k =
    let all = length-append k (map (call_value (rows_with key k rows)) calls) in
    let more = length-map calls (call_value (rows_with key k rows)) in
    omega (arith, all, more)

pub no_wide_groups : (keys : List Expr) (calls : List AggCall) (rows : List Row) → Narrow (group_rows (length keys) (row_of keys) calls rows)
    → 1024 < length keys + length calls → group_rows (length keys) (row_of keys) calls rows ≡ []
no_wide_groups [] calls rows h wide =
    let narrow = first_narrow (group_row (row_of []) calls rows []) [] h in
    let same = group_width (row_of []) calls rows [] in
    absurd (omega (arith, narrow, same, wide))
no_wide_groups (e ∷ es) calls [] h wide = refl
no_wide_groups (e ∷ es) calls (row ∷ rows) h wide =
    let narrow : length (group_row (row_of (e ∷ es)) calls (row ∷ rows) (row_of (e ∷ es) row)) ≤ 1024 =
    All-head (λ (r : Row). length r ≤ row_limit) (group_row (row_of (e ∷ es)) calls (row ∷ rows) (row_of (e ∷ es) row)) _ h in
    let same = group_width (row_of (e ∷ es)) calls (row ∷ rows) (row_of (e ∷ es) row) in
    let width : length (row_of (e ∷ es) row) ≡ length (e ∷ es) = length-map (e ∷ es) (val row) in
    absurd (omega (arith, narrow, same, width, wide))

finished_width : (i : ℕ) (calls : List AggCall) (rows : List Row) → length (finished i calls rows) ≡ length calls
finished_width i [] rows = refl
finished_width i (call ∷ calls) rows = ap (λ (n : ℕ). suc n) (finished_width (i + 1) calls rows)

pub no_wide_finish : (n : ℕ) (calls : List AggCall) (rows : List Row) → HaveWidth (n + length calls) rows → Narrow rows
    → Narrow (finish_rows n calls rows) → 1024 < n + length calls → finish_rows n calls rows ≡ []
no_wide_finish zero calls rows width narrow h wide =
    let first = first_narrow (finished zero calls (rows_with (take zero) [] rows)) [] h in
    let same = finished_width zero calls (rows_with (take zero) [] rows) in
    absurd (omega (arith, first, same, wide))
no_wide_finish (suc n) calls [] width narrow h wide = refl
no_wide_finish (suc n) calls (row ∷ rows) width narrow h wide =
    let first = first_narrow row rows narrow in
    let same : length row ≡ suc n + length calls = All-head (λ (r : Row). length r ≡ suc n + length calls) row rows width in
    absurd (omega (arith, first, same, wide))
