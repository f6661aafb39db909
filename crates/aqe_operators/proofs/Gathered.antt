-- What is kept of rows is their groups.
use Rattle.std.proofs.Common.{◌≡◌, ℕ, zero, ◌+◌, ◌≤◌, List, [], ◌∷◌, ◌++◌, map, length, unwrap_or, refl, ap, ◌∙◌, arith, take, Bool, true, false, cond, Some, suc}
use Rattle.std.specs.Prelude.{fold, All}
use Rattle.std.specs.Map.{lookup}
use Rattle.std.proofs.lemmas.List.{length-map, length-take}
use Rattle.std.proofs.lemmas.List.Elements.{All-nil, All-cons, All-head, All-tail}
use Rattle.aqe_values.specs.declared.value.Value.{Value}
use Rattle.aqe_values.specs.Equality.{row_eq}
use Rattle.aqe_logical.specs.declared.plan.AggCall.{AggCall}
use Rattle.aqe_logical.specs.Answers.{Row}
use Rattle.aqe_expr.specs.declared.expr.Expr.{Expr}
use Rattle.aqe_logical.specs.Groups.{group_keys, group_rows, finish_rows, finished, rows_with, row_of, nothing}
use Rattle.indexmap.specs.IndexMap.{insert_entry}
use Rattle.aqe_operators.specs.declared.form.Form.{Form}
use Rattle.aqe_operators.specs.declared.form.Form.TheVariants.{Plain, Partial}
use Rattle.aqe_operators.specs.Forms.{IsNarrow, key_width, key_by}
use Rattle.aqe_operators.specs.Gathering.{Group, IsWhole, started, stepped, with_row, begun, gathered, flat, grouped_by}
use Rattle.aqe_operators.proofs.Entries.{group_of, groups_of, all_gathered}
use Rattle.aqe_operators.proofs.Columns.{map_map, plain_columns, partial_columns}
use Rattle.aqe_values.specs.Bounds.{row_limit}
use Rattle.aqe_expr.specs.Meaning.{val}
use Rattle.std.specs.Borrow.{Bor}
use Rattle.std.specs.Prelude.{min}

no_key : (form : Form) (row : Row) → key_width form ≡ 0 → key_by form row ≡ []
no_key (Plain keys) row h = none keys.now h
  where
    none : (ks : List Expr) → length ks ≡ 0 → row_of ks row ≡ []
    none [] e = refl
    none (k ∷ ks) e = absurd (cc)
no_key (Partial n) row h = ap (λ m. take m row) h

pub gathered_is : (form : Form) (calls : List AggCall) (rows : List Row) → gathered form calls rows ≡ groups_of (key_by form) (stepped form 0 calls) (started calls) (key_width form) rows
gathered_is form calls rows = all_gathered (key_by form) (stepped form 0 calls) (started calls) (key_width form) (no_key form) rows

started_length : (calls : List AggCall) → length (started calls) ≡ length calls
started_length calls = length-map calls (λ call. nothing call.fun)

pub stepped_length : (form : Form) (i : ℕ) (calls : List AggCall) (values : List Value) (row : Row) → length values ≡ length calls → length (stepped form i calls values row) ≡ length calls
stepped_length form i [] values row h = refl
stepped_length form i (call ∷ calls) [] row h = absurd (cc)
stepped_length form i (call ∷ calls) (v ∷ values) row h =
    let rest : length values ≡ length calls = omega (arith, h) in
    ap (λ n. suc n) (stepped_length form (i + 1) calls values row rest)

pub found_whole : (form : Form) (calls : List AggCall) (test : Row → Bool) (groups : List Group) → All (IsWhole form calls) groups → length (unwrap_or (lookup test groups) (started calls)) ≡ length calls
found_whole form calls test [] all = started_length calls
found_whole form calls test (g ∷ gs) all = by (test g.0) (All-head (IsWhole form calls) g gs all).1 (found_whole form calls test gs (All-tail (IsWhole form calls) g gs all))
  where
    by : (b : Bool) → length g.1 ≡ length calls → length (unwrap_or (lookup test gs) (started calls)) ≡ length calls → length (unwrap_or (cond b (Some g.1) (lookup test gs)) (started calls)) ≡ length calls
    by true e i = e
    by false e i = i

inserted_whole : (form : Form) (calls : List AggCall) (groups : List Group) (k : Row) (values : List Value) → All (IsWhole form calls) groups → IsWhole form calls (k, values) → All (IsWhole form calls) (insert_entry row_eq groups k values)
inserted_whole form calls [] k values all h = All-cons (IsWhole form calls) (k, values) [] h (All-nil (IsWhole form calls))
inserted_whole form calls (g ∷ gs) k values all h = by (row_eq k g.0) (All-head (IsWhole form calls) g gs all) (All-tail (IsWhole form calls) g gs all) (inserted_whole form calls gs k values (All-tail (IsWhole form calls) g gs all) h)
  where
    by : (b : Bool) → IsWhole form calls g → All (IsWhole form calls) gs → All (IsWhole form calls) (insert_entry row_eq gs k values) → All (IsWhole form calls) (cond b ((g.0, values) ∷ gs) (g ∷ insert_entry row_eq gs k values))
    by true e rest i = All-cons (IsWhole form calls) (g.0, values) gs (e.0, h.1) rest
    by false e rest i = All-cons (IsWhole form calls) g (insert_entry row_eq gs k values) e i

key_narrow : (form : Form) (row : Row) → length (key_by form row) ≤ key_width form
key_narrow (Plain keys) row = let e : length (row_of keys.now row) ≡ length keys.now = length-map keys.now (val row) in omega (arith, e)
key_narrow (Partial n) row = let e : length (take n row) ≡ min n (length row) = length-take n row in omega (arith, e)

row_whole : (form : Form) (calls : List AggCall) (groups : List Group) (row : Row) → All (IsWhole form calls) groups → All (IsWhole form calls) (with_row form calls groups row)
row_whole form calls groups row all =
    inserted_whole form calls groups (key_by form row) (stepped form 0 calls (unwrap_or (lookup (row_eq (key_by form row)) groups) (started calls)) row) all
    (key_narrow form row, stepped_length form 0 calls (unwrap_or (lookup (row_eq (key_by form row)) groups) (started calls)) row (found_whole form calls (row_eq (key_by form row)) groups all))

pub rows_whole : (form : Form) (calls : List AggCall) (groups : List Group) (rows : List Row) → All (IsWhole form calls) groups → All (IsWhole form calls) (fold (with_row form calls) groups rows)
rows_whole form calls groups [] all = all
rows_whole form calls groups (row ∷ rows) all = rows_whole form calls (with_row form calls groups row) rows (row_whole form calls groups row all)

begun_whole : (form : Form) (calls : List AggCall) → All (IsWhole form calls) (begun form calls)
begun_whole form calls = by (key_width form)
  where
    by : (n : ℕ) → All (IsWhole form calls) (map (λ (k : Row). (k, started calls)) (group_keys n []))
    by zero = All-cons (IsWhole form calls) ([], started calls) [] (omega arith, started_length calls) (All-nil (IsWhole form calls))
    by (suc n) = All-nil (IsWhole form calls)

pub gathered_whole : (form : Form) (calls : List AggCall) (rows : List Row) → All (IsWhole form calls) (gathered form calls rows)
gathered_whole form calls rows = rows_whole form calls (begun form calls) rows (begun_whole form calls)

-- a group is no wider than a row
pub whole_narrow : (form : Form) (calls : List AggCall) (groups : List Group) → IsNarrow form calls → All (IsWhole form calls) groups → All (λ (g : Group). length g.0 + length g.1 ≤ row_limit) groups
whole_narrow form calls [] narrow all = All-nil (λ (h : Group). length h.0 + length h.1 ≤ row_limit)
whole_narrow form calls (g ∷ gs) narrow all =
    let few : length g.0 ≤ key_width form = (All-head (IsWhole form calls) g gs all).0 in
    let each : length g.1 ≡ length calls = (All-head (IsWhole form calls) g gs all).1 in
    let fits : length g.0 + length g.1 ≤ row_limit = omega (arith, few, each, narrow) in
    All-cons (λ (h : Group). length h.0 + length h.1 ≤ row_limit) g gs fits (whole_narrow form calls gs narrow (All-tail (IsWhole form calls) g gs all))

pub grouped_is : (form : Form) (calls : List AggCall) (rows : List Row) → map flat (gathered form calls rows) ≡ grouped_by form calls rows
grouped_is form calls rows =
    ap (map flat) (gathered_is form calls rows) ∙
    map_map flat (group_of (key_by form) (stepped form 0 calls) (started calls) rows) (group_keys (key_width form) (map (key_by form) rows))

-- a list of keys, with the columns of each
pub partial_is : (keys : Bor (List Expr)) (calls : List AggCall) (rows : List Row) → grouped_by (Plain keys) calls rows ≡ group_rows (length keys.now) (row_of keys.now) calls rows
partial_is keys calls rows = λ i. map (λ (k : Row). k ++ plain_columns keys 0 calls (rows_with (row_of keys.now) k rows) i) (group_keys (length keys.now) (map (row_of keys.now) rows))

pub final_is : (n : ℕ) (calls : List AggCall) (rows : List Row) → grouped_by (Partial n) calls rows ≡ finish_rows n calls rows
final_is n calls rows = λ i. map (λ (k : Row). k ++ columns k i) (group_keys n (map (take n) rows))
  where
    columns : (k : Row) → fold (stepped (Partial n) 0 calls) (started calls) (rows_with (take n) k rows) ≡ finished n calls (rows_with (take n) k rows)
    columns k = let e : n + 0 ≡ n = omega arith in partial_columns n 0 calls (rows_with (take n) k rows) ∙ ap (λ m. finished m calls (rows_with (take n) k rows)) e
