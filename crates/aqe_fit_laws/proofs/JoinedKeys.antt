-- Keys over one side of a join, read over the rows that the join makes.
use Rattle.std.proofs.Common.{◌≡◌, ℕ, zero, suc, ◌+◌, ◌<◌, ◌≤◌, List, [], ◌∷◌, ◌++◌, map, length, refl, ap, sym, ◌∙◌, arith, append_assoc, length-append}
use Rattle.std.specs.Prelude.{slice_index_or}
use Rattle.std.proofs.Math.Seq.{get_or-append_seam}
use Rattle.std.proofs.lemmas.List.{get_or_append_left}
use Rattle.std.proofs.lemmas.List.Elements.{All-nil, All-cons, All-head, All-tail, All-weaker}
use Rattle.aqe_values.specs.declared.value.Value.TheVariants.{Null}
use Rattle.aqe_expr.specs.declared.expr.Expr.{Expr, Literal}
use Rattle.aqe_expr.specs.Below.{ColumnsBelow}
use Rattle.aqe_expr.specs.Meaning.{val}
use Rattle.aqe_columns.specs.Reading.{columns_of}
use Rattle.aqe_columns.specs.Replacing.{replaced}
use Rattle.aqe_columns.proofs.Read.{as_data, read_their_columns}
use Rattle.aqe_columns.proofs.Values.{keeps_the_value}
use Rattle.aqe_logical.specs.declared.plan.Placement.{Placement}
use Rattle.aqe_logical.specs.declared.plan.Placement.TheVariants as place
use Rattle.aqe_logical.specs.declared.plan.SortKey.{SortKey}
use Rattle.aqe_logical.specs.Answers.{Row}
use Rattle.aqe_logical.specs.Groups.{row_of}
use Rattle.aqe_logical.specs.Order.{ways_of, key_of}
use Rattle.aqe_logical.specs.WellFormed.{ItemsBelow, KeysBelow}
use Rattle.aqe_join_keys.specs.Keys.{columns_from}
use Rattle.aqe_join_keys.proofs.Replaced.{replaced_below}
use Rattle.aqe_fitting.specs.Placing.{behind, key_over, placed_behind}
use Rattle.aqe_fit_laws.specs.Serving.{KeysOver}
use Rattle.aqe_fit_laws.proofs.Widths.{every, items_up}
use Rattle.aqe_fit_laws.proofs.Respelled.{columns_below}

-- an expression over v columns has over a row of so many values what it has over that row with more behind it
value_in_front : (v : ℕ) (e : Expr) → ColumnsBelow v e → (x more : Row) → length x ≡ v → val (x ++ more) e ≡ val x e
value_in_front v e below x more wide =
    read_their_columns (x ++ more) x e
    (All-weaker (λ k. k < v) (λ k. slice_index_or (x ++ more) k Null ≡ slice_index_or x k Null)
    (λ k lt. get_or_append_left x more Null k (omega (arith, lt, wide))) (columns_of e) ((as_data v e).0 below))

pub row_in_front : (v : ℕ) (keys : List Expr) → ItemsBelow v keys → (x more : Row) → length x ≡ v → row_of keys (x ++ more) ≡ row_of keys x
row_in_front v [] below x more wide = refl
row_in_front v (e ∷ keys) below x more wide =
    (λ i. value_in_front v e (All-head (ColumnsBelow v) e keys below) x more wide i ∷ row_in_front v keys (All-tail (ColumnsBelow v) e keys below) x more wide i)

pub key_in_front : (v : ℕ) (keys : List SortKey) → KeysBelow v keys → (x more : Row) → length x ≡ v → key_of keys (x ++ more) ≡ key_of keys x
key_in_front v [] below x more wide = refl
key_in_front v (key ∷ keys) below x more wide =
    (λ i. value_in_front v key.expr (All-head (λ (other : SortKey). ColumnsBelow v other.expr) key keys below) x more wide i ∷
    key_in_front v keys (All-tail (λ (other : SortKey). ColumnsBelow v other.expr) key keys below) x more wide i)

-- the columns behind v values are the row that stands there
columns_behind : (v : ℕ) (front y : Row) → length front ≡ v → row_of (columns_from v (length y)) (front ++ y) ≡ y
columns_behind v front [] wide = refl
columns_behind v front (value ∷ y) wide =
    let here : slice_index_or (front ++ value ∷ y) v Null ≡ value = ap (λ (n : ℕ). slice_index_or (front ++ value ∷ y) n Null) (sym wide) ∙ get_or-append_seam front value y Null in
    let one = length-append front (value ∷ []) in
    let whole : (front ++ value ∷ []) ++ y ≡ front ++ value ∷ y = append_assoc front (value ∷ []) y in
    (λ i. here i ∷ row_of (columns_from (v + 1) (length y)) (sym whole i)) ∙
    ap (λ rest. value ∷ rest) (columns_behind (v + 1) (front ++ value ∷ []) y (omega (arith, one, wide)))

value_behind : (v w : ℕ) (e : Expr) (front y : Row) → length front ≡ v → length y ≡ w → val (front ++ y) (behind v w e) ≡ val y e
value_behind v w e front y wide long =
    keeps_the_value (front ++ y) (columns_from v w) e ∙
    ap (λ row. val row e) (ap (λ (m : ℕ). row_of (columns_from v m) (front ++ y)) (sym long) ∙ columns_behind v front y wide)

pub row_behind : (v w : ℕ) (keys : List Expr) (front y : Row) → length front ≡ v → length y ≡ w → row_of (map (behind v w) keys) (front ++ y) ≡ row_of keys y
row_behind v w [] front y wide long = refl
row_behind v w (e ∷ keys) front y wide long = (λ i. value_behind v w e front y wide long i ∷ row_behind v w keys front y wide long i)

abbrev pub key_behind : ℕ → ℕ → SortKey → SortKey
key_behind v w key = key_over key (behind v w key.expr)

pub keys_behind : (v w : ℕ) (keys : List SortKey) (front y : Row) → length front ≡ v → length y ≡ w → key_of (map (key_behind v w) keys) (front ++ y) ≡ key_of keys y
keys_behind v w [] front y wide long = refl
keys_behind v w (key ∷ keys) front y wide long = (λ i. value_behind v w key.expr front y wide long i ∷ keys_behind v w keys front y wide long i)

pub same_ways : (v w : ℕ) (keys : List SortKey) → ways_of (map (key_behind v w) keys) ≡ ways_of keys
same_ways v w [] = refl
same_ways v w (key ∷ keys) = ap (λ ways. key.way ∷ ways) (same_ways v w keys)

-- an expression whose columns are replaced reads what the items read
module _ (n : ℕ) (items : List Expr) (below : ItemsBelow n items) where
  item_below : (others : List Expr) → ItemsBelow n others → (k : ℕ) → ColumnsBelow n (slice_index_or others k (Literal Null))
  item_below [] h k = tt
  item_below (e ∷ others) h zero = All-head (ColumnsBelow n) e others h
  item_below (e ∷ others) h (suc k) = item_below others (All-tail (ColumnsBelow n) e others h) k

  spelled_below : (e : Expr) → ColumnsBelow n (replaced items e)
  spelled_below e = replaced_below n items e (every (λ k. ColumnsBelow n (slice_index_or items k (Literal Null))) (λ k. item_below items below k) (columns_of e))

  each_below : (es : List Expr) → ItemsBelow n (map (replaced items) es)
  each_below [] = All-nil (ColumnsBelow n)
  each_below (e ∷ es) = All-cons (ColumnsBelow n) (replaced items e) (map (replaced items) es) (spelled_below e) (each_below es)

pub rows_below : (v w n : ℕ) → v + w ≤ n → (keys : List Expr) → ItemsBelow n (map (behind v w) keys)
rows_below v w n le keys = each_below n (columns_from v w) (columns_below v w n le) keys

pub sorts_below : (v w n : ℕ) → v + w ≤ n → (keys : List SortKey) → KeysBelow n (map (key_behind v w) keys)
sorts_below v w n le [] = All-nil (λ key. ColumnsBelow n key.expr)
sorts_below v w n le (key ∷ keys) =
    All-cons (λ other. ColumnsBelow n other.expr) (key_behind v w key) (map (key_behind v w) keys)
    (spelled_below n (columns_from v w) (columns_below v w n le) key.expr) (sorts_below v w n le keys)

-- where the keys of places are, over the rows of a join
keys_up : (m n : ℕ) → m ≤ n → (keys : List SortKey) → KeysBelow m keys → KeysBelow n keys
keys_up m n le keys h =
    All-weaker (λ (key : SortKey). ColumnsBelow m key.expr) (λ key. ColumnsBelow n key.expr)
    (λ key b. (as_data n key.expr).1 (All-weaker (λ k. k < m) (λ k. k < n) (λ k lt. omega (arith, lt, le)) (columns_of key.expr) ((as_data m key.expr).0 b))) keys h

pub over_more : (m n : ℕ) → m ≤ n → (u : Placement) → KeysOver m u → KeysOver n u
over_more m n le place.Any h = tt
over_more m n le place.Single h = tt
over_more m n le (place.Hash keys) h = items_up m n le keys h
over_more m n le (place.Range keys) h = keys_up m n le keys h
over_more m n le place.Broadcast h = tt

pub over_behind : (v w n : ℕ) → v + w ≤ n → (u : Placement) → KeysOver n (placed_behind v w u)
over_behind v w n le place.Any = tt
over_behind v w n le place.Single = tt
over_behind v w n le (place.Hash keys) = rows_below v w n le keys
over_behind v w n le (place.Range keys) = sorts_below v w n le keys
over_behind v w n le place.Broadcast = tt
