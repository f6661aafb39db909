-- Keys spelled over the columns of the rows that items make.
use Rattle.std.proofs.Common.{◌≡◌, ℕ, zero, suc, ◌+◌, ◌<◌, ◌≤◌, Bool, true, false, ◌&&◌, cond, List, [], ◌∷◌, ◌++◌, take, length, refl, ap, sym, ◌∙◌, arith, subst, Option, Some, None}
use Rattle.std.specs.Prelude.{slice_index_or, nat_lt, option_map}
use Rattle.std.specs.List.{list_any, list_all, position_or_len}
use Rattle.std.proofs.lemmas.Bool.Decides.{nat_tests}
use Rattle.std.proofs.lemmas.List.{length-map, length-take, get_or-map, get_or_append_left, get_or-take}
use Rattle.std.proofs.lemmas.List.Sums.{passes_at_first}
use Rattle.std.proofs.lemmas.List.Elements.{All-nil, All-cons}
use Rattle.aqe_values.specs.declared.value.Value.TheVariants.{Null}
use Rattle.aqe_expr.specs.declared.expr.Expr.{Expr, Column, Literal}
use Rattle.aqe_expr.specs.Below.{ColumnsBelow}
use Rattle.aqe_expr.specs.Meaning.{val}
use Rattle.aqe_logical.specs.declared.plan.SortKey.{SortKey}
use Rattle.aqe_logical.specs.Answers.{Row}
use Rattle.aqe_logical.specs.Groups.{row_of}
use Rattle.aqe_logical.specs.Order.{ways_of, key_of}
use Rattle.aqe_logical.specs.WellFormed.{ItemsBelow, KeysBelow}
use Rattle.aqe_rules.specs.Equality.{same_expr}
use Rattle.aqe_laws.proofs.Same.{same_is_equal}
use Rattle.aqe_join_keys.specs.Keys.{columns_from}
use Rattle.aqe_fitting.specs.Placing.{with_more, each_found, column_with, kept_column, key_over, found_key}

abbrev has : {X : Type 0} → X → Option X → X
has d (Some x) = x
has d None = d

pub some_same : {X : Type 0} (x y : X) → Some x ≡ Some y → x ≡ y
some_same x y h = ap (has x) h

-- an expression is read at a column of the rows that items make
abbrev pub Found : List Expr → Expr → Expr → Type 0
Found items e c = (j : ℕ) × (c ≡ Column j) × (j < length items) × ((row : Row) → slice_index_or (row_of items row) j Null ≡ val row e)

pub column_found : (items : List Expr) (e c : Expr) → column_with items e ≡ Some c → Found items e c
column_found items e c h = by (nat_lt first (length items)) refl h
  where
    first : ℕ
    first = position_or_len (λ item. same_expr item e) items

    by : (b : Bool) → nat_lt first (length items) ≡ b → option_map (λ k. Column k) (cond b (Some first) None) ≡ Some c → Found items e c
    by false t g = absurd (cc)
    by true t g =
        let lt : first < length items = grind (arith, nat_tests, t) in
        let same : slice_index_or items first (Literal Null) ≡ e = (same_is_equal (slice_index_or items first (Literal Null)) e).0 (passes_at_first (λ item. same_expr item e) items (Literal Null) lt) in
        (first, sym (some_same (Column first) c g), lt, λ row. get_or-map (val row) items first (Literal Null) Null lt ∙ ap (val row) same)

pub kept_found : (items : List Expr) (e c : Expr) → kept_column items e ≡ Some c → Found items e c
kept_found items (Column k) c h = column_found items (Column k) c h
kept_found items e c h = absurd (cc)

-- keys are spelled anew: over a row that items make, whatever stands behind it, they have the values that they had
pub record Respelled (items others spelled : List Expr) : Type 0 where
  pub values : (row more : Row) → row_of spelled (row_of items row ++ more) ≡ row_of others row
  pub below : ItemsBelow (length items) spelled

-- keys of an order are spelled anew, each in its way
pub record RespelledKeys (items : List Expr) (others spelled : List SortKey) : Type 0 where
  pub ways : ways_of spelled ≡ ways_of others
  pub values : (row more : Row) → key_of spelled (row_of items row ++ more) ≡ key_of others row
  pub below : KeysBelow (length items) spelled

pub found_value : (items : List Expr) (e c : Expr) → Found items e c → (row more : Row) → val (row_of items row ++ more) c ≡ val row e
found_value items e c (j, is, lt, read) row more =
    ap (val (row_of items row ++ more)) is ∙
    (get_or_append_left (row_of items row) more Null j (omega (arith, lt, length-map items (val row))) ∙ read row)

found_below : (items : List Expr) (e c : Expr) → Found items e c → ColumnsBelow (length items) c
found_below items e c (j, is, lt, read) = subst (ColumnsBelow (length items)) (sym is) lt

module _ (found : Expr → Option Expr) (items : List Expr) (each : (e c : Expr) → found e ≡ Some c → Found items e c) where
  pub respelled : (others spelled : List Expr) → each_found found others ≡ Some spelled → Respelled items others spelled
  respelled [] spelled h =
      subst (Respelled items []) (some_same [] spelled h) (record { values = λ row more. refl; below = All-nil (ColumnsBelow (length items)) })
  respelled (e ∷ others) spelled h = by (found e) (each_found found others) refl refl h (λ cs. respelled others cs)
    where
      by : (a : Option Expr) (b : Option (List Expr)) → found e ≡ a → each_found found others ≡ b → with_more a b ≡ Some spelled → ((cs : List Expr) → each_found found others ≡ Some cs → Respelled items others cs) → Respelled items (e ∷ others) spelled
      by None b f g k later = absurd (cc)
      by (Some c) None f g k later = absurd (cc)
      by (Some c) (Some cs) f g k later =
          let one = each e c f in
          let rest = later cs g in
          subst (Respelled items (e ∷ others)) (some_same (c ∷ cs) spelled k)
          (record {
            values = λ row more. (λ i. found_value items e c one row more i ∷ rest.values row more i);
            below = All-cons (ColumnsBelow (length items)) c cs (found_below items e c one) rest.below;
          })

  pub respelled_keys : (others spelled : List SortKey) → each_found (found_key found) others ≡ Some spelled → RespelledKeys items others spelled
  respelled_keys [] spelled h =
      subst (RespelledKeys items []) (some_same [] spelled h) (record { ways = refl; values = λ row more. refl; below = All-nil (λ key. ColumnsBelow (length items) key.expr) })
  respelled_keys (key ∷ others) spelled h = by (found key.expr) (each_found (found_key found) others) refl refl h (λ cs. respelled_keys others cs)
    where
      by : (a : Option Expr) (b : Option (List SortKey)) → found key.expr ≡ a → each_found (found_key found) others ≡ b → with_more (option_map (key_over key) a) b ≡ Some spelled → ((cs : List SortKey) → each_found (found_key found) others ≡ Some cs → RespelledKeys items others cs) → RespelledKeys items (key ∷ others) spelled
      by None b f g k later = absurd (cc)
      by (Some c) None f g k later = absurd (cc)
      by (Some c) (Some cs) f g k later =
          let one = each key.expr c f in
          let rest = later cs g in
          subst (RespelledKeys items (key ∷ others)) (some_same (key_over key c ∷ cs) spelled k)
          (record {
            ways = ap (λ ways. key.way ∷ ways) rest.ways;
            values = λ row more. (λ i. found_value items key.expr c one row more i ∷ rest.values row more i);
            below = All-cons (λ other. ColumnsBelow (length items) other.expr) (key_over key c) cs (found_below items key.expr c one) rest.below;
          })

-- a key that stands among the items is found
any_first : {X : Type 0} (p : X → Bool) (xs : List X) → list_any p xs ≡ true → position_or_len p xs < length xs
any_first p [] h = absurd (cc)
any_first p (x ∷ xs) h = let more = any_first p xs in grind (arith, more)

column_exists : (items : List Expr) (e : Expr) → list_any (λ item. same_expr item e) items ≡ true → (c : Expr) × (column_with items e ≡ Some c)
column_exists items e h =
    let lt = any_first (λ item. same_expr item e) items h in
    let first : nat_lt (position_or_len (λ item. same_expr item e) items) (length items) ≡ true = grind (arith, nat_tests, lt) in
    (Column (position_or_len (λ item. same_expr item e) items), ap (λ b. option_map (λ k. Column k) (cond b (Some (position_or_len (λ item. same_expr item e) items)) None)) first)

both_hold : (a b : Bool) → (a && b) ≡ true → (a ≡ true) × (b ≡ true)
both_hold true b h = (refl, h)
both_hold false b h = absurd (cc)

pub all_found : (items others : List Expr) → list_all (λ e. list_any (λ item. same_expr item e) items) others ≡ true → (spelled : List Expr) × (each_found (column_with items) others ≡ Some spelled)
all_found items [] h = ([], refl)
all_found items (e ∷ others) h =
    let both = both_hold (list_any (λ item. same_expr item e) items) (list_all (λ e. list_any (λ item. same_expr item e) items) others) h in
    let one = column_exists items e both.0 in
    let rest = all_found items others both.1 in
    (one.0 ∷ rest.0, (λ i. with_more (one.1 i) (rest.1 i)))

-- rows that agree at the columns from one on
pub columns_agree : (a m : ℕ) (row other : Row) → ((j : ℕ) → a ≤ j → j < a + m → slice_index_or row j Null ≡ slice_index_or other j Null) → row_of (columns_from a m) row ≡ row_of (columns_from a m) other
columns_agree a zero row other h = refl
columns_agree a (suc m) row other h =
    (λ i. h a (omega arith) (omega arith) i ∷ columns_agree (a + 1) m row other (λ j le lt. h j (omega (arith, le)) (omega (arith, lt))) i)

pub columns_of_front : (m : ℕ) (row : Row) → row_of (columns_from 0 m) (take m row) ≡ row_of (columns_from 0 m) row
columns_of_front m row = columns_agree 0 m (take m row) row (λ j le lt. get_or-take m row j Null (omega (arith, lt)))

pub columns_in_front : (m : ℕ) (row more : Row) → m ≤ length row → row_of (columns_from 0 m) (take m row ++ more) ≡ row_of (columns_from 0 m) row
columns_in_front m row more wide =
    columns_agree 0 m (take m row ++ more) row
    (λ j le lt. get_or_append_left (take m row) more Null j (omega (arith, lt, wide, length-take m row)) ∙ get_or-take m row j Null (omega (arith, lt)))

pub columns_below : (a m n : ℕ) → a + m ≤ n → ItemsBelow n (columns_from a m)
columns_below a zero n le = All-nil (ColumnsBelow n)
columns_below a (suc m) n le = All-cons (ColumnsBelow n) (Column a) (columns_from (a + 1) m) (omega (arith, le)) (columns_below (a + 1) m n (omega (arith, le)))
