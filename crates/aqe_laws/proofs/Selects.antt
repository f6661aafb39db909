-- The output columns, keys and conditions of a SELECT read what stands below them.
use Rattle.std.proofs.Common.{◌≡◌, ℕ, zero, suc, ◌+◌, Bool, true, false, not, List, [], ◌∷◌, ◌++◌, map, filter, flat_map, length, Option, Some, None, Ok, Err, arith, ap, subst}
use Rattle.std.specs.Prelude.{All}
use Rattle.std.specs.List.{list_any}
use Rattle.std.proofs.lemmas.List.{length-map}
use Rattle.std.proofs.lemmas.List.Elements.{All-nil, All-cons, All-head, All-tail, All-append, All-map, All-filter, All-weaker}
use Rattle.aqe_values.specs.declared.sql_type.SqlType.TheVariants as sql
use Rattle.aqe_expr.specs.Below.{ColumnsBelow}
use Rattle.aqe_trees.specs.declared.expression.OrTree.{OrTree}
use Rattle.aqe_trees.specs.declared.query.ItemTree.{ItemTree}
use Rattle.aqe_trees.specs.declared.query.ItemTree.TheVariants as tree
use Rattle.aqe_trees.specs.declared.query.SortTree.{SortTree}
use Rattle.aqe_rules.specs.Outcomes.{Outcome, upon, each}
use Rattle.aqe_rules.specs.declared.typed.Typed.{Typed}
use Rattle.aqe_rules.specs.Operations.{typed}
use Rattle.aqe_rules.specs.declared.names.Named.{Named}
use Rattle.aqe_rules.specs.Readings.{Call, Place, is_of, same_call}
use Rattle.aqe_rules.specs.Looks.{Alone, a_number, a_column, something}
use Rattle.aqe_rules.specs.Expressions.{read, alone_of}
use Rattle.aqe_rules.specs.Grouping.{grouped}
use Rattle.aqe_rules.specs.Sources.{Item, columns_of, over, condition}
use Rattle.aqe_rules.specs.Selects.{Output, output, at, alias_of, with_aliases, all_columns, is_named, columns_of_all, Spread, column, expression, spread_item, spread, spread_value, output_name, column_output, item_outputs, outputs, nth, at_position, grouping_key, grouping_keys, without, once, calls_of_item, calls_of_having, calls_of_sorts, calls_of, built, having_condition}
use Rattle.aqe_rules.proofs.Gives.{Gives, gives_upon, gives_each}
use Rattle.aqe_laws.proofs.OperationsBelow.{Below, either_one}
use Rattle.aqe_laws.proofs.Below.{below_more}
use Rattle.aqe_laws.proofs.Grouping.{grouped-below}
use Rattle.aqe_laws.proofs.Readings.{ColumnFits, AliasFits, CallFits, Fits, read-fits, flat-all}
use Rattle.aqe_laws.proofs.Sources.{Whole, whole-items, over-fits}

abbrev pub OutputFits : ℕ → Output → Type 0
OutputFits n o = Below n o.value

-- the places of a SELECT
pub at-fits : (columns : List Named) (calls : List Call) → Whole columns → Fits (at columns calls)
at-fits columns calls h = (h, All-nil (AliasFits (length columns)))

alias-fits : (columns : List Named) → Whole columns → (item : ItemTree) → All (AliasFits (length columns)) (alias_of columns item)
alias-fits columns h tree.All = All-nil (AliasFits (length columns))
alias-fits columns h (tree.AllOf name) = All-nil (AliasFits (length columns))
alias-fits columns h (tree.One value None) = All-nil (AliasFits (length columns))
alias-fits columns h (tree.One value (Some name)) =
    All-cons (AliasFits (length columns)) (record { name = name; value = λ calls. (read value (at columns calls)).value }) []
    (λ calls. (read-fits value (at columns calls) (at-fits columns calls h)).0) (All-nil (AliasFits (length columns)))

pub every : {X : Type 0} (P : X → Type 0) → ((x : X) → P x) → (xs : List X) → All P xs
every P h [] = All-nil P
every P h (x ∷ xs) = All-cons P x xs (h x) (every P h xs)

pub aliases-fit : (columns : List Named) (list : List ItemTree) (calls : List Call) → Whole columns → Fits (with_aliases columns list calls)
aliases-fit columns list calls h =
    (h, flat-all (AliasFits (length columns)) (alias_of columns) list (every (λ item. All (AliasFits (length columns)) (alias_of columns item)) (alias-fits columns h) list))

-- nothing is read beyond the columns where no call may stand
pub no_calls : (n : ℕ) (o : Outcome Typed) → Gives (Below (n + 0)) o → Gives (Below n) o
no_calls n (Ok a) h = below_more (n + 0) n (omega arith) a.expr h
no_calls n (Err check) h = tt

pub columns_of_all-fit : (m : ℕ) (name : List ℕ) (items : List Item) → All (ColumnFits m) (columns_of items) → Gives (All (ColumnFits m)) (columns_of_all name items)
columns_of_all-fit m name items h =
    either_one (Gives (All (ColumnFits m))) (list_any (is_named name) items) (Ok (filter (is_of name) (columns_of items))) _
    (All-filter (is_of name) (ColumnFits m) (columns_of items) h) tt

pub all_columns-fit : (m : ℕ) (has_from : Bool) (columns : List Named) → All (ColumnFits m) columns → Gives (All (ColumnFits m)) (all_columns has_from columns)
all_columns-fit m true columns h = h
all_columns-fit m false columns h = tt

abbrev SpreadFits : ℕ → Spread → Type 0
SpreadFits m (column c) = ColumnFits m c
SpreadFits m (expression value alias) = Unit {0}

columns-spread : (m : ℕ) (cs : List Named) → All (ColumnFits m) cs → All (SpreadFits m) (map column cs)
columns-spread m cs h = All-map (SpreadFits m) column cs h

spread_item-fits : (m : ℕ) (has_from : Bool) (items : List Item) → All (ColumnFits m) (columns_of items) → (item : ItemTree) → Gives (All (SpreadFits m)) (spread_item has_from items item)
spread_item-fits m has_from items h tree.All =
    gives_upon (All (ColumnFits m)) (All (SpreadFits m)) (all_columns has_from (columns_of items)) (λ cs. Ok (map column cs)) (all_columns-fit m has_from (columns_of items) h) (λ cs p. columns-spread m cs p)
spread_item-fits m has_from items h (tree.AllOf name) =
    gives_upon (All (ColumnFits m)) (All (SpreadFits m)) (columns_of_all name items) (λ cs. Ok (map column cs)) (columns_of_all-fit m name items h) (λ cs p. columns-spread m cs p)
spread_item-fits m has_from items h (tree.One value alias) = All-cons (SpreadFits m) (expression value alias) [] tt (All-nil (SpreadFits m))

spread-fits : (m : ℕ) (has_from : Bool) (items : List Item) (list : List ItemTree) → All (ColumnFits m) (columns_of items) → Gives (All (SpreadFits m)) (spread has_from items list)
spread-fits m has_from items list h =
    gives_upon (All (All (SpreadFits m))) (All (SpreadFits m)) (each (map (spread_item has_from items) list)) (λ all. Ok (flat_map (λ s. s) all))
    (gives_each (All (SpreadFits m)) (map (spread_item has_from items) list)
    (All-map (Gives (All (SpreadFits m))) (spread_item has_from items) list (every (λ item. Gives (All (SpreadFits m)) (spread_item has_from items item)) (spread_item-fits m has_from items h) list)))
    (λ all p. flat-all (SpreadFits m) (λ s. s) all p)

nth-given : {A : Type 0} (P : A → Type 0) (told : List ℕ) (n : ℕ) (all : List A) → All P all → Gives P (nth told n all)
nth-given P told zero [] h = tt
nth-given P told (suc zero) [] h = tt
nth-given P told (suc (suc n)) [] h = tt
nth-given P told zero (a ∷ all) h = tt
nth-given P told (suc zero) (a ∷ all) h = All-head P a all h
nth-given P told (suc (suc n)) (a ∷ all) h = nth-given P told (suc n) all (All-tail P a all h)

pub position-given : {A : Type 0} (P : A → Type 0) (negative : Bool) (n : ℕ) (all : List A) → All P all → Gives P (at_position negative n all)
position-given P true n all h = tt
position-given P false n all h = nth-given P _ n all h

spread_value-below : (columns : List Named) → Whole columns → (s : Spread) → SpreadFits (length columns) s → Gives (Below (length columns)) (spread_value (over columns) s)
spread_value-below columns h (column c) p = p
spread_value-below columns h (expression value alias) p = no_calls (length columns) (read value (over columns)).value (read-fits value (over columns) (over-fits columns h)).0

-- GROUP BY
grouping_key-below : (has_from : Bool) (items : List Item) (list : List ItemTree) (value : OrTree) (alone : Alone) →
    Gives (Below (length (columns_of items))) (grouping_key has_from items (with_aliases (columns_of items) list []) list value alone)
grouping_key-below has_from items list value (a_number negative n) =
    gives_upon (All (SpreadFits (length (columns_of items)))) (Below (length (columns_of items))) (spread has_from items list)
    (λ all. upon (at_position negative n all) (spread_value (over (columns_of items)))) (spread-fits (length (columns_of items)) has_from items list (whole-items items)) (λ all p.
    gives_upon (SpreadFits (length (columns_of items))) (Below (length (columns_of items))) (at_position negative n all) (spread_value (over (columns_of items)))
    (position-given (SpreadFits (length (columns_of items))) negative n all p) (λ s q. spread_value-below (columns_of items) (whole-items items) s q))
grouping_key-below has_from items list value a_column =
    no_calls (length (columns_of items)) (read value (with_aliases (columns_of items) list [])).value (read-fits value (with_aliases (columns_of items) list []) (aliases-fit (columns_of items) list [] (whole-items items))).0
grouping_key-below has_from items list value something =
    no_calls (length (columns_of items)) (read value (with_aliases (columns_of items) list [])).value (read-fits value (with_aliases (columns_of items) list []) (aliases-fit (columns_of items) list [] (whole-items items))).0

pub grouping_keys-below : (has_from : Bool) (items : List Item) (list : List ItemTree) (group : List OrTree) →
    Gives (All (Below (length (columns_of items)))) (grouping_keys has_from items (with_aliases (columns_of items) list []) list group)
grouping_keys-below has_from items list group =
    gives_each (Below (length (columns_of items))) (map (λ value. grouping_key has_from items (with_aliases (columns_of items) list []) list value (alone_of value)) group)
    (All-map (Gives (Below (length (columns_of items)))) (λ value. grouping_key has_from items (with_aliases (columns_of items) list []) list value (alone_of value)) group
    (every (λ value. Gives (Below (length (columns_of items))) (grouping_key has_from items (with_aliases (columns_of items) list []) list value (alone_of value)))
    (λ value. grouping_key-below has_from items list value (alone_of value)) group))

-- output columns, by a rule for what they are built of
module _ (rule : Typed → Outcome Typed) (n m : ℕ) (keeps : (a : Typed) → Below n a → Gives (Below m) (rule a)) where
  column_output-fits : (c : Named) → ColumnFits n c → Gives (OutputFits m) (column_output rule c)
  column_output-fits c h = gives_upon (Below m) (OutputFits m) (rule c.value) (λ value. Ok (output c.name value)) (keeps c.value h) (λ value p. p)

  columns_output-fit : (cs : List Named) → All (ColumnFits n) cs → Gives (All (OutputFits m)) (each (map (column_output rule) cs))
  columns_output-fit cs h =
      gives_each (OutputFits m) (map (column_output rule) cs) (All-map (Gives (OutputFits m)) (column_output rule) cs (All-weaker (ColumnFits n) (λ c. Gives (OutputFits m) (column_output rule c)) column_output-fits cs h))

  item_outputs-fit : (has_from : Bool) (items : List Item) (place : Place) (i : ℕ) → All (ColumnFits n) (columns_of items) → All (ColumnFits n) place.columns →
      ((value : OrTree) → Gives (Below n) (read value place).value) → (item : ItemTree) → Gives (All (OutputFits m)) (item_outputs rule has_from items place i item)
  item_outputs-fit has_from items place i h k l tree.All =
      gives_upon (All (ColumnFits n)) (All (OutputFits m)) (all_columns has_from place.columns) (λ cs. each (map (column_output rule) cs)) (all_columns-fit n has_from place.columns k) columns_output-fit
  item_outputs-fit has_from items place i h k l (tree.AllOf name) =
      gives_upon (All (ColumnFits n)) (All (OutputFits m)) (columns_of_all name items) (λ cs. each (map (column_output rule) cs)) (columns_of_all-fit n name items h) columns_output-fit
  item_outputs-fit has_from items place i h k l (tree.One value alias) =
      gives_upon (Below n) (All (OutputFits m)) (read value place).value
      (λ meaning. upon (rule meaning) (λ made. Ok (output (output_name place.columns i alias value meaning) made ∷ []))) (l value) (λ meaning p.
      gives_upon (Below m) (All (OutputFits m)) (rule meaning) (λ made. Ok (output (output_name place.columns i alias value meaning) made ∷ [])) (keeps meaning p) (λ made q.
      All-cons (OutputFits m) (output (output_name place.columns i alias value meaning) made) [] q (All-nil (OutputFits m))))

  pub outputs-fit : (has_from : Bool) (items : List Item) (place : Place) (i : ℕ) → All (ColumnFits n) (columns_of items) → All (ColumnFits n) place.columns →
      ((value : OrTree) → Gives (Below n) (read value place).value) → (list : List ItemTree) → Gives (All (OutputFits m)) (outputs rule has_from items place i list)
  outputs-fit has_from items place i h k l [] = All-nil (OutputFits m)
  outputs-fit has_from items place i h k l (item ∷ rest) =
      gives_upon (All (OutputFits m)) (All (OutputFits m)) (item_outputs rule has_from items place i item)
      (λ first. upon (outputs rule has_from items place (i + length first) rest) (λ more. Ok (first ++ more))) (item_outputs-fit has_from items place i h k l item) (λ first p.
      gives_upon (All (OutputFits m)) (All (OutputFits m)) (outputs rule has_from items place (i + length first) rest) (λ more. Ok (first ++ more)) (outputs-fit has_from items place (i + length first) h k l rest) (λ more q.
      All-append (OutputFits m) first more p q))

  pub having-below : (place : Place) (value : OrTree) → Gives (ColumnsBelow n) (condition value place) → Gives (Below m) (having_condition rule place value)
  having-below place value h = gives_upon (ColumnsBelow n) (Below m) (condition value place) (λ expr. rule (typed expr sql.Boolean)) h (λ expr p. keeps (typed expr sql.Boolean) p)

-- how many columns stand below the output: keys and calls, or those of FROM
abbrev pub after : Bool → List Typed → List Call → ℕ → ℕ
after true keys calls w = length keys + length calls
after false keys calls w = w

-- a query that is not grouped has no calls
abbrev pub Ruled : Bool → List Call → Type 0
Ruled true calls = Unit {0}
Ruled false calls = calls ≡ []

pub built-below : (b : Bool) (keys : List Typed) (columns : List Named) (calls : List Call) → Ruled b calls → (a : Typed) →
    Below (length columns + length calls) a → Gives (Below (after b keys calls (length columns))) (built b keys columns a)
built-below true keys columns calls r a h =
    gives_upon (ColumnsBelow (length (map (λ k. k.expr) keys) + length calls)) (Below (length keys + length calls))
    (grouped (map (λ k. k.expr) keys) (map (λ c. c.name) columns) a.expr) (λ expr. Ok (typed expr a.kind))
    (grouped-below (map (λ k. k.expr) keys) (map (λ c. c.name) columns) (length calls) a.expr
    (below_more (length columns + length calls) (length (map (λ c. c.name) columns) + length calls) (omega (arith, length-map columns (λ c. c.name))) a.expr h))
    (λ expr p. below_more (length (map (λ k. k.expr) keys) + length calls) (length keys + length calls) (omega (arith, length-map keys (λ k. k.expr))) expr p)
built-below false keys columns calls r a h = below_more (length columns + length calls) (length columns) (omega (arith, ap length r)) a.expr h

-- the calls of a query read the columns of FROM
once-fit : (w : ℕ) (calls : List Call) → All (CallFits w) calls → All (CallFits w) (once calls)
once-fit w [] h = All-nil (CallFits w)
once-fit w (c ∷ cs) h =
    All-cons (CallFits w) c (without c (once cs)) (All-head (CallFits w) c cs h)
    (All-filter (λ other. not (same_call c.call other.call)) (CallFits w) (once cs) (once-fit w cs (All-tail (CallFits w) c cs h)))

item_calls-fit : (place : Place) → Fits place → (item : ItemTree) → All (CallFits (length place.columns)) (calls_of_item place item)
item_calls-fit place fits tree.All = All-nil (CallFits (length place.columns))
item_calls-fit place fits (tree.AllOf name) = All-nil (CallFits (length place.columns))
item_calls-fit place fits (tree.One value alias) = (read-fits value place fits).1

having_calls-fit : (place : Place) → Fits place → (having : Option OrTree) → All (CallFits (length place.columns)) (calls_of_having place having)
having_calls-fit place fits None = All-nil (CallFits (length place.columns))
having_calls-fit place fits (Some value) = (read-fits value place fits).1

pub calls-fit : (place other : Place) → Fits place → Fits other → length other.columns ≡ length place.columns → (list : List ItemTree) (having : Option OrTree) (sorts : List SortTree) →
    All (CallFits (length place.columns)) (calls_of place other list having sorts)
calls-fit place other fits fits2 e list having sorts =
    once-fit (length place.columns) (flat_map (calls_of_item place) list ++ calls_of_having other having ++ calls_of_sorts place sorts)
    (All-append (CallFits (length place.columns)) (flat_map (calls_of_item place) list ++ calls_of_having other having) (calls_of_sorts place sorts)
    (All-append (CallFits (length place.columns)) (flat_map (calls_of_item place) list) (calls_of_having other having)
    (flat-all (CallFits (length place.columns)) (calls_of_item place) list (every (λ item. All (CallFits (length place.columns)) (calls_of_item place item)) (item_calls-fit place fits) list))
    (subst (λ w. All (CallFits w) (calls_of_having other having)) e (having_calls-fit other fits2 having)))
    (flat-all (CallFits (length place.columns)) (λ sort. (read sort.value place).calls) sorts (every (λ sort. All (CallFits (length place.columns)) (read sort.value place).calls) (λ sort. (read-fits sort.value place fits).1) sorts)))
