-- The keys, the output columns and the calls of a SELECT have values of their types.
use Rattle.std.proofs.Common.{ℕ, ◌+◌, Bool, true, false, not, List, [], ◌∷◌, ◌++◌, map, filter, flat_map, length, Option, Some, None, Ok}
use Rattle.std.specs.Prelude.{All}
use Rattle.std.specs.List.{list_any}
use Rattle.std.proofs.lemmas.List.Elements.{All-nil, All-cons, All-head, All-tail, All-append, All-map, All-filter, All-weaker}
use Rattle.aqe_values.specs.declared.sql_type.SqlType.{SqlType}
use Rattle.aqe_trees.specs.declared.expression.OrTree.{OrTree}
use Rattle.aqe_trees.specs.declared.query.ItemTree.{ItemTree}
use Rattle.aqe_trees.specs.declared.query.ItemTree.TheVariants as tree
use Rattle.aqe_trees.specs.declared.query.SortTree.{SortTree}
use Rattle.aqe_rules.specs.Outcomes.{Outcome, upon, each}
use Rattle.aqe_rules.specs.declared.typed.Typed.{Typed}
use Rattle.aqe_rules.specs.declared.names.Named.{Named}
use Rattle.aqe_rules.specs.Readings.{Call, Place, is_of, same_call}
use Rattle.aqe_rules.specs.Looks.{Alone, a_number, a_column, something}
use Rattle.aqe_rules.specs.Expressions.{read, alone_of}
use Rattle.aqe_rules.specs.Sources.{Item, columns_of, over}
use Rattle.aqe_rules.specs.Selects.{Output, output, at, alias_of, with_aliases, all_columns, is_named, columns_of_all, Spread, column, expression, spread_item, spread, spread_value, output_name, column_output, item_outputs, outputs, at_position, grouping_key, grouping_keys, without, once, calls_of_item, calls_of_having}
use Rattle.aqe_rules.specs.Analysis.{calls_if}
use Rattle.aqe_rules.proofs.Gives.{Gives, gives_upon, gives_each, gives_weaker}
use Rattle.aqe_laws.proofs.OperationsBelow.{either_one}
use Rattle.aqe_laws.proofs.Readings.{flat-all}
use Rattle.aqe_laws.proofs.Selects.{every, position-given}
use Rattle.aqe_type_laws.proofs.OperationsTyped.{Typed_over}
use Rattle.aqe_type_laws.proofs.RowsTyped.{Front, CallTyped}
use Rattle.aqe_type_laws.proofs.ReadingsTyped.{kinds_of, Standing, AliasTyped, PlaceTyped, read-typed}
use Rattle.aqe_type_laws.proofs.ExpressionsTyped.{place-typed}

-- the columns of a SELECT, where N holds of each column of FROM
module _ (N : Typed → Type 0) where
  abbrev pub ColumnIs : Named → Type 0
  ColumnIs c = N c.value

  pub columns_of_all-are : (name : List ℕ) (items : List Item) → All ColumnIs (columns_of items) → Gives (All ColumnIs) (columns_of_all name items)
  columns_of_all-are name items h =
      either_one (Gives (All ColumnIs)) (list_any (is_named name) items) (Ok (filter (is_of name) (columns_of items))) _
      (All-filter (is_of name) ColumnIs (columns_of items) h) tt

  pub all_columns-are : (has_from : Bool) (columns : List Named) → All ColumnIs columns → Gives (All ColumnIs) (all_columns has_from columns)
  all_columns-are true columns h = h
  all_columns-are false columns h = tt

  abbrev pub SpreadIs : Spread → Type 0
  SpreadIs (column c) = ColumnIs c
  SpreadIs (expression value alias) = Unit {0}

  columns-spread : (cs : List Named) → All ColumnIs cs → All SpreadIs (map column cs)
  columns-spread cs h = All-map SpreadIs column cs h

  spread_item-is : (has_from : Bool) (items : List Item) → All ColumnIs (columns_of items) → (item : ItemTree) → Gives (All SpreadIs) (spread_item has_from items item)
  spread_item-is has_from items h tree.All =
      gives_upon (All ColumnIs) (All SpreadIs) (all_columns has_from (columns_of items)) (λ cs. Ok (map column cs)) (all_columns-are has_from (columns_of items) h) (λ cs p. columns-spread cs p)
  spread_item-is has_from items h (tree.AllOf name) =
      gives_upon (All ColumnIs) (All SpreadIs) (columns_of_all name items) (λ cs. Ok (map column cs)) (columns_of_all-are name items h) (λ cs p. columns-spread cs p)
  spread_item-is has_from items h (tree.One value alias) = All-cons SpreadIs (expression value alias) [] tt (All-nil SpreadIs)

  pub spread-is : (has_from : Bool) (items : List Item) (list : List ItemTree) → All ColumnIs (columns_of items) → Gives (All SpreadIs) (spread has_from items list)
  spread-is has_from items list h =
      gives_upon (All (All SpreadIs)) (All SpreadIs) (each (map (spread_item has_from items) list)) (λ all. Ok (flat_map (λ s. s) all))
      (gives_each (All SpreadIs) (map (spread_item has_from items) list)
      (All-map (Gives (All SpreadIs)) (spread_item has_from items) list (every (λ item. Gives (All SpreadIs) (spread_item has_from items item)) (spread_item-is has_from items h) list)))
      (λ all p. flat-all SpreadIs (λ s. s) all p)

-- output columns, by a rule that makes of what N holds of what M holds of
module _ (N M : Typed → Type 0) (rule : Typed → Outcome Typed) (keeps : (a : Typed) → N a → Gives M (rule a)) where
  abbrev pub OutputIs : Output → Type 0
  OutputIs o = M o.value

  column_output-is : (c : Named) → N c.value → Gives OutputIs (column_output rule c)
  column_output-is c h = gives_upon M OutputIs (rule c.value) (λ value. Ok (output c.name value)) (keeps c.value h) (λ value p. p)

  columns_output-are : (cs : List Named) → All (ColumnIs N) cs → Gives (All OutputIs) (each (map (column_output rule) cs))
  columns_output-are cs h =
      gives_each OutputIs (map (column_output rule) cs) (All-map (Gives OutputIs) (column_output rule) cs (All-weaker (ColumnIs N) (λ c. Gives OutputIs (column_output rule c)) column_output-is cs h))

  item_outputs-are : (has_from : Bool) (items : List Item) (place : Place) (i : ℕ) → All (ColumnIs N) (columns_of items) → All (ColumnIs N) place.columns →
      ((value : OrTree) → Gives N (read value place).value) → (item : ItemTree) → Gives (All OutputIs) (item_outputs rule has_from items place i item)
  item_outputs-are has_from items place i h k l tree.All =
      gives_upon (All (ColumnIs N)) (All OutputIs) (all_columns has_from place.columns) (λ cs. each (map (column_output rule) cs)) (all_columns-are N has_from place.columns k) columns_output-are
  item_outputs-are has_from items place i h k l (tree.AllOf name) =
      gives_upon (All (ColumnIs N)) (All OutputIs) (columns_of_all name items) (λ cs. each (map (column_output rule) cs)) (columns_of_all-are N name items h) columns_output-are
  item_outputs-are has_from items place i h k l (tree.One value alias) =
      gives_upon N (All OutputIs) (read value place).value
      (λ meaning. upon (rule meaning) (λ made. Ok (output (output_name place.columns i alias value meaning) made ∷ []))) (l value) (λ meaning p.
      gives_upon M (All OutputIs) (rule meaning) (λ made. Ok (output (output_name place.columns i alias value meaning) made ∷ [])) (keeps meaning p) (λ made q.
      All-cons OutputIs (output (output_name place.columns i alias value meaning) made) [] q (All-nil OutputIs)))

  pub outputs-are : (has_from : Bool) (items : List Item) (place : Place) (i : ℕ) → All (ColumnIs N) (columns_of items) → All (ColumnIs N) place.columns →
      ((value : OrTree) → Gives N (read value place).value) → (list : List ItemTree) → Gives (All OutputIs) (outputs rule has_from items place i list)
  outputs-are has_from items place i h k l [] = All-nil OutputIs
  outputs-are has_from items place i h k l (item ∷ rest) =
      gives_upon (All OutputIs) (All OutputIs) (item_outputs rule has_from items place i item)
      (λ first. upon (outputs rule has_from items place (i + length first) rest) (λ more. Ok (first ++ more))) (item_outputs-are has_from items place i h k l item) (λ first p.
      gives_upon (All OutputIs) (All OutputIs) (outputs rule has_from items place (i + length first) rest) (λ more. Ok (first ++ more)) (outputs-are has_from items place (i + length first) h k l rest) (λ more q.
      All-append OutputIs first more p q))

-- A SELECT over these items.
module _ (items : List Item) where
  abbrev pub cols : List Named
  cols = columns_of items

  abbrev pub kinds : List SqlType
  kinds = kinds_of cols

  -- its places
  pub at-typed : (calls : List Call) → PlaceTyped (at cols calls)
  at-typed calls = ((place-typed items).0, All-nil (AliasTyped kinds (length cols)))

  alias-typed : (item : ItemTree) → All (AliasTyped kinds (length cols)) (alias_of cols item)
  alias-typed tree.All = All-nil (AliasTyped kinds (length cols))
  alias-typed (tree.AllOf name) = All-nil (AliasTyped kinds (length cols))
  alias-typed (tree.One value None) = All-nil (AliasTyped kinds (length cols))
  alias-typed (tree.One value (Some name)) =
      All-cons (AliasTyped kinds (length cols)) (record { name = name; value = λ calls. (read value (at cols calls)).value }) []
      (λ calls. (read-typed value (at cols calls) (at-typed calls)).0) (All-nil (AliasTyped kinds (length cols)))

  pub aliases-typed : (list : List ItemTree) (calls : List Call) → PlaceTyped (with_aliases cols list calls)
  aliases-typed list calls =
      ((place-typed items).0, flat-all (AliasTyped kinds (length cols)) (alias_of cols) list (every (λ item. All (AliasTyped kinds (length cols)) (alias_of cols item)) alias-typed list))

  -- no calls stand behind the columns
  no_calls-typed : (o : Outcome Typed) → Gives (Typed_over (Standing kinds (length cols) [])) o → Gives (Typed_over (Front kinds)) o
  no_calls-typed o h = gives_weaker (Typed_over (Standing kinds (length cols) [])) (Typed_over (Front kinds)) (λ a p row f. p row (f, tt)) o h

  -- GROUP BY
  spread_value-typed : (s : Spread) → SpreadIs (Typed_over (Front kinds)) s → Gives (Typed_over (Front kinds)) (spread_value (over cols) s)
  spread_value-typed (column c) p = p
  spread_value-typed (expression value alias) p = no_calls-typed (read value (over cols)).value (read-typed value (over cols) (place-typed items)).0

  read_key-typed : (list : List ItemTree) (value : OrTree) → Gives (Typed_over (Front kinds)) (read value (with_aliases cols list [])).value
  read_key-typed list value = no_calls-typed (read value (with_aliases cols list [])).value (read-typed value (with_aliases cols list []) (aliases-typed list [])).0

  grouping_key-typed : (has_from : Bool) (list : List ItemTree) (value : OrTree) (alone : Alone) → Gives (Typed_over (Front kinds)) (grouping_key has_from items (with_aliases cols list []) list value alone)
  grouping_key-typed has_from list value (a_number negative n) =
      gives_upon (All (SpreadIs (Typed_over (Front kinds)))) (Typed_over (Front kinds)) (spread has_from items list)
      (λ all. upon (at_position negative n all) (spread_value (over cols))) (spread-is (Typed_over (Front kinds)) has_from items list (place-typed items).0) (λ all p.
      gives_upon (SpreadIs (Typed_over (Front kinds))) (Typed_over (Front kinds)) (at_position negative n all) (spread_value (over cols))
      (position-given (SpreadIs (Typed_over (Front kinds))) negative n all p) (λ s q. spread_value-typed s q))
  grouping_key-typed has_from list value a_column = read_key-typed list value
  grouping_key-typed has_from list value something = read_key-typed list value

  pub grouping_keys-typed : (has_from : Bool) (list : List ItemTree) (group : List OrTree) → Gives (All (Typed_over (Front kinds))) (grouping_keys has_from items (with_aliases cols list []) list group)
  grouping_keys-typed has_from list group =
      gives_each (Typed_over (Front kinds)) (map (λ value. grouping_key has_from items (with_aliases cols list []) list value (alone_of value)) group)
      (All-map (Gives (Typed_over (Front kinds))) (λ value. grouping_key has_from items (with_aliases cols list []) list value (alone_of value)) group
      (every (λ value. Gives (Typed_over (Front kinds)) (grouping_key has_from items (with_aliases cols list []) list value (alone_of value)))
      (λ value. grouping_key-typed has_from list value (alone_of value)) group))

  -- the calls
  once-typed : (calls : List Call) → All (CallTyped kinds) calls → All (CallTyped kinds) (once calls)
  once-typed [] h = All-nil (CallTyped kinds)
  once-typed (c ∷ cs) h =
      All-cons (CallTyped kinds) c (without c (once cs)) (All-head (CallTyped kinds) c cs h)
      (All-filter (λ other. not (same_call c.call other.call)) (CallTyped kinds) (once cs) (once-typed cs (All-tail (CallTyped kinds) c cs h)))

  item_calls-typed : (item : ItemTree) → All (CallTyped kinds) (calls_of_item (over cols) item)
  item_calls-typed tree.All = All-nil (CallTyped kinds)
  item_calls-typed (tree.AllOf name) = All-nil (CallTyped kinds)
  item_calls-typed (tree.One value alias) = (read-typed value (over cols) (place-typed items)).1

  having_calls-typed : (list : List ItemTree) (having : Option OrTree) → All (CallTyped kinds) (calls_of_having (with_aliases cols list []) having)
  having_calls-typed list None = All-nil (CallTyped kinds)
  having_calls-typed list (Some value) = (read-typed value (with_aliases cols list []) (aliases-typed list [])).1

  pub calls_if-typed : (b : Bool) (list : List ItemTree) (having : Option OrTree) (sorts : List SortTree) → All (CallTyped kinds) (calls_if b items list having sorts)
  calls_if-typed true list having sorts =
      once-typed (flat_map (calls_of_item (over cols)) list ++ calls_of_having (with_aliases cols list []) having ++ flat_map (λ sort. (read sort.value (over cols)).calls) sorts)
      (All-append (CallTyped kinds) (flat_map (calls_of_item (over cols)) list ++ calls_of_having (with_aliases cols list []) having) (flat_map (λ sort. (read sort.value (over cols)).calls) sorts)
      (All-append (CallTyped kinds) (flat_map (calls_of_item (over cols)) list) (calls_of_having (with_aliases cols list []) having)
      (flat-all (CallTyped kinds) (calls_of_item (over cols)) list (every (λ item. All (CallTyped kinds) (calls_of_item (over cols) item)) item_calls-typed list))
      (having_calls-typed list having))
      (flat-all (CallTyped kinds) (λ sort. (read sort.value (over cols)).calls) sorts
      (every (λ sort. All (CallTyped kinds) (read sort.value (over cols)).calls) (λ sort. (read-typed sort.value (over cols) (place-typed items)).1) sorts)))
  calls_if-typed false list having sorts = All-nil (CallTyped kinds)
