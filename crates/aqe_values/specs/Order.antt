-- The order of values and of rows, and the order under a key of a sort.
use Rattle.std.specs.Prelude.{ℕ, List, ◌≡◌, if◌then◌else◌}
use Rattle.std.specs.declared.cmp.Ordering.{Ordering}
use Rattle.std.specs.declared.cmp.Ordering.TheVariants.{Less, Equal, Greater}
use Rattle.std.specs.Ordering.{nat_cmp, int_cmp, bool_cmp, ordering_reverse, eq_by_cmp, as_partial_cmp}
use Rattle.std.specs.Cmp.{IsTotalOrder, IsPartialOrder, po}
use Rattle.std.specs.Cmp.Lexicographic.{slice_cmp, lists_total, lists_ties}
use Rattle.aqe_values.specs.declared.value.Value.{Value}
use Rattle.aqe_values.specs.declared.value.Value.TheVariants.{Null, Boolean, Int, BigInt, Text}
use Rattle.aqe_values.specs.declared.sort_way.SortWay.{SortWay}
use Rattle.aqe_values.specs.Equality.{row_eq}
use Rattle.aqe_values.specs.contracts.value.ValueOrd.TheImpl as ord
use Rattle.aqe_values.specs.contracts.value.ValueOrd.TheImpl.Laws.{total-law, matches_eq-law}

-- the types of values in their order: NULL, BOOLEAN, INT, BIGINT, STRING
abbrev pub type_rank : Value → ℕ
type_rank Null = 0
type_rank (Boolean b) = 1
type_rank (Int n) = 2
type_rank (BigInt n) = 3
type_rank (Text bytes) = 4

-- The order of two values. Within a type: false before true, numbers by value, texts by their bytes.
-- Values of two types are ordered by their types.
abbrev pub value_cmp : Value → Value → Ordering
value_cmp (Boolean a) (Boolean b) = bool_cmp a b
value_cmp (Int a) (Int b) = int_cmp a b
value_cmp (BigInt a) (BigInt b) = int_cmp a b
value_cmp (Text a) (Text b) = slice_cmp nat_cmp a b
value_cmp a b = nat_cmp (type_rank a) (type_rank b)

-- where NULL stands against each other value: before it, or behind it where the key says so
abbrev pub null_cmp : SortWay → Ordering
null_cmp way = if way.nulls_last then Greater else Less

-- The order of two values under a key of a sort. A descending key
-- turns the order of all values but NULL round.
abbrev pub way_cmp : SortWay → Value → Value → Ordering
way_cmp way Null Null = Equal
way_cmp way Null b = null_cmp way
way_cmp way a Null = ordering_reverse (null_cmp way)
way_cmp way a b = if way.descending then ordering_reverse (value_cmp a b) else value_cmp a b

-- what `cmp` answers for two values, by the derive
abbrev pub derived_cmp : Value → Value → Ordering
derived_cmp = (ord.ghosts).cmp

-- the order of two rows: the first pair of values that differ decides, and else the shorter row comes first
abbrev pub derived_row_cmp : List Value → List Value → Ordering
derived_row_cmp = slice_cmp derived_cmp

pub rows_total : IsTotalOrder derived_row_cmp
rows_total = lists_total total-law

pub rows_tie : (a b : List Value) → row_eq a b ≡ eq_by_cmp derived_row_cmp a b
rows_tie = lists_ties derived_cmp matches_eq-law

pub rows_partial_order : IsPartialOrder row_eq (as_partial_cmp derived_row_cmp)
rows_partial_order = po rows_total rows_tie

-- the order that the program uses is the order written out above
abbrev pub ValuesOrderedByType : Type 0
ValuesOrderedByType = (a b : Value) → derived_cmp a b ≡ value_cmp a b
