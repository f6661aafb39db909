-- Groups of rows, and aggregate calls over them.
use Rattle.std.specs.Prelude.{ℕ, zero, suc, ◌+◌, Bool, true, false, not, cond, List, [], ◌∷◌, ◌++◌, map, filter, fold, take, Option, Some, None, slice_index_or, ℤ, pos, ◌+ℤ◌}
use Rattle.std.specs.Int.{w64, int_wrap}
use Rattle.std.specs.declared.cmp.Ordering.{Ordering}
use Rattle.std.specs.declared.cmp.Ordering.TheVariants.{Greater}
use Rattle.aqe_values.specs.declared.value.Value.{Value}
use Rattle.aqe_values.specs.declared.value.Value.TheVariants.{Null, Int, BigInt}
use Rattle.aqe_values.specs.Equality.{row_eq}
use Rattle.aqe_values.specs.declared.sort_way.SortWay.{SortWay}
use Rattle.aqe_values.specs.Order.{way_cmp}
use Rattle.aqe_expr.specs.declared.expr.Expr.{Expr}
use Rattle.aqe_expr.specs.Meaning.{val}
use Rattle.aqe_expr.specs.Numbers.{number_of}
use Rattle.aqe_expr.specs.Truths.{is_null}
use Rattle.aqe_logical.specs.declared.plan.AggCall.{AggCall}
use Rattle.aqe_logical.specs.declared.plan.AggFun.{AggFun}
use Rattle.aqe_logical.specs.declared.plan.AggFun.TheVariants.{Count, Sum, Min, Max}

-- the values of expressions over a row
abbrev pub row_of : List Expr → List Value → List Value
row_of items row = map (val row) items

-- a count, which is a number; any other value counts for nothing
abbrev pub number_or_zero : Value → ℤ
number_or_zero (Int n) = n
number_or_zero (BigInt n) = n
number_or_zero v = pos 0

-- the total of two numbers, each of which may be missing; NULL where both are
abbrev pub total_of : Option ℤ → Option ℤ → Value
total_of None None = Null
total_of (Some m) None = BigInt (int_wrap w64 m)
total_of None (Some n) = BigInt (int_wrap w64 n)
total_of (Some m) (Some n) = BigInt (int_wrap w64 (m +ℤ n))

abbrev pub is_greater : Ordering → Bool
is_greater Greater = true
is_greater order = false

-- of two values the one that stands first in an order, in which NULL stands last
abbrev pub first_of : SortWay → Value → Value → Value
first_of way a b = cond (is_greater (way_cmp way a b)) b a

abbrev pub ascending : SortWay
ascending = record { descending = false; nulls_last = true }

abbrev pub descending : SortWay
descending = record { descending = true; nulls_last = true }

-- What a call makes of no row, of the value of its argument at one row, and of what it made of two
-- lists of rows. NULL counts for nothing. Counts and sums are BIGINTs that wrap.
abbrev pub nothing : AggFun → Value
nothing Count = BigInt (pos 0)
nothing fun = Null

abbrev pub single : AggFun → Value → Value
single Count v = BigInt (cond (is_null v) (pos 0) (pos 1))
single Sum v = total_of (number_of v) None
single Min v = v
single Max v = v

abbrev pub merged : AggFun → Value → Value → Value
merged Count a b = BigInt (int_wrap w64 (number_or_zero a +ℤ number_or_zero b))
merged Sum a b = total_of (number_of a) (number_of b)
merged Min a b = first_of ascending a b
merged Max a b = first_of descending a b

-- the value of a call over rows: what it makes of each of them, merged one after the other
abbrev pub folded : AggFun → List Value → Value
folded fun values = fold (merged fun) (nothing fun) (map (single fun) values)

abbrev pub call_value : List (List Value) → AggCall → Value
call_value rows call = folded call.fun (map (λ row. val row call.arg) rows)

-- rows without those that stood before, in order of first appearance
abbrev pub distinct : List (List Value) → List (List Value)
distinct [] = []
distinct (k ∷ ks) = k ∷ filter (λ j. not (row_eq k j)) (distinct ks)

-- the keys of the groups, from the key of each row: each once; without keys the one empty key,
-- whatever the rows
abbrev pub group_keys : ℕ → List (List Value) → List (List Value)
group_keys zero keys = [] ∷ []
group_keys (suc n) keys = distinct keys

-- the rows whose key is k
abbrev pub rows_with : (List Value → List Value) → List Value → List (List Value) → List (List Value)
rows_with key k rows = filter (λ row. row_eq k (key row)) rows

-- one row for each group, for keys of n values: the key, then the calls over the rows with that key
abbrev pub group_rows : ℕ → (List Value → List Value) → List AggCall → List (List Value) → List (List Value)
group_rows n key calls rows = map (λ k. k ++ map (call_value (rows_with key k rows)) calls) (group_keys n (map key rows))

-- Partial rows of groups, made of parts of the rows, have n values of the key and then the calls.
-- Finishing merges those with equal keys.
abbrev pub finished : ℕ → List AggCall → List (List Value) → List Value
finished i [] rows = []
finished i (call ∷ calls) rows = fold (merged call.fun) (nothing call.fun) (map (λ row. slice_index_or row i Null) rows) ∷ finished (i + 1) calls rows

abbrev pub finish_rows : ℕ → List AggCall → List (List Value) → List (List Value)
finish_rows n calls rows = map (λ k. k ++ finished n calls (rows_with (take n) k rows)) (group_keys n (map (take n) rows))
