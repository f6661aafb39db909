-- How the rows of groups come, and what is read off one of them.
use Rattle.std.specs.Prelude.{ℕ, ◌+◌, ◌≤◌, List, length, take, slice_index_or}
use Rattle.aqe_values.specs.Bounds.{row_limit}
use Rattle.aqe_values.specs.declared.value.Value.{Value}
use Rattle.aqe_values.specs.declared.value.Value.TheVariants.{Null}
use Rattle.aqe_expr.specs.Meaning.{val}
use Rattle.aqe_logical.specs.declared.plan.AggCall.{AggCall}
use Rattle.aqe_logical.specs.Answers.{Row}
use Rattle.aqe_logical.specs.Groups.{row_of, single}
use Rattle.aqe_operators.specs.declared.form.Form.{Form}
use Rattle.aqe_operators.specs.declared.form.Form.TheVariants.{Plain, Partial}

-- how many values a key has
abbrev pub key_width : Form → ℕ
key_width (Plain keys) = length keys.now
key_width (Partial n) = n

-- the key of a row
abbrev pub key_by : Form → Row → Row
key_by (Plain keys) row = row_of keys.now row
key_by (Partial n) row = take n row

-- what a row adds to the call at place i: a plain row what the call makes of its argument there, a partial row
-- its value behind the key
abbrev pub part_by : Form → ℕ → AggCall → Row → Value
part_by (Plain keys) i call row = single call.fun (val row call.arg)
part_by (Partial n) i call row = slice_index_or row (n + i) Null

-- a row has room for a key and a value of each call
abbrev pub IsNarrow : Form → List AggCall → Type 0
IsNarrow form calls = key_width form + length calls ≤ row_limit
