-- What is kept of rows that came: the groups, each with its key and what each call made of its rows.
use Rattle.std.specs.Prelude.{◌≡◌, ℕ, ◌+◌, ◌≤◌, length, List, [], ◌∷◌, ◌++◌, map, fold, unwrap_or}
use Rattle.std.specs.Map.{lookup}
use Rattle.indexmap.specs.IndexMap.{insert_entry}
use Rattle.aqe_values.specs.declared.value.Value.{Value}
use Rattle.aqe_values.specs.Equality.{row_eq}
use Rattle.aqe_logical.specs.declared.plan.AggCall.{AggCall}
use Rattle.aqe_logical.specs.Answers.{Row}
use Rattle.aqe_logical.specs.Groups.{group_keys, merged, nothing, rows_with}
use Rattle.aqe_operators.specs.declared.form.Form.{Form}
use Rattle.aqe_operators.specs.Forms.{key_width, key_by, part_by}

-- a group: its key, and what each call made of its rows
abbrev pub Group : Type 0
Group = Row × List Value

-- a group has a key that is not too wide, and a value of each call
abbrev pub IsWhole : Form → List AggCall → Group → Type 0
IsWhole form calls group = (length group.0 ≤ key_width form) × (length group.1 ≡ length calls)

-- what the calls make of no row
abbrev pub started : List AggCall → List Value
started calls = map (λ call. nothing call.fun) calls

-- each call with one row more; the first of the calls has place i
abbrev pub stepped : Form → ℕ → List AggCall → List Value → Row → List Value
stepped form i [] values row = []
stepped form i (call ∷ calls) [] row = []
stepped form i (call ∷ calls) (v ∷ values) row = merged call.fun v (part_by form i call row) ∷ stepped form (i + 1) calls values row

-- the groups with one row more: it steps the group of its key, or begins one behind all others
abbrev pub with_row : Form → List AggCall → List Group → Row → List Group
with_row form calls groups row =
    let key = key_by form row in
    insert_entry row_eq groups key (stepped form 0 calls (unwrap_or (lookup (row_eq key) groups) (started calls)) row)

-- the groups of no row: without keys there is one
abbrev pub begun : Form → List AggCall → List Group
begun form calls = map (λ key. (key, started calls)) (group_keys (key_width form) [])

-- the groups of these rows
abbrev pub gathered : Form → List AggCall → List Row → List Group
gathered form calls rows = fold (with_row form calls) (begun form calls) rows

-- a group as a row: its key, and then the value of each call
abbrev pub flat : Group → Row
flat group = group.0 ++ group.1

-- one row for each group of these rows: the key, and then each call over the rows that have it
abbrev pub grouped_by : Form → List AggCall → List Row → List Row
grouped_by form calls rows = map (λ key. key ++ fold (stepped form 0 calls) (started calls) (rows_with (key_by form) key rows)) (group_keys (key_width form) (map (key_by form) rows))
