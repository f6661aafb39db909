-- Which values are of a type, and which rows are of columns.
use Rattle.std.specs.Prelude.{List, [], ◌∷◌}
use Rattle.aqe_values.specs.declared.value.Value.{Value}
use Rattle.aqe_values.specs.declared.value.Value.TheVariants as value
use Rattle.aqe_values.specs.declared.sql_type.SqlType.{SqlType}
use Rattle.aqe_values.specs.declared.sql_type.SqlType.TheVariants as sql
use Rattle.aqe_values.specs.declared.schema.Field.{Field}

-- NULL is of each type, and every other value of its own alone
abbrev pub IsOf : Value → SqlType → Type 0
IsOf value.Null kind = Unit {0}
IsOf (value.Boolean b) sql.Boolean = Unit {0}
IsOf (value.Int n) sql.Int = Unit {0}
IsOf (value.BigInt n) sql.BigInt = Unit {0}
IsOf (value.Text text) sql.Text = Unit {0}
IsOf v kind = ⊥

-- a row has as many values as there are columns, each of its column's type
abbrev pub FitsColumns : List Field → List Value → Type 0
FitsColumns [] [] = Unit {0}
FitsColumns (column ∷ columns) (v ∷ row) = IsOf v column.kind × FitsColumns columns row
FitsColumns columns row = ⊥
