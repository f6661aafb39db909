-- How the rows of an answer are printed.
use Rattle.std.specs.Prelude.{◌≡◌, ◌==◌, ⊤, ℕ, List, [], ◌∷◌, ◌++◌, true, false, if◌then◌else◌, codes, map, FitsSigned}
use Rattle.std.specs.Fmt.{signed_decimal}
use Rattle.std.specs.Int.{w32, w64}
use Rattle.std.specs.List.{flat_map, join_with_byte}
use Rattle.aqe_values.specs.declared.schema.Field.{Field}
use Rattle.aqe_values.specs.declared.sql_type.SqlType.{SqlType}
use Rattle.aqe_values.specs.declared.sql_type.SqlType.TheVariants as type
use Rattle.aqe_values.specs.declared.value.Value.{Value}
use Rattle.aqe_values.specs.declared.value.Value.TheVariants as value

-- A backslash, a tab, a line feed and a carriage return are printed as a backslash and another character; other
-- bytes stay.
abbrev pub escaped_byte : ℕ → List ℕ
escaped_byte c =
    if c == 92 then codes "\\\\"
    else if c == 9 then codes "\\t"
    else if c == 10 then codes "\\n"
    else if c == 13 then codes "\\r"
    else c ∷ []

abbrev pub escaped : List ℕ → List ℕ
escaped text = flat_map escaped_byte text

-- A number is printed in decimal, and NULL as a backslash and `N`, which no text gives.
abbrev pub value_text : Value → List ℕ
value_text value.Null = codes "\\N"
value_text (value.Boolean true) = codes "true"
value_text (value.Boolean false) = codes "false"
value_text (value.Int n) = signed_decimal n
value_text (value.BigInt n) = signed_decimal n
value_text (value.Text text) = escaped text

-- a line: the fields with a tab between each two, and a line feed
abbrev pub line_text : List (List ℕ) → List ℕ
line_text fields = join_with_byte 9 fields ++ 10 ∷ []

abbrev pub header_text : List Field → List ℕ
header_text columns = line_text (map (λ column. escaped column.name) columns)

abbrev pub row_text : List Value → List ℕ
row_text row = line_text (map value_text row)

-- an answer: the line of the columns' names, a line for each row, and a line of a backslash and a point
abbrev pub result_text : List Field → List (List Value) → List ℕ
result_text columns rows = header_text columns ++ flat_map row_text rows ++ codes "\\.\n"

-- a value may stand in a column of its type, and NULL in each column
abbrev pub IsOfType : SqlType → Value → Type 0
IsOfType kind value.Null = ⊤
IsOfType kind (value.Boolean b) = kind ≡ type.Boolean
IsOfType kind (value.Int n) = (kind ≡ type.Int) × FitsSigned w32 n
IsOfType kind (value.BigInt n) = (kind ≡ type.BigInt) × FitsSigned w64 n
IsOfType kind (value.Text text) = kind ≡ type.Text

-- a row has a value for each column, of its type
abbrev pub IsRowOf : List Field → List Value → Type 0
IsRowOf [] [] = ⊤
IsRowOf [] (v ∷ values) = ⊥
IsRowOf (column ∷ columns) [] = ⊥
IsRowOf (column ∷ columns) (v ∷ values) = IsOfType column.kind v × IsRowOf columns values

abbrev pub AreRowsOf : List Field → List (List Value) → Type 0
AreRowsOf columns [] = ⊤
AreRowsOf columns (row ∷ rows) = IsRowOf columns row × AreRowsOf columns rows

-- Under the same columns, rows that are printed alike are the same rows.
abbrev pub TextsTellRows : Type 0
TextsTellRows = (columns : List Field) (a b : List (List Value)) → AreRowsOf columns a → AreRowsOf columns b
    → result_text columns a ≡ result_text columns b → a ≡ b
