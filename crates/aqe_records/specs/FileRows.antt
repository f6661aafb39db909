-- The rows of a data file under the form of its table.
use Rattle.std.specs.Prelude.{ℕ, Bool, true, false, List, [], ◌∷◌, ◌++◌, map, Some}
use Rattle.csv.specs.Reading.{Reached, default_config, records, strip_bom}
use Rattle.csv.specs.Records.{AllText}
use Rattle.csv.specs.declared.parser.Config.{Config}
use Rattle.csv.specs.declared.parser.State.{State}
use Rattle.csv.specs.declared.parser.State.TheVariants as st
use Rattle.aqe_values.specs.declared.schema.Field.{Field}
use Rattle.aqe_values.specs.declared.value.Value.{Value}
use Rattle.aqe_values.specs.declared.value.Value.TheVariants as value
use Rattle.aqe_records.specs.declared.form.FileForm.{FileForm}
use Rattle.aqe_records.specs.Fields.{field_value}

-- How a file is cut into fields: at the separator. In a field between `"` a `""` stands for `"`, and a `\` and a byte
-- for that byte.
abbrev pub file_config : ℕ → Config
file_config separator = record default_config { delimiter = separator; escape = Some 92 }

-- The records of a file, as the reader of CSV states them. An empty line is no record, and records may differ in
-- length.
abbrev pub file_records : ℕ → List ℕ → List (List (List ℕ))
file_records separator bytes = records (file_config separator) (strip_bom bytes)

-- the records behind the header, if there is one: the first record
abbrev pub data_records : Bool → List (List (List ℕ)) → List (List (List ℕ))
data_records false all = all
data_records true [] = []
data_records true (header ∷ others) = others

-- A record as a row of the columns: a field that is missing is NULL, and fields beyond the last column are left
-- out.
abbrev pub row_of : List Field → List (List ℕ) → List Value
row_of [] fields = []
row_of (column ∷ columns) [] = value.Null ∷ row_of columns []
row_of (column ∷ columns) (field ∷ fields) = field_value column.kind field ∷ row_of columns fields

-- the rows of a file under the form: one for each record behind the header, in order
abbrev pub file_rows : FileForm → List ℕ → List (List Value)
file_rows form bytes = map (row_of form.schema) (data_records form.header (file_records form.separator bytes))

-- the reader of CSV refuses a file at a record that has a field which is no text
pub record IsRefused (separator : ℕ) (bytes : List ℕ) : Type 0 where
  pub before : List (List (List ℕ))
  pub fields : List (List ℕ)
  pub state : State
  pub rest : List ℕ
  pub reached : Reached (file_config separator) st.StartRecord (strip_bom bytes) (before ++ fields ∷ []) state rest
  pub no_text : ¬ (AllText fields)
