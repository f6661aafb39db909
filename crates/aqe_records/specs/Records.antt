-- What serves the reading of a file record by record.
use Rattle.std.specs.Prelude.{◌≤◌, ⊤, ℕ, Bool, false, List, [], ◌∷◌, length, Option, Some, None}
use Rattle.csv.specs.Records.{AllText}
use Rattle.csv.specs.declared.error.ErrorKind.{ErrorKind}
use Rattle.csv.specs.declared.error.ErrorKind.TheVariants as kind
use Rattle.aqe_values.specs.Bounds.{text_limit}
use Rattle.aqe_values.specs.declared.sql_type.SqlType.{SqlType}
use Rattle.aqe_values.specs.declared.value.Value.{Value}
use Rattle.aqe_values.specs.declared.value.Value.TheVariants as value
use Rattle.aqe_records.specs.declared.records.FileFail.{FileFail}
use Rattle.aqe_records.specs.declared.records.FileFail.TheVariants as fail
use Rattle.aqe_records.specs.Fields.{field_value}

-- An error of the reader refuses the file, but for want of memory, and but for a failure of what lies below the
-- reader, which bytes in memory never give.
abbrev pub fail_of : ErrorKind → FileFail
fail_of (kind.Io error) = fail.Memory
fail_of kind.OutOfMemory = fail.Memory
fail_of (kind.UnequalLengths position expected len) = fail.Refused
fail_of (kind.Utf8 position error) = fail.Refused
fail_of (kind.Serialize why) = fail.Refused
fail_of (kind.Deserialize position error) = fail.Refused

-- each field is no longer than a text may be
unfoldable pub AreShort : List (List ℕ) → Type 0
AreShort [] = ⊤
AreShort (field ∷ fields) = (length field ≤ text_limit) × AreShort fields

-- each record is text
unfoldable pub AreTexts : List (List (List ℕ)) → Type 0
AreTexts [] = ⊤
AreTexts (fields ∷ others) = AllText fields × AreTexts others

-- the value of a field that may be missing
abbrev pub cell_value : SqlType → Option (List ℕ) → Value
cell_value kind None = value.Null
cell_value kind (Some field) = field_value kind field

-- whether the next record is the header, once these were read
abbrev pub awaits_header : Bool → List (List (List ℕ)) → Bool
awaits_header header [] = header
awaits_header header (first ∷ others) = false
