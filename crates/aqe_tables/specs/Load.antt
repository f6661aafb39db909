-- What the load of a table gives, and why it is refused.
use Rattle.std.specs.Prelude.{◌≡◌, ◌<◌, ◌≤◌, ◌+◌, ◌==◌, ◌&&◌, ⊤, ℕ, Bool, true, false, not, nat_le, List, [], ◌∷◌, ◌++◌, length, map, IsFalse, IsTrue, ◌⊎◌, All}
use Rattle.std.specs.List.{list_all}
use Rattle.aqe_values.specs.Bounds.{text_limit}
use Rattle.aqe_values.specs.declared.value.Value.{Value}
use Rattle.aqe_store.specs.Files.{Entries, IsFolder}
use Rattle.aqe_tables.specs.declared.catalog.CatalogTable.{CatalogTable}
use Rattle.aqe_tables.specs.declared.fault.LoadFault.{LoadFault}
use Rattle.aqe_tables.specs.declared.fault.LoadFault.TheVariants as fault
use Rattle.aqe_records.specs.declared.form.FileForm.{FileForm}
use Rattle.aqe_tables.specs.declared.loaded.Table.{Table}
use Rattle.aqe_records.specs.FileRows.{IsRefused, file_rows}
use Rattle.aqe_tables.specs.Folder.{AreDataFiles, AreDataNames, DataFile, bytes_of}

-- a table has at most so many data files, and all loaded tables together have at most so many bytes: 128 MiB
abbrev pub files_limit : ℕ
files_limit = 1000

abbrev pub bytes_limit : ℕ
bytes_limit = 134217728

-- a byte of a file that is read so far: up to `~`, and neither `"` nor `\`
abbrev pub is_plain : ℕ → Bool
is_plain c = nat_le c 126 && not (c == 34) && not (c == 92)

-- a file is not read so far where it has another byte, or where the reader of CSV refuses it
pub data IsUnread (separator : ℕ) (bytes : List ℕ) : Type 0 where
  strange_byte : IsFalse (list_all is_plain bytes) → IsUnread separator bytes
  refused : IsRefused separator bytes → IsUnread separator bytes

-- a file that passes its checks, with so many bytes loaded before it
pub record IsGood (separator before : ℕ) (bytes : List ℕ) : Type 0 where
  pub fits : length bytes ≤ text_limit
  pub room : before + length bytes ≤ bytes_limit
  pub read : ¬ (IsUnread separator bytes)

-- each of these files passes its checks, with so many bytes loaded before the first
abbrev pub AreGood : ℕ → ℕ → List DataFile → Type 0
AreGood separator before [] = ⊤
AreGood separator before (file ∷ others) =
    IsGood separator before file.1 × AreGood separator (before + length file.1) others

-- Why a file is refused: the first of its checks that it fails. It may not be longer than a text, it must fit beside
-- what was loaded before, and it must be read so far. No other refusal is of one file.
abbrev pub FileCause : ℕ → ℕ → DataFile → LoadFault → Type 0
FileCause separator before file (fault.TooLong name) = (name ≡ file.0) × (text_limit < length file.1)
FileCause separator before file fault.TooManyBytes =
    (length file.1 ≤ text_limit) × (bytes_limit < before + length file.1)
FileCause separator before file (fault.NotBuilt name) =
    (name ≡ file.0) × (length file.1 ≤ text_limit) × (before + length file.1 ≤ bytes_limit) × IsUnread separator file.1
FileCause separator before file other = ⊥

-- the first of these files that does not pass is refused for this cause
pub record StopsAt (separator before : ℕ) (parts : List DataFile) (why : LoadFault) : Type 0 where
  pub front : List DataFile
  pub file : DataFile
  pub others : List DataFile
  pub are : parts ≡ front ++ file ∷ others
  pub good : AreGood separator before front
  pub cause : FileCause separator (before + bytes_of front) file why

-- the folder of the table has at most 1,000 data files, of which one is refused for this cause
pub record HasBadFile (files : Entries) (table : CatalogTable) (before : ℕ) (why : LoadFault) : Type 0 where
  pub parts : List DataFile
  pub are : AreDataFiles files table.location parts
  pub few : length parts ≤ files_limit
  pub stops : StopsAt table.form.separator before parts why

-- the folder has more than 1,000 data files
abbrev pub HasManyFiles : Entries → List ℕ → Type 0
HasManyFiles files folder =
    (names : List (List ℕ)) × AreDataNames files folder names × (files_limit < length names)

-- Why the load of a table is refused, with so many bytes loaded before: its folder is not there or has too many files,
-- or one of its files is refused. Of want of memory and of a store that fails the files tell nothing.
abbrev pub LoadCause : Entries → CatalogTable → ℕ → LoadFault → Type 0
LoadCause files table before fault.Memory = ⊤
LoadCause files table before fault.ReadFault = ⊤
LoadCause files table before fault.Missing = ¬ (IsFolder files table.location)
LoadCause files table before fault.TooManyFiles = HasManyFiles files table.location
LoadCause files table before other = HasBadFile files table before other

-- a table without files counts as one of one empty file
abbrev pub or_one_empty : List (List (List Value)) → List (List (List Value))
or_one_empty [] = [] ∷ []
or_one_empty (rows ∷ others) = rows ∷ others

-- the rows of a table: those of each file, or one empty list where there is no file
abbrev pub table_rows : FileForm → List DataFile → List (List (List Value))
table_rows form parts = or_one_empty (map (λ part. file_rows form part.1) parts)

-- The table is that of the files: its folder is there, with at most 1,000 data files, each of which passes its
-- checks, and these are its rows and bytes.
pub record IsTableOf (files : Entries) (table : CatalogTable) (before : ℕ) (loaded : Table) : Type 0 where
  pub there : IsFolder files table.location
  pub parts : List DataFile
  pub are : AreDataFiles files table.location parts
  pub few : length parts ≤ files_limit
  pub good : AreGood table.form.separator before parts
  pub rows : loaded.files ≡ table_rows table.form parts
  pub bytes : loaded.bytes ≡ bytes_of parts

-- each row has so many values
abbrev pub AreWide : ℕ → List (List Value) → Type 0
AreWide width rows = All (λ row. length row ≡ width) rows

-- whatever the store tells, a loaded table has 1 to 1,000 files, and each row a value for each column
pub record IsShaped (width : ℕ) (loaded : Table) : Type 0 where
  pub some : 0 < length loaded.files
  pub few : length loaded.files ≤ files_limit
  pub wide : All (AreWide width) loaded.files

-- want of memory and a store that fails may come before any cause shows
abbrev pub is_excuse : LoadFault → Bool
is_excuse fault.Memory = true
is_excuse fault.ReadFault = true
is_excuse other = false

-- no cause of a refusal holds
abbrev pub HasNoCause : Entries → CatalogTable → ℕ → Type 0
HasNoCause files table before = (why : LoadFault) → IsFalse (is_excuse why) → ¬ (LoadCause files table before why)

-- no cause of another refusal holds, unless this one may come before any
abbrev pub HasNoOtherCause : Entries → CatalogTable → ℕ → LoadFault → Type 0
HasNoOtherCause files table before given =
    (why : LoadFault) → IsFalse (is_excuse why) → LoadCause files table before why
    → (given ≡ why) ⊎ IsTrue (is_excuse given)
