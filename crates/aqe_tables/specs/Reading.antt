-- What serves the load of a table: what its private steps find in the files, and why one of them is refused.
use Rattle.std.specs.Prelude.{◌≡◌, ◌+◌, ⊤, ℕ, Bool, true, false, List, length, map, take, Some}
use Rattle.aqe_values.specs.declared.value.Value.{Value}
use Rattle.aqe_store.specs.Files.{Entries, content_of}
use Rattle.aqe_tables.specs.declared.catalog.CatalogTable.{CatalogTable}
use Rattle.aqe_tables.specs.declared.fault.LoadFault.{LoadFault}
use Rattle.aqe_tables.specs.declared.load.LoadedFile.{LoadedFile}
use Rattle.aqe_tables.specs.declared.loaded.Table.{Table}
use Rattle.aqe_records.specs.FileRows.{file_rows}
use Rattle.aqe_tables.specs.Folder.{AreHeld, DataFile, bytes_of, names_of, path_of}
use Rattle.aqe_tables.specs.Load.{AreGood, FileCause, IsGood, LoadCause, StopsAt, is_excuse}

-- the fact holds, unless the refusal is an excuse
abbrev pub Unless : Bool → Type 0 → Type 0
Unless true fact = ⊤
Unless false fact = fact

-- the data files of a table are not listed, however much was loaded before
abbrev pub NotListed : Entries → CatalogTable → LoadFault → Type 0
NotListed files table why = (before : ℕ) → LoadCause files table before why

-- the bytes of the file of this name are not had, whatever they are
abbrev pub NotHad : Entries → List ℕ → List ℕ → LoadFault → Type 0
NotHad files path name why = (separator before : ℕ) (bytes : List ℕ) → content_of files path ≡ Some bytes
    → Unless (is_excuse why) (FileCause separator before (name, bytes) why)

-- the file of this name was read: its rows and the number of its bytes
pub record IsRead (files : Entries) (table : CatalogTable) (name : List ℕ) (before : ℕ) (file : LoadedFile) : Type 0 where
  pub bytes : List ℕ
  pub held : content_of files (path_of table.location name) ≡ Some bytes
  pub good : IsGood table.form.separator before bytes
  pub rows : file.rows ≡ file_rows table.form bytes
  pub size : file.bytes ≡ length bytes

-- the file of this name was not read, whatever its bytes are
abbrev pub NotRead : Entries → CatalogTable → List ℕ → ℕ → LoadFault → Type 0
NotRead files table name before why = (bytes : List ℕ) → content_of files (path_of table.location name) ≡ Some bytes
    → Unless (is_excuse why) (FileCause table.form.separator before (name, bytes) why)

-- these files have these names, and are held in the folder
pub record HaveNames (files : Entries) (folder : List ℕ) (names : List (List ℕ)) (parts : List DataFile) : Type 0 where
  pub named : names_of parts ≡ names
  pub held : AreHeld files folder parts

-- the first so many files were read
pub record AreRead (table : CatalogTable) (before : ℕ) (parts : List DataFile) (n : ℕ)
    (rows : List (List (List Value))) (total : ℕ) : Type 0 where
  pub good : AreGood table.form.separator before (take n parts)
  pub made : rows ≡ map (λ part. file_rows table.form part.1) (take n parts)
  pub sum : total ≡ before + bytes_of (take n parts)

-- so they were, whatever files have the names
abbrev pub ReadUpTo : Entries → CatalogTable → List (List ℕ) → ℕ → ℕ → List (List (List Value)) → ℕ → Type 0
ReadUpTo files table names before n rows total =
    (parts : List DataFile) → HaveNames files table.location names parts → AreRead table before parts n rows total

-- all files of these names were read
abbrev pub AreAllRead : Entries → CatalogTable → List (List ℕ) → ℕ → Table → Type 0
AreAllRead files table names before read =
    ReadUpTo files table names before (length names) read.files (before + read.bytes)

-- the files of these names were not all read, whatever files they are
abbrev pub NotAllRead : Entries → CatalogTable → List (List ℕ) → ℕ → LoadFault → Type 0
NotAllRead files table names before why = (parts : List DataFile) → HaveNames files table.location names parts
    → Unless (is_excuse why) (StopsAt table.form.separator before parts why)
