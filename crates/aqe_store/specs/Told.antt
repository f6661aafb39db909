-- What a store tells of its files, and what its open file has left.
use Rattle.std.specs.Prelude.{◌≡◌, ℕ, ◌+◌, List, [], drop, Option, Some, None, IfSome, unwrap_or}
use Rattle.std.specs.Option.{option_map}
use Rattle.aqe_store.specs.Files.{Entries, content_of}

-- Where the files are told, the fact holds of them. A store that tells nothing meets it.
abbrev pub WhereTold : Option Entries → (Entries → Type 0) → Type 0
WhereTold told fact = IfSome told fact

-- files that are told stay told and as they are
abbrev pub KeepsFiles : Option Entries → Option Entries → Type 0
KeepsFiles old new = IfSome old (λ files. new ≡ Some files)

-- an open file: its path, and how many of its bytes were taken
abbrev pub Open : Type 0
Open = List ℕ × ℕ

-- the open file of a path and a place in it, if there is a path
abbrev pub opened_of : Option (List ℕ) → ℕ → Option Open
opened_of path place = option_map (λ path. (path, place)) path

-- the open file once n more bytes are taken
abbrev pub advanced : ℕ → Option Open → Option Open
advanced n opened = option_map (λ file. (file.0, file.1 + n)) opened

-- the bytes of the open file that were not taken, of which there are none where no file is open
abbrev pub bytes_left : Entries → Option Open → List ℕ
bytes_left files None = []
bytes_left files (Some file) = drop file.1 (unwrap_or (content_of files file.0) [])

-- the same, where the files are told
abbrev pub left_of : Option Entries → Option Open → Option (List ℕ)
left_of told opened = option_map (λ files. bytes_left files opened) told
