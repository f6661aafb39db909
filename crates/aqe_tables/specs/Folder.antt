-- The data files of a folder.
use Rattle.std.specs.Prelude.{◌≡◌, ◌↔◌, ◌==◌, ◌&&◌, ⊤, ℕ, Bool, true, not, List, [], ◌∷◌, ◌++◌, map, Some, IsTrue, Contains, AllPairs, sum_by, length}
use Rattle.std.specs.Cmp.Lexicographic.{slice_cmp}
use Rattle.std.specs.Ordering.{nat_cmp}
use Rattle.std.specs.declared.cmp.Ordering.TheVariants.{Less}
use Rattle.aqe_store.specs.Files.{Entries, IsFileOf, content_of}

-- a data file's name does not begin with `_` or `.`
abbrev pub is_data_name : List ℕ → Bool
is_data_name [] = true
is_data_name (c ∷ cs) = not (c == 95) && not (c == 46)

pub record IsDataFile (files : Entries) (folder name : List ℕ) : Type 0 where
  pub held : IsFileOf files folder name
  pub named : IsTrue (is_data_name name)

-- a name stands before another by their bytes
abbrev pub IsBefore : List ℕ → List ℕ → Type 0
IsBefore a b = slice_cmp nat_cmp a b ≡ Less

-- the names of the data files of a folder, all of them and no others, in byte order
pub record AreDataNames (files : Entries) (folder : List ℕ) (names : List (List ℕ)) : Type 0 where
  pub each : (name : List ℕ) → Contains names name ↔ IsDataFile files folder name
  pub rising : AllPairs IsBefore names

-- a data file: its name and its bytes
abbrev pub DataFile : Type 0
DataFile = List ℕ × List ℕ

abbrev pub names_of : List DataFile → List (List ℕ)
names_of parts = map (λ file. file.0) parts

-- the bytes of these files together
abbrev pub bytes_of : List DataFile → ℕ
bytes_of parts = sum_by (λ file. length file.1) parts

abbrev pub path_of : List ℕ → List ℕ → List ℕ
path_of folder name = folder ++ 47 ∷ name

-- each of these files is held in the folder
abbrev pub AreHeld : Entries → List ℕ → List DataFile → Type 0
AreHeld files folder [] = ⊤
AreHeld files folder (file ∷ others) =
    (content_of files (path_of folder file.0) ≡ Some file.1) × AreHeld files folder others

-- the data files of a folder, in byte order of their names
pub record AreDataFiles (files : Entries) (folder : List ℕ) (parts : List DataFile) : Type 0 where
  pub names : AreDataNames files folder (names_of parts)
  pub held : AreHeld files folder parts
