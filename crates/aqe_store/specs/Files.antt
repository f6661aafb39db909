-- Files as plain data: a list of entries, each a path and the content under it.
use Rattle.std.specs.Prelude.{◌≡◌, ◌≢◌, ◌↔◌, ℕ, List, ◌∷◌, ◌++◌, Option, IsSome, Contains, AllPairs, find}
use Rattle.std.specs.Option.{option_map}
use Rattle.std.specs.Str.{bytes_eq}

-- paths, names and contents are their bytes
abbrev pub Entries : Type 0
Entries = List (List ℕ × List ℕ)

-- the content under a path: of entries with the same path the first alone counts
abbrev pub content_of : Entries → List ℕ → Option (List ℕ)
content_of files path = option_map (λ entry. entry.1) (find (λ entry. bytes_eq entry.0 path) files)

-- a path lies below a folder: it is the folder, a slash, and more
abbrev pub IsBelow : List ℕ → List ℕ → Type 0
IsBelow folder path = (rest : List ℕ) × (path ≡ folder ++ 47 ∷ rest)

-- a file is held under the path
abbrev pub IsHeld : Entries → List ℕ → Type 0
IsHeld files path = IsSome (content_of files path)

-- a folder is there where a held path is the folder, a slash, and more
abbrev pub IsFolder : Entries → List ℕ → Type 0
IsFolder files folder = (rest : List ℕ) × IsHeld files (folder ++ 47 ∷ rest)

-- a file of a folder: it is held under the folder, a slash and its name, and its name has no slash
abbrev pub IsFileOf : Entries → List ℕ → List ℕ → Type 0
IsFileOf files folder name = IsHeld files (folder ++ 47 ∷ name) × (¬ (Contains name 47))

-- the names of the files of a folder, all of them and no others, each once and in any order
pub record IsListing (files : Entries) (folder : List ℕ) (names : List (List ℕ)) : Type 0 where
  pub files_of : (name : List ℕ) → Contains names name ↔ IsFileOf files folder name
  pub once : AllPairs (λ name later. name ≢ later) names
