-- The files of the stores in memory, and how their names are gathered.
use Rattle.std.specs.Prelude.{◌≡◌, ◌⊎◌, ℕ, List, [], ◌∷◌, ◌++◌, Bool, Option, Contains, MatchBool}
use Rattle.aqe_store.specs.declared.shelf.Shelf.{Shelf}
use Rattle.aqe_store.specs.Told.{Open, opened_of, bytes_left}
use Rattle.aqe_store.specs.Files.{Entries, IsBelow, IsFolder, IsListing}

-- the open file of a shelf
abbrev pub open_on : Shelf → Option Open
open_on shelf = opened_of shelf.path shelf.place

-- the bytes of a shelf's open file that were not taken
abbrev pub left_on : Shelf → List ℕ
left_on shelf = bytes_left shelf.files (open_on shelf)

-- a name is passed over: it has a slash, or stands among the names already
abbrev pub IsPassedOver : List ℕ → List (List ℕ) → Type 0
IsPassedOver name names = Contains name 47 ⊎ Contains names name

-- what a path below the folder adds to the names: its name, unless that is passed over
abbrev pub AddsName : List ℕ → List (List ℕ) → List (List ℕ) → Type 0
AddsName name old new = (IsPassedOver name old × (new ≡ old)) ⊎ ((¬ (IsPassedOver name old)) × (new ≡ old ++ name ∷ []))

-- what one more path adds to the names of a folder's files: nothing, unless it lies below the folder
abbrev pub Gathers : List ℕ → List ℕ → Bool → List (List ℕ) → List (List ℕ) → Type 0
Gathers folder path is_below old new = MatchBool is_below ((name : List ℕ) × (path ≡ folder ++ 47 ∷ name) × AddsName name old new) ((¬ (IsBelow folder path)) × (new ≡ old))

-- of the entries so far: whether one lies below the folder, and the names of the folder's files
pub record IsGathered (done : Entries) (folder : List ℕ) (is_there : Bool) (names : List (List ℕ)) : Type 0 where
  pub there : MatchBool is_there (IsFolder done folder) (¬ (IsFolder done folder))
  pub listing : IsListing done folder names
