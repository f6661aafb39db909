-- What serves the search for a name: the numbers of the tables stand under the hashes of their names in lower case.
use Rattle.std.specs.Prelude.{◌≡◌, ℕ, ◌+◌, ◌*◌, ◌%◌, ◌^◌, Bool, false, List, [], ◌∷◌, ◌++◌, slice_get, bit_xor, nat_eq, if◌then◌else◌}
use Rattle.std.specs.Char.{to_ascii_lowercase}
use Rattle.std.specs.List.{fold}
use Rattle.std.specs.Option.{option_map_or, unwrap_or}
use Rattle.std.specs.Str.{str_eq_ignore_ascii_case}
use Rattle.std.specs.HashMap.{HashMap, get}
use Rattle.aqe_tables.specs.declared.catalog.CatalogTable.{CatalogTable}

-- the hash with one byte more, as FNV-1a mixes it in
abbrev pub mixed : ℕ → ℕ → ℕ
mixed hash byte = (bit_xor hash (to_ascii_lowercase byte) * 0x100000001b3) % 2 ^ 64

-- the hash of a name, which its cases do not change
unfoldable pub name_hash : List ℕ → ℕ
name_hash name = fold mixed 0xcbf29ce484222325 name

-- the numbers from n on, of those items that pass
abbrev pub places_from : {X : Type 0} → (X → Bool) → ℕ → List X → List ℕ
places_from test n [] = []
places_from test n (x ∷ xs) = if test x then n ∷ places_from test (n + 1) xs else places_from test (n + 1) xs

-- whether the table of the number has the name
abbrev pub is_named : List CatalogTable → List ℕ → ℕ → Bool
is_named tables name n = option_map_or (λ table. str_eq_ignore_ascii_case table.name name) (slice_get tables n) false

-- the numbers that stand under the hash
abbrev pub numbers_under : {S : Type 0} → HashMap ℕ (List ℕ) S → ℕ → List ℕ
numbers_under numbers hash = unwrap_or (get nat_eq numbers hash) []

-- under each hash stand the numbers of the tables whose names have it, in order
abbrev pub IsIndex : {S : Type 0} → HashMap ℕ (List ℕ) S → List CatalogTable → Type 0
IsIndex numbers tables =
    (hash : ℕ) → numbers_under numbers hash ≡ places_from (λ table. nat_eq (name_hash table.name) hash) 0 tables

-- the number stands behind those under its hash, and all others stay
abbrev pub Adds : {S : Type 0} → HashMap ℕ (List ℕ) S → HashMap ℕ (List ℕ) S → ℕ → ℕ → Type 0
Adds old new hash number = (other : ℕ) → numbers_under new other
    ≡ (if nat_eq hash other then numbers_under old other ++ number ∷ [] else numbers_under old other)

-- under each hash stand the same numbers
abbrev pub Keeps : {S : Type 0} → HashMap ℕ (List ℕ) S → HashMap ℕ (List ℕ) S → Type 0
Keeps old new = (hash : ℕ) → numbers_under new hash ≡ numbers_under old hash
