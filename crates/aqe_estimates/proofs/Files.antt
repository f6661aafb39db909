-- The files of a loaded table.
use Rattle.std.proofs.Common.{◌≡◌, ℕ, zero, suc, List, [], ◌∷◌, Option, Some, None, refl, sym, ap, ◌∙◌, slice_index_or}
use Rattle.std.specs.Prelude.{IfSome, IsSome, slice_get}
use Rattle.std.proofs.lemmas.Option.{get_or_from_slice_get}
use Rattle.aqe_tables.specs.declared.loaded.Table.{Table}
use Rattle.aqe_tables.specs.Loaded.{Slots, IsLoaded, table_at}
use Rattle.aqe_logical.specs.Answers.{Row}
use Rattle.aqe_estimates.specs.LoadedTables.{files_of, tables_of}

files_at : (slots : Slots) (n : ℕ) → slice_index_or (tables_of slots) n [] ≡ files_of (table_at slots n)
files_at [] n = refl
files_at (slot ∷ slots) zero = refl
files_at (slot ∷ slots) (suc n) = files_at slots n

file_in : (slot : Option Table) (i : ℕ) (rows : List Row) → IsSome slot → IfSome slot (λ loaded. slice_get loaded.files i ≡ Some rows)
    → rows ≡ slice_index_or (files_of slot) i []
file_in None i rows some h = cc some
file_in (Some table) i rows some h = sym (get_or_from_slice_get table.files i rows [] h)

pub file_at : (slots : Slots) (n i : ℕ) (rows : List Row) → IsLoaded slots n
    → IfSome (table_at slots n) (λ loaded. slice_get loaded.files i ≡ Some rows)
    → rows ≡ slice_index_or (slice_index_or (tables_of slots) n []) i []
file_at slots n i rows some h =
    file_in (table_at slots n) i rows some h ∙ ap (λ (files : List (List Row)). slice_index_or files i []) (sym (files_at slots n))
