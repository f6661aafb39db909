-- A table that has a file is loaded.
use Rattle.std.proofs.Common.{ℕ, zero, suc, ◌<◌, [], ◌∷◌, length, refl, arith, Some, None, slice_index_or}
use Rattle.aqe_tables.specs.Loaded.{Slots, IsLoaded}
use Rattle.aqe_estimates.specs.LoadedTables.{tables_of}

pub has_file : (slots : Slots) (n file : ℕ) → file < length (slice_index_or (tables_of slots) n []) → IsLoaded slots n
has_file [] n file h = absurd (omega (arith, h))
has_file (None ∷ slots) zero file h = absurd (omega (arith, h))
has_file (Some table ∷ slots) zero file h = refl
has_file (slot ∷ slots) (suc n) file h = has_file slots n file h
