-- Loaded tables keep their shapes.
use Rattle.std.proofs.Common.{◌≡◌, ◌≢◌, ℕ, zero, suc, ◌==◌, List, [], ◌∷◌, ◌++◌, length, Bool, true, false, refl, Option, Some, None}
use Rattle.std.specs.Prelude.{IfSome, IsSomeAnd, slice_get}
use Rattle.std.proofs.lemmas.Bool.Decides.{Decides-eqb}
use Rattle.aqe_tables.specs.declared.catalog.CatalogTable.{CatalogTable}
use Rattle.aqe_tables.specs.declared.loaded.Table.{Table}
use Rattle.aqe_tables.specs.Load.{IsShaped}
use Rattle.aqe_tables.specs.Loaded.{AreShaped, Loads, Slots, table_at}

-- nothing is loaded
pub none_shaped : (catalog : List CatalogTable) (slots : Slots) → slots ≡ [] → AreShaped catalog slots
none_shaped catalog slots e n = rw e tt

-- a table that was created stays where it is
still_there : (catalog : List CatalogTable) (more : List CatalogTable) (n : ℕ) (P : CatalogTable → Type 0) → IsSomeAnd (slice_get catalog n) P → IsSomeAnd (slice_get (catalog ++ more) n) P
still_there [] more n P h = absurd h
still_there (x ∷ xs) more zero P h = h
still_there (x ∷ xs) more (suc n) P h = still_there xs more n P h

pub created_shaped : (catalog : List CatalogTable) (more : List CatalogTable) (slots : Slots) → AreShaped catalog slots → AreShaped (catalog ++ more) slots
created_shaped catalog more slots h n = by (table_at slots n) (h n)
  where
    by : (o : Option Table) → IfSome o (λ loaded. IsSomeAnd (slice_get catalog n) (λ table. IsShaped (length table.form.schema) loaded))
        → IfSome o (λ loaded. IsSomeAnd (slice_get (catalog ++ more) n) (λ table. IsShaped (length table.form.schema) loaded))
    by None k = tt
    by (Some loaded) k = still_there catalog more n (λ table. IsShaped (length table.form.schema) loaded) k

-- a table is loaded with the shape of its schema
pub loaded_shaped : (catalog : List CatalogTable) (old new : Slots) (n : ℕ) (table : CatalogTable) (loaded : Table) → AreShaped catalog old → Loads old new n loaded
    → slice_get catalog n ≡ Some table → IsShaped (length table.form.schema) loaded → AreShaped catalog new
loaded_shaped catalog old new n table loaded h loads at shaped m = by (m == n) refl
  where
    by : (b : Bool) → (m == n) ≡ b → IfSome (table_at new m) (λ l. IsSomeAnd (slice_get catalog m) (λ t. IsShaped (length t.form.schema) l))
    by true e = let same : m ≡ n = (Decides-eqb m n).0 e in rw (same, loads.is, at) shaped
    by false e =
        let apart : m ≢ n = λ same. let yes = (Decides-eqb m n).1 same in cc (yes, e) in
        rw (loads.others m apart) (h m)
