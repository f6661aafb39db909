-- Slots of tables.
use Rattle.std.proofs.Common.{◌≡◌, ◌≢◌, ℕ, zero, suc, ◌+◌, ◌<◌, ◌≤◌, [], ◌∷◌, ◌++◌, length, get_or, set, take, refl, ap, arith, ◌∙◌, Option, Some, None, subst, get_or-set_other, get_or-set_same}
use Rattle.std.specs.Prelude.{IfSome, replicate, slice_get}
use Rattle.std.specs.List.{AppendsResults, FoldsTo}
use Rattle.std.proofs.lemmas.List.Elements.{All-append, All-replicate, All-set}
use Rattle.std.proofs.lemmas.List.Folds.{sum_by-replicate}
use Rattle.std.proofs.lemmas.List.Sums.{sum_by-append, sum_by-set}
use Rattle.std.proofs.lemmas.Option.{get_or_from_slice_get}
use Rattle.aqe_store.specs.Files.{Entries}
use Rattle.aqe_store.specs.Told.{WhereTold}
use Rattle.aqe_tables.specs.declared.catalog.CatalogTable.{CatalogTable}
use Rattle.aqe_tables.specs.declared.loaded.Table.{Table}
use Rattle.aqe_tables.specs.Loaded.{AreSmall, Loads, Pads, Slots, all_bytes, slot_bytes, table_at}

-- an empty slot has no table
none_at : (n m : ℕ) → get_or (replicate {A = Option Table} n None) m None ≡ None
none_at zero m = refl
none_at (suc n) zero = refl
none_at (suc n) (suc m) = none_at n m

padded_at : (old : Slots) (n m : ℕ) → get_or (old ++ replicate n None) m None ≡ get_or old m None
padded_at [] n m = none_at n m
padded_at (x ∷ xs) n zero = refl
padded_at (x ∷ xs) n (suc m) = padded_at xs n m

-- where more slots are made, they are empty
none_made : {F : Type 0} (step : F → Option Table → F → Type 0) → ((f : F) (x : Option Table) (g : F) → step f x g → x ≡ None)
    → (f : F) (ys : Slots) (last : F) → FoldsTo step f ys last → ys ≡ replicate (length ys) None
none_made step says f [] last h = refl
none_made step says f (y ∷ ys) last (g, first, more) =
    let empty : y ≡ None = says f y g first in
    rw empty (ap (λ (zs : Slots). None ∷ zs) (none_made step says g ys last more))

take_past : (xs : Slots) (n : ℕ) → length xs ≤ n → take n xs ≡ xs
take_past [] zero h = refl
take_past [] (suc n) h = refl
take_past (x ∷ xs) zero h = absurd (omega (arith, h))
take_past (x ∷ xs) (suc n) h = ap (λ (ys : Slots). x ∷ ys) (take_past xs n (omega (arith, h)))

pub pads_made : {F : Type 0} (step : F → Option Table → F → Type 0) → ((f : F) (x : Option Table) (g : F) → step f x g → x ≡ None)
    → (old new : Slots) (n : ℕ) (f : F) → length old ≤ n → AppendsResults step (take n old) new f → Pads old new
pads_made step says old new n f l (ys, last, is, folds) =
    (length ys, is ∙ ap (λ (xs : Slots). xs ++ ys) (take_past old n l) ∙ ap (λ (zs : Slots). old ++ zs) (none_made step says f ys last folds))

pub put_loads : (old mid : Slots) (i : ℕ) (table : Table) → Pads old mid → i < length mid → Loads old (set mid i (Some table)) i table
put_loads old mid i table (n, is) l = record {
  is = get_or-set_same mid i (Some table) None l;
  others = λ m apart. others m apart;
}
  where
    others : (m : ℕ) → m ≢ i → get_or (set mid i (Some table)) m None ≡ get_or old m None
    others m apart = get_or-set_other mid i m (Some table) None apart ∙ ap (λ (xs : Slots). get_or xs m None) is ∙ padded_at old n m

pub put_bytes : (old mid : Slots) (i : ℕ) (table : Table) → Pads old mid → i < length mid → table_at old i ≡ None → all_bytes (set mid i (Some table)) ≡ all_bytes old + table.bytes
put_bytes old mid i table (n, is) l free =
    let put = sum_by-set slot_bytes mid i (Some table) None l in
    let empty : get_or mid i None ≡ None = ap (λ (xs : Slots). get_or xs i None) is ∙ padded_at old n i ∙ free in
    let none : slot_bytes (get_or mid i None) ≡ 0 = ap slot_bytes empty in
    let whole : all_bytes mid ≡ all_bytes old + all_bytes (replicate n None) = ap all_bytes is ∙ sum_by-append slot_bytes old (replicate n None) in
    let pad : all_bytes (replicate n None) ≡ 0 = sum_by-replicate slot_bytes n None ∙ omega arith in
    omega (arith, put, none, whole, pad)

pub put_small : (old mid : Slots) (i : ℕ) (table : Table) → Pads old mid → length table.files ≤ 1000 → AreSmall old → AreSmall (set mid i (Some table))
put_small old mid i table (n, is) few small =
    All-set (λ (slot : Option Table). IfSome slot (λ t. length t.files ≤ 1000)) mid i (Some table) few
    (rw is (All-append (λ (slot : Option Table). IfSome slot (λ t. length t.files ≤ 1000)) old (replicate n None) small
    (All-replicate (λ (slot : Option Table). IfSome slot (λ t. length t.files ≤ 1000)) n None tt)))

-- a slot that is there, and one that is not
pub slot_there : (slots : Slots) (n : ℕ) (slot : Option Table) → slice_get slots n ≡ Some slot → table_at slots n ≡ slot
slot_there slots n slot e = get_or_from_slice_get slots n slot None e

pub slot_past : (slots : Slots) (n : ℕ) → slice_get slots n ≡ None → table_at slots n ≡ None
slot_past [] n e = refl
slot_past (x ∷ xs) zero e = cc e
slot_past (x ∷ xs) (suc n) e = slot_past xs n e

-- a fact of the catalog's table of a number
pub at_form : (told : Option Entries) (o : Option CatalogTable) (x : CatalogTable) (P : Entries → CatalogTable → Type 0) → o ≡ Some x
    → WhereTold told (λ files. P files x) → WhereTold told (λ files. IfSome o (λ form. P files form))
at_form told None x P e h = cc e
at_form told (Some y) x P e h = let same : x ≡ y = cc e in subst (λ (z : CatalogTable). WhereTold told (λ files. P files z)) same h
