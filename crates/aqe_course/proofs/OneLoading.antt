-- The loading of tables comes to one end, whatever slots the tables stand in.
use Rattle.std.proofs.Common.{◌≡◌, ◌≢◌, ◌⊎◌, inl, inr, ℕ, suc, ◌+◌, ◌==◌, Bool, true, false, IsTrue, List, [], ◌∷◌, Option, Some, None, refl, sym, ap, subst, ◌∙◌, arith}
use Rattle.std.specs.Prelude.{IsSome}
use Rattle.std.proofs.lemmas.Bool.Decides.{Decides-eqb}
use Rattle.std.proofs.lemmas.List.Sums.{sum_by-cons}
use Rattle.aqe_store.specs.Files.{Entries}
use Rattle.aqe_tables.specs.declared.catalog.CatalogTable.{CatalogTable}
use Rattle.aqe_tables.specs.declared.fault.LoadFault.{LoadFault}
use Rattle.aqe_tables.specs.declared.loaded.Table.{Table}
use Rattle.aqe_tables.specs.Load.{IsTableOf, LoadCause, is_excuse}
use Rattle.aqe_tables.specs.Loaded.{Slots, IsLoaded, all_bytes, slot_bytes, table_at}
use Rattle.aqe_tables.proofs.CauseFacts.{never_told, only_told, one_table}
use Rattle.aqe_course.specs.Loading.{IsAdded, IsRefusedTable, AreLoaded, IsStopped}
use Rattle.aqe_course.specs.Loading.AreLoaded.{all, again, next}
use Rattle.aqe_course.specs.Loading.IsStopped.{here, again as again_stops, next as next_stops}

-- the same tables are loaded
abbrev pub Alike : Slots → Slots → Type 0
Alike s t = (n : ℕ) → table_at s n ≡ table_at t n

pub alike_back : (s t : Slots) → Alike s t → Alike t s
alike_back s t h n = sym (h n)

first_bytes : (x : Option Table) (s : Slots) → all_bytes (x ∷ s) ≡ slot_bytes x + all_bytes s
first_bytes x s = sum_by-cons slot_bytes x s

bytes_alike : (s t : Slots) → Alike s t → all_bytes s ≡ all_bytes t
bytes_alike [] [] h = refl
bytes_alike [] (y ∷ t) h =
    let first : 0 ≡ slot_bytes y = ap slot_bytes (h 0) in
    let rest : 0 ≡ all_bytes t = bytes_alike [] t (λ n. h (suc n)) in
    omega (arith, first, rest, first_bytes y t)
bytes_alike (x ∷ s) [] h =
    let first : slot_bytes x ≡ 0 = ap slot_bytes (h 0) in
    let rest : all_bytes s ≡ 0 = bytes_alike s [] (λ n. h (suc n)) in
    omega (arith, first, rest, first_bytes x s)
bytes_alike (x ∷ s) (y ∷ t) h =
    let first : slot_bytes x ≡ slot_bytes y = ap slot_bytes (h 0) in
    let rest : all_bytes s ≡ all_bytes t = bytes_alike s t (λ n. h (suc n)) in
    omega (arith, first, rest, first_bytes x s, first_bytes y t)

-- a table is loaded or not
not_both : (s t : Slots) (n : ℕ) → Alike s t → IsLoaded s n → table_at t n ≡ None → ⊥
not_both s t n h l e = let nay : IsSome {T = Table} None = subst IsSome (h n ∙ e) l in cc nay

added_alike : (files : Entries) (catalog : List CatalogTable) (s t s' t' : Slots) (n : ℕ) → Alike s t → IsAdded files catalog s n s' → IsAdded files catalog t n t' → Alike s' t'
added_alike files catalog s t s' t' n h a b m = by (m == n) refl
  where
    form : a.form ≡ b.form
    form = let both : Some a.form ≡ Some b.form = sym a.created ∙ b.created in cc both

    table : a.table ≡ b.table
    table = one_table files b.form (all_bytes s) (all_bytes t) a.table b.table (subst (λ f. IsTableOf files f (all_bytes s) a.table) form a.is) b.is

    by : (e : Bool) → (m == n) ≡ e → table_at s' m ≡ table_at t' m
    by true e = let same : m ≡ n = (Decides-eqb m n).0 e in rw same (a.put.is ∙ ap Some table ∙ sym b.put.is)
    by false e =
        let other : m ≢ n = λ same. let no : true ≡ false = sym ((Decides-eqb m n).1 same) ∙ e in cc no in
        a.put.others m other ∙ h m ∙ sym (b.put.others m other)

pub loaded_alike : (files : Entries) (catalog : List CatalogTable) (s t s' t' : Slots) (ns : List ℕ) → Alike s t → AreLoaded files catalog s ns s' → AreLoaded files catalog t ns t' → Alike s' t'
loaded_alike files catalog _ _ _ _ _ h (all s) (all t) = h
loaded_alike files catalog _ _ s' t' _ h (again s _ n ns l p) (again t _ _ _ k q) = loaded_alike files catalog s t s' t' ns h p q
loaded_alike files catalog _ _ s' t' _ h (again s _ n ns l p) (next t now _ _ _ e a q) = absurd (not_both s t n h l e)
loaded_alike files catalog _ _ s' t' _ h (next s now _ n ns e a p) (again t _ _ _ k q) = absurd (not_both t s n (alike_back s t h) k e)
loaded_alike files catalog _ _ s' t' _ h (next s now _ n ns e a p) (next t then _ _ _ f b q) =
    loaded_alike files catalog now then s' t' ns (added_alike files catalog s t now then n h a b) p q

refused_not_added : (files : Entries) (catalog : List CatalogTable) (s t t' : Slots) (n : ℕ) (why : LoadFault) → Alike s t → IsRefusedTable files catalog s n why → IsAdded files catalog t n t' → ⊥
refused_not_added files catalog s t t' n why h r a =
    never_told (Some files) a.form (all_bytes t) a.table a.is why r.told
    (subst (λ f. LoadCause files f (all_bytes t) why) form (subst (λ b. LoadCause files r.form b why) (bytes_alike s t h) r.cause))
  where
    form : r.form ≡ a.form
    form = let both : Some r.form ≡ Some a.form = sym r.created ∙ a.created in cc both

refused_once : (files : Entries) (catalog : List CatalogTable) (s t : Slots) (n : ℕ) (a b : LoadFault) → Alike s t → IsRefusedTable files catalog s n a → IsRefusedTable files catalog t n b → a ≡ b
refused_once files catalog s t n a b h r q = by (only_told (Some files) q.form (all_bytes t) a cause b q.told q.cause)
  where
    form : r.form ≡ q.form
    form = let both : Some r.form ≡ Some q.form = sym r.created ∙ q.created in cc both

    cause : LoadCause files q.form (all_bytes t) a
    cause = subst (λ f. LoadCause files f (all_bytes t) a) form (subst (λ b. LoadCause files r.form b a) (bytes_alike s t h) r.cause)

    by : (a ≡ b) ⊎ IsTrue (is_excuse a) → a ≡ b
    by (inl e) = e
    by (inr x) = absurd (let no : true ≡ false = sym x ∙ r.told in cc no)

pub stopped_not_loaded : (files : Entries) (catalog : List CatalogTable) (s t t' : Slots) (ns : List ℕ) (why : LoadFault) → Alike s t → IsStopped files catalog s ns why → AreLoaded files catalog t ns t' → ⊥
stopped_not_loaded files catalog _ _ t' _ why h (here s n ns _ e r) (again t _ _ _ k q) = not_both t s n (alike_back s t h) k e
stopped_not_loaded files catalog _ _ t' _ why h (here s n ns _ e r) (next t now _ _ _ f a q) = refused_not_added files catalog s t now n why h r a
stopped_not_loaded files catalog _ _ t' _ why h (again_stops s n ns _ l p) (again t _ _ _ k q) = stopped_not_loaded files catalog s t t' ns why h p q
stopped_not_loaded files catalog _ _ t' _ why h (again_stops s n ns _ l p) (next t now _ _ _ f a q) = not_both s t n h l f
stopped_not_loaded files catalog _ _ t' _ why h (next_stops s now n ns _ e a p) (again t _ _ _ k q) = not_both t s n (alike_back s t h) k e
stopped_not_loaded files catalog _ _ t' _ why h (next_stops s now n ns _ e a p) (next t then _ _ _ f b q) =
    stopped_not_loaded files catalog now then t' ns why (added_alike files catalog s t now then n h a b) p q

pub stopped_once : (files : Entries) (catalog : List CatalogTable) (s t : Slots) (ns : List ℕ) (a b : LoadFault) → Alike s t → IsStopped files catalog s ns a → IsStopped files catalog t ns b → a ≡ b
stopped_once files catalog _ _ _ a b h (here s n ns _ e r) (here t _ _ _ f q) = refused_once files catalog s t n a b h r q
stopped_once files catalog _ _ _ a b h (here s n ns _ e r) (again_stops t _ _ _ k q) = absurd (not_both t s n (alike_back s t h) k e)
stopped_once files catalog _ _ _ a b h (here s n ns _ e r) (next_stops t now _ _ _ f d q) = absurd (refused_not_added files catalog s t now n a h r d)
stopped_once files catalog _ _ _ a b h (again_stops s n ns _ l p) (here t _ _ _ f q) = absurd (not_both s t n h l f)
stopped_once files catalog _ _ _ a b h (again_stops s n ns _ l p) (again_stops t _ _ _ k q) = stopped_once files catalog s t ns a b h p q
stopped_once files catalog _ _ _ a b h (again_stops s n ns _ l p) (next_stops t now _ _ _ f d q) = absurd (not_both s t n h l f)
stopped_once files catalog _ _ _ a b h (next_stops s now n ns _ e d p) (here t _ _ _ f q) = absurd (refused_not_added files catalog t s now n b (alike_back s t h) q d)
stopped_once files catalog _ _ _ a b h (next_stops s now n ns _ e d p) (again_stops t _ _ _ k q) = absurd (not_both t s n (alike_back s t h) k e)
stopped_once files catalog _ _ _ a b h (next_stops s now n ns _ e d p) (next_stops t then _ _ _ f g q) =
    stopped_once files catalog now then ns a b (added_alike files catalog s t now then n h d g) p q
