-- The names of data files, in byte order.
use Rattle.std.proofs.Common.{◌≡◌, ◌≢◌, ◌↔◌, ℕ, zero, suc, ◌<◌, List, [], ◌∷◌, length, refl, ap, sym, arith, ◌∙◌, Bool, true, false, Contains, Option, Some, None, get_or, filter, cond}
use Rattle.std.specs.Prelude.{AllPairs, IsSome}
use Rattle.std.specs.Bool.{Decides}
use Rattle.std.specs.Cmp.Lexicographic.{slice_cmp}
use Rattle.std.specs.List.Sorted.{IsPermutation, IsSorted}
use Rattle.std.specs.Ordering.{is_lt, nat_cmp}
use Rattle.std.specs.Str.{bytes_eq}
use Rattle.std.specs.declared.cmp.Ordering.{Ordering}
use Rattle.std.specs.declared.cmp.Ordering.TheVariants.{Less, Equal, Greater}
use Rattle.std.proofs.lemmas.Cmp.{nat_list_cmp_total}
use Rattle.std.proofs.lemmas.List.Kept.{AllPairs-filter}
use Rattle.std.proofs.lemmas.List.MinMax.{ranks_by}
use Rattle.std.proofs.lemmas.List.Sorted.{Contains-permutation, IsPermutation-sym, sorted_far}
use Rattle.std.proofs.lemmas.Map.Keys.{IsDistinct-IsPermutation}
use Rattle.std.proofs.lemmas.Map.Made.{AllPairs-from_IsDistinct, IsDistinct-from_AllPairs}
use Rattle.std.proofs.lemmas.Map.Text.{is_eq-slice_cmp}
use Rattle.std.proofs.lemmas.Slice.Eq.{bytes_eq-Decides}
use Rattle.aqe_store.specs.Files.{Entries, IsHeld, IsListing, content_of}
use Rattle.aqe_store.specs.Told.{WhereTold}
use Rattle.aqe_tables.specs.declared.catalog.CatalogTable.{CatalogTable}
use Rattle.aqe_tables.specs.declared.fault.LoadFault.{LoadFault}
use Rattle.aqe_tables.specs.declared.fault.LoadFault.TheVariants as fault
use Rattle.aqe_tables.specs.Folder.{AreDataNames, DataFile, IsBefore, IsDataFile, is_data_name, names_of, path_of}
use Rattle.aqe_tables.specs.Load.{files_limit}
use Rattle.aqe_tables.specs.Reading.{HaveNames, NotListed}

here : (x : List ℕ) (xs : List (List ℕ)) → Contains (x ∷ xs) x
here x xs = (0, omega arith, refl)

later : (x y : List ℕ) (xs : List (List ℕ)) → Contains xs y → Contains (x ∷ xs) y
later x y xs h = (suc h.0, omega (arith, h.1), h.2)

-- a name of a longer list is the first or one of the others
split : (x y : List ℕ) (xs : List (List ℕ)) → Contains (x ∷ xs) y → y ≢ x → Contains xs y
split x y xs (zero, l, e) n = absurd (n (sym e))
split x y xs (suc k, l, e) n = (k, omega (arith, l), e)

-- a name that passes is kept
kept : (p : List ℕ → Bool) (xs : List (List ℕ)) (y : List ℕ) → Contains xs y → p y ≡ true → Contains (filter p xs) y
kept p [] y h e = absurd (omega (arith, h.1))
kept p (x ∷ xs) y (zero, l, s) e = let same : p x ≡ true = ap p s ∙ e in rw same (0, omega arith, s)
kept p (x ∷ xs) y (suc k, l, s) e = by (p x) (kept p xs y (k, omega (arith, l), s) e)
  where
    by : (b : Bool) → Contains (filter p xs) y → Contains (cond b (x ∷ filter p xs) (filter p xs)) y
    by true h = later x y (filter p xs) h
    by false h = h

-- a name that is kept was there and passes
was : (p : List ℕ → Bool) (xs : List (List ℕ)) (y : List ℕ) → Contains (filter p xs) y → Contains xs y × (p y ≡ true)
was p [] y h = absurd (omega (arith, h.1))
was p (x ∷ xs) y h = by (p x) refl h (was p xs y)
  where
    by : (b : Bool) → p x ≡ b → Contains (cond b (x ∷ filter p xs) (filter p xs)) y → (Contains (filter p xs) y → Contains xs y × (p y ≡ true))
        → Contains (x ∷ xs) y × (p y ≡ true)
    by true e (zero, l, s) more = (let t : x ≡ y = s in rw (← t) (here x xs), ap p (sym s) ∙ e)
    by true e (suc k, l, s) more = let m = more (k, omega (arith, l), s) in (later x y xs m.0, m.1)
    by false e k more = let m = more k in (later x y xs m.0, m.1)

-- of two names that differ, the one that is not after the other is before it
not_after : (x y : List ℕ) → is_lt (slice_cmp nat_cmp y x) ≡ false → x ≢ y → IsBefore x y
not_after x y l n = by (slice_cmp nat_cmp y x) refl
  where
    by : (o : Ordering) → slice_cmp nat_cmp y x ≡ o → slice_cmp nat_cmp x y ≡ Less
    by Less e = let no = rw e at l in cc no
    by Equal e =
        let same : bytes_eq y x ≡ true = sym (is_eq-slice_cmp y x) ∙ rw e refl in
        absurd (n (sym ((bytes_eq-Decides y x).0 same)))
    by Greater e = nat_list_cmp_total.antisymm x y ∙ rw e refl

flips : (x y : List ℕ) → bytes_eq x y ≡ bytes_eq y x
flips x y = by (bytes_eq x y) (bytes_eq y x) (bytes_eq-Decides x y) (bytes_eq-Decides y x)
  where
    by : (a b : Bool) → Decides a (x ≡ y) → Decides b (y ≡ x) → a ≡ b
    by true true h k = refl
    by true false h k = sym (k.1 (sym (h.0 refl)))
    by false true h k = h.1 (sym (k.0 refl))
    by false false h k = refl

-- a listing's data names, sorted
pub sorted_names : (files : Entries) (folder : List ℕ) (names sorted : List (List ℕ)) → IsListing files folder names
    → IsPermutation (filter is_data_name names) sorted → IsSorted (slice_cmp nat_cmp) sorted → AreDataNames files folder sorted
sorted_names files folder names sorted listing same up = record {
  each = λ name. (there name, back name);
  rising = rising;
}
  where
    there : (name : List ℕ) → Contains sorted name → IsDataFile files folder name
    there name h =
        let at = was is_data_name names name (Contains-permutation sorted (filter is_data_name names) name (IsPermutation-sym (filter is_data_name names) sorted same) h) in
        record { held = (listing.files_of name).0 at.0; named = at.1 }

    back : (name : List ℕ) → IsDataFile files folder name → Contains sorted name
    back name file = Contains-permutation (filter is_data_name names) sorted name same (kept is_data_name names name ((listing.files_of name).1 file.held) file.named)

    once : AllPairs (λ x y. x ≢ y) sorted
    once =
        let filtered = AllPairs-filter (λ x y. x ≢ y) is_data_name names listing.once in
        let apart = IsDistinct-from_AllPairs bytes_eq-Decides (filter is_data_name names) filtered in
        AllPairs-from_IsDistinct bytes_eq-Decides sorted (IsDistinct-IsPermutation bytes_eq flips (filter is_data_name names) sorted same apart)

    rising : AllPairs IsBefore sorted
    rising i j d l k =
        let far = sorted_far (λ x y. is_lt (slice_cmp nat_cmp x y)) (ranks_by nat_list_cmp_total (λ x. x)) sorted up i j d (omega arith) k in
        not_after (get_or sorted i d) (get_or sorted j d) far (once i j d l k)

pub sorted_told : (told : Option Entries) (folder : List ℕ) (names sorted : List (List ℕ)) → WhereTold told (λ files. IsListing files folder names)
    → IsPermutation (filter is_data_name names) sorted → IsSorted (slice_cmp nat_cmp) sorted → WhereTold told (λ files. AreDataNames files folder sorted)
sorted_told None folder names sorted h same up = tt
sorted_told (Some files) folder names sorted h same up = sorted_names files folder names sorted h same up

pub many_told : (told : Option Entries) (table : CatalogTable) (names sorted : List (List ℕ)) (why : LoadFault) → WhereTold told (λ files. IsListing files table.location names)
    → IsPermutation (filter is_data_name names) sorted → IsSorted (slice_cmp nat_cmp) sorted → files_limit < length sorted → why ≡ fault.TooManyFiles
    → WhereTold told (λ files. NotListed files table why)
many_told None table names sorted why h same up more is = tt
many_told (Some files) table names sorted why h same up more is =
    rw is (λ before. (sorted, sorted_names files table.location names sorted h same up, more))

-- names that are held have contents
pub contents : (files : Entries) (folder : List ℕ) (names : List (List ℕ)) → ((name : List ℕ) → Contains names name → IsHeld files (path_of folder name))
    → (parts : List DataFile) × HaveNames files folder names parts
contents files folder [] h = ([], record { named = refl; held = tt })
contents files folder (name ∷ names) h = by (content_of files (path_of folder name)) refl (h name (here name names)) (contents files folder names (λ n k. h n (later name n names k)))
  where
    by : (o : Option (List ℕ)) → content_of files (path_of folder name) ≡ o → IsSome (content_of files (path_of folder name))
        → ((parts : List DataFile) × HaveNames files folder names parts) → (parts : List DataFile) × HaveNames files folder (name ∷ names) parts
    by None e some more = let no = rw e at some in cc no
    by (Some bytes) e some (parts, have) =
        ((name, bytes) ∷ parts, record { named = ap (λ (ns : List (List ℕ)). name ∷ ns) have.named; held = (e, have.held) })

-- names before others are not these, and not both before and after
never_both : (x y : List ℕ) → IsBefore x y → IsBefore y x → ⊥
never_both x y h k = let back = nat_list_cmp_total.antisymm x y in let turned = rw k at back in cc (h, turned)

never_self : (x : List ℕ) → IsBefore x x → ⊥
never_self x h = never_both x x h h

first_before : (x : List ℕ) (xs : List (List ℕ)) (y : List ℕ) → AllPairs IsBefore (x ∷ xs) → Contains xs y → IsBefore x y
first_before x xs y up (k, l, e) = let h = up 0 (suc k) y (omega arith) (omega (arith, l)) in rw e at h

rest_rising : (x : List ℕ) (xs : List (List ℕ)) → AllPairs IsBefore (x ∷ xs) → AllPairs IsBefore xs
rest_rising x xs up i j d l k = up (suc i) (suc j) d (omega (arith, l)) (omega (arith, k))

-- rising names with the same members are the same
pub names_once : (xs ys : List (List ℕ)) → AllPairs IsBefore xs → AllPairs IsBefore ys → ((name : List ℕ) → Contains xs name ↔ Contains ys name) → xs ≡ ys
names_once [] [] u v h = refl
names_once [] (y ∷ ys) u v h = let some = (h y).1 (here y ys) in absurd (omega (arith, some.1))
names_once (x ∷ xs) [] u v h = let some = (h x).0 (here x xs) in absurd (omega (arith, some.1))
names_once (x ∷ xs) (y ∷ ys) u v h =
    let first : x ≡ y = heads (bytes_eq x y) (bytes_eq-Decides x y) in
    let others : xs ≡ ys = names_once xs ys (rest_rising x xs u) (rest_rising y ys v) (λ n. (left first n, right first n)) in
    rw (first, others) refl
  where
    left : x ≡ y → (n : List ℕ) → Contains xs n → Contains ys n
    left first n k = split y n ys ((h n).0 (later x n xs k)) (λ e. never_self x (let at = first_before x xs n u k in rw (e ∙ sym first) at at))

    right : x ≡ y → (n : List ℕ) → Contains ys n → Contains xs n
    right first n k = split x n xs ((h n).1 (later y n ys k)) (λ e. never_self y (let at = first_before y ys n v k in rw (e ∙ first) at at))

    heads : (b : Bool) → Decides b (x ≡ y) → x ≡ y
    heads true d = d.0 refl
    heads false d =
        let apart : x ≢ y = λ e. let yes = d.1 e in cc yes in
        let before = first_before y ys x v (split y x ys ((h x).0 (here x xs)) apart) in
        let after = first_before x xs y u (split x y xs ((h y).1 (here y ys)) (λ e. apart (sym e))) in
        absurd (never_both x y after before)

-- files of the same names are the same
pub parts_once : (files : Entries) (folder : List ℕ) (names : List (List ℕ)) (a b : List DataFile) → HaveNames files folder names a → HaveNames files folder names b → a ≡ b
parts_once files folder names [] [] h k = refl
parts_once files folder names [] (y ∷ ys) h k = let no = h.named ∙ sym k.named in cc no
parts_once files folder names (x ∷ xs) [] h k = let no = h.named ∙ sym k.named in cc no
parts_once files folder [] (x ∷ xs) (y ∷ ys) h k = let no = h.named in cc no
parts_once files folder (n ∷ ns) (x ∷ xs) (y ∷ ys) h k =
    let left = h.named in
    let right = k.named in
    let x_name : x.0 ≡ n = cc left in
    let y_name : y.0 ≡ n = cc right in
    let x_names : names_of xs ≡ ns = cc left in
    let y_names : names_of ys ≡ ns = cc right in
    let x_held = rw x_name at h.held.0 in
    let y_held = rw y_name at k.held.0 in
    let content : x.1 ≡ y.1 = cc (x_held, y_held) in
    let others = parts_once files folder ns xs ys (record { named = x_names; held = h.held.1 }) (record { named = y_names; held = k.held.1 }) in
    let first : x ≡ y = ap (λ (m : List ℕ). (m, x.1)) (x_name ∙ sym y_name) ∙ ap (λ (m : List ℕ). (y.0, m)) content in
    rw (first, others) refl
