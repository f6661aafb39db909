-- Names are found by their hashes.
use Rattle.std.proofs.Common.{◌≡◌, ℕ, suc, ◌+◌, ◌*◌, ◌%◌, ◌^◌, List, [], ◌∷◌, ◌++◌, length, refl, sym, ap, arith, ◌∙◌, Bool, true, false, cond, Some, slice_get}
use Rattle.std.specs.Prelude.{nat_eq, bit_xor, if◌then◌else◌}
use Rattle.std.specs.Char.{to_ascii_lowercase}
use Rattle.std.specs.List.{find, fold, position_from}
use Rattle.std.specs.Str.{str_eq_ignore_ascii_case, str_to_ascii_lowercase}
use Rattle.std.specs.HashMap.{HashMap}
use Rattle.std.proofs.lemmas.Bool.{eq-eqb}
use Rattle.std.proofs.lemmas.Iterator.Adapters.{position_from-zero}
use Rattle.std.proofs.lemmas.List.Folds.{fold-map}
use Rattle.std.proofs.lemmas.Slice.Eq.{bytes_eq-Decides}
use Rattle.aqe_tables.specs.declared.catalog.CatalogTable.{CatalogTable}
use Rattle.aqe_tables.specs.Catalog.{find_table}
use Rattle.aqe_tables.specs.Index.{Adds, IsIndex, is_named, name_hash, numbers_under, places_from}

-- among the places of the items that pass one test, the first that passes a stricter one is its first place
found_place : {X : Type 0} (p t : X → Bool) (q : ℕ → Bool) → ((x : X) → p x ≡ true → t x ≡ true) → (n : ℕ) (xs : List X)
    → ((k : ℕ) (x : X) → slice_get xs k ≡ Some x → q (n + k) ≡ p x) → find q (places_from t n xs) ≡ position_from p n xs
found_place p t q so n [] same = refl
found_place {X} p t q so n (x ∷ xs) same =
    by (t x) (p x) refl refl (found_place p t q so (n + 1) xs (λ k y e. let at : n + 1 + k ≡ n + suc k = omega arith in ap q at ∙ same (suc k) y e))
  where
    here : q n ≡ p x
    here = let at : n + 0 ≡ n = omega arith in ap q (sym at) ∙ same 0 x refl

    by : (b c : Bool) → t x ≡ b → p x ≡ c → find q (places_from t (n + 1) xs) ≡ position_from p (n + 1) xs
        → find q (if b then n ∷ places_from t (n + 1) xs else places_from t (n + 1) xs)
        ≡ cond c (Some n) (position_from p (n + 1) xs)
    by true true e f others = rw (here, f) refl
    by true false e f others = rw (here, f) others
    by false true e f others = let no = sym e ∙ so x f in cc no
    by false false e f others = others

-- a place more, if the last item passes
place_more : {X : Type 0} (t : X → Bool) (n : ℕ) (xs : List X) (x : X)
    → places_from t n (xs ++ x ∷ []) ≡ (if t x then places_from t n xs ++ (n + length xs) ∷ [] else places_from t n xs)
place_more {X} t n [] x = let at : n + 0 ≡ n = omega arith in rw at refl
place_more {X} t n (y ∷ ys) x = by (t y) (t x) (place_more t (n + 1) ys x)
  where
    by : (b c : Bool) → places_from t (n + 1) (ys ++ x ∷ []) ≡ (if c then places_from t (n + 1) ys ++ (n + 1 + length ys) ∷ [] else places_from t (n + 1) ys)
        → (if b then n ∷ places_from t (n + 1) (ys ++ x ∷ []) else places_from t (n + 1) (ys ++ x ∷ []))
        ≡ (if c then (if b then n ∷ places_from t (n + 1) ys else places_from t (n + 1) ys) ++ (n + suc (length ys)) ∷ []
        else (if b then n ∷ places_from t (n + 1) ys else places_from t (n + 1) ys))
    by true true h = let at : n + 1 + length ys ≡ n + suc (length ys) = omega arith in rw h (rw at refl)
    by true false h = rw h refl
    by false true h = let at : n + 1 + length ys ≡ n + suc (length ys) = omega arith in rw h (rw at refl)
    by false false h = h

-- names that differ in the cases of ASCII letters alone have one hash
one_hash : (a b : List ℕ) → str_eq_ignore_ascii_case a b ≡ true → name_hash a ≡ name_hash b
unfolding name_hash
one_hash a b e =
    let low = (bytes_eq-Decides (str_to_ascii_lowercase a) (str_to_ascii_lowercase b)).0 e in
    sym (fold-map step to_ascii_lowercase 0xcbf29ce484222325 a) ∙ ap (fold step 0xcbf29ce484222325) low ∙ fold-map step to_ascii_lowercase 0xcbf29ce484222325 b
  where
    step : ℕ → ℕ → ℕ
    step hash byte = (bit_xor hash byte * 0x100000001b3) % 2 ^ 64

-- by the numbers under its hash a name is found
pub found : {S : Type 0} (numbers : HashMap ℕ (List ℕ) S) (tables : List CatalogTable) (name : List ℕ) → IsIndex numbers tables
    → find (is_named tables name) (numbers_under numbers (name_hash name)) ≡ find_table tables name
found numbers tables name index =
    ap (find (is_named tables name)) (index (name_hash name))
    ∙ found_place (λ (table : CatalogTable). str_eq_ignore_ascii_case table.name name) (λ (table : CatalogTable). nat_eq (name_hash table.name) (name_hash name)) (is_named tables name)
    (λ table e. eq-eqb (name_hash table.name) (name_hash name) (one_hash table.name name e)) 0 tables (λ k table e. let at : 0 + k ≡ k = omega arith in rw (at, e) refl)
    ∙ sym (position_from-zero (λ (table : CatalogTable). str_eq_ignore_ascii_case table.name name) tables)

-- with a number more, the numbers are those of a table more
pub indexed : {S : Type 0} (old new : HashMap ℕ (List ℕ) S) (tables : List CatalogTable) (table : CatalogTable) (all : List CatalogTable) (n hash : ℕ)
    → IsIndex old tables → n ≡ length tables → hash ≡ name_hash table.name → all ≡ tables ++ table ∷ []
    → Adds old new hash n
    → IsIndex new all
indexed old new tables table all n hash index is at whole added = λ other.
    let start : 0 + length tables ≡ length tables = omega arith in
    rw (whole, place_more (λ (t : CatalogTable). nat_eq (name_hash t.name) other) 0 tables table, start, ← index other, ← is, ← at) (added other)
