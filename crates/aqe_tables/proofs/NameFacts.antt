-- Tests on names, and names gathered one by one.
use Rattle.std.proofs.Common.{add-one, ◌≡◌, ℕ, suc, ◌+◌, ◌<◌, List, [], ◌∷◌, ◌++◌, length, get_or, take, drop, Bool, true, false, not, refl, sym, ap, ◌∙◌, ◌↔◌, IsTrue, Option, Some, None, drop-cons}
use Rattle.std.specs.Prelude.{if◌then◌else◌, nat_lt}
use Rattle.std.specs.Option.{is_some}
use Rattle.std.proofs.lemmas.List.{map-append, take_more}
use Rattle.std.specs.Str.{str_to_ascii_lowercase}
use Rattle.aqe_values.specs.declared.sql_type.SqlType.{SqlType}
use Rattle.std.specs.Bool.{Decides}
use Rattle.std.specs.List.{list_any}
use Rattle.std.specs.Str.{bytes_eq}
use Rattle.aqe_trees.specs.declared.statement.TableForm.{TableForm}
use Rattle.aqe_tables.specs.declared.catalog.CatalogTable.{CatalogTable}
use Rattle.aqe_tables.specs.declared.catalog.CreateFault.TheVariants as fault
use Rattle.aqe_tables.specs.Catalog.{column_fault, column_limit, create_fault, find_table, name_keys, option_fault, repeated_name}
use Rattle.aqe_tables.specs.Options.{bad_key}

-- two tests of one fact are one
pub same_test : {P : Type 0} (r b : Bool) → (IsTrue r ↔ P) → Decides b P → r ≡ b
same_test true true h d = refl
same_test true false h d = sym (d.1 (h.0 refl))
same_test false true h d = h.1 (d.0 refl)
same_test false false h d = refl

flipped : (b c : Bool) → b ≡ not c → c ≡ not b
flipped true false h = refl
flipped false true h = refl
flipped true true h = cc h
flipped false false h = cc h

-- the columns from a place on, of which the first stands there
from_place : (columns : List (List ℕ × SqlType)) (i : ℕ) (x : List ℕ × SqlType) → i < length columns → x ≡ get_or columns i x → drop i columns ≡ x ∷ drop (suc i) columns
from_place columns i x l is = drop-cons columns i x l ∙ ap (λ (y : List ℕ × SqlType). y ∷ drop (suc i) columns) (sym is)

-- a column whose name came before
pub found_again : (columns : List (List ℕ × SqlType)) (i : ℕ) (x : List ℕ × SqlType) (keys : List (List ℕ)) (key : List ℕ) (b : Bool) → i < length columns → x ≡ get_or columns i x
    → keys ≡ name_keys (take i columns) → repeated_name (take i columns) (drop i columns) ≡ repeated_name [] columns → key ≡ str_to_ascii_lowercase x.0 → b ≡ not (list_any (bytes_eq key) keys) → b ≡ false
    → Some x.0 ≡ repeated_name [] columns
found_again columns i x keys key b l is all so_far e added none =
    let old : list_any (bytes_eq (str_to_ascii_lowercase x.0)) (name_keys (take i columns)) ≡ true =
    rw (← all, ← e) (flipped b (list_any (bytes_eq key) keys) added ∙ rw none refl) in
    sym (first (drop i columns) (from_place columns i x l is) old) ∙ so_far
  where
    first : (rest : List (List ℕ × SqlType)) → rest ≡ x ∷ drop (suc i) columns → list_any (bytes_eq (str_to_ascii_lowercase x.0)) (name_keys (take i columns)) ≡ true
        → repeated_name (take i columns) rest ≡ Some x.0
    first rest r old = rw (r, old) refl

-- a column with a new name
pub one_more : (columns : List (List ℕ × SqlType)) (i : ℕ) (x : List ℕ × SqlType) (keys new : List (List ℕ)) (key : List ℕ) (b : Bool) → i < length columns → x ≡ get_or columns i x
    → keys ≡ name_keys (take i columns) → repeated_name (take i columns) (drop i columns) ≡ repeated_name [] columns → key ≡ str_to_ascii_lowercase x.0 → b ≡ not (list_any (bytes_eq key) keys) → b ≡ true
    → new ≡ (if list_any (bytes_eq key) keys then keys else keys ++ key ∷ [])
    → (new ≡ name_keys (take (i + 1) columns)) × (repeated_name (take (i + 1) columns) (drop (i + 1) columns) ≡ repeated_name [] columns)
one_more columns i x keys new key b l is all so_far e added some grown =
    let none : list_any (bytes_eq key) keys ≡ false = flipped b (list_any (bytes_eq key) keys) added ∙ rw some refl in
    let is_new : new ≡ keys ++ key ∷ [] = rw none at grown in
    let here : get_or columns i x ≡ x = sym is in
    let more : take (i + 1) columns ≡ take i columns ++ x ∷ [] = take_more columns i x l ∙ rw here refl in
    let names : name_keys (take i columns ++ x ∷ []) ≡ name_keys (take i columns) ++ str_to_ascii_lowercase x.0 ∷ [] =
    map-append (λ (column : List ℕ × SqlType). str_to_ascii_lowercase column.0) (take i columns) (x ∷ []) in
    let free : list_any (bytes_eq (str_to_ascii_lowercase x.0)) (name_keys (take i columns)) ≡ false = rw (← all, ← e) none in
    (rw (more, names, ← all, ← e) is_new, rw (more, add-one i) (sym (first (drop i columns) (from_place columns i x l is) free) ∙ so_far))
  where
    first : (rest : List (List ℕ × SqlType)) → rest ≡ x ∷ drop (suc i) columns → list_any (bytes_eq (str_to_ascii_lowercase x.0)) (name_keys (take i columns)) ≡ false
        → repeated_name (take i columns) rest ≡ repeated_name (take i columns ++ x ∷ []) (drop (suc i) columns)
    first rest r free = rw (r, free) refl

-- no check of a table's form is want of memory
pub created_or_named : (tables : List CatalogTable) (form : TableForm) → create_fault tables form ≡ Some fault.Memory → ⊥
created_or_named tables form = columns (repeated_name [] form.columns)
  where
    exists : (b : Bool) → (if b then Some fault.TableExists else None) ≡ Some fault.Memory → ⊥
    exists true e = cc e
    exists false e = cc e

    options : (o : Option (List ℕ)) → option_fault o (if is_some (find_table tables form.name) then Some fault.TableExists else None) ≡ Some fault.Memory → ⊥
    options None e = exists (is_some (find_table tables form.name)) e
    options (Some key) e = cc e

    width : (b : Bool) → (if b then Some fault.TooManyColumns else option_fault (bad_key [] form.options) (if is_some (find_table tables form.name) then Some fault.TableExists else None)) ≡ Some fault.Memory → ⊥
    width true e = cc e
    width false e = options (bad_key [] form.options) e

    columns : (o : Option (List ℕ)) → column_fault o (if nat_lt column_limit (length form.columns) then Some fault.TooManyColumns else option_fault (bad_key [] form.options)
        (if is_some (find_table tables form.name) then Some fault.TableExists else None)) ≡ Some fault.Memory → ⊥
    columns None e = width (nat_lt column_limit (length form.columns)) e
    columns (Some name) e = cc e
