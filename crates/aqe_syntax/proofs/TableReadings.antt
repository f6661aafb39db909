-- CREATE TABLE: from the reading of the parts to that of the whole.
use Rattle.std.proofs.Common.{ℕ, List, [], ◌∷◌, Bool, true, false, ◌≡◌, ◌<◌, ◌⊎◌, inl, inr, length, refl, sym, ap, subst, arith, lit<, Result, Ok, Err, MatchResult}
use Rattle.std.specs.Prelude.{Some, None, codes, ◌==◌}
use Rattle.std.specs.Str.{str_to_ascii_lowercase}
use Rattle.std.proofs.lemmas.Slice.Eq.{bytes_eq-Decides}
use Rattle.std.proofs.lemmas.Bool.Decides.{nat_tests}
use Rattle.aqe_values.specs.declared.sql_type.SqlType.{SqlType}
use Rattle.aqe_trees.specs.declared.terminal.Key.TheVariants as k
use Rattle.aqe_trees.specs.declared.terminal.Terminal.{Terminal}
use Rattle.aqe_trees.specs.declared.terminal.Terminal.TheVariants.{Fixed, Name, Literal}
use Rattle.aqe_trees.specs.declared.statement.TableForm.{TableForm}
use Rattle.aqe_trees.specs.Shapes.{table_form}
use Rattle.aqe_trees.specs.Words.{is_word, type_named, type_of}
use Rattle.aqe_trees.specs.Follow.{Stops}
use Rattle.aqe_trees.specs.Lists.{Listed}
use Rattle.aqe_trees.specs.Tables.{IsColumn, column_of, IsOption, option_of, option_equal, IsPlace, location, options_location, location_options, IsCreate, create}
use Rattle.aqe_reader.specs.Reading.{Read, Refuses, Taken, Never, IsRefusal}
use Rattle.aqe_reader.specs.declared.fault.ReadFault.{ReadFault}
use Rattle.aqe_syntax.specs.TableParts.{IsTheWord, the_word, IsType, a_type, IsHead, head, IsFormat, format, IsOptionKey, option_key, IsEqual, equal_said, equal_unsaid, IsOptionValue, option_value, IsLocation, location_of, IsLastLocation, last_location, IsOptionsPlace, options_place, IsLateOptions, no_options, late_options}
use Rattle.aqe_syntax.proofs.Chain.{moved}

-- words

no_name_word : {wanted : List ℕ} {ts us : List Terminal} → ((text : List ℕ) (vs : List Terminal) → ts ≡ Name text false ∷ vs → ⊥) →
    IsTheWord wanted ts us → ⊥
no_name_word n (the_word h) = n _ _ refl

pub no_word : {wanted : List ℕ} {ts : List Terminal} → ((text : List ℕ) (vs : List Terminal) → ts ≡ Name text false ∷ vs → ⊥) →
    (us : List Terminal) → IsTheWord wanted ts us → ⊥
no_word n us d = no_name_word n d

not_word : {wanted text : List ℕ} {vs us : List Terminal} → is_word wanted text ≡ false → IsTheWord wanted (Name text false ∷ vs) us → ⊥
not_word e (the_word h) = cc

pub other_word : {wanted text : List ℕ} {ts vs : List Terminal} → ts ≡ Name text false ∷ vs → is_word wanted text ≡ false →
    (us : List Terminal) → IsTheWord wanted ts us → ⊥
other_word e h = rw e (λ us d. not_word h d)

pub that_word : {wanted text : List ℕ} {ts us : List Terminal} → ts ≡ Name text false ∷ us → is_word wanted text ≡ true → IsTheWord wanted ts us
that_word e h = rw e (the_word h)

-- types

type_word : (t : Terminal) (kind : SqlType) → type_of t ≡ Some kind → (text : List ℕ) × (t ≡ Name text false) × (type_named text ≡ Some kind)
type_word (Name text false) kind e = (text, refl, e)
type_word _ kind e = absurd (cc)

no_type_at : {kind : SqlType} {ts us : List Terminal} → ((text : List ℕ) (vs : List Terminal) → ts ≡ Name text false ∷ vs → ⊥) →
    IsType kind ts us → ⊥
no_type_at n (a_type {t = t} {us = vs} e) =
    let w = type_word t _ e in
    let same = w.1 in
    n w.0 vs (cc)

pub no_type : {ts : List Terminal} → ((text : List ℕ) (vs : List Terminal) → ts ≡ Name text false ∷ vs → ⊥) →
    (kind : SqlType) (us : List Terminal) → IsType kind ts us → ⊥
no_type n kind us d = no_type_at n d

not_type : {text : List ℕ} {kind : SqlType} {vs us : List Terminal} → type_named text ≡ None → IsType kind (Name text false ∷ vs) us → ⊥
not_type e (a_type h) = cc

pub other_type : {text : List ℕ} {ts vs : List Terminal} → ts ≡ Name text false ∷ vs → type_named text ≡ None →
    (kind : SqlType) (us : List Terminal) → IsType kind ts us → ⊥
other_type e h = rw e (λ kind us d. not_type h d)

pub that_type : {text : List ℕ} {kind : SqlType} {ts us : List Terminal} → ts ≡ Name text false ∷ us → type_named text ≡ Some kind → IsType kind ts us
that_type {text = text} e h = rw e (a_type {t = Name text false} h)

-- columns

column_found : {name : List ℕ} {kind : SqlType} {quoted : Bool} {after us : List Terminal} → IsType kind after us →
    IsColumn (name, kind) (Name name quoted ∷ after) us
column_found (a_type e) = column_of e

type_only : {a b : SqlType} {ts us vs : List Terminal} → IsType a ts us → IsType b ts vs → (a ≡ b) × (us ≡ vs)
type_only (a_type e) (a_type f) = (cc, refl)

column_only : {name : List ℕ} {kind : SqlType} {quoted : Bool} {v : List ℕ × SqlType} {after us ws : List Terminal} → IsType kind after us →
    IsColumn v (Name name quoted ∷ after) ws → ((name, kind) ≡ v) × (us ≡ ws)
column_only d (column_of {t = t} e) = let p = type_only d (a_type {t = t} e) in (cc, p.1)

type_shorter : {kind : SqlType} {ts us : List Terminal} → IsType kind ts us → length us < length ts
type_shorter (a_type e) = omega arith

pub column_read : {name : List ℕ} {kind : SqlType} {quoted : Bool} {ts after us : List Terminal} → ts ≡ Name name quoted ∷ after →
    IsType kind after us → Read IsColumn 10 ts (name, kind) us
column_read e d = rw e (record {
  found = column_found d;
  only = λ v ws n s. column_only d n;
  shorter = let a = type_shorter d in omega arith;
})

no_column_name : {v : List ℕ × SqlType} {ts ws : List Terminal} → ((name : List ℕ) (quoted : Bool) (us : List Terminal) → ts ≡ Name name quoted ∷ us → ⊥) →
    IsColumn v ts ws → ⊥
no_column_name n (column_of e) = n _ _ _ refl

pub column_name_refused : {ts : List Terminal} → ((name : List ℕ) (quoted : Bool) (us : List Terminal) → ts ≡ Name name quoted ∷ us → ⊥) →
    Refuses IsColumn 10 ts
column_name_refused n v ws d s = no_column_name n d

no_column_type : {name : List ℕ} {quoted : Bool} {v : List ℕ × SqlType} {after ws : List Terminal} →
    ((kind : SqlType) (us : List Terminal) → IsType kind after us → ⊥) → IsColumn v (Name name quoted ∷ after) ws → ⊥
no_column_type n (column_of {t = t} e) = n _ _ (a_type {t = t} e)

pub column_type_refused : {name : List ℕ} {quoted : Bool} {ts after : List Terminal} → ts ≡ Name name quoted ∷ after →
    ((kind : SqlType) (us : List Terminal) → IsType kind after us → ⊥) → Refuses IsColumn 10 ts
column_type_refused e n = rw e (λ v ws d s. no_column_type n d)

-- options

no_key_at : {key : List ℕ} {ts us : List Terminal} → ((text : List ℕ) (quoted : Bool) (vs : List Terminal) → ts ≡ Name text quoted ∷ vs → ⊥) →
    ((text : List ℕ) (vs : List Terminal) → ts ≡ Literal text ∷ vs → ⊥) → IsOptionKey key ts us → ⊥
no_key_at m n (option_key {t = Name text quoted} e) = m _ _ _ refl
no_key_at m n (option_key {t = Literal text} e) = n _ _ refl
no_key_at m n (option_key {t = _} e) = cc

pub no_option_key : {ts : List Terminal} → ((text : List ℕ) (quoted : Bool) (vs : List Terminal) → ts ≡ Name text quoted ∷ vs → ⊥) →
    ((text : List ℕ) (vs : List Terminal) → ts ≡ Literal text ∷ vs → ⊥) → (key : List ℕ) (us : List Terminal) → IsOptionKey key ts us → ⊥
no_option_key m n key us d = no_key_at m n d

pub name_key : {text : List ℕ} {quoted : Bool} {ts us : List Terminal} → ts ≡ Name text quoted ∷ us → IsOptionKey text ts us
name_key {text = text} {quoted = quoted} e = rw e (option_key {t = Name text quoted} refl)

pub literal_key : {text : List ℕ} {ts us : List Terminal} → ts ≡ Literal text ∷ us → IsOptionKey text ts us
literal_key {text = text} e = rw e (option_key {t = Literal text} refl)

no_value_at : {value : List ℕ} {ts us : List Terminal} → ((text : List ℕ) (vs : List Terminal) → ts ≡ Literal text ∷ vs → ⊥) →
    ((vs : List Terminal) → ts ≡ Fixed k.True ∷ vs → ⊥) → ((vs : List Terminal) → ts ≡ Fixed k.False ∷ vs → ⊥) → IsOptionValue value ts us → ⊥
no_value_at m n o (option_value {t = Literal text} e) = m _ _ refl
no_value_at m n o (option_value {t = Fixed k.True} e) = n _ refl
no_value_at m n o (option_value {t = Fixed k.False} e) = o _ refl
no_value_at m n o (option_value {t = _} e) = cc

pub no_option_value : {ts : List Terminal} → ((text : List ℕ) (vs : List Terminal) → ts ≡ Literal text ∷ vs → ⊥) →
    ((vs : List Terminal) → ts ≡ Fixed k.True ∷ vs → ⊥) → ((vs : List Terminal) → ts ≡ Fixed k.False ∷ vs → ⊥) → Never IsOptionValue ts
no_option_value m n o v ws d = no_value_at m n o d

value_only : {a b : List ℕ} {ts us vs : List Terminal} → IsOptionValue a ts us → IsOptionValue b ts vs → (a ≡ b) × (us ≡ vs)
value_only (option_value e) (option_value f) = (cc, refl)

value_shorter : {a : List ℕ} {ts us : List Terminal} → IsOptionValue a ts us → length us < length ts
value_shorter (option_value e) = omega arith

pub value_taken : {a : List ℕ} {ts us : List Terminal} → IsOptionValue a ts us → Taken IsOptionValue ts a us
value_taken d = record { found = d; only = λ v ws e. value_only d e; shorter = value_shorter d }

pub literal_value : {text : List ℕ} {ts us : List Terminal} → ts ≡ Literal text ∷ us → Taken IsOptionValue ts text us
literal_value {text = text} e = value_taken (rw e (option_value {t = Literal text} refl))

pub true_value : {ts us : List Terminal} → ts ≡ Fixed k.True ∷ us → Taken IsOptionValue ts (codes "true") us
true_value e = value_taken (rw e (option_value {t = Fixed k.True} refl))

pub false_value : {ts us : List Terminal} → ts ≡ Fixed k.False ∷ us → Taken IsOptionValue ts (codes "false") us
false_value e = value_taken (rw e (option_value {t = Fixed k.False} refl))

option_found : {key value : List ℕ} {ts vs ws us : List Terminal} → IsOptionKey key ts vs → IsEqual vs ws → IsOptionValue value ws us →
    IsOption (key, value) ts us
option_found (option_key e) equal_said (option_value f) = option_equal e f
option_found (option_key e) (equal_unsaid n) (option_value f) = option_of e f

option_only : {key value : List ℕ} {v : List ℕ × List ℕ} {ts vs ws us zs : List Terminal} → IsOptionKey key ts vs → IsEqual vs ws →
    Taken IsOptionValue ws value us → IsOption v ts zs → ((key, value) ≡ v) × (us ≡ zs)
option_only (option_key e) equal_said r (option_equal {u = u} f g) =
    let o = r.only _ _ (option_value {t = u} g) in (cc, o.1)
option_only (option_key e) equal_said r (option_of f g) = absurd (cc)
option_only (option_key e) (equal_unsaid n) r (option_equal f g) = absurd (n _ refl)
option_only (option_key e) (equal_unsaid n) r (option_of {u = u} f g) =
    let o = r.only _ _ (option_value {t = u} g) in (cc, o.1)

key_shorter : {a : List ℕ} {ts us : List Terminal} → IsOptionKey a ts us → length us < length ts
key_shorter (option_key e) = omega arith

equal_shorter : {ts us : List Terminal} → IsEqual ts us → length us < length ts ⊎ (length us ≡ length ts)
equal_shorter equal_said = inl (omega arith)
equal_shorter (equal_unsaid n) = inr refl

pub option_read : {key value : List ℕ} {ts vs ws us : List Terminal} → IsOptionKey key ts vs → IsEqual vs ws → Taken IsOptionValue ws value us →
    Read IsOption 10 ts (key, value) us
option_read a b r = record {
  found = option_found a b r.found;
  only = λ v zs d s. option_only a b r d;
  shorter = let p = key_shorter a in let q = equal_shorter b in let t = r.shorter in omega arith;
}

pub option_key_refused : {ts : List Terminal} → ((key : List ℕ) (us : List Terminal) → IsOptionKey key ts us → ⊥) → Refuses IsOption 10 ts
option_key_refused n v ws (option_of {t = t} f g) s = n _ _ (option_key {t = t} f)
option_key_refused n v ws (option_equal {t = t} f g) s = n _ _ (option_key {t = t} f)

no_option_at : {key : List ℕ} {v : List ℕ × List ℕ} {ts vs ws zs : List Terminal} → IsOptionKey key ts vs → IsEqual vs ws → Never IsOptionValue ws →
    IsOption v ts zs → ⊥
no_option_at (option_key e) equal_said n (option_equal {u = u} f g) = n _ _ (option_value {t = u} g)
no_option_at (option_key e) equal_said n (option_of f g) = cc
no_option_at (option_key e) (equal_unsaid m) n (option_equal f g) = m _ refl
no_option_at (option_key e) (equal_unsaid m) n (option_of {u = u} f g) = n _ _ (option_value {t = u} g)

pub option_value_refused : {key : List ℕ} {ts vs ws : List Terminal} → IsOptionKey key ts vs → IsEqual vs ws → Never IsOptionValue ws → Refuses IsOption 10 ts
option_value_refused a b n v zs d s = no_option_at a b n d

-- LOCATION

no_location_word : {place : List ℕ} {ts us : List Terminal} → ((vs : List Terminal) → IsTheWord (codes "location") ts vs → ⊥) →
    IsLocation place ts us → ⊥
no_location_word n (location_of h) = n _ (the_word h)

pub location_word_refused : {ts : List Terminal} → ((vs : List Terminal) → IsTheWord (codes "location") ts vs → ⊥) →
    (place : List ℕ) (us : List Terminal) → IsLocation place ts us → ⊥
location_word_refused n place us d = no_location_word n d

no_location_string : {place : List ℕ} {ts vs us : List Terminal} → IsTheWord (codes "location") ts vs →
    ((text : List ℕ) (ws : List Terminal) → vs ≡ Literal text ∷ ws → ⊥) → IsLocation place ts us → ⊥
no_location_string (the_word h) n (location_of i) = n _ _ refl

pub location_string_refused : {ts vs : List Terminal} → IsTheWord (codes "location") ts vs →
    ((text : List ℕ) (ws : List Terminal) → vs ≡ Literal text ∷ ws → ⊥) → (place : List ℕ) (us : List Terminal) → IsLocation place ts us → ⊥
location_string_refused w n place us d = no_location_string w n d

location_at : {place : List ℕ} {ts us : List Terminal} → IsTheWord (codes "location") ts (Literal place ∷ us) → IsLocation place ts us
location_at (the_word h) = location_of h

pub location_read : {place : List ℕ} {ts vs us : List Terminal} → IsTheWord (codes "location") ts vs → vs ≡ Literal place ∷ us → IsLocation place ts us
location_read {place = place} {ts = ts} {us = us} w e =
    location_at (subst (λ (x : List Terminal). IsTheWord (codes "location") ts x) e w)

-- the end of OPTIONS first

no_last_close : {place : List ℕ} {ts : List Terminal} → ((us : List Terminal) → ts ≡ Fixed k.Close ∷ us → ⊥) → IsLastLocation place ts → ⊥
no_last_close n (last_location h) = n _ refl

pub last_close_refused : {ts : List Terminal} → ((us : List Terminal) → ts ≡ Fixed k.Close ∷ us → ⊥) → (place : List ℕ) → IsLastLocation place ts → ⊥
last_close_refused n place d = no_last_close n d

no_last_location : {place : List ℕ} {after : List Terminal} → ((text : List ℕ) (us : List Terminal) → IsLocation text after us → ⊥) →
    IsLastLocation place (Fixed k.Close ∷ after) → ⊥
no_last_location n (last_location h) = n _ _ (location_of h)

pub last_location_refused : {ts after : List Terminal} → ts ≡ Fixed k.Close ∷ after →
    ((text : List ℕ) (us : List Terminal) → IsLocation text after us → ⊥) → (place : List ℕ) → IsLastLocation place ts → ⊥
last_location_refused e n = rw e (λ place d. no_last_location n d)

more_behind : {text place : List ℕ} {after us : List Terminal} → IsLocation text after us → (us ≡ [] → ⊥) → IsLastLocation place (Fixed k.Close ∷ after) → ⊥
more_behind (location_of i) n (last_location h) = n refl

pub more_behind_refused : {text : List ℕ} {ts after us : List Terminal} → ts ≡ Fixed k.Close ∷ after → IsLocation text after us →
    (us ≡ [] → ⊥) → (place : List ℕ) → IsLastLocation place ts → ⊥
more_behind_refused e l n = rw e (λ place d. more_behind l n d)

last_at : {place : List ℕ} {after us : List Terminal} → IsLocation place after us → us ≡ [] → IsLastLocation place (Fixed k.Close ∷ after)
last_at {place = place} (location_of {word = word} h) e =
    subst (λ (x : List Terminal). IsLastLocation place (Fixed k.Close ∷ Name word false ∷ Literal place ∷ x)) (sym e) (last_location h)

pub last_location_read : {place : List ℕ} {ts after us : List Terminal} → ts ≡ Fixed k.Close ∷ after → IsLocation place after us → us ≡ [] →
    IsLastLocation place ts
last_location_read e l n = rw e (last_at l n)

last_stops : {place : List ℕ} {ts : List Terminal} → IsLastLocation place ts → Stops 9 ts
last_stops (last_location h) = lit< tt

no_first_open : {options : List (List ℕ × List ℕ)} {place : List ℕ} {ts : List Terminal} → ((us : List Terminal) → ts ≡ Fixed k.Open ∷ us → ⊥) →
    IsOptionsPlace options place ts → ⊥
no_first_open n (options_place d l) = n _ refl

pub first_open_refused : {ts : List Terminal} → ((us : List Terminal) → ts ≡ Fixed k.Open ∷ us → ⊥) →
    (options : List (List ℕ × List ℕ)) (place : List ℕ) → IsOptionsPlace options place ts → ⊥
first_open_refused n options place d = no_first_open n d

no_first_options : {options : List (List ℕ × List ℕ)} {place : List ℕ} {inside : List Terminal} → Refuses (Listed IsOption) 9 inside →
    IsOptionsPlace options place (Fixed k.Open ∷ inside) → ⊥
no_first_options n (options_place d l) = n _ _ d (last_stops l)

pub first_options_refused : {ts inside : List Terminal} → ts ≡ Fixed k.Open ∷ inside → Refuses (Listed IsOption) 9 inside →
    (options : List (List ℕ × List ℕ)) (place : List ℕ) → IsOptionsPlace options place ts → ⊥
first_options_refused e n = rw e (λ options place d. no_first_options n d)

at_last : {place : List ℕ} {a b : List Terminal} → a ≡ b → IsLastLocation place b → IsLastLocation place a
at_last {place = place} e d = subst (λ (x : List Terminal). IsLastLocation place x) (sym e) d

no_location_last : {some options : List (List ℕ × List ℕ)} {place : List ℕ} {inside us : List Terminal} → Read (Listed IsOption) 9 inside some us →
    ((place : List ℕ) → IsLastLocation place us → ⊥) → IsOptionsPlace options place (Fixed k.Open ∷ inside) → ⊥
no_location_last r n (options_place d l) = let o = r.only _ _ d (last_stops l) in n _ (at_last o.1 l)

pub last_refused : {some : List (List ℕ × List ℕ)} {ts inside us : List Terminal} → ts ≡ Fixed k.Open ∷ inside → Read (Listed IsOption) 9 inside some us →
    ((place : List ℕ) → IsLastLocation place us → ⊥) → (options : List (List ℕ × List ℕ)) (place : List ℕ) → IsOptionsPlace options place ts → ⊥
last_refused e r n = rw e (λ options place d. no_location_last r n d)

pub options_place_read : {options : List (List ℕ × List ℕ)} {place : List ℕ} {ts inside us : List Terminal} → ts ≡ Fixed k.Open ∷ inside →
    Read (Listed IsOption) 9 inside options us → IsLastLocation place us → IsOptionsPlace options place ts
options_place_read e r l = rw e (options_place r.found l)

-- the end of LOCATION first

not_late : {options : List (List ℕ × List ℕ)} {ts : List Terminal} → (ts ≡ [] → ⊥) → ((us : List Terminal) → IsTheWord (codes "options") ts us → ⊥) →
    IsLateOptions options ts → ⊥
not_late m n no_options = m refl
not_late m n (late_options o d) = n _ o

pub late_refused : {ts : List Terminal} → (ts ≡ [] → ⊥) → ((us : List Terminal) → IsTheWord (codes "options") ts us → ⊥) →
    (options : List (List ℕ × List ℕ)) → IsLateOptions options ts → ⊥
late_refused m n options d = not_late m n d

word_only : {wanted : List ℕ} {ts us vs : List Terminal} → IsTheWord wanted ts us → IsTheWord wanted ts vs → us ≡ vs
word_only (the_word h) (the_word i) = refl

no_word_at_end : {word : List ℕ} {us : List Terminal} → IsTheWord word [] us → ⊥
no_word_at_end d = elim d [ ]

not_open : {options : List (List ℕ × List ℕ)} {ts opened : List Terminal} → IsTheWord (codes "options") ts opened →
    ((us : List Terminal) → opened ≡ Fixed k.Open ∷ us → ⊥) → IsLateOptions options ts → ⊥
not_open o n no_options = no_word_at_end o
not_open o n (late_options p d) = n _ (word_only o p)

pub late_open_refused : {ts opened : List Terminal} → IsTheWord (codes "options") ts opened → ((us : List Terminal) → opened ≡ Fixed k.Open ∷ us → ⊥) →
    (options : List (List ℕ × List ℕ)) → IsLateOptions options ts → ⊥
late_open_refused o n options d = not_open o n d

inside_only : {ts opened vs ws : List Terminal} → IsTheWord (codes "options") ts opened → opened ≡ Fixed k.Open ∷ vs →
    IsTheWord (codes "options") ts (Fixed k.Open ∷ ws) → vs ≡ ws
inside_only o e p = let f = word_only o p in cc

no_late_options : {options : List (List ℕ × List ℕ)} {ts opened vs : List Terminal} → IsTheWord (codes "options") ts opened → opened ≡ Fixed k.Open ∷ vs →
    Refuses (Listed IsOption) 9 vs → IsLateOptions options ts → ⊥
no_late_options o e n no_options = no_word_at_end o
no_late_options o e n (late_options p d) = n _ _ (moved (Listed IsOption) (inside_only o e p) d) (lit< tt)

pub late_options_refused : {ts opened vs : List Terminal} → IsTheWord (codes "options") ts opened → opened ≡ Fixed k.Open ∷ vs →
    Refuses (Listed IsOption) 9 vs → (options : List (List ℕ × List ℕ)) → IsLateOptions options ts → ⊥
late_options_refused o e n options d = no_late_options o e n d

not_closed : {some options : List (List ℕ × List ℕ)} {ts opened vs us : List Terminal} → IsTheWord (codes "options") ts opened → opened ≡ Fixed k.Open ∷ vs →
    Read (Listed IsOption) 9 vs some us → (us ≡ Fixed k.Close ∷ [] → ⊥) → IsLateOptions options ts → ⊥
not_closed o e r n no_options = no_word_at_end o
not_closed o e r n (late_options p d) =
    let w = r.only _ _ (moved (Listed IsOption) (inside_only o e p) d) (lit< tt) in
    n w.1

at_open : {ts opened us : List Terminal} → opened ≡ us → IsTheWord (codes "options") ts opened → IsTheWord (codes "options") ts us
at_open {ts = ts} e d = subst (λ (x : List Terminal). IsTheWord (codes "options") ts x) e d

late_read : {options : List (List ℕ × List ℕ)} {ts opened vs us : List Terminal} → IsTheWord (codes "options") ts opened → opened ≡ Fixed k.Open ∷ vs →
    Read (Listed IsOption) 9 vs options us → us ≡ Fixed k.Close ∷ [] → IsLateOptions options ts
late_read {options = options} {vs = vs} o e r f = late_options (at_open e o) (subst (λ (x : List Terminal). Listed IsOption options vs x) f r.found)

pub late_more_refused : {some : List (List ℕ × List ℕ)} {ts opened vs us more : List Terminal} → IsTheWord (codes "options") ts opened → opened ≡ Fixed k.Open ∷ vs →
    Read (Listed IsOption) 9 vs some us → us ≡ Fixed k.Close ∷ more → (more ≡ [] → ⊥) → (options : List (List ℕ × List ℕ)) → IsLateOptions options ts → ⊥
late_more_refused o e r f n options d = not_closed o e r (λ g. n (cc)) d

pub late_end_refused : {some : List (List ℕ × List ℕ)} {ts opened vs us : List Terminal} → IsTheWord (codes "options") ts opened → opened ≡ Fixed k.Open ∷ vs →
    Read (Listed IsOption) 9 vs some us → ((more : List Terminal) → us ≡ Fixed k.Close ∷ more → ⊥) → (options : List (List ℕ × List ℕ)) →
    IsLateOptions options ts → ⊥
late_end_refused o e r n options d = not_closed o e r (λ g. n _ g) d

pub late_whole : {options : List (List ℕ × List ℕ)} {ts opened vs us more : List Terminal} → IsTheWord (codes "options") ts opened → opened ≡ Fixed k.Open ∷ vs →
    Read (Listed IsOption) 9 vs options us → us ≡ Fixed k.Close ∷ more → more ≡ [] → IsLateOptions options ts
late_whole o e r f g = late_read o e r (cc)

-- the place of a table

options_first_found : {options : List (List ℕ × List ℕ)} {place : List ℕ} {ts vs : List Terminal} → IsTheWord (codes "options") ts vs →
    IsOptionsPlace options place vs → IsPlace options place ts
options_first_found (the_word h) (options_place d (last_location i)) = options_location h d i

lowered : (text wanted : List ℕ) → is_word wanted text ≡ true → str_to_ascii_lowercase text ≡ str_to_ascii_lowercase wanted
lowered text wanted h = (bytes_eq-Decides (str_to_ascii_lowercase text) (str_to_ascii_lowercase wanted)).0 h

seven_or_eight : (n : ℕ) → n ≡ 7 → n ≡ 8 → ⊥
seven_or_eight n e f = omega (arith, e, f)

other_first : (word : List ℕ) → is_word (codes "options") word ≡ true → is_word (codes "location") word ≡ true → ⊥
other_first word h i =
    seven_or_eight (length (str_to_ascii_lowercase word)) (ap length (lowered word (codes "options") h)) (ap length (lowered word (codes "location") i))

no_options_first : {options : List (List ℕ × List ℕ)} {place : List ℕ} {ts vs : List Terminal} → IsTheWord (codes "options") ts vs →
    ((o : List (List ℕ × List ℕ)) (p : List ℕ) → IsOptionsPlace o p vs → ⊥) → IsPlace options place ts → ⊥
no_options_first (the_word h) n (options_location i d e) = n _ _ (options_place d (last_location e))
no_options_first (the_word {text = word} h) n (location i) = other_first word h i
no_options_first (the_word {text = word} h) n (location_options i j d) = other_first word h i

pub options_first_answer : {ts vs : List Terminal} (r : Result (List (List ℕ × List ℕ) × List ℕ) ReadFault) → IsTheWord (codes "options") ts vs →
    MatchResult r (λ x. IsOptionsPlace x.0 x.1 vs)
    (λ e. IsRefusal e → (o : List (List ℕ × List ℕ)) (p : List ℕ) → IsOptionsPlace o p vs → ⊥) →
    MatchResult r (λ x. IsPlace x.0 x.1 ts) (λ e. IsRefusal e → (o : List (List ℕ × List ℕ)) (p : List ℕ) → IsPlace o p ts → ⊥)
options_first_answer (Ok x) o d = options_first_found o d
options_first_answer (Err e) o n = λ f a p d. no_options_first o (n f) d

no_place_word : {options : List (List ℕ × List ℕ)} {place : List ℕ} {ts : List Terminal} → ((us : List Terminal) → IsTheWord (codes "options") ts us → ⊥) →
    ((text : List ℕ) (us : List Terminal) → IsLocation text ts us → ⊥) → IsPlace options place ts → ⊥
no_place_word m n (location h) = n _ _ (location_of h)
no_place_word m n (options_location h d e) = m _ (the_word h)
no_place_word m n (location_options h i d) = n _ _ (location_of h)

pub place_word_refused : {ts : List Terminal} → ((us : List Terminal) → IsTheWord (codes "options") ts us → ⊥) →
    ((text : List ℕ) (us : List Terminal) → IsLocation text ts us → ⊥) →
    (options : List (List ℕ × List ℕ)) (place : List ℕ) → IsPlace options place ts → ⊥
place_word_refused m n options place d = no_place_word m n d

pub location_first_read : {options : List (List ℕ × List ℕ)} {place : List ℕ} {ts vs : List Terminal} → IsLocation place ts vs →
    IsLateOptions options vs → IsPlace options place ts
location_first_read (location_of h) no_options = location h
location_first_read (location_of h) (late_options (the_word i) d) = location_options h i d

no_location_first : {options : List (List ℕ × List ℕ)} {place text : List ℕ} {ts vs : List Terminal} → IsLocation text ts vs →
    ((o : List (List ℕ × List ℕ)) → IsLateOptions o vs → ⊥) → IsPlace options place ts → ⊥
no_location_first (location_of h) n (location i) = n _ no_options
no_location_first (location_of h) n (location_options i j d) = n _ (late_options (the_word j) d)

pub location_first_refused : {text : List ℕ} {ts vs : List Terminal} → IsLocation text ts vs → ((o : List (List ℕ × List ℕ)) → IsLateOptions o vs → ⊥) →
    (options : List (List ℕ × List ℕ)) (place : List ℕ) → IsPlace options place ts → ⊥
location_first_refused l n options place d = no_location_first l n d

-- the head and the format

format_at : {ts us : List Terminal} → ts ≡ Fixed k.Close ∷ Fixed k.Using ∷ us → {vs : List Terminal} → IsTheWord (codes "csv") us vs → IsFormat ts vs
format_at e (the_word h) = rw e (format h)

pub format_read : {ts close us vs : List Terminal} → ts ≡ Fixed k.Close ∷ close → close ≡ Fixed k.Using ∷ us → IsTheWord (codes "csv") us vs →
    IsFormat ts vs
format_read e f d = format_at (cc) d

no_format_close : {ts vs : List Terminal} → ((us : List Terminal) → ts ≡ Fixed k.Close ∷ us → ⊥) → IsFormat ts vs → ⊥
no_format_close n (format h) = n _ refl

pub format_close_refused : {ts : List Terminal} → ((us : List Terminal) → ts ≡ Fixed k.Close ∷ us → ⊥) → (vs : List Terminal) → IsFormat ts vs → ⊥
format_close_refused n vs d = no_format_close n d

no_format_using : {close vs : List Terminal} → ((us : List Terminal) → close ≡ Fixed k.Using ∷ us → ⊥) → IsFormat (Fixed k.Close ∷ close) vs → ⊥
no_format_using n (format h) = n _ refl

pub format_using_refused : {ts close : List Terminal} → ts ≡ Fixed k.Close ∷ close → ((us : List Terminal) → close ≡ Fixed k.Using ∷ us → ⊥) →
    (vs : List Terminal) → IsFormat ts vs → ⊥
format_using_refused e n = rw e (λ vs d. no_format_using n d)

no_csv : {us vs : List Terminal} → ((ws : List Terminal) → IsTheWord (codes "csv") us ws → ⊥) → IsFormat (Fixed k.Close ∷ Fixed k.Using ∷ us) vs → ⊥
no_csv n (format h) = n _ (the_word h)

pub csv_refused : {ts close us : List Terminal} → ts ≡ Fixed k.Close ∷ close → close ≡ Fixed k.Using ∷ us →
    ((ws : List Terminal) → IsTheWord (codes "csv") us ws → ⊥) → (vs : List Terminal) → IsFormat ts vs → ⊥
csv_refused e f n = rw (e, f) (λ vs d. no_csv n d)

head_tail : {name : List ℕ} {quoted : Bool} {ts us : List Terminal} → IsTheWord (codes "table") ts (Name name quoted ∷ Fixed k.Open ∷ us) →
    IsHead name (Fixed k.Create ∷ ts) us
head_tail (the_word h) = head h

head_words : {name : List ℕ} {quoted : Bool} {after vs us : List Terminal} → vs ≡ Name name quoted ∷ Fixed k.Open ∷ us →
    IsTheWord (codes "table") after vs → IsHead name (Fixed k.Create ∷ after) us
head_words {after = after} e w = head_tail (subst (λ (x : List Terminal). IsTheWord (codes "table") after x) e w)

pub head_read : {name : List ℕ} {quoted : Bool} {ts after vs us : List Terminal} → ts ≡ Fixed k.Create ∷ after → IsTheWord (codes "table") after vs →
    vs ≡ Name name quoted ∷ Fixed k.Open ∷ us → IsHead name ts us
head_read e w f = rw e (head_words f w)

no_head_create : {name : List ℕ} {ts us : List Terminal} → ((vs : List Terminal) → ts ≡ Fixed k.Create ∷ vs → ⊥) → IsHead name ts us → ⊥
no_head_create n (head h) = n _ refl

pub head_create_refused : {ts : List Terminal} → ((vs : List Terminal) → ts ≡ Fixed k.Create ∷ vs → ⊥) →
    (name : List ℕ) (us : List Terminal) → IsHead name ts us → ⊥
head_create_refused n name us d = no_head_create n d

no_head_word : {name : List ℕ} {after us : List Terminal} → ((vs : List Terminal) → IsTheWord (codes "table") after vs → ⊥) →
    IsHead name (Fixed k.Create ∷ after) us → ⊥
no_head_word n (head h) = n _ (the_word h)

pub head_word_refused : {ts after : List Terminal} → ts ≡ Fixed k.Create ∷ after → ((vs : List Terminal) → IsTheWord (codes "table") after vs → ⊥) →
    (name : List ℕ) (us : List Terminal) → IsHead name ts us → ⊥
head_word_refused e n = rw e (λ name us d. no_head_word n d)

no_head_name : {name : List ℕ} {after vs us : List Terminal} → IsTheWord (codes "table") after vs →
    ((text : List ℕ) (quoted : Bool) (ws : List Terminal) → vs ≡ Name text quoted ∷ ws → ⊥) →
    IsHead name (Fixed k.Create ∷ after) us → ⊥
no_head_name (the_word i) n (head h) = n _ _ _ refl

pub head_name_refused : {ts after vs : List Terminal} → ts ≡ Fixed k.Create ∷ after → IsTheWord (codes "table") after vs →
    ((text : List ℕ) (quoted : Bool) (ws : List Terminal) → vs ≡ Name text quoted ∷ ws → ⊥) →
    (name : List ℕ) (us : List Terminal) → IsHead name ts us → ⊥
head_name_refused e w n = rw e (λ name us d. no_head_name w n d)

no_head_open : {name text : List ℕ} {quoted : Bool} {after opened us : List Terminal} → IsTheWord (codes "table") after (Name text quoted ∷ opened) →
    ((ws : List Terminal) → opened ≡ Fixed k.Open ∷ ws → ⊥) → IsHead name (Fixed k.Create ∷ after) us → ⊥
no_head_open (the_word i) n (head h) = n _ refl

head_open_at : {text : List ℕ} {quoted : Bool} {after vs opened : List Terminal} → vs ≡ Name text quoted ∷ opened → IsTheWord (codes "table") after vs →
    IsTheWord (codes "table") after (Name text quoted ∷ opened)
head_open_at {after = after} f w = subst (λ (x : List Terminal). IsTheWord (codes "table") after x) f w

pub head_open_refused : {text : List ℕ} {quoted : Bool} {ts after vs opened : List Terminal} → ts ≡ Fixed k.Create ∷ after →
    IsTheWord (codes "table") after vs → vs ≡ Name text quoted ∷ opened → ((ws : List Terminal) → opened ≡ Fixed k.Open ∷ ws → ⊥) →
    (name : List ℕ) (us : List Terminal) → IsHead name ts us → ⊥
head_open_refused e w f n = rw e (λ name us d. no_head_open (head_open_at f w) n d)

pub head_at : {name : List ℕ} {quoted : Bool} {ts after vs opened us : List Terminal} → ts ≡ Fixed k.Create ∷ after →
    IsTheWord (codes "table") after vs → vs ≡ Name name quoted ∷ opened → opened ≡ Fixed k.Open ∷ us → IsHead name ts us
head_at {quoted = quoted} e w f g = head_read {quoted = quoted} e w (cc)

-- the whole

whole : {name place : List ℕ} {columns : List (List ℕ × SqlType)} {options : List (List ℕ × List ℕ)} {ts vs ws xs : List Terminal} →
    IsHead name ts vs → Listed IsColumn columns vs ws → IsFormat ws xs → IsPlace options place xs → IsCreate (table_form name columns options place) ts
whole (head h) d (format f) p = create h d f p

pub create_read : {name place : List ℕ} {columns : List (List ℕ × SqlType)} {options : List (List ℕ × List ℕ)} {ts vs ws xs : List Terminal} →
    IsHead name ts vs → Read (Listed IsColumn) 9 vs columns ws → IsFormat ws xs → IsPlace options place xs →
    IsCreate (table_form name columns options place) ts
create_read h r f p = whole h r.found f p

pub create_head_refused : {ts : List Terminal} → ((name : List ℕ) (us : List Terminal) → IsHead name ts us → ⊥) →
    (v : TableForm) → IsCreate v ts → ⊥
create_head_refused n v (create h a e l) = n _ _ (head h)

no_columns : {name : List ℕ} {v : TableForm} {ts vs : List Terminal} → IsHead name ts vs → Refuses (Listed IsColumn) 9 vs → IsCreate v ts → ⊥
no_columns (head h) n (create i a e l) = n _ _ a (lit< tt)

pub create_columns_refused : {name : List ℕ} {ts vs : List Terminal} → IsHead name ts vs → Refuses (Listed IsColumn) 9 vs →
    (v : TableForm) → IsCreate v ts → ⊥
create_columns_refused h n v d = no_columns h n d

at_format : {a b us : List Terminal} → a ≡ b → IsFormat b us → IsFormat a us
at_format {us = us} e d = subst (λ (x : List Terminal). IsFormat x us) (sym e) d

format_only : {ts us vs : List Terminal} → IsFormat ts us → IsFormat ts vs → us ≡ vs
format_only (format h) (format i) = refl

no_format_at : {name : List ℕ} {columns : List (List ℕ × SqlType)} {v : TableForm} {ts vs ws : List Terminal} → IsHead name ts vs →
    Read (Listed IsColumn) 9 vs columns ws → ((us : List Terminal) → IsFormat ws us → ⊥) → IsCreate v ts → ⊥
no_format_at (head h) r n (create i a e l) = let o = r.only _ _ a (lit< tt) in n _ (at_format o.1 (format e))

pub create_format_refused : {name : List ℕ} {columns : List (List ℕ × SqlType)} {ts vs ws : List Terminal} → IsHead name ts vs →
    Read (Listed IsColumn) 9 vs columns ws → ((us : List Terminal) → IsFormat ws us → ⊥) → (v : TableForm) → IsCreate v ts → ⊥
create_format_refused h r n v d = no_format_at h r n d

at_place : {options : List (List ℕ × List ℕ)} {place : List ℕ} {a b : List Terminal} → a ≡ b → IsPlace options place b → IsPlace options place a
at_place {options = options} {place = place} e d = subst (λ (x : List Terminal). IsPlace options place x) (sym e) d

no_place_at : {name : List ℕ} {columns : List (List ℕ × SqlType)} {v : TableForm} {ts vs ws xs : List Terminal} → IsHead name ts vs →
    Read (Listed IsColumn) 9 vs columns ws → IsFormat ws xs → ((o : List (List ℕ × List ℕ)) (p : List ℕ) → IsPlace o p xs → ⊥) → IsCreate v ts → ⊥
no_place_at (head h) r f n (create i a e l) =
    let o = r.only _ _ a (lit< tt) in
    let z = format_only f (at_format o.1 (format e)) in
    n _ _ (at_place z l)

pub create_place_refused : {name : List ℕ} {columns : List (List ℕ × SqlType)} {ts vs ws xs : List Terminal} → IsHead name ts vs →
    Read (Listed IsColumn) 9 vs columns ws → IsFormat ws xs → ((o : List (List ℕ × List ℕ)) (p : List ℕ) → IsPlace o p xs → ⊥) →
    (v : TableForm) → IsCreate v ts → ⊥
create_place_refused h r f n v d = no_place_at h r f n d

-- the small steps

pub emptied : {A : Type 0} {b : Bool} (ts : List A) → b ≡ (length ts == 0) → b ≡ true → ts ≡ []
emptied [] e f = refl
emptied (t ∷ ts) e f = absurd (grind (arith, nat_tests))

pub not_emptied : {A : Type 0} {b : Bool} (ts : List A) → b ≡ (length ts == 0) → b ≡ false → ts ≡ [] → ⊥
not_emptied ts e f g =
    let h = ap length g in
    grind (arith, nat_tests)

pub equal_read : {ts us : List Terminal} → ts ≡ Fixed k.Equal ∷ us → IsEqual ts us
equal_read e = rw e equal_said

pub no_equal_read : {ts : List Terminal} → ((vs : List Terminal) → ts ≡ Fixed k.Equal ∷ vs → ⊥) → IsEqual ts ts
no_equal_read n = equal_unsaid n

pub late_none : {options : List (List ℕ × List ℕ)} {ts : List Terminal} → options ≡ [] → ts ≡ [] → IsLateOptions options ts
late_none e f = rw (e, f) no_options
