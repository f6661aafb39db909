-- Parts of CREATE TABLE that the grammar does not name.
use Rattle.std.specs.Prelude.{ℕ, List, [], ◌∷◌, Bool, true, false, Some, ◌≡◌, codes}
use Rattle.aqe_values.specs.declared.sql_type.SqlType.{SqlType}
use Rattle.aqe_trees.specs.declared.terminal.Key.TheVariants as k
use Rattle.aqe_trees.specs.declared.terminal.Terminal.{Terminal}
use Rattle.aqe_trees.specs.declared.terminal.Terminal.TheVariants.{Fixed, Name, Literal}
use Rattle.aqe_trees.specs.Words.{is_word, type_of, option_key_of, option_value_of}
use Rattle.aqe_trees.specs.Lists.{Listed}
use Rattle.aqe_trees.specs.Tables.{IsOption}

-- a word that is not reserved, in any case
pub data IsTheWord (wanted : List ℕ) : List Terminal → List Terminal → Type 0 where
  the_word : {text : List ℕ} {us : List Terminal} → is_word wanted text ≡ true → IsTheWord wanted (Name text false ∷ us) us

-- the name of a type
pub data IsType : SqlType → List Terminal → List Terminal → Type 0 where
  a_type : {kind : SqlType} {t : Terminal} {us : List Terminal} → type_of t ≡ Some kind → IsType kind (t ∷ us) us

-- CREATE TABLE name (
pub data IsHead : List ℕ → List Terminal → List Terminal → Type 0 where
  head : {word name : List ℕ} {quoted : Bool} {us : List Terminal} → is_word (codes "table") word ≡ true →
      IsHead name (Fixed k.Create ∷ Name word false ∷ Name name quoted ∷ Fixed k.Open ∷ us) us

-- ) USING csv
pub data IsFormat : List Terminal → List Terminal → Type 0 where
  format : {word : List ℕ} {us : List Terminal} → is_word (codes "csv") word ≡ true →
      IsFormat (Fixed k.Close ∷ Fixed k.Using ∷ Name word false ∷ us) us

-- the key of an option
pub data IsOptionKey : List ℕ → List Terminal → List Terminal → Type 0 where
  option_key : {key : List ℕ} {t : Terminal} {us : List Terminal} → option_key_of t ≡ Some key → IsOptionKey key (t ∷ us) us

-- [=]
pub data IsEqual : List Terminal → List Terminal → Type 0 where
  equal_said : {us : List Terminal} → IsEqual (Fixed k.Equal ∷ us) us
  equal_unsaid : {us : List Terminal} → ((vs : List Terminal) → us ≡ Fixed k.Equal ∷ vs → ⊥) → IsEqual us us

-- the value of an option
pub data IsOptionValue : List ℕ → List Terminal → List Terminal → Type 0 where
  option_value : {value : List ℕ} {t : Terminal} {us : List Terminal} → option_value_of t ≡ Some value → IsOptionValue value (t ∷ us) us

-- LOCATION string
pub data IsLocation : List ℕ → List Terminal → List Terminal → Type 0 where
  location_of : {word place : List ℕ} {us : List Terminal} → is_word (codes "location") word ≡ true →
      IsLocation place (Name word false ∷ Literal place ∷ us) us

-- ) LOCATION string, and nothing behind it
pub data IsLastLocation : List ℕ → List Terminal → Type 0 where
  last_location : {word place : List ℕ} → is_word (codes "location") word ≡ true →
      IsLastLocation place (Fixed k.Close ∷ Name word false ∷ Literal place ∷ [])

-- ( option {, option} ) LOCATION string, and nothing behind it
pub data IsOptionsPlace : List (List ℕ × List ℕ) → List ℕ → List Terminal → Type 0 where
  options_place : {options : List (List ℕ × List ℕ)} {place : List ℕ} {ts vs : List Terminal} →
      Listed IsOption options ts vs → IsLastLocation place vs → IsOptionsPlace options place (Fixed k.Open ∷ ts)

-- [OPTIONS ( option {, option} )], and nothing behind it
pub data IsLateOptions : List (List ℕ × List ℕ) → List Terminal → Type 0 where
  no_options : IsLateOptions [] []
  late_options : {options : List (List ℕ × List ℕ)} {ts vs : List Terminal} →
      IsTheWord (codes "options") ts (Fixed k.Open ∷ vs) → Listed IsOption options vs (Fixed k.Close ∷ []) → IsLateOptions options ts
