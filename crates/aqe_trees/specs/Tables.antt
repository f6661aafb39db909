-- The grammar of CREATE TABLE.
use Rattle.std.specs.Prelude.{ℕ, List, [], ◌∷◌, Bool, true, false, Some, ◌≡◌, codes}
use Rattle.aqe_values.specs.declared.sql_type.SqlType.{SqlType}
use Rattle.aqe_trees.specs.declared.terminal.Key.TheVariants as k
use Rattle.aqe_trees.specs.declared.terminal.Terminal.{Terminal}
use Rattle.aqe_trees.specs.declared.terminal.Terminal.TheVariants.{Fixed, Name, Literal}
use Rattle.aqe_trees.specs.declared.statement.TableForm.{TableForm}
use Rattle.aqe_trees.specs.Shapes.{table_form}
use Rattle.aqe_trees.specs.Words.{is_word, type_of, option_key_of, option_value_of}
use Rattle.aqe_trees.specs.Lists.{Listed}

-- column = name type
pub data IsColumn : (List ℕ × SqlType) → List Terminal → List Terminal → Type 0 where
  column_of : {name : List ℕ} {quoted : Bool} {kind : SqlType} {t : Terminal} {us : List Terminal} →
      type_of t ≡ Some kind → IsColumn (name, kind) (Name name quoted ∷ t ∷ us) us

-- option = (name | string) [=] (string | TRUE | FALSE)
pub data IsOption : (List ℕ × List ℕ) → List Terminal → List Terminal → Type 0 where
  option_of : {key value : List ℕ} {t u : Terminal} {us : List Terminal} →
      option_key_of t ≡ Some key → option_value_of u ≡ Some value → IsOption (key, value) (t ∷ u ∷ us) us
  option_equal : {key value : List ℕ} {t u : Terminal} {us : List Terminal} →
      option_key_of t ≡ Some key → option_value_of u ≡ Some value →
      IsOption (key, value) (t ∷ Fixed k.Equal ∷ u ∷ us) us

-- OPTIONS ( option {, option} ) at most once and LOCATION string once, in either order
pub data IsPlace : List (List ℕ × List ℕ) → List ℕ → List Terminal → Type 0 where
  location : {word place : List ℕ} → is_word (codes "location") word ≡ true →
      IsPlace [] place (Name word false ∷ Literal place ∷ [])
  options_location : {options : List (List ℕ × List ℕ)} {word other place : List ℕ} {ts : List Terminal} →
      is_word (codes "options") word ≡ true →
      Listed IsOption options ts (Fixed k.Close ∷ Name other false ∷ Literal place ∷ []) →
      is_word (codes "location") other ≡ true → IsPlace options place (Name word false ∷ Fixed k.Open ∷ ts)
  location_options : {options : List (List ℕ × List ℕ)} {word other place : List ℕ} {ts : List Terminal} →
      is_word (codes "location") word ≡ true → is_word (codes "options") other ≡ true →
      Listed IsOption options ts (Fixed k.Close ∷ []) →
      IsPlace options place (Name word false ∷ Literal place ∷ Name other false ∷ Fixed k.Open ∷ ts)

-- create = CREATE TABLE name ( column {, column} ) USING csv {OPTIONS ( option {, option} ) | LOCATION string}
pub data IsCreate : TableForm → List Terminal → Type 0 where
  create : {word name format place : List ℕ} {quoted : Bool} {columns : List (List ℕ × SqlType)}
      {options : List (List ℕ × List ℕ)} {ts vs : List Terminal} →
      is_word (codes "table") word ≡ true →
      Listed IsColumn columns ts (Fixed k.Close ∷ Fixed k.Using ∷ Name format false ∷ vs) →
      is_word (codes "csv") format ≡ true → IsPlace options place vs →
      IsCreate (table_form name columns options place)
      (Fixed k.Create ∷ Name word false ∷ Name name quoted ∷ Fixed k.Open ∷ ts)
