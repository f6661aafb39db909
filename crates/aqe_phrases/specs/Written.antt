-- What it is to write a tree: the text grows by words that read back as the tree.
use Rattle.std.specs.Prelude.{ℕ, zero, suc, Bool, true, false, Option, Some, None, codes, not, List, [], ◌∷◌, ◌++◌, ◌≡◌, ◌<◌, ◌≤◌, length, IsUtf8}
use Rattle.aqe_values.specs.declared.sql_type.SqlType.{SqlType}
use Rattle.aqe_values.specs.declared.sql_type.SqlType.TheVariants as kind
use Rattle.aqe_trees.specs.declared.terminal.Key.{Key}
use Rattle.aqe_trees.specs.declared.terminal.Key.TheVariants as k
use Rattle.aqe_trees.specs.declared.terminal.Terminal.{Terminal}
use Rattle.aqe_trees.specs.declared.expression.Sign.{Sign}
use Rattle.aqe_trees.specs.declared.expression.Sign.TheVariants as sign
use Rattle.aqe_trees.specs.declared.expression.OrTree.{OrTree}
use Rattle.aqe_trees.specs.Expressions.{IsOr}
use Rattle.aqe_trees.specs.declared.terminal.Terminal.TheVariants.{Fixed, Name, Literal, Number, Mixed}
use Rattle.aqe_script.specs.Statements.{ends_statement}
use Rattle.aqe_phrases.specs.Texts.{is_bare, text_of_all}

-- what holds of each terminal of a source: a name has bytes, and a number is within its limit
abbrev pub Stands : Terminal → Type 0
Stands (Fixed key) = Unit {0}
Stands (Name text quoted) = 0 < length text
Stands (Literal text) = Unit {0}
Stands (Number value long) = value ≤ 9223372036854775808
Stands Mixed = Unit {0}

abbrev pub AllStand : List Terminal → Type 0
AllStand [] = Unit {0}
AllStand (t ∷ ts) = Stands t × AllStand ts

-- a terminal that is written: no statement ends at it, and a name is quoted exactly where it has to be
abbrev pub Sound : Terminal → Type 0
Sound (Fixed key) = ends_statement (Some key) ≡ false
Sound (Name text quoted) = (0 < length text) × IsUtf8 text × (quoted ≡ not (is_bare text))
Sound (Literal text) = IsUtf8 text
Sound (Number value long) = value ≤ 9223372036854775808
Sound Mixed = ⊥

abbrev pub AllSound : List Terminal → Type 0
AllSound [] = Unit {0}
AllSound (t ∷ ts) = Sound t × AllSound ts

-- The text grew by words, given by what they make of the words behind them.
pub record Adds (words : List Terminal → List Terminal) (old new : List ℕ) : Type 0 where
  pub added : (us : List Terminal) → new ++ text_of_all us ≡ old ++ text_of_all (words us)
  pub sound : (us : List Terminal) → AllSound us → AllSound (words us)

-- the text grew by words that read back as the tree
pub record Spells {T : Type 0} (Is : T → List Terminal → List Terminal → Type 0) (tree : T) (old new : List ℕ) : Type 0 where
  pub words : List Terminal → List Terminal
  pub adds : Adds words old new
  pub reads : (us : List Terminal) → Is tree (words us) us

-- so it did where terminals of a source spell the tree
abbrev pub Spelled : {T : Type 0} → (T → List Terminal → List Terminal → Type 0) → T → List ℕ → List ℕ → Type 0
Spelled Is tree old new = (ts us : List Terminal) → Is tree ts us → AllStand ts → Spells Is tree old new

-- the text grew by words behind which what is left to write reads back as the whole
pub record Gone {X : Type 0} (Is : List X → List Terminal → List Terminal → Type 0) (whole left : List X) (us : List Terminal)
    (old new : List ℕ) : Type 0 where
  pub words : List Terminal → List Terminal
  pub adds : Adds words old new
  pub reads : (vs ws : List Terminal) → Is left vs ws → Is whole (words vs) ws
  pub rest : List Terminal
  pub is_rest : Is left rest us
  pub stand : AllStand rest

-- so it did where terminals of a source spell the whole
abbrev pub Going : {X : Type 0} → (List X → List Terminal → List Terminal → Type 0) → List X → List X → List ℕ → List ℕ → Type 0
Going Is whole left old new = (ts us : List Terminal) → Is whole ts us → AllStand ts → Gone Is whole left us old new

-- [NOT]
abbrev pub not_before : Bool → List Terminal → List Terminal
not_before false us = us
not_before true us = Fixed k.Not ∷ us

-- [-]
abbrev pub minus_before : Bool → List Terminal → List Terminal
minus_before false us = us
minus_before true us = Fixed k.Minus ∷ us

-- {NOT}, so many times
abbrev pub nots_before : ℕ → List Terminal → List Terminal
nots_before zero us = us
nots_before (suc count) us = Fixed k.Not ∷ nots_before count us

-- `+` or `-`
abbrev pub sign_key : Sign → Key
sign_key sign.Plus = k.Plus
sign_key sign.Minus = k.Minus

-- {- | +}
abbrev pub signs_before : List Sign → List Terminal → List Terminal
signs_before [] us = us
signs_before (op ∷ signs) us = Fixed (sign_key op) ∷ signs_before signs us

-- the word for a type; NULL stands for the one that has none
abbrev pub type_text : SqlType → List ℕ
type_text kind.NullType = codes "NULL"
type_text kind.Boolean = codes "BOOLEAN"
type_text kind.Int = codes "INT"
type_text kind.BigInt = codes "BIGINT"
type_text kind.Text = codes "STRING"

-- CASE [or]
pub data IsCaseOf : Option OrTree → List Terminal → List Terminal → Type 0 where
  case_alone : {us : List Terminal} → IsCaseOf None (Fixed k.Case ∷ us) us
  case_operand : {operand : OrTree} {ts us : List Terminal} → IsOr operand ts us →
      IsCaseOf (Some operand) (Fixed k.Case ∷ ts) us
