-- What the readers of parts leave behind.
use Rattle.std.specs.Prelude.{ℕ, List, [], ◌∷◌, ◌++◌, ◌+◌, ◌≤◌, ◌≡◌, Bool, true, false, Option, Some, None, length}
use Rattle.aqe_values.specs.declared.sql_type.SqlType.{SqlType}
use Rattle.aqe_trees.specs.declared.terminal.Key.{Key}
use Rattle.aqe_trees.specs.declared.terminal.Key.TheVariants as k
use Rattle.aqe_trees.specs.declared.terminal.Terminal.{Terminal}
use Rattle.aqe_trees.specs.declared.terminal.Terminal.TheVariants.{Fixed, Name, Number}
use Rattle.aqe_trees.specs.declared.expression.OrTree.{OrTree}
use Rattle.aqe_trees.specs.declared.expression.PredicateTree.{PredicateTree}
use Rattle.aqe_trees.specs.declared.expression.Test.{Test}
use Rattle.aqe_trees.specs.declared.expression.PrimaryTree.{PrimaryTree}
use Rattle.aqe_trees.specs.declared.expression.Sign.{Sign}
use Rattle.aqe_trees.specs.declared.expression.Arm.{Arm}
use Rattle.aqe_trees.specs.Shapes.{arm}
use Rattle.aqe_trees.specs.Words.{type_of, is_word, count_word}
use Rattle.aqe_trees.specs.Expressions.{IsOr, IsNots, IsSigns, IsArms, IsPrimary, IsTest}

-- count NOTs stand before rest
pub record NotsLeft (ts rest : List Terminal) (count : ℕ) : Type 0 where
  pub more : (n : ℕ) (t : PredicateTree) (us : List Terminal) → IsNots n t rest us → IsNots (count + n) t ts us
  pub back : (n : ℕ) (t : PredicateTree) (us : List Terminal) → IsNots n t ts us → (m : ℕ) × (n ≡ count + m) × IsNots m t rest us
  pub within : count + length rest ≤ length ts

-- the signs stand before rest
pub record SignsLeft (ts rest : List Terminal) (signs : List Sign) : Type 0 where
  pub more : (ops : List Sign) (t : PrimaryTree) (us : List Terminal) → IsSigns ops t rest us → IsSigns (signs ++ ops) t ts us
  pub back : (ops : List Sign) (t : PrimaryTree) (us : List Terminal) → IsSigns ops t ts us → (more : List Sign) × (ops ≡ signs ++ more) × IsSigns more t rest us
  pub within : length rest ≤ length ts

-- the terminals behind NOT, or as they are
abbrev pub told : Bool → List Terminal → List Terminal
told true ts = Fixed k.Not ∷ ts
told false ts = ts

-- ts is rest, behind NOT where that comes first
abbrev pub Told : List Terminal → Bool → List Terminal → Type 0
Told ts true rest = ts ≡ Fixed k.Not ∷ rest
Told ts false rest = (ts ≡ rest) × ((us : List Terminal) → ts ≡ Fixed k.Not ∷ us → ⊥)

-- the operand of a CASE, which is absent where WHEN comes first
pub data IsOperand : Option OrTree → List Terminal → List Terminal → Type 0 where
  no_operand : {us : List Terminal} → IsOperand None (Fixed k.When ∷ us) (Fixed k.When ∷ us)
  an_operand : {value : OrTree} {ts us : List Terminal} → IsOr value ts us → IsOperand (Some value) ts us

-- AS type )
pub data IsAsType : SqlType → List Terminal → List Terminal → Type 0 where
  as_type : {kind : SqlType} {t : Terminal} {us : List Terminal} → type_of t ≡ Some kind →
      IsAsType kind (Fixed k.As ∷ t ∷ Fixed k.Close ∷ us) us

-- or THEN or
pub data IsArm : Arm → List Terminal → List Terminal → Type 0 where
  arm_of : {when gives : OrTree} {ts vs us : List Terminal} →
      IsOr when ts (Fixed k.Then ∷ vs) → IsOr gives vs us → IsArm (arm when gives) ts us

-- {WHEN or THEN or} [ELSE or] END
abbrev pub IsBranches : List Arm × Option OrTree → List Terminal → List Terminal → Type 0
IsBranches t ts us = IsArms t.0 t.1 ts us

-- [ELSE or] END
abbrev pub IsEnding : Option OrTree → List Terminal → List Terminal → Type 0
IsEnding t ts us = IsArms [] t ts us

-- what is asked of a value, by what stands behind its first word, which NOT may precede
abbrev pub Asked : Bool → Key → Test → List Terminal → List Terminal → Type 0
Asked negated key t ts us = IsTest t (told negated (Fixed key ∷ ts)) us

-- an operand, by what stands behind its first word or symbol
abbrev pub Keyed : Key → PrimaryTree → List Terminal → List Terminal → Type 0
Keyed key t ts us = IsPrimary t (Fixed key ∷ ts) us

-- an operand, by what stands behind the number that it begins with
abbrev pub Numbered : ℕ → Bool → PrimaryTree → List Terminal → List Terminal → Type 0
Numbered value long t ts us = IsPrimary t (Number value long ∷ ts) us

-- an operand, by what stands behind the name that it begins with
abbrev pub Named : List ℕ → Bool → PrimaryTree → List Terminal → List Terminal → Type 0
Named text quoted t ts us = IsPrimary t (Name text quoted ∷ ts) us

-- an operand, by what stands behind its name and a point
abbrev pub Dotted : List ℕ → Bool → PrimaryTree → List Terminal → List Terminal → Type 0
Dotted text quoted t ts us = IsPrimary t (Name text quoted ∷ Fixed k.Dot ∷ ts) us

-- an operand, by what stands behind its name and `(`
abbrev pub Called : List ℕ → Bool → PrimaryTree → List Terminal → List Terminal → Type 0
Called text quoted t ts us = IsPrimary t (Name text quoted ∷ Fixed k.Open ∷ ts) us

-- an operand, by what stands behind its name, `(` and `*`
abbrev pub Counted : List ℕ → Bool → PrimaryTree → List Terminal → List Terminal → Type 0
Counted text quoted t ts us = IsPrimary t (Name text quoted ∷ Fixed k.Open ∷ Fixed k.Star ∷ ts) us

-- no `*` comes first, or the function is not `count`
abbrev pub NoStar : List ℕ → List Terminal → Type 0
NoStar name ts = (us : List Terminal) → is_word count_word name ≡ true → ts ≡ Fixed k.Star ∷ us → ⊥
