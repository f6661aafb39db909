-- Parts that rules share: lists with commas, clauses, aliases.
use Rattle.std.specs.Prelude.{ℕ, List, [], ◌∷◌, Bool, true, false, Option, Some, None, ◌≤◌}
use Rattle.aqe_trees.specs.declared.terminal.Key.{Key}
use Rattle.aqe_trees.specs.declared.terminal.Key.TheVariants as k
use Rattle.aqe_trees.specs.declared.terminal.Terminal.{Terminal}
use Rattle.aqe_trees.specs.declared.terminal.Terminal.TheVariants.{Fixed, Name, Number}
use Rattle.aqe_trees.specs.declared.expression.OrTree.{OrTree}
use Rattle.aqe_trees.specs.Expressions.{IsOr}

-- {, x}
pub data Commas {T : Type 0} (Is : T → List Terminal → List Terminal → Type 0) : List T → List Terminal → List Terminal → Type 0 where
  no_comma : {us : List Terminal} → Commas Is [] us us
  comma : {next : T} {rest : List T} {ts vs us : List Terminal} →
      Is next ts vs → Commas Is rest vs us → Commas Is (next ∷ rest) (Fixed k.Comma ∷ ts) us

-- x {, x}
pub data Listed {T : Type 0} (Is : T → List Terminal → List Terminal → Type 0) : List T → List Terminal → List Terminal → Type 0 where
  listed : {first : T} {rest : List T} {ts vs us : List Terminal} →
      Is first ts vs → Commas Is rest vs us → Listed Is (first ∷ rest) ts us

-- [KEY or]
pub data IsClause (key : Key) : Option OrTree → List Terminal → List Terminal → Type 0 where
  no_clause : {us : List Terminal} → IsClause key None us us
  clause : {value : OrTree} {ts us : List Terminal} → IsOr value ts us → IsClause key (Some value) (Fixed key ∷ ts) us

-- [KEY number], where the number is at most 9223372036854775807
pub data IsBound (key : Key) : Option ℕ → List Terminal → List Terminal → Type 0 where
  no_bound : {us : List Terminal} → IsBound key None us us
  bound : {value : ℕ} {long : Bool} {us : List Terminal} → value ≤ 9223372036854775807 →
      IsBound key (Some value) (Fixed key ∷ Number value long ∷ us) us

-- [[AS] name]
pub data IsAlias : Option (List ℕ) → List Terminal → List Terminal → Type 0 where
  no_alias : {us : List Terminal} → IsAlias None us us
  alias : {name : List ℕ} {quoted : Bool} {us : List Terminal} → IsAlias (Some name) (Name name quoted ∷ us) us
  as_alias : {name : List ℕ} {quoted : Bool} {us : List Terminal} →
      IsAlias (Some name) (Fixed k.As ∷ Name name quoted ∷ us) us

-- [ALL | DISTINCT]: whether equal rows count once, which is as given where neither is written
pub data IsDistinct (usual : Bool) : Bool → List Terminal → List Terminal → Type 0 where
  unsaid : {us : List Terminal} → IsDistinct usual usual us us
  all : {us : List Terminal} → IsDistinct usual false (Fixed k.All ∷ us) us
  distinct : {us : List Terminal} → IsDistinct usual true (Fixed k.Distinct ∷ us) us
