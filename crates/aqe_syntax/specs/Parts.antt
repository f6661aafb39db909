-- Parts of rules that the grammar does not name.
use Rattle.std.specs.Prelude.{ℕ, List, ◌∷◌, ◌≡◌, Bool, Option}
use Rattle.aqe_base.specs.declared.join_kind.JoinKind.{JoinKind}
use Rattle.aqe_trees.specs.declared.terminal.Key.{Key}
use Rattle.aqe_trees.specs.declared.terminal.Key.TheVariants as k
use Rattle.aqe_trees.specs.declared.terminal.Terminal.{Terminal}
use Rattle.aqe_trees.specs.declared.terminal.Terminal.TheVariants.{Fixed, Name, Number}
use Rattle.aqe_trees.specs.declared.query.QueryTree.{QueryTree}
use Rattle.aqe_trees.specs.declared.expression.OrTree.{OrTree}
use Rattle.aqe_trees.specs.declared.query.CoreTree.{CoreTree}
use Rattle.aqe_trees.specs.declared.query.JoinStep.{JoinStep}
use Rattle.aqe_trees.specs.declared.query.SourceTree.{SourceTree}
use Rattle.aqe_trees.specs.declared.query.SortTree.{SortTree}
use Rattle.aqe_trees.specs.Shapes.{join_step}
use Rattle.aqe_trees.specs.Lists.{IsClause, IsBound}
use Rattle.aqe_trees.specs.Queries.{IsQuery, IsCore, IsSource, IsOrder, IsGroup, IsKind}
use Rattle.aqe_trees.specs.Follow.{key_binds}
use Rattle.aqe_reader.specs.Reading.{Part, Refuses}

-- query ): a query in parentheses, behind the first of them
abbrev pub IsNested : QueryTree → List Terminal → List Terminal → Type 0
IsNested query ts us = IsQuery query ts (Fixed k.Close ∷ us)

-- [ORDER BY sort {, sort}] [LIMIT number] [OFFSET number]
pub data IsTail : (List SortTree × Option ℕ × Option ℕ) → List Terminal → List Terminal → Type 0 where
  tail_of : {order : List SortTree} {limit offset : Option ℕ} {ts vs ws us : List Terminal} →
      IsOrder order ts vs → IsBound k.Limit limit vs ws → IsBound k.Offset offset ws us → IsTail (order, limit, offset) ts us

-- what stands behind SELECT
abbrev pub IsSelected : CoreTree → List Terminal → List Terminal → Type 0
IsSelected core ts us = IsCore core (Fixed k.Select ∷ ts) us

-- source [ON or], behind the JOIN of this kind
pub data IsStep (kind : JoinKind) : JoinStep → List Terminal → List Terminal → Type 0 where
  step_of : {source : SourceTree} {on : Option OrTree} {ts vs us : List Terminal} →
      IsSource source ts vs → IsClause k.On on vs us → IsStep kind (join_step kind source on) ts us

-- [WHERE or] [GROUP BY or {, or}] [HAVING or]
pub data IsConditions : (Option OrTree × List OrTree × Option OrTree) → List Terminal → List Terminal → Type 0 where
  conditions_of : {filter having : Option OrTree} {group : List OrTree} {ts vs ws us : List Terminal} →
      IsClause k.Where filter ts vs → IsGroup group vs ws → IsClause k.Having having ws us →
      IsConditions (filter, group, having) ts us

-- [OUTER] JOIN
pub data IsOuterJoin : List Terminal → List Terminal → Type 0 where
  outer_unsaid : {us : List Terminal} → IsOuterJoin (Fixed k.Join ∷ us) us
  outer_said : {us : List Terminal} → IsOuterJoin (Fixed k.Outer ∷ Fixed k.Join ∷ us) us

-- the kind of a join that LEFT begins, by what stands behind that word
abbrev pub IsLeftKind : JoinKind → List Terminal → List Terminal → Type 0
IsLeftKind kind ts us = IsKind kind (Fixed k.Left ∷ ts) us

-- a part that its own word begins, up to what binds less tightly than that word
abbrev pub KeyPart : {T : Type 0} → (Key → T → List Terminal → List Terminal → Type 0) → Key → List Terminal → T → List Terminal → Type 0
KeyPart Is key ts t us = Part (Is key) (key_binds key) ts t us

-- no reading of such a part
abbrev pub NoKeyPart : {T : Type 0} → (Key → T → List Terminal → List Terminal → Type 0) → Key → List Terminal → Type 0
NoKeyPart Is key ts = Refuses (Is key) (key_binds key) ts

-- two words or symbols before others
abbrev pub two_keys : Key → Key → List Terminal → List Terminal
two_keys first second us = Fixed first ∷ Fixed second ∷ us

-- name . * before others
abbrev pub dotted_star : List ℕ → Bool → List Terminal → List Terminal
dotted_star text quoted us = Name text quoted ∷ Fixed k.Dot ∷ Fixed k.Star ∷ us

-- no number comes first
abbrev pub NoNumber : List Terminal → Type 0
NoNumber ts = (value : ℕ) (long : Bool) (us : List Terminal) → ts ≡ Number value long ∷ us → ⊥
