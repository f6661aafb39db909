-- What is made of a query's tree, from what is made of its parts.
use Rattle.std.specs.Prelude.{ℕ, List, Bool, Option}
use Rattle.aqe_base.specs.declared.join_kind.JoinKind.{JoinKind}
use Rattle.aqe_trees.specs.declared.expression.OrTree.{OrTree}
use Rattle.aqe_trees.specs.declared.query.ItemTree.{ItemTree}
use Rattle.aqe_trees.specs.declared.query.SortTree.{SortTree}

-- a source that is joined to what stands before it
pub record Step (S : Type 0) : Type 0 where
  pub kind : JoinKind
  pub source : S
  pub on : Option OrTree

-- one rule for each form: of a query, of the cores that UNION joins, of a core, of a list of joined sources, of a source
pub record QueryForms (Q U C J S : Type 0) : Type 0 where
  pub query : U → List SortTree → Option ℕ → Option ℕ → Q
  -- each further core with whether equal rows count once
  pub union : C → List (Bool × C) → U
  pub paren : Q → C
  -- DISTINCT, the select list, FROM, WHERE, GROUP BY, HAVING
  pub select : Bool → List ItemTree → List J → Option OrTree → List OrTree → Option OrTree → C
  pub joined : S → List (Step S) → J
  pub table : List ℕ → Option (List ℕ) → S
  pub subquery : Q → Option (List ℕ) → S
