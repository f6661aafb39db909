-- A statement that is no SET, over the terminals of its tokens, and what the tokens of one part add to a script.
use Rattle.std.specs.Prelude.{ℕ, List, [], ◌∷◌, ◌++◌, ◌≡◌, Some}
use Rattle.aqe_lexer.specs.declared.token.Token.{Token}
use Rattle.aqe_trees.specs.declared.terminal.Terminal.{Terminal}
use Rattle.aqe_trees.specs.declared.query.QueryTree.{QueryTree}
use Rattle.aqe_trees.specs.declared.statement.Stmt.{Stmt}
use Rattle.aqe_trees.specs.declared.statement.Stmt.TheVariants as stmt
use Rattle.aqe_trees.specs.declared.statement.TableForm.{TableForm}
use Rattle.aqe_trees.specs.Queries.{IsQuery}
use Rattle.aqe_trees.specs.Tables.{IsCreate}
use Rattle.aqe_trees.specs.declared.terminal.Key.TheVariants as k
use Rattle.aqe_script.specs.Terminals.{key_of}
use Rattle.aqe_script.specs.Statements.{IsStatement, AreStatements}

-- the first token is SET
abbrev pub BeginsSet : List ℕ → List Token → Type 0
BeginsSet source [] = ⊥
BeginsSet source (t ∷ ts) = key_of source t ≡ Some k.Set

-- create | query
pub data IsSentence : Stmt → List Terminal → Type 0 where
  table_sentence : {form : TableForm} {ts : List Terminal} → IsCreate form ts → IsSentence (stmt.CreateTable form) ts
  query_sentence : {tree : QueryTree} {ts : List Terminal} → IsQuery tree ts [] → IsSentence (stmt.Query tree) ts

-- a part without tokens adds nothing, another its statement at the end
pub data Adds (source : List ℕ) : List Stmt → List Stmt → List Token → Type 0 where
  adds_nothing : {script : List Stmt} → Adds source script script []
  adds_one : {script : List Stmt} {one : Stmt} {t : Token} {ts : List Token} → IsStatement source one (t ∷ ts) →
      Adds source script (script ++ one ∷ []) (t ∷ ts)

-- no script has the part
abbrev pub HasNone : List ℕ → List Token → Type 0
HasNone source part = (script : List Stmt) (parts : List (List Token)) → AreStatements source script (part ∷ parts) → ⊥
