-- Statements and whole scripts, over the tokens of a source.
use Rattle.std.specs.Prelude.{ℕ, Bool, true, false, List, [], ◌∷◌, ◌≡◌, Option, Some}
use Rattle.std.specs.List.{slice_split}
use Rattle.aqe_lexer.specs.declared.token.Token.{Token}
use Rattle.aqe_trees.specs.declared.query.QueryTree.{QueryTree}
use Rattle.aqe_trees.specs.declared.statement.Stmt.{Stmt}
use Rattle.aqe_trees.specs.declared.statement.Stmt.TheVariants as stmt
use Rattle.aqe_trees.specs.declared.statement.TableForm.{TableForm}
use Rattle.aqe_trees.specs.declared.statement.SetForm.{SetForm}
use Rattle.aqe_trees.specs.declared.terminal.Key.{Key}
use Rattle.aqe_trees.specs.declared.terminal.Key.TheVariants as k
use Rattle.aqe_trees.specs.Queries.{IsQuery}
use Rattle.aqe_trees.specs.Tables.{IsCreate}
use Rattle.aqe_script.specs.Terminals.{key_of, terminals_of}
use Rattle.aqe_script.specs.Settings.{IsSet}

-- statement = create | set | query
pub data IsStatement (source : List ℕ) : Stmt → List Token → Type 0 where
  create : {form : TableForm} {ts : List Token} → IsCreate form (terminals_of source ts) →
      IsStatement source (stmt.CreateTable form) ts
  set : {form : SetForm} {ts : List Token} → IsSet source form ts → IsStatement source (stmt.Set form) ts
  query : {tree : QueryTree} {ts : List Token} → IsQuery tree (terminals_of source ts) [] →
      IsStatement source (stmt.Query tree) ts

-- a statement ends at the key
abbrev pub ends_statement : Option Key → Bool
ends_statement (Some k.Semicolon) = true
ends_statement _ = false

-- the token is a `;`
abbrev pub is_semicolon : List ℕ → Token → Bool
is_semicolon source token = ends_statement (key_of source token)

-- what stands between the semicolons, before the first and behind the last
abbrev pub parts_of : List ℕ → List Token → List (List Token)
parts_of source tokens = slice_split (is_semicolon source) tokens

-- the part is all that there is: no semicolon stands in the tokens
abbrev pub IsOnlyPart : List ℕ → List Token → List Token → Type 0
IsOnlyPart source tokens part = parts_of source tokens ≡ part ∷ []

-- the part stands before the first semicolon, and rest behind it
abbrev pub IsFirstPart : List ℕ → List Token → List Token → List Token → Type 0
IsFirstPart source tokens part rest = parts_of source tokens ≡ part ∷ parts_of source rest

-- the statements of such parts in order: a part without tokens has none, each other has one
pub data AreStatements (source : List ℕ) : List Stmt → List (List Token) → Type 0 where
  finished : AreStatements source [] []
  nothing : {script : List Stmt} {parts : List (List Token)} →
      AreStatements source script parts → AreStatements source script ([] ∷ parts)
  statement : {first : Stmt} {script : List Stmt} {t : Token} {ts : List Token} {parts : List (List Token)} →
      IsStatement source first (t ∷ ts) → AreStatements source script parts →
      AreStatements source (first ∷ script) ((t ∷ ts) ∷ parts)

-- the tokens of the source are a script
abbrev pub IsScript : List ℕ → List Token → List Stmt → Type 0
IsScript source tokens script = AreStatements source script (parts_of source tokens)
