-- What holds of scripts as a whole.
use Rattle.std.specs.Prelude.{ℕ, List, ◌≡◌}
use Rattle.aqe_lexer.specs.declared.token.Token.{Token}
use Rattle.aqe_trees.specs.declared.statement.Stmt.{Stmt}
use Rattle.aqe_script.specs.Statements.{IsScript}

-- the tokens of a source are at most one script
abbrev pub OneScript : Type 0
OneScript = (source : List ℕ) (tokens : List Token) (these others : List Stmt) →
    IsScript source tokens these → IsScript source tokens others → these ≡ others
