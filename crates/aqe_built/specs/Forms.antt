-- The forms of a script that are not carried out so far: SET, and OPTIONS of a table.
use Rattle.std.specs.Prelude.{ℕ, List, [], ◌∷◌, Option, Some, None, codes}
use Rattle.std.specs.Option.{option_or}
use Rattle.aqe_trees.specs.declared.statement.Stmt.{Stmt}
use Rattle.aqe_trees.specs.declared.statement.Stmt.TheVariants as statement
use Rattle.aqe_built.specs.declared.form.Form.{Form}
use Rattle.aqe_built.specs.declared.form.Form.TheVariants as form

-- how a form is told to a user
abbrev pub text_of : Form → List ℕ
text_of form.Set = codes "SET"
text_of form.Options = codes "OPTIONS"

-- that of a table with these options, by key and value
abbrev pub of_options : List (List ℕ × List ℕ) → Option Form
of_options [] = None
of_options (one ∷ more) = Some form.Options

-- that of a statement: each query is carried out
abbrev pub of_statement : Stmt → Option Form
of_statement (statement.CreateTable table) = of_options table.options
of_statement (statement.Set setting) = Some form.Set
of_statement (statement.Query tree) = None

-- the first of a script's
abbrev pub first_of : List Stmt → Option Form
first_of [] = None
first_of (one ∷ rest) = option_or (of_statement one) (first_of rest)
