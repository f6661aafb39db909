-- Which scripts are carried out so far: those that have no form of specs/Forms.antt.
use Rattle.std.specs.Prelude.{Bool, List, is_none}
use Rattle.std.specs.List.{list_all}
use Rattle.aqe_trees.specs.declared.statement.Stmt.{Stmt}
use Rattle.aqe_built.specs.Forms.{of_statement}

-- statements, each by itself
abbrev pub is_statement_built : Stmt → Bool
is_statement_built one = is_none (of_statement one)

abbrev pub is_script_built : List Stmt → Bool
is_script_built script = list_all is_statement_built script
