use Rattle.std.proofs.Common.{◌≡◌, List, drop}
use Rattle.std.specs.List.{list_all}
use Rattle.aqe_trees.specs.declared.statement.Stmt.{Stmt}
use Rattle.aqe_built.specs.Built.{is_statement_built}
use Rattle.aqe_built.specs.Forms.{first_of}
use Rattle.aqe_built.proofs.script.form_not_built.Given as goal

pub record Stands (all left : List Stmt) : Type 0 where
  pub first : first_of left ≡ first_of all
  pub built : list_all is_statement_built left ≡ list_all is_statement_built all

abbrev pub invariant-script : goal.invariant-script
invariant-script l = Stands l.script (drop l.statement-index l.statement-items)
