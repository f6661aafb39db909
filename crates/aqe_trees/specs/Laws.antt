-- What holds of the grammar as a whole.
use Rattle.std.specs.Prelude.{List, [], ◌≡◌, Some}
use Rattle.aqe_trees.specs.declared.terminal.Key.{Key}
use Rattle.aqe_trees.specs.declared.terminal.Terminal.{Terminal}
use Rattle.aqe_trees.specs.declared.query.QueryTree.{QueryTree}
use Rattle.aqe_trees.specs.declared.statement.TableForm.{TableForm}
use Rattle.aqe_trees.specs.Queries.{IsQuery}
use Rattle.aqe_trees.specs.Tables.{IsCreate}
use Rattle.aqe_trees.specs.Keywords.{key_text, text_key}

-- terminals spell at most one query
abbrev pub OneQuery : Type 0
OneQuery = (ts : List Terminal) (a b : QueryTree) → IsQuery a ts [] → IsQuery b ts [] → a ≡ b

-- terminals spell at most one CREATE TABLE
abbrev pub OneTable : Type 0
OneTable = (ts : List Terminal) (a b : TableForm) → IsCreate a ts → IsCreate b ts → a ≡ b

-- the text of a key is read back as that key
abbrev pub KeysReadBack : Type 0
KeysReadBack = (key : Key) → text_key (key_text key) ≡ Some key
