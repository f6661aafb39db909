-- The loaded tables as the tables of a plan's answers.
use Rattle.std.specs.Prelude.{List, [], map, All, Option, Some, None}
use Rattle.aqe_logical.specs.declared.plan.Logical.{Logical}
use Rattle.aqe_logical.specs.Answers.{Row, Tables}
use Rattle.aqe_logical.specs.Nodes.{scans}
use Rattle.aqe_tables.specs.declared.loaded.Table.{Table}
use Rattle.aqe_tables.specs.Loaded.{Slots, IsLoaded}

-- the files of a slot: those of its table, and none where it is empty
abbrev pub files_of : Option Table → List (List Row)
files_of None = []
files_of (Some table) = table.files

abbrev pub tables_of : Slots → Tables
tables_of slots = map files_of slots

-- each table that a plan scans is loaded
abbrev pub AreScansLoaded : Slots → Logical → Type 0
AreScansLoaded slots plan = All (IsLoaded slots) (scans plan)
