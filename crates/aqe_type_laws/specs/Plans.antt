-- Plans whose nodes give what their columns say.
use Rattle.std.specs.Prelude.{◌≡◌, ℕ, List, ◌++◌, All, map}
use Rattle.aqe_values.specs.declared.schema.Field.{Field}
use Rattle.aqe_expr.specs.declared.expr.Expr.{Expr}
use Rattle.aqe_logical.specs.declared.plan.AggCall.{AggCall}
use Rattle.aqe_logical.specs.declared.plan.Logical.{Logical, OneRow, Scan, Empty, Held, HeldPartial}
use Rattle.aqe_logical.specs.Shapes.{filtered, projected, joined, aggregated, united, sorted, limited, sampled}
use Rattle.aqe_logical.specs.Columns.{schema_of}
use Rattle.aqe_logical.specs.Answers.{Tables, Row, AnswerOf, table_rows}
use Rattle.aqe_logical.specs.Groups.{row_of, call_value}
use Rattle.aqe_rules.specs.Sources.{Catalog}
use Rattle.aqe_laws.specs.Scans.{scanned_tables, HasItsColumns}
use Rattle.aqe_type_laws.specs.Fits.{FitsColumns}

-- rows of these columns
abbrev pub FitColumns : List Field → List Row → Type 0
FitColumns columns rows = All (FitsColumns columns) rows

-- a plan answers with rows that fit its columns
abbrev pub AnswersFit : Tables → Logical → Type 0
AnswersFit tables plan = (l : List Row) → AnswerOf tables plan l → FitColumns (schema_of plan) l

-- the row of a group: the keys at a row of these columns, and then the calls over rows of these columns
abbrev pub IsGroup : List Expr → List AggCall → List Field → Row → Type 0
IsGroup keys calls columns x =
    (row : Row) × (group : List Row) × FitsColumns columns row × FitColumns columns group × (x ≡ row_of keys row ++ map (call_value group) calls)

-- The rows that a plan may answer with, as far as types tell: rows that fit its columns, those of an Aggregate the rows of groups;
-- Filter, Sort and Limit answer with rows of the plan below.
abbrev pub MayBeRow : Logical → Row → Type 0
MayBeRow (filtered condition child) row = MayBeRow child row
MayBeRow (sorted keys child) row = MayBeRow child row
MayBeRow (limited count skip child) row = MayBeRow child row
MayBeRow (aggregated keys calls schema child) row = FitsColumns schema row × IsGroup keys calls (schema_of child) row
MayBeRow plan row = FitsColumns (schema_of plan) row

-- Over the rows that the plan below may answer with, the items of a Project have values of its columns; so have the keys and
-- calls of an Aggregate over rows that fit the columns below; and the right side of a Union fits the columns of the left one.
-- The other forms ask nothing of their own.
abbrev pub KeepsTypes : Logical → Type 0
KeepsTypes OneRow = Unit {0}
KeepsTypes (Scan table schema) = Unit {0}
KeepsTypes (filtered condition child) = KeepsTypes child
KeepsTypes (projected items schema child) =
    KeepsTypes child × ((row : Row) → MayBeRow child row → FitsColumns schema (row_of items row))
KeepsTypes (joined kind condition left right) = KeepsTypes left × KeepsTypes right
KeepsTypes (aggregated keys calls schema child) =
    KeepsTypes child × ((row : Row) (group : List Row) → FitsColumns (schema_of child) row → FitColumns (schema_of child) group →
    FitsColumns schema (row_of keys row ++ map (call_value group) calls))
KeepsTypes (united left right) =
    KeepsTypes left × KeepsTypes right × ((row : Row) → FitsColumns (schema_of right) row → FitsColumns (schema_of left) row)
KeepsTypes (sorted keys child) = KeepsTypes child
KeepsTypes (limited count skip child) = KeepsTypes child
KeepsTypes (Empty schema) = Unit {0}
KeepsTypes (Held stage place schema) = ⊥
KeepsTypes (HeldPartial stage calls schema) = ⊥
KeepsTypes (sampled stage child) = ⊥

-- the rows of a scanned table fit the columns of the scan
abbrev pub RowsFit : Tables → (ℕ × List Field) → Type 0
RowsFit tables scan = FitColumns scan.1 (table_rows tables scan.0)

-- so they do for each table that a plan scans
abbrev pub ScansFit : Tables → Logical → Type 0
ScansFit tables plan = All (RowsFit tables) (scanned_tables plan)

-- the rows of each table of a catalog fit the columns that the catalog has of it
abbrev pub TablesFit : Catalog → Tables → Type 0
TablesFit catalog tables =
    (table : ℕ) (columns : List Field) → HasItsColumns catalog (table, columns) → FitColumns columns (table_rows tables table)
