-- Which tables a plan scans, and with which columns.
use Rattle.std.specs.Prelude.{◌≡◌, ℕ, List, [], ◌∷◌, ◌++◌, All, map, Some}
use Rattle.std.specs.List.{slice_get}
use Rattle.aqe_values.specs.declared.schema.Field.{Field}
use Rattle.aqe_logical.specs.declared.plan.Logical.{Logical, Scan}
use Rattle.aqe_logical.specs.Shapes.{filtered, projected, joined, aggregated, united, sorted, limited, sampled}
use Rattle.aqe_rules.specs.Sources.{Catalog}

-- the tables that a plan scans, from left to right, each with the columns that the scan has
abbrev pub scanned_tables : Logical → List (ℕ × List Field)
scanned_tables (Scan table schema) = (table, schema) ∷ []
scanned_tables (filtered condition child) = scanned_tables child
scanned_tables (projected items schema child) = scanned_tables child
scanned_tables (joined kind condition left right) = scanned_tables left ++ scanned_tables right
scanned_tables (aggregated keys calls schema child) = scanned_tables child
scanned_tables (united left right) = scanned_tables left ++ scanned_tables right
scanned_tables (sorted keys child) = scanned_tables child
scanned_tables (limited count skip child) = scanned_tables child
scanned_tables (sampled stage child) = scanned_tables child
scanned_tables leaf = []

-- the columns of each table of a catalog, by the table's number
abbrev pub columns_of_tables : Catalog → List (List Field)
columns_of_tables catalog = map (λ table. table.1) catalog

-- a scan has the columns that the catalog has of its table
abbrev pub HasItsColumns : Catalog → (ℕ × List Field) → Type 0
HasItsColumns catalog scan = slice_get (columns_of_tables catalog) scan.0 ≡ Some scan.1

abbrev pub ScansHaveTheirColumns : Catalog → Logical → Type 0
ScansHaveTheirColumns catalog plan = All (HasItsColumns catalog) (scanned_tables plan)
