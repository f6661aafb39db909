-- The catalog: its tables in the order of their numbers, and what it refuses.
use Rattle.std.specs.Prelude.{ℕ, List, [], ◌∷◌, ◌++◌, nat_lt, length, map, position, Option, None, Some, if◌then◌else◌}
use Rattle.std.specs.List.{list_any}
use Rattle.std.specs.Option.{is_some}
use Rattle.std.specs.Str.{bytes_eq, str_eq_ignore_ascii_case, str_to_ascii_lowercase}
use Rattle.aqe_values.specs.declared.schema.Field.{Field}
use Rattle.aqe_values.specs.declared.sql_type.SqlType.{SqlType}
use Rattle.aqe_trees.specs.declared.statement.TableForm.{TableForm}
use Rattle.aqe_tables.specs.declared.catalog.CatalogTable.{CatalogTable}
use Rattle.aqe_tables.specs.declared.catalog.CreateFault.{CreateFault}
use Rattle.aqe_tables.specs.declared.catalog.CreateFault.TheVariants as fault
use Rattle.aqe_records.specs.declared.form.FileForm.{FileForm}
use Rattle.aqe_tables.specs.Options.{bad_key, has_header, separator_of}

-- a table or an operator has at most so many columns
abbrev pub column_limit : ℕ
column_limit = 256

-- names that differ in the cases of ASCII letters alone are one: each is compared in lower case
abbrev pub name_keys : List (List ℕ × SqlType) → List (List ℕ)
name_keys columns = map (λ column. str_to_ascii_lowercase column.0) columns

-- the name of the first of the columns that has the name of one before it
abbrev pub repeated_name : List (List ℕ × SqlType) → List (List ℕ × SqlType) → Option (List ℕ)
repeated_name before [] = None
repeated_name before (column ∷ columns) =
    if list_any (bytes_eq (str_to_ascii_lowercase column.0)) (name_keys before) then Some column.0
    else repeated_name (before ++ column ∷ []) columns

-- the number of the table of this name: a table's number is its place, from 0
abbrev pub find_table : List CatalogTable → List ℕ → Option ℕ
find_table tables name = position (λ table. str_eq_ignore_ascii_case table.name name) tables

-- the names of the columns are checked first
abbrev pub column_fault : Option (List ℕ) → Option CreateFault → Option CreateFault
column_fault None others = others
column_fault (Some name) others = Some (fault.RepeatedColumn name)

-- the options are checked behind the columns, and the name behind the options
abbrev pub option_fault : Option (List ℕ) → Option CreateFault → Option CreateFault
option_fault None others = others
option_fault (Some key) others = Some (fault.BadOption key)

-- the first check that the table of this form fails, if one does
abbrev pub create_fault : List CatalogTable → TableForm → Option CreateFault
create_fault tables form =
    column_fault (repeated_name [] form.columns)
    (if nat_lt column_limit (length form.columns) then Some fault.TooManyColumns
    else option_fault (bad_key [] form.options)
    (if is_some (find_table tables form.name) then Some fault.TableExists else None))

-- a column as it is created
abbrev pub column_of : List ℕ × SqlType → Field
column_of column = record { name = column.0; kind = column.1 }

-- how the files of a table of this form are read
abbrev pub file_form : TableForm → FileForm
file_form form = record {
  schema = map column_of form.columns;
  header = has_header form.options;
  separator = separator_of form.options;
}

-- what the catalog keeps of a table of this form
abbrev pub catalog_table : TableForm → CatalogTable
catalog_table form = record { name = form.name; location = form.location; form = file_form form }
