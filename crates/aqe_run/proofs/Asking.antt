-- The plan of a query whose tables are loaded may be asked of a session.
use Rattle.std.proofs.Common.{◌≡◌, refl, ap, sym, subst, ◌∙◌, zero, suc, ℕ, false, true, List, [], ◌∷◌, ◌++◌, flat_map, length, arith, Option, Some, None, slice_get, slice_index_or}
use Rattle.std.specs.Prelude.{All, IfSome, IsSome}
use Rattle.std.specs.Option.{IsSomeAnd}
use Rattle.std.proofs.lemmas.List.Elements.{All-nil, All-cons, All-head, All-tail}
use Rattle.aqe_values.specs.declared.schema.Field.{Field}
use Rattle.aqe_logical.specs.declared.plan.Logical.{Logical, OneRow, Scan, Empty, Held, HeldPartial}
use Rattle.aqe_logical.specs.Shapes.{filtered, projected, joined, aggregated, united, sorted, limited, sampled}
use Rattle.aqe_logical.specs.Answers.{Row, no_stage}
use Rattle.aqe_logical.specs.Nodes.{scans}
use Rattle.aqe_logical.specs.WellFormed.{Fits, HaveWidth, WellFormed}
use Rattle.aqe_logical.proofs.Nodes.{Each, all_nodes}
use Rattle.aqe_laws.specs.Scans.{HasItsColumns, ScansHaveTheirColumns, columns_of_tables, scanned_tables}
use Rattle.aqe_endings.proofs.Endings.{both_left, both_right}
use Rattle.aqe_physical.proofs.Walk.{all_left, all_right}
use Rattle.aqe_planner.specs.Built.{is_built, IsBuilt}
use Rattle.aqe_tables.specs.declared.catalog.CatalogTable.{CatalogTable}
use Rattle.aqe_tables.specs.declared.loaded.Table.{Table}
use Rattle.aqe_tables.specs.Load.{AreWide}
use Rattle.aqe_tables.specs.Loaded.{AreShaped, IsLoaded, IsShapedBy, Slots, table_at}
use Rattle.aqe_sources.specs.Catalogs.{seen}
use Rattle.aqe_estimates.specs.Estimates.{HasFiles, HasSomeFiles}
use Rattle.aqe_estimates.specs.LoadedTables.{files_of, tables_of}
use Rattle.aqe_session.specs.Query.{CanBeAsked}

clash : false ≡ true → ⊥
clash c = cc (c)

-- a loaded table has files
has_files : (catalog : List CatalogTable) (slots : Slots) → AreShaped catalog slots → (n : ℕ) → IsLoaded slots n → HasFiles slots n
has_files catalog slots shaped n loaded = by (table_at slots n) loaded (shaped n)
  where
    of_form : (table : Table) (o : Option CatalogTable) → IsSomeAnd o (λ form. IsShapedBy form table) → HasSomeFiles table
    of_form table None s = absurd s
    of_form table (Some form) s = let some = s.some in let few = s.few in (omega (arith, some), omega (arith, few))

    by : (o : Option Table) → IsSome o → IfSome o (λ table. IsSomeAnd (slice_get catalog n) (λ form. IsShapedBy form table)) → IsSomeAnd o HasSomeFiles
    by None loaded s = absurd (clash loaded)
    by (Some table) loaded s = of_form table (slice_get catalog n) s

all_files : (catalog : List CatalogTable) (slots : Slots) → AreShaped catalog slots → (ns : List ℕ) → All (IsLoaded slots) ns → All (HasFiles slots) ns
all_files catalog slots shaped [] all = All-nil (HasFiles slots)
all_files catalog slots shaped (n ∷ ns) all =
    All-cons (HasFiles slots) n ns (has_files catalog slots shaped n (All-head (IsLoaded slots) n ns all)) (all_files catalog slots shaped ns (All-tail (IsLoaded slots) n ns all))

-- the rows of its files are as wide as its schema
wide_files : (width : ℕ) (files : List (List Row)) → All (AreWide width) files → HaveWidth width (flat_map (λ file. file) files)
wide_files width [] all = All-nil (λ row. length row ≡ width)
wide_files width (file ∷ files) all = both file (flat_map (λ f. f) files) (All-head (AreWide width) file files all) (wide_files width files (All-tail (AreWide width) file files all))
  where
    both : (xs ys : List Row) → AreWide width xs → HaveWidth width ys → HaveWidth width (xs ++ ys)
    both [] ys h k = k
    both (x ∷ xs) ys h k = All-cons (λ row. length row ≡ width) x (xs ++ ys) (All-head (λ row. length row ≡ width) x xs h) (both xs ys (All-tail (λ row. length row ≡ width) x xs h) k)

files_at : (slots : Slots) (n : ℕ) → slice_index_or (tables_of slots) n [] ≡ files_of (table_at slots n)
files_at [] n = refl
files_at (slot ∷ slots) zero = refl
files_at (slot ∷ slots) (suc n) = files_at slots n

same_schema : (catalog : List CatalogTable) (n : ℕ) (form : CatalogTable) (schema : List Field) → slice_get catalog n ≡ Some form → slice_get (columns_of_tables (seen catalog)) n ≡ Some schema → length form.form.schema ≡ length schema
same_schema [] n form schema is has = absurd (never is)
  where
    never : None ≡ Some form → ⊥
    never c = cc (c)
same_schema (x ∷ catalog) zero form schema is has = ap (λ o. columns o) (sym (ap (λ o. schema_in o) is)) ∙ ap columns has
  where
    schema_in : Option CatalogTable → Option (List Field)
    schema_in None = None
    schema_in (Some t) = Some t.form.schema

    columns : Option (List Field) → ℕ
    columns None = 0
    columns (Some fields) = length fields
same_schema (x ∷ catalog) (suc n) form schema is has = same_schema catalog n form schema is has

wide_scan : (catalog : List CatalogTable) (slots : Slots) → AreShaped catalog slots → (n : ℕ) (schema : List Field) → HasItsColumns (seen catalog) (n, schema) → Fits (tables_of slots) no_stage (Scan n schema)
wide_scan catalog slots shaped n schema has = subst (λ files. HaveWidth (length schema) (flat_map (λ file. file) files)) (sym (files_at slots n)) (by (table_at slots n) (shaped n))
  where
    of_form : (table : Table) (o : Option CatalogTable) → slice_get catalog n ≡ o → IsSomeAnd o (λ form. IsShapedBy form table) → HaveWidth (length schema) (flat_map (λ file. file) table.files)
    of_form table None e s = absurd s
    of_form table (Some form) e s = subst (λ width. HaveWidth width (flat_map (λ file. file) table.files)) (same_schema catalog n form schema e has) (wide_files (length form.form.schema) table.files s.wide)

    by : (o : Option Table) → IfSome o (λ table. IsSomeAnd (slice_get catalog n) (λ form. IsShapedBy form table)) → HaveWidth (length schema) (flat_map (λ file. file) (files_of o))
    by None s = All-nil (λ row. length row ≡ length schema)
    by (Some table) s = of_form table (slice_get catalog n) refl s

module _ (catalog : List CatalogTable) (slots : Slots) (shaped : AreShaped catalog slots) where
  wide_each : (plan : Logical) → IsBuilt plan → ScansHaveTheirColumns (seen catalog) plan → Each (Fits (tables_of slots) no_stage) plan
  wide_each OneRow b h = tt
  wide_each (Scan table schema) b h = wide_scan catalog slots shaped table schema (All-head (HasItsColumns (seen catalog)) (table, schema) [] h)
  wide_each (filtered condition child) b h = (tt, wide_each child b h)
  wide_each (projected items schema child) b h = (tt, wide_each child b h)
  wide_each (aggregated keys calls schema child) b h = (tt, wide_each child b h)
  wide_each (joined kind condition left right) b h = (
    tt,
    wide_each left (both_left (is_built left) (is_built right) b) (all_left (HasItsColumns (seen catalog)) (scanned_tables left) (scanned_tables right) h),
    wide_each right (both_right (is_built left) (is_built right) b) (all_right (HasItsColumns (seen catalog)) (scanned_tables left) (scanned_tables right) h),
  )
  wide_each (united left right) b h = (
    tt,
    wide_each left (both_left (is_built left) (is_built right) b) (all_left (HasItsColumns (seen catalog)) (scanned_tables left) (scanned_tables right) h),
    wide_each right (both_right (is_built left) (is_built right) b) (all_right (HasItsColumns (seen catalog)) (scanned_tables left) (scanned_tables right) h),
  )
  wide_each (sorted keys child) b h = (tt, wide_each child b h)
  wide_each (limited count skip child) b h = (tt, wide_each child b h)
  wide_each (Empty schema) b h = absurd (clash b)
  wide_each (Held stage place schema) b h = absurd (clash b)
  wide_each (HeldPartial stage calls schema) b h = absurd (clash b)
  wide_each (sampled stage child) b h = absurd (clash b)

  pub can_be_asked : (plan : Logical) → IsBuilt plan → WellFormed plan → All (IsLoaded slots) (scans plan) → ScansHaveTheirColumns (seen catalog) plan → CanBeAsked plan slots
  can_be_asked plan built formed loaded columns = record {
    built = built;
    formed = formed;
    loaded = all_files catalog slots shaped (scans plan) loaded;
    wide = all_nodes (Fits (tables_of slots) no_stage) plan (wide_each plan built columns);
  }
