-- The tables that the plan of a query scans are those of the catalog.
use Rattle.std.proofs.Common.{◌≡◌, ℕ, zero, suc, ◌<◌, List, [], ◌∷◌, ◌++◌, map, length, Some, arith, refl, ap, sym, subst, ◌∙◌}
use Rattle.std.specs.Prelude.{All, flat_map, slice_get}
use Rattle.std.proofs.lemmas.List.{map-append}
use Rattle.std.proofs.lemmas.List.Elements.{All-nil, All-cons, All-head, All-tail}
use Rattle.aqe_values.specs.declared.schema.Field.{Field}
use Rattle.aqe_logical.specs.declared.plan.Logical.{Logical, OneRow, Scan, Empty, Held, HeldPartial}
use Rattle.aqe_logical.specs.Shapes.{filtered, projected, joined, aggregated, united, sorted, limited, sampled}
use Rattle.aqe_trees.specs.declared.query.QueryTree.{QueryTree}
use Rattle.aqe_tables.specs.declared.catalog.CatalogTable.{CatalogTable}
use Rattle.aqe_rules.specs.Analysis.{Analysed}
use Rattle.aqe_laws.specs.Scans.{columns_of_tables, scanned_tables, HasItsColumns}
use Rattle.aqe_laws.proofs.Scans.{of_the_catalog}
use Rattle.aqe_sources.specs.Catalogs.{seen}
use Rattle.aqe_logical.specs.Nodes.{nodes, scanned, scans}
use Rattle.aqe_logical.proofs.Nodes.{scans_two}

abbrev numbers_of : List (ℕ × List Field) → List ℕ
numbers_of tables = map (λ table. table.0) tables

-- the numbers of the scanned tables are those that are scanned
numbers_are : (plan : Logical) → numbers_of (scanned_tables plan) ≡ scans plan
numbers_are OneRow = refl
numbers_are (Scan table schema) = refl
numbers_are (filtered condition child) = numbers_are child
numbers_are (projected items schema child) = numbers_are child
numbers_are (joined kind condition left right) = both left right (numbers_are left) (numbers_are right)
  where
    both : (left right : Logical) → numbers_of (scanned_tables left) ≡ scans left → numbers_of (scanned_tables right) ≡ scans right → numbers_of (scanned_tables left ++ scanned_tables right) ≡ flat_map scanned (nodes left ++ nodes right)
    both left right h k =
        map-append (λ (table : ℕ × List Field). table.0) (scanned_tables left) (scanned_tables right) ∙ ap (λ l. l ++ numbers_of (scanned_tables right)) h ∙ ap (λ r. scans left ++ r) k ∙ sym (scans_two left right)
numbers_are (aggregated keys calls schema child) = numbers_are child
numbers_are (united left right) = both left right (numbers_are left) (numbers_are right)
  where
    both : (left right : Logical) → numbers_of (scanned_tables left) ≡ scans left → numbers_of (scanned_tables right) ≡ scans right → numbers_of (scanned_tables left ++ scanned_tables right) ≡ flat_map scanned (nodes left ++ nodes right)
    both left right h k =
        map-append (λ (table : ℕ × List Field). table.0) (scanned_tables left) (scanned_tables right) ∙ ap (λ l. l ++ numbers_of (scanned_tables right)) h ∙ ap (λ r. scans left ++ r) k ∙ sym (scans_two left right)
numbers_are (sorted keys child) = numbers_are child
numbers_are (limited count skip child) = numbers_are child
numbers_are (Empty schema) = refl
numbers_are (Held stage place schema) = refl
numbers_are (HeldPartial stage calls schema) = refl
numbers_are (sampled stage child) = numbers_are child

-- a number under which columns stand is that of a table
number_within : (catalog : List CatalogTable) (n : ℕ) (columns : List Field) → slice_get (columns_of_tables (seen catalog)) n ≡ Some columns → n < length catalog
number_within [] n columns e = cc e
number_within (table ∷ catalog) zero columns e = omega arith
number_within (table ∷ catalog) (suc n) columns e = let less = number_within catalog n columns e in omega (arith, less)

numbers_within : (catalog : List CatalogTable) (tables : List (ℕ × List Field)) → All (HasItsColumns (seen catalog)) tables → All (λ n. n < length catalog) (numbers_of tables)
numbers_within catalog [] h = All-nil (λ n. n < length catalog)
numbers_within catalog (table ∷ tables) h =
    All-cons (λ n. n < length catalog) table.0 (numbers_of tables) (number_within catalog table.0 table.1 (All-head (HasItsColumns (seen catalog)) table tables h))
    (numbers_within catalog tables (All-tail (HasItsColumns (seen catalog)) table tables h))

-- each table that the plan of a query scans is one of the catalog
pub scans_within : (tree : QueryTree) (catalog : List CatalogTable) (plan : Logical) → Analysed tree (seen catalog) plan → All (λ n. n < length catalog) (scans plan)
scans_within tree catalog plan e =
    subst (All (λ n. n < length catalog)) (numbers_are plan) (numbers_within catalog (scanned_tables plan) (of_the_catalog tree (seen catalog) plan e))
