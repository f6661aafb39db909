-- The table of a name, in the catalog and in what the analysis sees of it.
use Rattle.std.proofs.Common.{◌≡◌, ℕ, zero, suc, ◌+◌, ◌<◌, Bool, true, false, cond, List, [], ◌∷◌, Option, Some, None, Err, refl, ap, sym, ◌∙◌, arith, add-zero, get_or}
use Rattle.std.specs.Prelude.{option_map, slice_get}
use Rattle.std.specs.List.{position_from}
use Rattle.std.specs.Str.{str_eq_ignore_ascii_case}
use Rattle.std.proofs.lemmas.Iterator.Adapters.{position_from-zero}
use Rattle.std.proofs.lemmas.List.Quantifiers.{position-Some}
use Rattle.std.proofs.lemmas.Option.{get_or_from_slice_get}
use Rattle.aqe_values.specs.declared.schema.Field.{Field}
use Rattle.aqe_tables.specs.declared.catalog.CatalogTable.{CatalogTable}
use Rattle.aqe_tables.specs.Catalog.{find_table}
use Rattle.aqe_rules.specs.Sources.{table_named, table_source, scanned}
use Rattle.aqe_rules.specs.Outcomes.{refused}
use Rattle.aqe_base.specs.declared.status.AnalysisKind.TheVariants.{NoSuchTable}
use Rattle.aqe_sources.specs.Catalogs.{seen}

-- whether a table has the name
abbrev has_name : List ℕ → CatalogTable → Bool
has_name name table = str_eq_ignore_ascii_case table.name name

none-from : (name : List ℕ) (tables : List CatalogTable) (n : ℕ) → position_from (has_name name) n tables ≡ None → table_named name (seen tables) n ≡ None
none-from name [] n e = refl
none-from name (t ∷ ts) n e =
    elim (has_name name t) as (λ b. cond b (Some n) (position_from (has_name name) (n + 1) ts) ≡ None → cond b (Some (n, t.form.schema)) (table_named name (seen ts) (n + 1)) ≡ None)
    [ true ↦ λ h. absurd (cc) | false ↦ λ h. none-from name ts (n + 1) h ] e

some-from : (name : List ℕ) (tables : List CatalogTable) (n i : ℕ) (t : CatalogTable) → slice_get tables i ≡ Some t → has_name name t ≡ true → ((k : ℕ) → k < i → has_name name (get_or tables k t) ≡ false) →
    table_named name (seen tables) n ≡ Some (n + i, t.form.schema)
some-from name [] n i t at has others = absurd (cc)
some-from name (u ∷ us) n zero t at has others = let e : u ≡ t = cc in rw (e, has, add-zero) refl
some-from name (u ∷ us) n (suc i) t at has others =
    let k : n + suc i ≡ n + 1 + i = omega arith in
    rw (others 0 (omega arith), k) (some-from name us (n + 1) i t at has (λ j lt. others (suc j) (omega (arith, lt))))

-- no table has the name
pub no_table : (tables : List CatalogTable) (name : List ℕ) → find_table tables name ≡ None → table_named name (seen tables) 0 ≡ None
no_table tables name e = none-from name tables 0 (sym (position_from-zero (has_name name) tables) ∙ e)

schema-at : (o : Option CatalogTable) (s : List Field) → option_map (λ t. t.form.schema) o ≡ Some s → (t : CatalogTable) × (o ≡ Some t) × (t.form.schema ≡ s)
schema-at None s e = absurd (cc)
schema-at (Some t) s e = (t, refl, cc)

named-here : (tables : List CatalogTable) (name : List ℕ) (i : ℕ) (t : CatalogTable) (s : List Field) → find_table tables name ≡ Some i → slice_get tables i ≡ Some t → t.form.schema ≡ s →
    table_named name (seen tables) 0 ≡ Some (i, s)
named-here tables name i t s e at is =
    let first = position-Some (has_name name) tables i t e in
    let here : get_or tables i t ≡ t = get_or_from_slice_get tables i t t at in
    let has : has_name name t ≡ true = ap (has_name name) (sym here) ∙ first.1 in
    let place : 0 + i ≡ i = omega arith in
    some-from name tables 0 i t at has first.2 ∙ ap (λ n. Some (n, t.form.schema)) place ∙ ap (λ x. Some (i, x)) is

-- the table that was found, with its columns
pub the_table : (tables : List CatalogTable) (name : List ℕ) (i : ℕ) (s : List Field) → find_table tables name ≡ Some i → option_map (λ t. t.form.schema) (slice_get tables i) ≡ Some s →
    table_named name (seen tables) 0 ≡ Some (i, s)
the_table tables name i s e h =
    let found = schema-at (slice_get tables i) s h in
    named-here tables name i found.0 s e found.1 found.2

-- a table's source, by what the catalog finds
pub found_source : (tables : List CatalogTable) (name : List ℕ) (alias : Option (List ℕ)) (i : ℕ) (s : List Field) → find_table tables name ≡ Some i → option_map (λ t. t.form.schema) (slice_get tables i) ≡ Some s →
    table_source name alias (seen tables) ≡ scanned name alias (Some (i, s))
found_source tables name alias i s e h = ap (scanned name alias) (the_table tables name i s e h)

pub no_source : (tables : List CatalogTable) (name : List ℕ) (alias : Option (List ℕ)) → find_table tables name ≡ None → table_source name alias (seen tables) ≡ Err (refused NoSuchTable name)
no_source tables name alias e = ap (scanned name alias) (no_table tables name e)
