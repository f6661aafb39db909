-- Each scan of an analysed plan has the columns of its table.
use Rattle.std.proofs.Common.{◌≡◌, ℕ, suc, ◌+◌, List, [], ◌∷◌, Option, Some, None, arith, ap, subst}
use Rattle.std.specs.List.{slice_get}
use Rattle.std.proofs.lemmas.List.Elements.{All-nil, All-cons, All-append}
use Rattle.aqe_values.specs.declared.schema.Field.{Field}
use Rattle.aqe_logical.specs.declared.plan.Logical.{Scan}
use Rattle.aqe_rules.specs.Readings.{alike}
use Rattle.aqe_rules.specs.Sources.{Catalog, table_named}
use Rattle.aqe_rules.proofs.Gives.{Gives, IfAny}
use Rattle.aqe_laws.specs.Scans.{scanned_tables, columns_of_tables, HasItsColumns, ScansHaveTheirColumns}
use Rattle.aqe_laws.specs.Laws.{ScansAreOfTheCatalog}
use Rattle.aqe_laws.proofs.OperationsBelow.{either_one}
use Rattle.aqe_laws.proofs.Walks.{PlanKeeps, walk-holds}

forms-keep : (catalog : Catalog) → PlanKeeps (ScansHaveTheirColumns catalog)
forms-keep catalog = record {
  one_row = All-nil (HasItsColumns catalog);
  filtered_keeps = λ condition p h. h;
  projected_keeps = λ items schema p h. h;
  joined_keeps = λ kind condition l r h k. All-append (HasItsColumns catalog) (scanned_tables l) (scanned_tables r) h k;
  aggregated_keeps = λ keys calls schema p h. h;
  united_keeps = λ l r h k. All-append (HasItsColumns catalog) (scanned_tables l) (scanned_tables r) h k;
  sorted_keeps = λ keys p h. h;
  limited_keeps = λ count skip p h. h;
}

-- the table of a name, among the tables from number n on
named-found : (name : List ℕ) (whole : List (List Field)) (tables : Catalog) (n : ℕ) → ((k : ℕ) → slice_get whole (n + k) ≡ slice_get (columns_of_tables tables) k) →
    IfAny (λ (t : ℕ × List Field). slice_get whole t.0 ≡ Some t.1) (table_named name tables n)
named-found name whole [] n at = tt
named-found name whole (table ∷ tables) n at =
    either_one (IfAny (λ (t : ℕ × List Field). slice_get whole t.0 ≡ Some t.1)) (alike table.0 name) (Some (n, table.1)) (table_named name tables (n + 1))
    (subst (λ k. slice_get whole k ≡ Some table.1) here (at 0)) (named-found name whole tables (n + 1) (λ k. subst (λ m. slice_get whole m ≡ slice_get (columns_of_tables tables) k) (behind k) (at (suc k))))
  where
    here : n + 0 ≡ n
    here = omega arith

    behind : (k : ℕ) → n + suc k ≡ n + 1 + k
    behind k = omega arith

scan-has : (catalog : Catalog) (table : Option (ℕ × List Field)) → IfAny (λ (t : ℕ × List Field). HasItsColumns catalog t) table → IfAny (λ t. ScansHaveTheirColumns catalog (Scan t.0 t.1)) table
scan-has catalog None h = tt
scan-has catalog (Some t) h = All-cons (HasItsColumns catalog) t [] h (All-nil (HasItsColumns catalog))

from_zero : (k : ℕ) → 0 + k ≡ k
from_zero k = omega arith

pub of_the_catalog : ScansAreOfTheCatalog
of_the_catalog tree catalog p e =
    subst (Gives (ScansHaveTheirColumns catalog)) e
    (walk-holds ScansHaveTheirColumns forms-keep (λ catalog name. scan-has catalog (table_named name catalog 0) (named-found name (columns_of_tables catalog) catalog 0 (λ k. ap (slice_get (columns_of_tables catalog)) (from_zero k)))) tree catalog)
