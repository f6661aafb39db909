-- One column more behind what was found, and what a name means by what is found.
use Rattle.std.proofs.Common.{◌≡◌, ℕ, List, [], ◌∷◌, ◌++◌, filter, Some, None, Ok, Err, subst, ap, sym, ◌∙◌}
use denote.Ref.{Bor}
use Rattle.aqe_rules.specs.declared.names.Named.{Named}
use Rattle.aqe_rules.specs.declared.names.Found.{Found}
use Rattle.aqe_rules.specs.declared.names.Found.TheVariants as search
use Rattle.aqe_base.specs.declared.status.AnalysisKind.TheVariants.{NoSuchColumn, Ambiguous}
use Rattle.aqe_rules.specs.declared.fault.AnalysisFault.{AnalysisFault}
use Rattle.aqe_rules.specs.Found.{IsFound, fits}
use Rattle.aqe_rules.specs.Outcomes.{Check, refused, Outcome, upon, the_only}
use Rattle.aqe_rules.specs.Operations.{Typed}
use Rattle.aqe_rules.specs.Readings.{told, column_named, column_or_alias, column_of_item}
use Rattle.aqe_rules.specs.Sources.{over}
use Rattle.aqe_rules.specs.Faults.{Tells, Fails}
use Rattle.aqe_rules.proofs.Steps.{memory_fails}

pub one_then : (s : Found) (f : Bor Named) (all : List Named) (c : Named) → s ≡ search.One f → IsFound s all → IsFound search.Several (all ++ c ∷ [])
one_then s f all c e h = let k : all ≡ f.now ∷ [] = subst (λ s. IsFound s all) e h in (f.now, c, [], ap (λ x. x ++ c ∷ []) k)

pub several_then : (s : Found) (all : List Named) (c : Named) → s ≡ search.Several → IsFound s all → IsFound search.Several (all ++ c ∷ [])
several_then s all c e h = let k : IsFound search.Several all = subst (λ s. IsFound s all) e h in (k.0, k.1, k.2 ++ c ∷ [], ap (λ x. x ++ c ∷ []) k.3)

-- a check that fails is told
at_check : {T : Type 0} (o : Outcome T) (check : Check) (f : AnalysisFault) → o ≡ Err check → Tells f check → Fails f o
at_check o check f e t = rw e t

pub item_one : (table name : List ℕ) (columns : List Named) (s : Found) (f : Bor Named) (v : Typed) → s ≡ search.One f → IsFound s (filter (fits (Some table) name) columns) → v ≡ f.now.value →
    column_of_item table name (over columns) ≡ Ok v
item_one table name columns s f v e h k =
    let found : filter (fits (Some table) name) columns ≡ f.now ∷ [] = subst (λ s. IsFound s (filter (fits (Some table) name) columns)) e h in
    ap (λ all. upon (the_only (told table name) all) (λ c. Ok c.value)) found ∙ ap Ok (sym k)

pub item_none : (table name : List ℕ) (columns : List Named) (s : Found) (f : AnalysisFault) → s ≡ search.Nothing → IsFound s (filter (fits (Some table) name) columns) → Tells f (refused NoSuchColumn (told table name)) →
    Fails f (column_of_item table name (over columns))
item_none table name columns s f e h t =
    let found : filter (fits (Some table) name) columns ≡ [] = subst (λ s. IsFound s (filter (fits (Some table) name) columns)) e h in
    at_check (column_of_item table name (over columns)) (refused NoSuchColumn (told table name)) f (ap (λ all. upon (the_only (told table name) all) (λ c. Ok c.value)) found) t

pub item_several : (table name : List ℕ) (columns : List Named) (s : Found) (f : AnalysisFault) → s ≡ search.Several → IsFound s (filter (fits (Some table) name) columns) → Tells f (refused Ambiguous (told table name)) →
    Fails f (column_of_item table name (over columns))
item_several table name columns s f e h t =
    let k : IsFound search.Several (filter (fits (Some table) name) columns) = subst (λ s. IsFound s (filter (fits (Some table) name) columns)) e h in
    at_check (column_of_item table name (over columns)) (refused Ambiguous (told table name)) f (ap (λ all. upon (the_only (told table name) all) (λ c. Ok c.value)) k.3) t

pub name_one : (name : List ℕ) (columns : List Named) (s : Found) (f : Bor Named) (v : Typed) → s ≡ search.One f → IsFound s (filter (fits None name) columns) → v ≡ f.now.value →
    column_named name (over columns) ≡ Ok v
name_one name columns s f v e h k =
    let found : filter (fits None name) columns ≡ f.now ∷ [] = subst (λ s. IsFound s (filter (fits None name) columns)) e h in
    ap (column_or_alias name (over columns)) found ∙ ap Ok (sym k)

pub name_none : (name : List ℕ) (columns : List Named) (s : Found) (f : AnalysisFault) → s ≡ search.Nothing → IsFound s (filter (fits None name) columns) → Tells f (refused NoSuchColumn name) →
    Fails f (column_named name (over columns))
name_none name columns s f e h t =
    let found : filter (fits None name) columns ≡ [] = subst (λ s. IsFound s (filter (fits None name) columns)) e h in
    at_check (column_named name (over columns)) (refused NoSuchColumn name) f (ap (column_or_alias name (over columns)) found) t

pub name_several : (name : List ℕ) (columns : List Named) (s : Found) (f : AnalysisFault) → s ≡ search.Several → IsFound s (filter (fits None name) columns) → Tells f (refused Ambiguous name) →
    Fails f (column_named name (over columns))
name_several name columns s f e h t =
    let k : IsFound search.Several (filter (fits None name) columns) = subst (λ s. IsFound s (filter (fits None name) columns)) e h in
    at_check (column_named name (over columns)) (refused Ambiguous name) f (ap (column_or_alias name (over columns)) k.3) t

pub ruleset found_steps = (memory_fails, item_one, item_none, item_several, name_one, name_none, name_several)
