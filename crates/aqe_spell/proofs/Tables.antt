-- Tables read back.
use Rattle.std.proofs.Common.{ℕ, Bool, false, List, [], ◌∷◌, ◌≡◌, ◌<◌, length, refl, subst, arith}
use Rattle.std.specs.Prelude.{codes, IsTrue}
use Rattle.aqe_values.specs.declared.sql_type.SqlType.{SqlType}
use Rattle.aqe_trees.specs.declared.terminal.Key.TheVariants as k
use Rattle.aqe_trees.specs.declared.terminal.Terminal.{Terminal}
use Rattle.aqe_trees.specs.declared.terminal.Terminal.TheVariants.{Fixed, Name, Literal}
use Rattle.aqe_trees.specs.Shapes.{table_form}
use Rattle.aqe_trees.specs.Lists.{Commas, no_comma, Listed, listed}
use Rattle.aqe_trees.specs.Tables.{IsColumn, column_of, IsOption, option_of, option_equal, IsPlace, location, options_location, location_options, IsCreate, create}
use Rattle.aqe_phrases.specs.Texts.{is_bare}
use Rattle.aqe_phrases.specs.Written.{AllStand, Adds, Spelled, Going, type_text}
use Rattle.aqe_spell.specs.Clauses.{SpelledWhole, IsOptions, no_options, options}
use Rattle.aqe_phrases.proofs.Leaves.{adds_then, adds_none}
use Rattle.aqe_spell.proofs.LeftQuery.{left_listed}
use Rattle.aqe_spell.proofs.Queries.{comma_step}
use Rattle.aqe_phrases.proofs.Expressions.{type_made}

left_column : {pair : List ℕ × SqlType} {ts us : List Terminal} → IsColumn pair ts us → AllStand ts → AllStand us
left_column (column_of e) s = s.1.1

left_option : {pair : List ℕ × List ℕ} {ts us : List Terminal} → IsOption pair ts us → AllStand ts → AllStand us
left_option (option_of e f) s = s.1.1
left_option (option_equal e f) s = s.1.1.1

pub column_spelled : {name : List ℕ} {quoted : Bool} {type : SqlType} {old mid new : List ℕ}
    → (0 < length name → Adds (λ us. Name name quoted ∷ us) old mid)
    → (IsTrue (is_bare (type_text type)) → Adds (λ us. Name (type_text type) false ∷ us) mid new)
    → Spelled IsColumn (name, type) old new
column_spelled {name = name} {quoted = quoted} {type = type} n w _ _ (column_of {t = t} e) s = let y = type_made type t e in record {
  words = λ us. Name name quoted ∷ Name (type_text type) false ∷ us;
  adds = adds_then (n s.0) (w y.1);
  reads = λ us. column_of y.0;
}

pub column_step : {next : List ℕ × SqlType} {more : List (List ℕ × SqlType)} {old mid new : List ℕ} → Adds (λ us. Fixed k.Comma ∷ us) old mid
    → Spelled IsColumn next mid new → Going (Commas IsColumn) (next ∷ more) more old new
column_step a n = comma_step (λ t ps qs p. left_column p) a n

pub columns_spelled : {first : List ℕ × SqlType} {rest : List (List ℕ × SqlType)} {old mid new : List ℕ} → Spelled IsColumn first old mid
    → Going (Commas IsColumn) rest [] mid new → Spelled (Listed IsColumn) (first ∷ rest) old new
columns_spelled f g _ _ (listed d r) s =
    let x = f _ _ d s in let y = g _ _ r (left_column d s) in
    record {
      words = λ us. x.words (y.words us);
      adds = adds_then x.adds y.adds;
      reads = λ us. listed (x.reads (y.words us)) (y.reads us us no_comma);
    }

pub option_spelled : {key value : List ℕ} {old mid new : List ℕ} → Adds (λ us. Literal key ∷ us) old mid
    → Adds (λ us. Literal value ∷ us) mid new → Spelled IsOption (key, value) old new
option_spelled {key = key} {value = value} a b ts us d s = record {
  words = λ vs. Literal key ∷ Literal value ∷ vs;
  adds = adds_then a b;
  reads = λ vs. option_of refl refl;
}

pub option_step : {next : List ℕ × List ℕ} {more : List (List ℕ × List ℕ)} {old mid new : List ℕ} → Adds (λ us. Fixed k.Comma ∷ us) old mid
    → Spelled IsOption next mid new → Going (Commas IsOption) (next ∷ more) more old new
option_step a n = comma_step (λ t ps qs p. left_option p) a n

pub options_spelled : {first : List ℕ × List ℕ} {rest : List (List ℕ × List ℕ)} {old mid new : List ℕ} → Spelled IsOption first old mid
    → Going (Commas IsOption) rest [] mid new → Spelled (Listed IsOption) (first ∷ rest) old new
options_spelled f g _ _ (listed d r) s =
    let x = f _ _ d s in let y = g _ _ r (left_option d s) in
    record {
      words = λ us. x.words (y.words us);
      adds = adds_then x.adds y.adds;
      reads = λ us. listed (x.reads (y.words us)) (y.reads us us no_comma);
    }

pub no_options_spelled : (pairs : List (List ℕ × List ℕ)) {old : List ℕ} → length pairs ≡ 0 → Spelled IsOptions pairs old old
no_options_spelled [] e ts us d s = record { words = λ vs. vs; adds = adds_none; reads = λ vs. no_options }
no_options_spelled (x ∷ xs) e ts us d s = absurd (omega (arith, e))

pub all_options_spelled : (pairs : List (List ℕ × List ℕ)) {old a b c new : List ℕ} → 0 < length pairs
    → (IsTrue (is_bare (codes "OPTIONS")) → Adds (λ us. Name (codes "OPTIONS") false ∷ us) old a)
    → Adds (λ us. Fixed k.Open ∷ us) a b → Spelled (Listed IsOption) pairs b c → Adds (λ us. Fixed k.Close ∷ us) c new
    → Spelled IsOptions pairs old new
all_options_spelled pairs some w o l m _ _ no_options s = absurd (omega (arith, some))
all_options_spelled pairs some w o l m _ _ (options e d) s = let x = l _ _ d s.1.1 in record {
  words = λ us. Name (codes "OPTIONS") false ∷ Fixed k.Open ∷ x.words (Fixed k.Close ∷ us);
  adds = adds_then (w refl) (adds_then o (adds_then x.adds m));
  reads = λ us. options refl (x.reads (Fixed k.Close ∷ us));
}

place_made : {pairs : List (List ℕ × List ℕ)} {place : List ℕ} {ts us : List Terminal} → IsOptions pairs ts us
    → us ≡ Name (codes "LOCATION") false ∷ Literal place ∷ [] → IsPlace pairs place ts
place_made no_options e = rw e (location refl)
place_made (options {pairs = pairs} {ts = ts} f d) e =
    options_location f (subst (λ l. Listed IsOption pairs ts (Fixed k.Close ∷ l)) e d) refl

pub place_spelled : {pairs : List (List ℕ × List ℕ)} {place : List ℕ} {old a b new : List ℕ} → Spelled IsOptions pairs old a
    → (IsTrue (is_bare (codes "LOCATION")) → Adds (λ us. Name (codes "LOCATION") false ∷ us) a b)
    → Adds (λ us. Literal place ∷ us) b new → SpelledWhole (IsPlace pairs place) old new
place_spelled {place = place} o w l _ (location {word = word} e) s =
    let x = o (Name word false ∷ Literal place ∷ []) (Name word false ∷ Literal place ∷ []) no_options s in record {
      words = λ us. x.words (Name (codes "LOCATION") false ∷ Literal place ∷ us);
      adds = adds_then x.adds (adds_then (w refl) l);
      reads = place_made (x.reads (Name (codes "LOCATION") false ∷ Literal place ∷ [])) refl;
    }
place_spelled {place = place} o w l _ (options_location e d f) s =
    let x = o _ _ (options e d) s in record {
      words = λ us. x.words (Name (codes "LOCATION") false ∷ Literal place ∷ us);
      adds = adds_then x.adds (adds_then (w refl) l);
      reads = place_made (x.reads (Name (codes "LOCATION") false ∷ Literal place ∷ [])) refl;
    }
place_spelled {place = place} o w l _ (location_options e f d) s =
    let x = o _ _ (options f d) s.1.1 in record {
      words = λ us. x.words (Name (codes "LOCATION") false ∷ Literal place ∷ us);
      adds = adds_then x.adds (adds_then (w refl) l);
      reads = place_made (x.reads (Name (codes "LOCATION") false ∷ Literal place ∷ [])) refl;
    }

pub create_spelled : {name place : List ℕ} {quoted : Bool} {columns : List (List ℕ × SqlType)} {pairs : List (List ℕ × List ℕ)}
    {old a b c d e f g h new : List ℕ} → Adds (λ us. Fixed k.Create ∷ us) old a
    → (IsTrue (is_bare (codes "TABLE")) → Adds (λ us. Name (codes "TABLE") false ∷ us) a b)
    → (0 < length name → Adds (λ us. Name name quoted ∷ us) b c) → Adds (λ us. Fixed k.Open ∷ us) c d
    → Spelled (Listed IsColumn) columns d e → Adds (λ us. Fixed k.Close ∷ us) e f → Adds (λ us. Fixed k.Using ∷ us) f g
    → (IsTrue (is_bare (codes "CSV")) → Adds (λ us. Name (codes "CSV") false ∷ us) g h)
    → SpelledWhole (IsPlace pairs place) h new → SpelledWhole (IsCreate (table_form name columns pairs place)) old new
create_spelled {name = name} {quoted = quoted} m t n o l i u w p _ (create e d f q) s =
    let x = l _ _ d s.1.1.1.1 in let y = p _ q (left_listed (λ t ps qs p. left_column p) d s.1.1.1.1).1.1.1 in record {
      words = λ us. Fixed k.Create ∷ Name (codes "TABLE") false ∷ Name name quoted ∷ Fixed k.Open
          ∷ x.words (Fixed k.Close ∷ Fixed k.Using ∷ Name (codes "CSV") false ∷ y.words us);
      adds = adds_then m (adds_then (t refl) (adds_then (n s.1.1.0) (adds_then o
          (adds_then x.adds (adds_then i (adds_then u (adds_then (w refl) y.adds)))))));
      reads = create refl (x.reads (Fixed k.Close ∷ Fixed k.Using ∷ Name (codes "CSV") false ∷ y.words [])) refl y.reads;
    }
