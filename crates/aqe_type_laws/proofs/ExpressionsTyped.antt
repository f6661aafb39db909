-- Expressions over the columns of FROM have values of their types.
use Rattle.std.proofs.Common.{◌≡◌, ℕ, suc, ◌+◌, List, [], ◌∷◌, ◌++◌, map, flat_map, length, Option, Some, arith, refl, sym, ap, subst, ◌∙◌}
use Rattle.std.specs.Prelude.{All}
use Rattle.std.specs.List.{slice_get}
use Rattle.std.proofs.lemmas.List.Elements.{All-nil, All-cons}
use Rattle.aqe_values.specs.declared.value.Value.{Value}
use Rattle.aqe_values.specs.declared.sql_type.SqlType.{SqlType}
use Rattle.aqe_values.specs.declared.schema.Field.{Field}
use Rattle.aqe_expr.specs.declared.expr.Expr.{Column}
use Rattle.aqe_expr.specs.Meaning.{val}
use Rattle.aqe_rules.specs.declared.names.Named.{Named}
use Rattle.aqe_rules.specs.Sources.{Item, numbered, columns_from, columns_of, over}
use Rattle.aqe_rules.proofs.Gives.{Gives}
use Rattle.aqe_laws.proofs.Sources.{numbered-length}
use Rattle.aqe_type_laws.specs.Fits.{IsOf, FitsColumns}
use Rattle.aqe_type_laws.specs.Laws.{ExpressionsAreTyped}
use Rattle.aqe_type_laws.proofs.OperationsTyped.{Typed_over}
use Rattle.aqe_type_laws.proofs.RowsTyped.{Front, front_column}
use Rattle.aqe_type_laws.proofs.ReadingsTyped.{kinds_of, Stands, ColumnTyped, AliasTyped, PlaceTyped, read-typed}

-- columns, each of which stands for the value at its place, counted from n
abbrev IsNumbered : ℕ → List Named → Type 0
IsNumbered n [] = Unit {0}
IsNumbered n (c ∷ cs) = (c.value.expr ≡ Column n) × IsNumbered (n + 1) cs

all-typed : (kinds : List SqlType) (n : ℕ) (cs : List Named) → IsNumbered n cs → ((k : ℕ) → slice_get kinds (n + k) ≡ slice_get (kinds_of cs) k) → All (ColumnTyped kinds) cs
all-typed kinds n [] h at = All-nil (ColumnTyped kinds)
all-typed kinds n (c ∷ cs) (e, h) at =
    All-cons (ColumnTyped kinds) c cs
    (λ row f. subst (λ x. IsOf (val row x) c.value.kind) (sym e) (front_column kinds n c.value.kind (subst (λ k. slice_get kinds k ≡ Some c.value.kind) here (at 0)) row f))
    (all-typed kinds (n + 1) cs h (λ k. subst (λ m. slice_get kinds m ≡ slice_get (kinds_of cs) k) (behind k) (at (suc k))))
  where
    here : n + 0 ≡ n
    here = omega arith

    behind : (k : ℕ) → n + suc k ≡ n + 1 + k
    behind k = omega arith

append-numbered : (n : ℕ) (a b : List Named) → IsNumbered n a → IsNumbered (n + length a) b → IsNumbered n (a ++ b)
append-numbered n [] b h k = subst (λ m. IsNumbered m b) (let here : n + 0 ≡ n = omega arith in here) k
append-numbered n (c ∷ cs) b (e, h) k = (e, append-numbered (n + 1) cs b h (subst (λ m. IsNumbered m b) (let behind : n + suc (length cs) ≡ n + 1 + length cs = omega arith in behind) k))

numbered-is : (owner : Option (List ℕ)) (n : ℕ) (fs : List Field) → IsNumbered n (numbered owner n fs)
numbered-is owner n [] = tt
numbered-is owner n (f ∷ fs) = (refl, numbered-is owner (n + 1) fs)

columns-are : (n : ℕ) (items : List Item) → IsNumbered n (columns_from n items)
columns-are n [] = tt
columns-are n (i ∷ is) =
    append-numbered n (numbered i.name n i.columns) (columns_from (n + length i.columns) is) (numbered-is i.name n i.columns)
    (subst (λ m. IsNumbered (n + m) (columns_from (n + length i.columns) is)) (sym (numbered-length i.name n i.columns)) (columns-are (n + length i.columns) is))

-- the types of the columns are those of the fields
abbrev pub types : List Field → List SqlType
types fs = map (λ f. f.kind) fs

numbered-kinds : (owner : Option (List ℕ)) (n : ℕ) (fs : List Field) → kinds_of (numbered owner n fs) ≡ types fs
numbered-kinds owner n [] = refl
numbered-kinds owner n (f ∷ fs) = ap (λ ks. f.kind ∷ ks) (numbered-kinds owner (n + 1) fs)

kinds-append : (a b : List Named) → kinds_of (a ++ b) ≡ kinds_of a ++ kinds_of b
kinds-append [] b = refl
kinds-append (c ∷ cs) b = ap (λ ks. c.value.kind ∷ ks) (kinds-append cs b)

pub types-append : (a b : List Field) → types (a ++ b) ≡ types a ++ types b
types-append [] b = refl
types-append (f ∷ fs) b = ap (λ ks. f.kind ∷ ks) (types-append fs b)

pub columns-kinds : (n : ℕ) (items : List Item) → kinds_of (columns_from n items) ≡ types (flat_map (λ item. item.columns) items)
columns-kinds n [] = refl
columns-kinds n (i ∷ is) =
    kinds-append (numbered i.name n i.columns) (columns_from (n + length i.columns) is) ∙
    (ap (λ ks. ks ++ kinds_of (columns_from (n + length i.columns) is)) (numbered-kinds i.name n i.columns) ∙
    (ap (λ ks. types i.columns ++ ks) (columns-kinds (n + length i.columns) is) ∙
    sym (types-append i.columns (flat_map (λ item. item.columns) is))))

pub front-of : (fs : List Field) (row : List Value) → FitsColumns fs row → Front (types fs) row
front-of [] [] h = tt
front-of [] (v ∷ row) h = tt
front-of (f ∷ fs) [] h = tt
front-of (f ∷ fs) (v ∷ row) h = (h.0, front-of fs row h.1)

from_zero : (k : ℕ) → 0 + k ≡ k
from_zero k = omega arith

pub place-typed : (items : List Item) → PlaceTyped (over (columns_of items))
place-typed items = (
  all-typed (kinds_of (columns_of items)) 0 (columns_of items) (columns-are 0 items) (λ k. ap (slice_get (kinds_of (columns_of items))) (from_zero k)),
  All-nil (AliasTyped (kinds_of (columns_of items)) (length (columns_of items))),
)

pub typed_expressions : ExpressionsAreTyped
typed_expressions tree items a row e fits =
    let given : Typed_over (Stands (over (columns_of items))) a =
    subst (Gives (Typed_over (Stands (over (columns_of items))))) e (read-typed tree (over (columns_of items)) (place-typed items)).0 in
    given row (subst (λ ks. Front ks row) (sym (columns-kinds 0 items)) (front-of (flat_map (λ item. item.columns) items) row fits), tt)
