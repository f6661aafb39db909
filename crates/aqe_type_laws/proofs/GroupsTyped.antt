-- Rows of groups: what stands in them, and the values of a grouped query's expressions over them.
use Rattle.std.proofs.Common.{◌≡◌, ℕ, suc, ◌+◌, Bool, true, false, List, [], ◌∷◌, ◌++◌, map, flat_map, length, Ok, Err, arith, refl, sym, ap, subst, ◌∙◌}
use Rattle.std.specs.Prelude.{All, slice_index_or}
use Rattle.std.proofs.lemmas.List.{length-map, get_or-append-add}
use Rattle.std.proofs.lemmas.List.Elements.{All-head, All-tail, All-map, All-weaker}
use Rattle.aqe_values.specs.declared.value.Value.{Value}
use Rattle.aqe_values.specs.declared.value.Value.TheVariants.{Null}
use Rattle.aqe_values.specs.declared.sql_type.SqlType.{SqlType}
use Rattle.aqe_values.specs.declared.schema.Field.{Field}
use Rattle.aqe_expr.specs.declared.expr.Expr.{Expr}
use Rattle.aqe_expr.specs.Below.{ColumnsBelow}
use Rattle.aqe_expr.specs.Meaning.{val}
use Rattle.aqe_logical.specs.Groups.{row_of, call_value}
use Rattle.aqe_rules.specs.Outcomes.{Outcome}
use Rattle.aqe_rules.specs.declared.typed.Typed.{Typed}
use Rattle.aqe_rules.specs.Operations.{typed}
use Rattle.aqe_rules.specs.declared.names.Named.{Named}
use Rattle.aqe_rules.specs.Readings.{Call}
use Rattle.aqe_rules.specs.Grouping.{grouped}
use Rattle.aqe_rules.specs.Sources.{Item, columns_of}
use Rattle.aqe_rules.specs.Selects.{field, built}
use Rattle.aqe_rules.specs.Plans.{nameless, aggregate_fields}
use Rattle.aqe_rules.proofs.Gives.{Gives, gives_upon}
use Rattle.aqe_laws.proofs.OperationsBelow.{Below}
use Rattle.aqe_laws.proofs.Selects.{Ruled}
use Rattle.aqe_type_laws.specs.Fits.{IsOf, FitsColumns}
use Rattle.aqe_type_laws.proofs.OperationsTyped.{Typed_over}
use Rattle.aqe_type_laws.proofs.RowsTyped.{Front, CallTyped, CallsStand}
use Rattle.aqe_type_laws.proofs.ReadingsTyped.{kinds_of, Standing}
use Rattle.aqe_type_laws.proofs.ExpressionsTyped.{columns-kinds, front-of}
use Rattle.aqe_type_laws.proofs.FormsTyped.{beside}
use Rattle.aqe_type_laws.proofs.GroupedValues.{from_here, one_on, grouped-value}

-- the columns of items, and rows that fit them
abbrev pub fields : List Item → List Field
fields items = flat_map (λ item. item.columns) items

pub fits-length : (fs : List Field) (row : List Value) → FitsColumns fs row → length row ≡ length fs
fits-length [] [] h = refl
fits-length [] (v ∷ row) h = absurd h
fits-length (f ∷ fs) [] h = absurd h
fits-length (f ∷ fs) (v ∷ row) h = ap suc (fits-length fs row h.1)

pub row-front : (items : List Item) (row : List Value) → FitsColumns (fields items) row → Front (kinds_of (columns_of items)) row
row-front items row h = subst (λ ks. Front ks row) (sym (columns-kinds 0 items)) (front-of (fields items) row h)

fields-length : (items : List Item) → length (fields items) ≡ length (columns_of items)
fields-length items =
    sym (length-map (fields items) (λ f. f.kind)) ∙ (ap length (sym (columns-kinds 0 items)) ∙ length-map (columns_of items) (λ c. c.value.kind))

pub row-length : (items : List Item) (row : List Value) → FitsColumns (fields items) row → length row ≡ length (columns_of items)
row-length items row h = fits-length (fields items) row h ∙ fields-length items

-- the values that stand in front stay where others stand behind them
front-append : (kinds : List SqlType) (row values : List Value) → length row ≡ length kinds → Front kinds row → Front kinds (row ++ values)
front-append [] row values e h = tt
front-append (k ∷ ks) [] values e h = absurd (let no : ⊥ = omega (arith, e) in no)
front-append (k ∷ ks) (v ∷ row) values e h = (h.0, front-append ks row values (omega (arith, e)) h.1)

-- the values of calls over a group
abbrev pub values_of : List (List Value) → List Call → List Value
values_of group calls = map (call_value group) (map (λ c. c.call) calls)

calls-stand : (kinds : List SqlType) (group : List (List Value)) (row : List Value) → All (Front kinds) group → (n : ℕ) (calls : List Call) →
    ((k : ℕ) → slice_index_or row (n + k) Null ≡ slice_index_or (values_of group calls) k Null) → CallsStand kinds n calls row
calls-stand kinds group row all n [] at = tt
calls-stand kinds group row all n (c ∷ cs) at = (
  (group, all, subst (λ m. slice_index_or row m Null ≡ call_value group c.call) (from_here n) (at 0)),
  calls-stand kinds group row all (n + 1) cs (λ k. subst (λ m. slice_index_or row m Null ≡ slice_index_or (values_of group cs) k Null) (one_on n k) (at (suc k))),
)

pub standing : (columns : List Named) (row : List Value) (group : List (List Value)) (calls : List Call) → length row ≡ length columns → Front (kinds_of columns) row → All (Front (kinds_of columns)) group →
    Standing (kinds_of columns) (length columns) calls (row ++ values_of group calls)
standing columns row group calls e h all = (
  front-append (kinds_of columns) row (values_of group calls) (e ∙ sym (length-map columns (λ c. c.value.kind))) h,
  calls-stand (kinds_of columns) group (row ++ values_of group calls) all (length columns) calls
      (λ k. subst (λ n. slice_index_or (row ++ values_of group calls) (n + k) Null ≡ slice_index_or (values_of group calls) k Null) e (get_or-append-add row (values_of group calls) k Null)),
)

-- The row of a group: the keys at a row of FROM, and then the calls over rows of FROM.
abbrev pub GroupRow : List Named → List Expr → List Call → List Value → Type 0
GroupRow columns keys calls x =
    (row : List Value) × (group : List (List Value)) × Front (kinds_of columns) row × (length row ≡ length columns) × All (Front (kinds_of columns)) group × (x ≡ row_of keys row ++ values_of group calls)

-- the rows below the output columns: those of groups, or those of FROM
abbrev pub Under : Bool → List Named → List Typed → List Call → List Value → Type 0
Under true columns keys calls = GroupRow columns (map (λ k. k.expr) keys) calls
Under false columns keys calls = Front (kinds_of columns)

-- what holds at each row, holds of the one outcome
each_row : {T : Type 0} (P : List Value → List Value → T → Type 0) (n : ℕ) (o : Outcome T) → ((row values : List Value) → length row ≡ n → Gives (P row values) o) →
    Gives (λ t. (row values : List Value) → length row ≡ n → P row values t) o
each_row P n (Ok t) h = h
each_row P n (Err check) h = tt

-- two expressions have one value, at a group's row and at a row of the group
abbrev SameValue : List Expr → Expr → List Value → List Value → Expr → Type 0
SameValue keys e row values x = val (row_of keys row ++ values) x ≡ val (row ++ values) e

grouped-same : (columns : List Named) (keys : List Typed) → All (Below (length columns)) keys → (e : Expr) →
    Gives (λ x. (row values : List Value) → length row ≡ length columns → SameValue (map (λ k. k.expr) keys) e row values x) (grouped (map (λ k. k.expr) keys) (map (λ c. c.name) columns) e)
grouped-same columns keys below e =
    each_row (SameValue (map (λ k. k.expr) keys) e) (length columns) (grouped (map (λ k. k.expr) keys) (map (λ c. c.name) columns) e) (λ row values same.
    grouped-value (map (λ k. k.expr) keys) (map (λ c. c.name) columns) row values (same ∙ sym (length-map columns (λ c. c.name)))
    (All-map (ColumnsBelow (length row)) (λ k. k.expr) keys (subst (λ n. All (Below n) keys) (sym same) below)) e)

typed-at-group : (columns : List Named) (keys : List Expr) (calls : List Call) (a : Typed) (expr : Expr) →
    ((row values : List Value) → length row ≡ length columns → SameValue keys a.expr row values expr) → Typed_over (Standing (kinds_of columns) (length columns) calls) a →
    (x : List Value) → GroupRow columns keys calls x → IsOf (val x expr) a.kind
typed-at-group columns keys calls a expr same h x (row, group, front, len, all, is) =
    subst (λ y. IsOf (val y expr) a.kind) (sym is) (subst (λ v. IsOf v a.kind) (sym (same row (values_of group calls) len)) (h (row ++ values_of group calls) (standing columns row group calls len front all)))

pub built-typed : (b : Bool) (columns : List Named) (keys : List Typed) (calls : List Call) → Ruled b calls → All (Below (length columns)) keys → (a : Typed) →
    Typed_over (Standing (kinds_of columns) (length columns) calls) a → Gives (Typed_over (Under b columns keys calls)) (built b keys columns a)
built-typed true columns keys calls r below a h =
    gives_upon (λ x. (row values : List Value) → length row ≡ length columns → SameValue (map (λ k. k.expr) keys) a.expr row values x) (Typed_over (GroupRow columns (map (λ k. k.expr) keys) calls))
    (grouped (map (λ k. k.expr) keys) (map (λ c. c.name) columns) a.expr) (λ expr. Ok (typed expr a.kind)) (grouped-same columns keys below a.expr) (λ expr same.
    typed-at-group columns (map (λ k. k.expr) keys) calls a expr same h)
built-typed false columns keys calls r below a h = λ row front. h row (subst (λ cs. Standing (kinds_of columns) (length columns) cs row) (sym r) (front, tt))

-- values that are of the types of fields
pub made-fit : {A B : Type 0} (f : A → Field) (h : A → B) (g : B → Value) (xs : List A) → All (λ a. IsOf (g (h a)) (f a).kind) xs → FitsColumns (map f xs) (map g (map h xs))
made-fit f h g [] k = tt
made-fit f h g (x ∷ xs) k = (All-head (λ a. IsOf (g (h a)) (f a).kind) x xs k, made-fit f h g xs (All-tail (λ a. IsOf (g (h a)) (f a).kind) x xs k))

-- the rows of an Aggregate fit its columns
pub aggregate-fits : (columns : List Named) (keys : List Typed) (calls : List Call) → All (Typed_over (Front (kinds_of columns))) keys → All (CallTyped (kinds_of columns)) calls →
    (row : List Value) (group : List (List Value)) → Front (kinds_of columns) row → All (Front (kinds_of columns)) group →
    FitsColumns (aggregate_fields keys calls) (row_of (map (λ k. k.expr) keys) row ++ values_of group calls)
aggregate-fits columns keys calls k c row group front all =
    beside (map nameless keys) (map (λ c. field [] c.kind) calls) (row_of (map (λ k. k.expr) keys) row) (values_of group calls)
    (made-fit nameless (λ k. k.expr) (val row) keys (All-weaker (Typed_over (Front (kinds_of columns))) (λ a. IsOf (val row a.expr) a.kind) (λ a t. t row front) keys k))
    (made-fit (λ c. field [] c.kind) (λ c. c.call) (call_value group) calls (All-weaker (CallTyped (kinds_of columns)) (λ c. IsOf (call_value group c.call) c.kind) (λ c t. t group all) calls c))
