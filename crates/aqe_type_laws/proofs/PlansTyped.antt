-- The nodes of the plan of a SELECT give what their columns say, where those of FROM do.
use Rattle.std.proofs.Common.{◌≡◌, ℕ, suc, ◌+◌, Bool, true, false, List, [], ◌∷◌, ◌++◌, map, length, Option, Some, None, arith, refl, sym, subst, ◌∙◌}
use Rattle.std.specs.Prelude.{All, slice_index_or}
use Rattle.std.proofs.lemmas.List.{append-nil, map-append}
use Rattle.std.proofs.lemmas.List.Elements.{All-append, All-weaker}
use Rattle.aqe_values.specs.declared.value.Value.TheVariants.{Null}
use Rattle.aqe_values.specs.declared.schema.Field.{Field}
use Rattle.aqe_expr.specs.declared.expr.Expr.{Expr}
use Rattle.aqe_expr.specs.Meaning.{val}
use Rattle.aqe_logical.specs.declared.plan.SortKey.{SortKey}
use Rattle.aqe_logical.specs.declared.plan.Logical.{Logical}
use Rattle.aqe_logical.specs.Shapes.{projected}
use Rattle.aqe_logical.specs.Answers.{Row}
use Rattle.aqe_logical.specs.Columns.{schema_of}
use Rattle.aqe_logical.specs.Groups.{row_of}
use Rattle.aqe_rules.specs.declared.typed.Typed.{Typed}
use Rattle.aqe_rules.specs.declared.names.Named.{Named}
use Rattle.aqe_rules.specs.Readings.{Call}
use Rattle.aqe_rules.specs.Selects.{Output, field}
use Rattle.aqe_rules.specs.Plans.{groups_of, filtered_by, fields_of, projected_to, columns_up_to, distinct_if, sorted_by, without_hidden}
use Rattle.aqe_type_laws.specs.Fits.{IsOf, FitsColumns}
use Rattle.aqe_type_laws.specs.Plans.{IsGroup, MayBeRow, KeepsTypes}
use Rattle.aqe_type_laws.proofs.OperationsTyped.{Typed_over}
use Rattle.aqe_type_laws.proofs.RowsTyped.{Front, CallTyped}
use Rattle.aqe_type_laws.proofs.ReadingsTyped.{kinds_of}
use Rattle.aqe_type_laws.proofs.AnswersTyped.{row-fits}
use Rattle.aqe_type_laws.proofs.GroupedValues.{from_here, one_on}
use Rattle.aqe_type_laws.proofs.GroupsTyped.{GroupRow, Under, made-fit, aggregate-fits}

-- columns by their number, over rows that have these columns in front
columns-fit : (a b : List Field) (n : ℕ) (whole rest : Row) → ((k : ℕ) → slice_index_or whole (n + k) Null ≡ slice_index_or rest k Null) → FitsColumns (a ++ b) rest →
    FitsColumns a (row_of (columns_up_to n a) whole)
columns-fit [] b n whole rest at h = tt
columns-fit (f ∷ a) b n whole [] at h = absurd h
columns-fit (f ∷ a) b n whole (v ∷ rest) at h = (
  subst (λ w. IsOf w f.kind) (sym (subst (λ m. slice_index_or whole m Null ≡ v) (from_here n) (at 0))) h.0,
  columns-fit a b (n + 1) whole rest (λ k. subst (λ m. slice_index_or whole m Null ≡ slice_index_or rest k Null) (one_on n k) (at (suc k))) h.1,
)

pub shown-fit : (a b : List Field) (row : Row) → FitsColumns (a ++ b) row → FitsColumns a (row_of (columns_up_to 0 a) row)
shown-fit a b row h = columns-fit a b 0 row row (λ k. subst (λ m. slice_index_or row m Null ≡ slice_index_or row k Null) (from_zero k) refl) h
  where
    from_zero : (k : ℕ) → k ≡ 0 + k
    from_zero k = omega arith

-- the values of an output column are of its type
abbrev pub OutputTyped : (Row → Type 0) → Output → Type 0
OutputTyped R o = Typed_over R o.value

-- rows with the values of these columns in front
abbrev pub RowsOf : List Named → List Field → Type 0
RowsOf columns schema = (row : Row) → FitsColumns schema row → Front (kinds_of columns) row × (length row ≡ length columns)

-- a plan keeps types, and the rows that it may answer with are such
abbrev pub Holds : (Row → Type 0) → Logical → Type 0
Holds Q plan = KeepsTypes plan × ((row : Row) → MayBeRow plan row → Q row)

pub kept-holds : (Q : Row → Type 0) (plan : Logical) → ((row : Row) → FitsColumns (schema_of plan) row → Q row) → KeepsTypes plan → Holds Q plan
kept-holds Q plan w k = (k, λ row r. w row (row-fits plan row r))

filtered_by-holds : (Q : Row → Type 0) (a : Option Typed) (plan : Logical) → Holds Q plan → Holds Q (filtered_by a plan)
filtered_by-holds Q None plan h = h
filtered_by-holds Q (Some a) plan h = h

-- what is known of a row of a group, where the rows below have the columns of FROM in front
group-row : (columns : List Named) (keys : List Expr) (calls : List Call) (schema : List Field) → RowsOf columns schema → (x : Row) → IsGroup keys (map (λ c. c.call) calls) schema x → GroupRow columns keys calls x
group-row columns keys calls schema rows x (row, group, f, all, is) =
    (row, group, (rows row f).0, (rows row f).1, All-weaker (FitsColumns schema) (Front (kinds_of columns)) (λ y g. (rows y g).0) group all, is)

groups-hold : (b : Bool) (columns : List Named) (keys : List Typed) (calls : List Call) (below : Logical) → RowsOf columns (schema_of below) →
    All (Typed_over (Front (kinds_of columns))) keys → All (CallTyped (kinds_of columns)) calls → KeepsTypes below → Holds (Under b columns keys calls) (groups_of b keys calls below)
groups-hold true columns keys calls below rows k c s = (
  (s, λ row group f all. aggregate-fits columns keys calls k c row group (rows row f).0 (All-weaker (FitsColumns (schema_of below)) (Front (kinds_of columns)) (λ y g. (rows y g).0) group all)),
  λ x r. group-row columns (map (λ k. k.expr) keys) calls (schema_of below) rows x r.1,
)
groups-hold false columns keys calls below rows k c s = kept-holds (Front (kinds_of columns)) below (λ row f. (rows row f).0) s

pub projected-keeps : (Q : Row → Type 0) (items : List Expr) (schema : List Field) (plan : Logical) → ((row : Row) → Q row → FitsColumns schema (row_of items row)) → Holds Q plan → KeepsTypes (projected items schema plan)
projected-keeps Q items schema plan made h = (h.0, λ row r. made row (h.1 row r))

outputs-keep : (Q : Row → Type 0) (outputs : List Output) (plan : Logical) → All (OutputTyped Q) outputs → Holds Q plan → KeepsTypes (projected_to outputs plan)
outputs-keep Q outputs plan typed h =
    projected-keeps Q (map (λ o. o.value.expr) outputs) (fields_of outputs) plan (λ row q.
    made-fit (λ o. field o.name o.value.kind) (λ o. o.value.expr) (val row) outputs (All-weaker (OutputTyped Q) (λ o. IsOf (val row o.value.expr) o.value.kind) (λ o t. t row q) outputs typed)) h

pub distinct-keeps : (d : Bool) (a b : List Field) (plan : Logical) → schema_of plan ≡ a ++ b → KeepsTypes plan → KeepsTypes (distinct_if d a plan)
distinct-keeps true a b plan e k =
    (k, λ row group f all. subst (FitsColumns a) (sym (append-nil (row_of (columns_up_to 0 a) row))) (shown-fit a b row (subst (λ fs. FitsColumns fs row) e f)))
distinct-keeps false a b plan e k = k

pub sorted-keeps : (keys : List SortKey) (plan : Logical) → KeepsTypes plan → KeepsTypes (sorted_by keys plan)
sorted-keeps [] plan k = k
sorted-keeps (first ∷ rest) plan k = k

without-keeps : (more : List Typed) (outputs : List Output) (rest : List Field) (plan : Logical) → schema_of plan ≡ fields_of outputs ++ rest → KeepsTypes plan → KeepsTypes (without_hidden more outputs plan)
without-keeps [] outputs rest plan e k = k
without-keeps (a ∷ more) outputs rest plan e k =
    projected-keeps (FitsColumns (schema_of plan)) (columns_up_to 0 (fields_of outputs)) (fields_of outputs) plan
    (λ row f. shown-fit (fields_of outputs) rest row (subst (λ fs. FitsColumns fs row) e f)) (kept-holds (FitsColumns (schema_of plan)) plan (λ row f. f) k)

-- the columns of the parts
distinct-schema : (d : Bool) (a b : List Field) (plan : Logical) → schema_of plan ≡ a ++ b → (rest : List Field) × (schema_of (distinct_if d a plan) ≡ a ++ rest)
distinct-schema true a b plan e = ([], sym (append-nil a))
distinct-schema false a b plan e = (b, e)

sorted-schema : (keys : List SortKey) (plan : Logical) → schema_of (sorted_by keys plan) ≡ schema_of plan
sorted-schema [] plan = refl
sorted-schema (first ∷ rest) plan = refl

-- The plan of a SELECT with hidden columns, sorted, and without them again.
pub select-keeps : (b d : Bool) (columns : List Named) (keys : List Typed) (calls : List Call) (having : Option Typed) (outputs more : List Output) (hidden : List Typed) (sorts : List SortKey) (below : Logical) →
    RowsOf columns (schema_of below) → All (Typed_over (Front (kinds_of columns))) keys → All (CallTyped (kinds_of columns)) calls →
    All (OutputTyped (Under b columns keys calls)) outputs → All (OutputTyped (Under b columns keys calls)) more → KeepsTypes below →
    KeepsTypes (without_hidden hidden outputs (sorted_by sorts (distinct_if d (fields_of outputs) (projected_to (outputs ++ more) (filtered_by having (groups_of b keys calls below))))))
select-keeps b d columns keys calls having outputs more hidden sorts below rows k c typed more_typed g =
    without-keeps hidden outputs shown.0 (sorted_by sorts (distinct_if d (fields_of outputs) whole)) (sorted-schema sorts (distinct_if d (fields_of outputs) whole) ∙ shown.1)
    (sorted-keeps sorts (distinct_if d (fields_of outputs) whole) (distinct-keeps d (fields_of outputs) (fields_of more) whole columns_of_whole
    (outputs-keep (Under b columns keys calls) (outputs ++ more) (filtered_by having (groups_of b keys calls below)) (All-append (OutputTyped (Under b columns keys calls)) outputs more typed more_typed)
    (filtered_by-holds (Under b columns keys calls) having (groups_of b keys calls below) (groups-hold b columns keys calls below rows k c g)))))
  where
    whole : Logical
    whole = projected_to (outputs ++ more) (filtered_by having (groups_of b keys calls below))

    columns_of_whole : schema_of whole ≡ fields_of outputs ++ fields_of more
    columns_of_whole = map-append (λ o. field o.name o.value.kind) outputs more

    shown : (rest : List Field) × (schema_of (distinct_if d (fields_of outputs) whole) ≡ fields_of outputs ++ rest)
    shown = distinct-schema d (fields_of outputs) (fields_of more) whole columns_of_whole
