-- The plan of a SELECT with its ORDER BY is laid out right.
use Rattle.std.proofs.Common.{◌≡◌, ℕ, suc, ◌+◌, ◌≤◌, Bool, true, false, cond, List, [], ◌∷◌, map, length, Option, Some, None, Ok, arith, refl, sym, ap, subst, length-append}
use Rattle.std.specs.Prelude.{All}
use Rattle.std.proofs.lemmas.List.{length-map}
use Rattle.std.proofs.lemmas.List.Elements.{All-nil, All-cons, All-head, All-tail, All-map}
use Rattle.aqe_values.specs.declared.schema.Field.{Field}
use Rattle.aqe_expr.specs.declared.expr.Expr.{Column}
use Rattle.aqe_expr.specs.Below.{ColumnsBelow}
use Rattle.aqe_logical.specs.declared.plan.SortKey.{SortKey}
use Rattle.aqe_logical.specs.declared.plan.Logical.{Logical}
use Rattle.aqe_logical.specs.Columns.{schema_of, width}
use Rattle.aqe_logical.specs.WellFormed.{ItemsBelow, KeysBelow}
use Rattle.aqe_trees.specs.declared.expression.OrTree.{OrTree}
use Rattle.aqe_trees.specs.declared.query.SortTree.{SortTree}
use Rattle.aqe_rules.specs.Outcomes.{Outcome}
use Rattle.aqe_rules.specs.declared.typed.Typed.{Typed}
use Rattle.aqe_rules.specs.declared.names.Named.{Named}
use Rattle.aqe_rules.specs.Readings.{Call}
use Rattle.aqe_rules.specs.Looks.{Alone, a_number, a_column, something}
use Rattle.aqe_rules.specs.Expressions.{read, alone_of}
use Rattle.aqe_rules.specs.Sources.{numbered, over}
use Rattle.aqe_rules.specs.Selects.{Output, field, at_position}
use Rattle.aqe_rules.specs.Plans.{nameless, aggregate_fields, groups_of, filtered_by, fields_of, projected_to, columns_up_to, distinct_rows, Sorting, shown, hidden, is_over, shown_value, hidden_value, sorting, sortings, hidden_columns, key, keys_of, sorted_by, without_hidden, no_hidden, ordered}
use Rattle.aqe_rules.proofs.Gives.{Gives, IfAny, gives_upon, gives_each}
use Rattle.aqe_laws.proofs.OperationsBelow.{Below, either_one}
use Rattle.aqe_laws.proofs.Below.{below_more}
use Rattle.aqe_laws.proofs.Readings.{ColumnFits, CallFits, read-fits}
use Rattle.aqe_laws.proofs.Sources.{Whole, numbered-fit, numbered-length, over-fits}
use Rattle.aqe_laws.proofs.Selects.{OutputFits, every, no_calls, position-given, after}
use Rattle.aqe_laws.proofs.Bounds.{Laid}

-- a plan that is laid out right and has m columns
abbrev pub Has : ℕ → Logical → Type 0
Has m p = Laid p × (width p ≡ m)

pub columns_up_to-below : (m n : ℕ) (fs : List Field) → n + length fs ≤ m → ItemsBelow m (columns_up_to n fs)
columns_up_to-below m n [] fits = All-nil (ColumnsBelow m)
columns_up_to-below m n (f ∷ fs) fits = All-cons (ColumnsBelow m) (Column n) (columns_up_to (n + 1) fs) (omega (arith, fits)) (columns_up_to-below m (n + 1) fs (omega (arith, fits)))

pub columns_up_to-length : (n : ℕ) (fs : List Field) → length (columns_up_to n fs) ≡ length fs
columns_up_to-length n [] = refl
columns_up_to-length n (f ∷ fs) = ap suc (columns_up_to-length (n + 1) fs)

pub fields-length : (outputs : List Output) → length (fields_of outputs) ≡ length outputs
fields-length outputs = length-map outputs (λ o. field o.name o.value.kind)

aggregate_fields-length : (keys : List Typed) (calls : List Call) → length (aggregate_fields keys calls) ≡ length keys + length calls
aggregate_fields-length keys calls =
    omega (arith, length-append (map nameless keys) (map (λ c. field [] c.kind) calls), length-map keys nameless, length-map calls (λ c. field [] c.kind))

pub groups-laid : (b : Bool) (keys : List Typed) (calls : List Call) (w : ℕ) (plan : Logical) → Has w plan → All (Below w) keys → All (CallFits w) calls →
    Has (after b keys calls w) (groups_of b keys calls plan)
groups-laid true keys calls w plan (h, e) k l = (
  (
    h,
    omega (arith, aggregate_fields-length keys calls, length-map keys (λ k. k.expr), length-map calls (λ c. c.call)),
    All-map (ColumnsBelow (width plan)) (λ k. k.expr) keys (subst (λ n. All (Below n) keys) (sym e) k),
    All-map (λ call. ColumnsBelow (width plan) call.arg) (λ c. c.call) calls (subst (λ n. All (CallFits n) calls) (sym e) l),
  ),
  aggregate_fields-length keys calls,
)
groups-laid false keys calls w plan h k l = h

pub filtered-laid : (m : ℕ) (a : Option Typed) (plan : Logical) → Has m plan → IfAny (Below m) a → Has m (filtered_by a plan)
filtered-laid m None plan h k = h
filtered-laid m (Some a) plan (h, e) k = ((h, subst (λ n. ColumnsBelow n a.expr) (sym e) k), e)

pub projected-laid : (m : ℕ) (outputs : List Output) (plan : Logical) → Has m plan → All (OutputFits m) outputs → Has (length outputs) (projected_to outputs plan)
projected-laid m outputs plan (h, e) k = (
  (
    h,
    omega (arith, fields-length outputs, length-map outputs (λ o. o.value.expr)),
    All-map (ColumnsBelow (width plan)) (λ o. o.value.expr) outputs (subst (λ n. All (OutputFits n) outputs) (sym e) k),
  ),
  fields-length outputs,
)

pub distinct-laid : (fields : List Field) (plan : Logical) → Laid plan → length fields ≤ width plan → Has (length fields) (distinct_rows fields plan)
distinct-laid fields plan h le =
    ((h, omega (arith, columns_up_to-length 0 fields), columns_up_to-below (width plan) 0 fields (omega (arith, le)), All-nil (λ call. ColumnsBelow (width plan) call.arg)), refl)

-- a key over the output columns, or a hidden column of which Q holds
abbrev pub SortingFits : ℕ → (Typed → Type 0) → Sorting → Type 0
SortingFits n Q (shown expr) = ColumnsBelow n expr
SortingFits n Q (hidden a) = Q a

module _ (Q : Typed → Type 0) (hide : OrTree → Outcome Typed) (hides : (value : OrTree) → Gives Q (hide value)) (columns : List Named) (whole : Whole columns) where
  read_over : (value : OrTree) → Gives (SortingFits (length columns) Q) (cond (is_over columns value) (shown_value (read value (over columns)).value) (hidden_value (hide value)))
  read_over value =
      either_one (Gives (SortingFits (length columns) Q)) (is_over columns value) (shown_value (read value (over columns)).value) (hidden_value (hide value))
      (gives_upon (Below (length columns)) (SortingFits (length columns) Q) (read value (over columns)).value (λ a. Ok (shown a.expr))
      (no_calls (length columns) (read value (over columns)).value (read-fits value (over columns) (over-fits columns whole)).0) (λ a p. p))
      (gives_upon Q (SortingFits (length columns) Q) (hide value) (λ a. Ok (hidden a)) (hides value) (λ a p. p))

  sorting-fits : (value : OrTree) (alone : Alone) → Gives (SortingFits (length columns) Q) (sorting hide columns value alone)
  sorting-fits value (a_number negative n) =
      gives_upon (ColumnFits (length columns)) (SortingFits (length columns) Q) (at_position negative n columns) (λ c. Ok (shown c.value.expr))
      (position-given (ColumnFits (length columns)) negative n columns whole) (λ c p. p)
  sorting-fits value a_column = read_over value
  sorting-fits value something = read_over value

  pub sortings-fit : (sorts : List SortTree) → Gives (All (SortingFits (length columns) Q)) (sortings hide columns sorts)
  sortings-fit sorts =
      gives_each (SortingFits (length columns) Q) (map (λ s. sorting hide columns s.value (alone_of s.value)) sorts)
      (All-map (Gives (SortingFits (length columns) Q)) (λ s. sorting hide columns s.value (alone_of s.value)) sorts
      (every (λ s. Gives (SortingFits (length columns) Q) (sorting hide columns s.value (alone_of s.value))) (λ s. sorting-fits s.value (alone_of s.value)) sorts))

pub hidden-all : (n : ℕ) (Q : Typed → Type 0) (all : List Sorting) → All (SortingFits n Q) all → All Q (hidden_columns all)
hidden-all n Q [] h = All-nil Q
hidden-all n Q (shown expr ∷ rest) h = hidden-all n Q rest (All-tail (SortingFits n Q) (shown expr) rest h)
hidden-all n Q (hidden a ∷ rest) h =
    All-cons Q a (hidden_columns rest) (All-head (SortingFits n Q) (hidden a) rest h) (hidden-all n Q rest (All-tail (SortingFits n Q) (hidden a) rest h))

abbrev KeyBelow : ℕ → SortKey → Type 0
KeyBelow m k = ColumnsBelow m k.expr

pub keys-below : (m k n : ℕ) (Q : Typed → Type 0) (all : List Sorting) (sorts : List SortTree) → k ≤ m → n + length (hidden_columns all) ≤ m → All (SortingFits k Q) all → KeysBelow m (keys_of n all sorts)
keys-below m k n Q [] sorts le fits h = All-nil (KeyBelow m)
keys-below m k n Q (shown expr ∷ rest) [] le fits h = All-nil (KeyBelow m)
keys-below m k n Q (hidden a ∷ rest) [] le fits h = All-nil (KeyBelow m)
keys-below m k n Q (shown expr ∷ rest) (s ∷ sorts) le fits h =
    All-cons (KeyBelow m) (key expr s) (keys_of n rest sorts) (below_more k m le expr (All-head (SortingFits k Q) (shown expr) rest h))
    (keys-below m k n Q rest sorts le fits (All-tail (SortingFits k Q) (shown expr) rest h))
keys-below m k n Q (hidden a ∷ rest) (s ∷ sorts) le fits h =
    All-cons (KeyBelow m) (key (Column n) s) (keys_of (n + 1) rest sorts) (omega (arith, fits))
    (keys-below m k (n + 1) Q rest sorts le (omega (arith, fits)) (All-tail (SortingFits k Q) (hidden a) rest h))

pub sorted-laid : (m : ℕ) (keys : List SortKey) (plan : Logical) → Has m plan → KeysBelow m keys → Has m (sorted_by keys plan)
sorted-laid m [] plan h k = h
sorted-laid m (first ∷ rest) plan (h, e) k = ((h, subst (λ n. KeysBelow n (first ∷ rest)) (sym e) k), e)

pub without-laid : (m : ℕ) (more : List Typed) (outputs : List Output) (plan : Logical) → Has m plan → length outputs ≤ m → Laid (without_hidden more outputs plan)
without-laid m [] outputs plan h le = h.0
without-laid m (a ∷ more) outputs plan (h, e) le = (
  h,
  omega (arith, columns_up_to-length 0 (fields_of outputs)),
  columns_up_to-below (width plan) 0 (fields_of outputs) (omega (arith, fields-length outputs, le, e)),
)

-- a plan that shows its own columns alone
pub ordered-laid : (sorts : List SortTree) (plan : Logical) → Laid plan → Gives Laid (ordered sorts plan)
ordered-laid sorts plan h =
    gives_upon (All (SortingFits (length (numbered None 0 (schema_of plan))) (λ a. ⊥))) Laid
    (sortings (no_hidden (numbered None 0 (schema_of plan))) (numbered None 0 (schema_of plan)) sorts)
    (λ all. Ok (sorted_by (keys_of 0 all sorts) plan))
    (sortings-fit (λ a. ⊥) (no_hidden (numbered None 0 (schema_of plan))) (λ value. tt) (numbered None 0 (schema_of plan)) whole sorts)
    (λ all p. (sorted-laid (width plan) (keys_of 0 all sorts) plan (h, refl)
    (keys-below (width plan) (length (numbered None 0 (schema_of plan))) 0 (λ a. ⊥) all sorts (omega (arith, numbered-length None 0 (schema_of plan))) (few all p) p)).0)
  where
    whole : Whole (numbered None 0 (schema_of plan))
    whole = numbered-fit (length (numbered None 0 (schema_of plan))) None 0 (schema_of plan) (omega (arith, numbered-length None 0 (schema_of plan)))

    none : (xs : List Typed) → All (λ a. ⊥) xs → length xs ≡ 0
    none [] h = refl
    none (x ∷ xs) h = absurd (All-head (λ a. ⊥) x xs h)

    few : (all : List Sorting) → All (SortingFits (length (numbered None 0 (schema_of plan))) (λ a. ⊥)) all → 0 + length (hidden_columns all) ≤ width plan
    few all p = omega (arith, none (hidden_columns all) (hidden-all (length (numbered None 0 (schema_of plan))) (λ a. ⊥) all p))
