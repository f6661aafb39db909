-- What FROM gives is laid out right, and its columns are those that it shows.
use Rattle.std.proofs.Common.{◌≡◌, ℕ, suc, ◌+◌, ◌≤◌, Bool, true, false, cond, List, [], ◌∷◌, ◌++◌, length, Option, Some, None, Ok, Err, arith, refl, sym, ap, subst, ◌∙◌, length-append}
use Rattle.std.specs.Prelude.{All}
use Rattle.std.specs.Option.{unwrap_or}
use Rattle.std.proofs.lemmas.List.Elements.{All-nil, All-cons, All-head, All-tail, All-append}
use Rattle.aqe_base.specs.declared.join_kind.JoinKind.{JoinKind}
use Rattle.aqe_base.specs.declared.join_kind.JoinKind.TheVariants.{Cross}
use Rattle.aqe_values.specs.declared.schema.Field.{Field}
use Rattle.aqe_expr.specs.Below.{ColumnsBelow}
use Rattle.aqe_logical.specs.declared.plan.Logical.{Logical, Scan}
use Rattle.aqe_logical.specs.Shapes.{filtered, joined}
use Rattle.aqe_logical.specs.Columns.{schema_of, width, shows_right}
use Rattle.aqe_trees.specs.declared.expression.OrTree.{OrTree}
use Rattle.aqe_rules.specs.Outcomes.{Outcome, upon, provided}
use Rattle.aqe_rules.specs.Kinds.{is_truth}
use Rattle.aqe_rules.specs.Operations.{mismatch}
use Rattle.aqe_rules.specs.declared.names.Named.{Named}
use Rattle.aqe_rules.specs.Readings.{Place}
use Rattle.aqe_rules.specs.Expressions.{read}
use Rattle.aqe_rules.specs.Limits.{within_limits}
use Rattle.aqe_rules.specs.QueryForms.{Step}
use Rattle.aqe_rules.specs.Sources.{Catalog, Item, From, item, from_of, numbered, columns_from, columns_of, over, condition, table_named, scanned, table_source, query_source, join_condition, joined_items, join, join_all, cross_all, from_all, kept}
use Rattle.aqe_rules.proofs.Gives.{Gives, gives_upon, gives_provided}
use Rattle.aqe_laws.proofs.OperationsBelow.{Below}
use Rattle.aqe_laws.proofs.Readings.{ColumnFits, AliasFits, Fits, read-fits}
use Rattle.aqe_laws.proofs.Bounds.{Laid, Bounded, within-bounded}

-- how many columns items have
abbrev pub total : List Item → ℕ
total [] = 0
total (i ∷ is) = length i.columns + total is

total-append : (a b : List Item) → total (a ++ b) ≡ total a + total b
total-append [] b = omega arith
total-append (i ∷ is) b = omega (arith, total-append is b)

pub numbered-fit : (m : ℕ) (owner : Option (List ℕ)) (n : ℕ) (fs : List Field) → n + length fs ≤ m → All (ColumnFits m) (numbered owner n fs)
numbered-fit m owner n [] fits = All-nil (ColumnFits m)
numbered-fit m owner n (f ∷ fs) fits = All-cons (ColumnFits m) _ (numbered owner (n + 1) fs) (omega (arith, fits)) (numbered-fit m owner (n + 1) fs (omega (arith, fits)))

pub numbered-length : (owner : Option (List ℕ)) (n : ℕ) (fs : List Field) → length (numbered owner n fs) ≡ length fs
numbered-length owner n [] = refl
numbered-length owner n (f ∷ fs) = ap suc (numbered-length owner (n + 1) fs)

columns-fit : (m n : ℕ) (items : List Item) → n + total items ≤ m → All (ColumnFits m) (columns_from n items)
columns-fit m n [] fits = All-nil (ColumnFits m)
columns-fit m n (i ∷ is) fits =
    All-append (ColumnFits m) (numbered i.name n i.columns) (columns_from (n + length i.columns) is)
    (numbered-fit m i.name n i.columns (omega (arith, fits))) (columns-fit m (n + length i.columns) is (omega (arith, fits)))

columns-length : (n : ℕ) (items : List Item) → length (columns_from n items) ≡ total items
columns-length n [] = refl
columns-length n (i ∷ is) =
    length-append (numbered i.name n i.columns) (columns_from (n + length i.columns) is) ∙
    (ap (λ k. k + length (columns_from (n + length i.columns) is)) (numbered-length i.name n i.columns) ∙
    ap (λ k. length i.columns + k) (columns-length (n + length i.columns) is))

-- the columns of a place, each over all of them
abbrev pub Whole : List Named → Type 0
Whole columns = All (ColumnFits (length columns)) columns

pub whole-items : (items : List Item) → Whole (columns_of items)
whole-items items = subst (λ m. All (ColumnFits m) (columns_of items)) (sym (columns-length 0 items)) (columns-fit (total items) 0 items (omega arith))

pub whole-length : (items : List Item) → length (columns_of items) ≡ total items
whole-length items = columns-length 0 items

pub over-fits : (columns : List Named) → Whole columns → Fits (over columns)
over-fits columns h = (h, All-nil (AliasFits (length columns)))

pub condition-below : (tree : OrTree) (place : Place) → Fits place → Gives (ColumnsBelow (length place.columns + length place.calls)) (condition tree place)
condition-below tree place fits =
    gives_upon (Below (length place.columns + length place.calls)) (ColumnsBelow (length place.columns + length place.calls)) (read tree place).value
    (λ a. provided (is_truth a.kind) mismatch (Ok a.expr)) (read-fits tree place fits).0 (λ a p.
    gives_provided (ColumnsBelow (length place.columns + length place.calls)) (is_truth a.kind) mismatch (Ok a.expr) p)

abbrev pub FromFits : From → Type 0
FromFits f = Laid f.plan × (width f.plan ≡ total f.items)

abbrev pub SourceFits : (Catalog → Outcome From) → Type 0
SourceFits source = (catalog : Catalog) → Gives FromFits (source catalog)

-- what keeps the limits is still laid out right
pub within-laid : (p : Logical) → Laid p → Gives Laid (within_limits p)
within-laid p h = gives_first (within_limits p) (within-bounded Laid p h)
  where
    gives_first : (o : Outcome Logical) → Gives (λ q. Laid q × Bounded q) o → Gives Laid o
    gives_first (Ok q) k = k.0
    gives_first (Err check) k = tt

same_plan : (P : Logical → Type 0) (p : Logical) → P p → Gives P (within_limits p)
same_plan P p h = gives_first (within_limits p) (within-bounded P p h)
  where
    gives_first : (o : Outcome Logical) → Gives (λ q. P q × Bounded q) o → Gives P o
    gives_first (Ok q) k = k.0
    gives_first (Err check) k = tt

scanned-fits : (name : List ℕ) (alias : Option (List ℕ)) (table : Option (ℕ × List Field)) → Gives FromFits (scanned name alias table)
scanned-fits name alias None = tt
scanned-fits name alias (Some table) =
    gives_upon (λ p. Laid p × (width p ≡ length table.1)) FromFits (within_limits (Scan table.0 table.1))
    (λ plan. Ok (from_of plan (item (Some (unwrap_or alias name)) table.1 ∷ [])))
    (same_plan (λ p. Laid p × (width p ≡ length table.1)) (Scan table.0 table.1) (tt, refl))
    (λ p h. (h.0, omega (arith, h.1)))

pub table-fits : (name : List ℕ) (alias : Option (List ℕ)) → SourceFits (table_source name alias)
table-fits name alias catalog = scanned-fits name alias (table_named name catalog 0)

pub query-fits : (alias : Option (List ℕ)) (query : Outcome Logical) → Gives Laid query → Gives FromFits (query_source alias query)
query-fits alias query h = gives_upon Laid FromFits query (λ plan. Ok (from_of plan (item alias (schema_of plan) ∷ []))) h (λ p k. (k, omega arith))

join_condition-below : (on : Option OrTree) (items : List Item) → Gives (ColumnsBelow (total items)) (join_condition on items)
join_condition-below None items = tt
join_condition-below (Some tree) items =
    subst (λ n. Gives (ColumnsBelow n) (condition tree (over (columns_of items)))) same
    (condition-below tree (over (columns_of items)) (over-fits (columns_of items) (whole-items items)))
  where
    same : length (columns_of items) + 0 ≡ total items
    same = omega (arith, whole-length items)

shown-width : (shown : Bool) (a b : List Field) (l r : List Item) → length a ≡ total l → length b ≡ total r →
    length (cond shown (a ++ b) a) ≡ total (cond shown (l ++ r) l)
shown-width true a b l r h k = omega (arith, length-append a b, total-append l r, h, k)
shown-width false a b l r h k = h

pub join-fits : (kind : JoinKind) (on : Option OrTree) (l r : From) → FromFits l → FromFits r → Gives FromFits (join kind on l r)
join-fits kind on l r (h, a) (k, b) =
    gives_upon (ColumnsBelow (total (l.items ++ r.items))) FromFits (join_condition on (l.items ++ r.items))
    (λ on. upon (within_limits (joined kind on l.plan r.plan)) (λ plan. Ok (from_of plan (joined_items kind l.items r.items))))
    (join_condition-below on (l.items ++ r.items)) (λ e below.
    gives_upon (λ p. Laid p × (width p ≡ total (joined_items kind l.items r.items))) FromFits (within_limits (joined kind e l.plan r.plan))
    (λ plan. Ok (from_of plan (joined_items kind l.items r.items)))
    (same_plan (λ p. Laid p × (width p ≡ total (joined_items kind l.items r.items))) (joined kind e l.plan r.plan)
    ((h, k, subst (λ n. ColumnsBelow n e) both below), shown-width (shows_right kind) (schema_of l.plan) (schema_of r.plan) l.items r.items a b))
    (λ p q. q))
  where
    both : total (l.items ++ r.items) ≡ width l.plan + width r.plan
    both = omega (arith, total-append l.items r.items, a, b)

abbrev pub StepFits : Step (Catalog → Outcome From) → Type 0
StepFits step = SourceFits step.source

pub join_all-fits : (catalog : Catalog) (left : Outcome From) (steps : List (Step (Catalog → Outcome From))) → Gives FromFits left → All StepFits steps →
    Gives FromFits (join_all catalog left steps)
join_all-fits catalog left [] h all = h
join_all-fits catalog left (j ∷ js) h all =
    join_all-fits catalog (upon left (λ l. upon (j.source catalog) (λ r. join j.kind j.on l r))) js
    (gives_upon FromFits FromFits left (λ l. upon (j.source catalog) (λ r. join j.kind j.on l r)) h (λ l p.
    gives_upon FromFits FromFits (j.source catalog) (λ r. join j.kind j.on l r) (All-head StepFits j js all catalog) (λ r q. join-fits j.kind j.on l r p q)))
    (All-tail StepFits j js all)

cross_all-fits : (catalog : Catalog) (left : Outcome From) (more : List (Catalog → Outcome From)) → Gives FromFits left → All SourceFits more →
    Gives FromFits (cross_all catalog left more)
cross_all-fits catalog left [] h all = h
cross_all-fits catalog left (j ∷ js) h all =
    cross_all-fits catalog (upon left (λ l. upon (j catalog) (λ r. join Cross None l r))) js
    (gives_upon FromFits FromFits left (λ l. upon (j catalog) (λ r. join Cross None l r)) h (λ l p.
    gives_upon FromFits FromFits (j catalog) (λ r. join Cross None l r) (All-head SourceFits j js all catalog) (λ r q. join-fits Cross None l r p q)))
    (All-tail SourceFits j js all)

pub from_all-fits : (catalog : Catalog) (from : List (Catalog → Outcome From)) → All SourceFits from → Gives FromFits (from_all catalog from)
from_all-fits catalog [] h = (tt, refl)
from_all-fits catalog (j ∷ js) h = cross_all-fits catalog (j catalog) js (All-head SourceFits j js h catalog) (All-tail SourceFits j js h)

-- WHERE keeps the columns
pub kept-laid : (filter : Option OrTree) (place : Place) (plan : Logical) (n : ℕ) → Fits place → length place.columns + length place.calls ≡ width plan → width plan ≡ n → Laid plan →
    Gives (λ p. Laid p × (width p ≡ n)) (kept filter place plan)
kept-laid None place plan n fits e w h = (h, w)
kept-laid (Some tree) place plan n fits e w h =
    gives_upon (ColumnsBelow (length place.columns + length place.calls)) (λ p. Laid p × (width p ≡ n)) (condition tree place) (λ a. Ok (filtered a plan))
    (condition-below tree place fits) (λ a below. ((h, subst (λ m. ColumnsBelow m a) e below), w))
