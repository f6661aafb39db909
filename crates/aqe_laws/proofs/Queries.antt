-- The plan of a query is laid out right and keeps the limits.
use Rattle.std.proofs.Common.{◌≡◌, ℕ, ◌+◌, Bool, true, false, cond, List, [], ◌∷◌, ◌++◌, map, length, Option, Some, None, Ok, option_map, arith, refl, sym, subst, ◌∙◌, length-append}
use Rattle.std.specs.Prelude.{All}
use Rattle.std.proofs.lemmas.List.{length-map}
use Rattle.std.proofs.lemmas.List.Elements.{All-nil, All-head, All-tail, All-append, All-map, All-weaker}
use Rattle.aqe_expr.specs.Below.{ColumnsBelow}
use Rattle.aqe_logical.specs.declared.plan.Logical.{Logical}
use Rattle.aqe_logical.specs.WellFormed.{IsLimitCount, IsLimitNumber}
use Rattle.aqe_trees.specs.declared.expression.OrTree.{OrTree}
use Rattle.aqe_trees.specs.declared.query.ItemTree.{ItemTree}
use Rattle.aqe_trees.specs.declared.query.SortTree.{SortTree}
use Rattle.aqe_rules.specs.Outcomes.{Outcome, upon, if_any}
use Rattle.aqe_rules.specs.declared.typed.Typed.{Typed}
use Rattle.aqe_rules.specs.declared.names.Named.{Named}
use Rattle.aqe_rules.specs.Readings.{Call, Place}
use Rattle.aqe_rules.specs.Expressions.{read}
use Rattle.aqe_rules.specs.Limits.{within_limits}
use Rattle.aqe_rules.specs.Sources.{Catalog, Item, From, columns_of, over, condition, kept}
use Rattle.aqe_rules.specs.Selects.{Output, at, with_aliases, outputs, grouping_keys, is_grouped, built, having_condition}
use Rattle.aqe_rules.specs.Plans.{groups_of, filtered_by, fields_of, projected_to, distinct_if, sortings, hidden_columns, keys_of, sorted_by, without_hidden, hidden_output, shown_columns, no_hidden, ordered}
use Rattle.aqe_rules.specs.Unions.{union_of}
use Rattle.aqe_rules.specs.Analysis.{Selected, plan_of, hide, sorted_plan, select_parts, calls_if, select_over, Core, unite_all, union_rule, bounded, cut}
use Rattle.aqe_rules.proofs.Gives.{Gives, IfAny, gives_upon, gives_all, gives_weaker, gives_if_any}
use Rattle.aqe_laws.proofs.OperationsBelow.{Below}
use Rattle.aqe_laws.proofs.Below.{below_more}
use Rattle.aqe_laws.proofs.Readings.{ColumnFits, CallFits, read-fits}
use Rattle.aqe_laws.proofs.Sources.{Whole, whole-items, whole-length, over-fits, condition-below, FromFits, numbered-fit, numbered-length, kept-laid}
use Rattle.aqe_laws.proofs.Selects.{OutputFits, at-fits, aliases-fit, grouping_keys-below, outputs-fit, having-below, after, Ruled, built-below, calls-fit}
use Rattle.aqe_laws.proofs.Plans.{Has, fields-length, groups-laid, filtered-laid, projected-laid, distinct-laid, SortingFits, sortings-fit, hidden-all, keys-below, sorted-laid, without-laid, ordered-laid}
use Rattle.aqe_laws.proofs.Unions.{union-laid}
use Rattle.aqe_laws.proofs.Bounds.{Laid, Bounded, within-bounded}

-- how many columns stand below the output columns of a SELECT with these calls
abbrev under : Selected → List Call → ℕ
under s calls = after s.is_grouped s.keys calls (length s.columns)

-- a SELECT that fits its calls
abbrev SelectedFits : List Call → Selected → Type 0
SelectedFits calls s =
    Has (length s.columns) s.below × Whole s.columns × All (Below (length s.columns)) s.keys ×
    All (OutputFits (under s calls)) s.outputs × IfAny (Below (under s calls)) s.having

distinct-has : (d : Bool) (outputs more : List Output) (plan : Logical) → Has (length (outputs ++ more)) plan → (d ≡ true → length more ≡ 0) →
    Has (length outputs + length more) (distinct_if d (fields_of outputs) plan)
distinct-has true outputs more plan (h, e) none =
    let d : Has (length (fields_of outputs)) (distinct_if true (fields_of outputs) plan) =
    distinct-laid (fields_of outputs) plan h (omega (arith, fields-length outputs, length-append outputs more, e)) in
    (d.0, omega (arith, d.1, fields-length outputs, none refl))
distinct-has false outputs more plan (h, e) none = (h, omega (arith, e, length-append outputs more))

plan_of-has : (s : Selected) (calls : List Call) (more : List Output) → SelectedFits calls s → All (CallFits (length s.columns)) calls →
    All (OutputFits (under s calls)) more → (s.distinct ≡ true → length more ≡ 0) → Has (length s.outputs + length more) (plan_of s calls more)
plan_of-has s calls more (h, whole, keys, outs, having) fit more_fit none =
    distinct-has s.distinct s.outputs more (projected_to (s.outputs ++ more) (filtered_by s.having (groups_of s.is_grouped s.keys calls s.below)))
    (projected-laid (under s calls) (s.outputs ++ more) (filtered_by s.having (groups_of s.is_grouped s.keys calls s.below))
    (filtered-laid (under s calls) s.having (groups_of s.is_grouped s.keys calls s.below) (groups-laid s.is_grouped s.keys calls (length s.columns) s.below h keys fit) having)
    (All-append (OutputFits (under s calls)) s.outputs more outs more_fit)) none

-- a hidden column, which DISTINCT does not allow
abbrev HiddenFits : Selected → List Call → Typed → Type 0
HiddenFits s calls a = Below (under s calls) a × (s.distinct ≡ false)

chosen : (d : Bool) (P : Typed → Type 0) (x y : Outcome Typed) → ((Q : Typed → Type 0) → Gives Q x) → Gives P y → Gives (λ a. P a × (d ≡ false)) (cond d x y)
chosen true P x y h k = h (λ a. P a × (true ≡ false))
chosen false P x y h k = gives_weaker P (λ a. P a × (false ≡ false)) (λ a p. (p, refl)) y k

hide-fits : (s : Selected) (calls : List Call) → SelectedFits calls s → Ruled s.is_grouped calls → (value : OrTree) → Gives (HiddenFits s calls) (hide s calls value)
hide-fits s calls (h, whole, keys, outs, having) ruled value =
    chosen s.distinct (Below (under s calls)) (no_hidden (shown_columns s.outputs) value) (upon (read value (at s.columns calls)).value (built s.is_grouped s.keys s.columns)) (λ Q. tt)
    (gives_upon (Below (length s.columns + length calls)) (Below (under s calls)) (read value (at s.columns calls)).value (built s.is_grouped s.keys s.columns)
    (read-fits value (at s.columns calls) (at-fits s.columns calls whole)).0 (λ a p. built-below s.is_grouped s.keys s.columns calls ruled a p))

no_hidden-distinct : (s : Selected) (calls : List Call) (all : List Typed) → All (HiddenFits s calls) all → s.distinct ≡ true → length (map hidden_output all) ≡ 0
no_hidden-distinct s calls [] h e = refl
no_hidden-distinct s calls (a ∷ all) h e = absurd (let no : ⊥ = true-is-not-false (sym e ∙ (All-head (HiddenFits s calls) a all h).1) in no)
  where
    true-is-not-false : true ≡ false → ⊥
    true-is-not-false p = cc

sorted_plan-laid : (s : Selected) (calls : List Call) (sorts : List SortTree) → SelectedFits calls s → Ruled s.is_grouped calls → All (CallFits (length s.columns)) calls →
    Gives Laid (sorted_plan s calls sorts)
sorted_plan-laid s calls sorts fits ruled fit =
    gives_upon (All (SortingFits (length (shown_columns s.outputs)) (HiddenFits s calls))) Laid (sortings (hide s calls) (shown_columns s.outputs) sorts)
    (λ all. Ok (without_hidden (hidden_columns all) s.outputs (sorted_by (keys_of (length s.outputs) all sorts) (plan_of s calls (map hidden_output (hidden_columns all))))))
    (sortings-fit (HiddenFits s calls) (hide s calls) (hide-fits s calls fits ruled) (shown_columns s.outputs) whole sorts) (λ all p.
    let hs : All (HiddenFits s calls) (hidden_columns all) = hidden-all (length (shown_columns s.outputs)) (HiddenFits s calls) all p in
    let count : length (map hidden_output (hidden_columns all)) ≡ length (hidden_columns all) = length-map (hidden_columns all) hidden_output in
    let plan : Has (length s.outputs + length (map hidden_output (hidden_columns all))) (plan_of s calls (map hidden_output (hidden_columns all))) =
    plan_of-has s calls (map hidden_output (hidden_columns all)) fits fit
    (All-map (OutputFits (under s calls)) hidden_output (hidden_columns all) (All-weaker (HiddenFits s calls) (Below (under s calls)) (λ a q. q.0) (hidden_columns all) hs))
    (no_hidden-distinct s calls (hidden_columns all) hs) in
    without-laid (length s.outputs + length (map hidden_output (hidden_columns all))) (hidden_columns all) s.outputs
    (sorted_by (keys_of (length s.outputs) all sorts) (plan_of s calls (map hidden_output (hidden_columns all))))
    (sorted-laid (length s.outputs + length (map hidden_output (hidden_columns all))) (keys_of (length s.outputs) all sorts) (plan_of s calls (map hidden_output (hidden_columns all))) plan
    (keys-below (length s.outputs + length (map hidden_output (hidden_columns all))) (length (shown_columns s.outputs)) (length s.outputs) (HiddenFits s calls) all sorts
    (omega (arith, shown-length)) (omega (arith, count)) p)) (omega arith))
  where
    shown-length : length (shown_columns s.outputs) ≡ length s.outputs
    shown-length = numbered-length None 0 (fields_of s.outputs) ∙ fields-length s.outputs

    whole : Whole (shown_columns s.outputs)
    whole = numbered-fit (length (shown_columns s.outputs)) None 0 (fields_of s.outputs) (omega (arith, numbered-length None 0 (fields_of s.outputs)))

-- what is known of a SELECT over these items
abbrev SelectedOver : Bool → List Item → List Call → Selected → Type 0
SelectedOver grouped items calls s = SelectedFits calls s × (s.is_grouped ≡ grouped) × (s.columns ≡ columns_of items)

having-fits : (rule : Typed → Outcome Typed) (n m : ℕ) → ((a : Typed) → Below n a → Gives (Below m) (rule a)) → (place : Place) →
    ((value : OrTree) → Gives (ColumnsBelow n) (condition value place)) → (having : Option OrTree) → IfAny (Gives (Below m)) (option_map (having_condition rule place) having)
having-fits rule n m keeps place h None = tt
having-fits rule n m keeps place h (Some value) = having-below rule n m keeps place value (h value)

module _ (distinct : Bool) (list : List ItemTree) (has_from : Bool) (filter : Option OrTree) (group : List OrTree) (having : Option OrTree) (grouped : Bool) (all : List Call) (from : From) where
  abbrev cols : List Named
  cols = columns_of from.items

  abbrev w : ℕ
  w = length cols

  abbrev made : Logical → List Typed → List Output → Option Typed → Selected
  made below keys outs cond = record { below = below; columns = cols; is_grouped = grouped; keys = keys; outputs = outs; having = cond; distinct = distinct }

  abbrev with_outputs : Logical → List Typed → List Output → Outcome Selected
  with_outputs below keys outs = upon (if_any (option_map (having_condition (built grouped keys cols) (with_aliases cols list all)) having)) (λ cond. Ok (made below keys outs cond))

  abbrev with_keys : Logical → List Typed → Outcome Selected
  with_keys below keys = upon (outputs (built grouped keys cols) has_from from.items (at cols all) 0 list) (λ outs. with_outputs below keys outs)

  abbrev Fine : Selected → Type 0
  Fine = SelectedOver grouped from.items all

  pub parts-fit : FromFits from → Ruled grouped all → Gives Fine (select_parts distinct list has_from filter group having grouped all from)
  parts-fit (h, e) ruled =
      gives_upon (Has w) Fine (kept filter (with_aliases cols list []) from.plan)
      (λ below. upon (grouping_keys has_from from.items (with_aliases cols list []) list group) (λ keys. with_keys below keys))
      (kept-laid filter (with_aliases cols list []) from.plan w (aliases-fit cols list [] (whole-items from.items)) (omega (arith, whole-length from.items, e)) (omega (arith, whole-length from.items, e)) h) (λ below p.
      gives_upon (All (Below w)) Fine (grouping_keys has_from from.items (with_aliases cols list []) list group) (λ keys. with_keys below keys)
      (grouping_keys-below has_from from.items list group) (λ keys q.
      gives_upon (All (OutputFits (after grouped keys all w))) Fine (outputs (built grouped keys cols) has_from from.items (at cols all) 0 list) (λ outs. with_outputs below keys outs)
      (outputs-fit (built grouped keys cols) (w + length all) (after grouped keys all w) (built-below grouped keys cols all ruled) has_from from.items (at cols all) 0 wide wide
      (λ value. (read-fits value (at cols all) (at-fits cols all (whole-items from.items))).0) list) (λ outs r.
      gives_upon (IfAny (Below (after grouped keys all w))) Fine (if_any (option_map (having_condition (built grouped keys cols) (with_aliases cols list all)) having)) (λ cond. Ok (made below keys outs cond))
      (gives_if_any (Below (after grouped keys all w)) (option_map (having_condition (built grouped keys cols) (with_aliases cols list all)) having)
      (having-fits (built grouped keys cols) (w + length all) (after grouped keys all w) (built-below grouped keys cols all ruled) (with_aliases cols list all)
      (λ value. condition-below value (with_aliases cols list all) (aliases-fit cols list all (whole-items from.items))) having)) (λ cond t.
      ((p, whole-items from.items, q, r, t), refl, refl)))))
    where
      wide : All (ColumnFits (w + length all)) cols
      wide = All-weaker (ColumnFits w) (ColumnFits (w + length all)) (λ c k. below_more w (w + length all) (omega arith) c.value.expr k) cols (whole-items from.items)

-- the calls of a query over these items
calls_if-fit : (b : Bool) (items : List Item) (list : List ItemTree) (having : Option OrTree) (sorts : List SortTree) → All (CallFits (length (columns_of items))) (calls_if b items list having sorts)
calls_if-fit true items list having sorts =
    calls-fit (over (columns_of items)) (with_aliases (columns_of items) list []) (over-fits (columns_of items) (whole-items items)) (aliases-fit (columns_of items) list [] (whole-items items)) refl list having sorts
calls_if-fit false items list having sorts = All-nil (CallFits (length (columns_of items)))

pub calls_if-ruled : (b : Bool) (items : List Item) (list : List ItemTree) (having : Option OrTree) (sorts : List SortTree) → Ruled b (calls_if b items list having sorts)
calls_if-ruled true items list having sorts = tt
calls_if-ruled false items list having sorts = refl

abbrev AnyPlan : Logical → Type 0
AnyPlan q = Unit {0}

select-laid : (b : Bool) (distinct : Bool) (list : List ItemTree) (has_from : Bool) (filter : Option OrTree) (group : List OrTree) (having : Option OrTree) (sorts : List SortTree) (from : From) → FromFits from →
    Gives Laid (upon (select_parts distinct list has_from filter group having b (calls_if b from.items list having sorts) from) (λ s.
    upon (within_limits (plan_of s (calls_if s.is_grouped from.items list having []) [])) (λ plan. sorted_plan s (calls_if s.is_grouped from.items list having sorts) sorts)))
select-laid b distinct list has_from filter group having sorts from fits =
    gives_upon (SelectedOver b from.items (calls_if b from.items list having sorts)) Laid (select_parts distinct list has_from filter group having b (calls_if b from.items list having sorts) from)
    (λ s. upon (within_limits (plan_of s (calls_if s.is_grouped from.items list having []) [])) (λ plan. sorted_plan s (calls_if s.is_grouped from.items list having sorts) sorts))
    (parts-fit distinct list has_from filter group having b (calls_if b from.items list having sorts) from fits (calls_if-ruled b from.items list having sorts)) (λ s p.
    gives_upon AnyPlan Laid (within_limits (plan_of s (calls_if s.is_grouped from.items list having []) [])) (λ plan. sorted_plan s (calls_if s.is_grouped from.items list having sorts) sorts)
    (gives_all AnyPlan (λ q. tt) (within_limits (plan_of s (calls_if s.is_grouped from.items list having []) []))) (λ plan u.
    subst (λ g. Gives Laid (sorted_plan s (calls_if g from.items list having sorts) sorts)) (sym p.1)
    (sorted_plan-laid s (calls_if b from.items list having sorts) sorts p.0
    (subst (λ g. Ruled g (calls_if b from.items list having sorts)) (sym p.1) (calls_if-ruled b from.items list having sorts))
    (subst (λ cs. All (CallFits (length cs)) (calls_if b from.items list having sorts)) (sym p.2) (calls_if-fit b from.items list having sorts)))))

pub select_over-laid : (distinct : Bool) (list : List ItemTree) (has_from : Bool) (filter : Option OrTree) (group : List OrTree) (having : Option OrTree) (sorts : List SortTree) (from : From) → FromFits from →
    Gives Laid (select_over distinct list has_from filter group having sorts from)
select_over-laid distinct list has_from filter group having sorts from fits = select-laid (is_grouped list group having sorts) distinct list has_from filter group having sorts from fits

-- what a core gives is laid out right
abbrev pub CoreFits : Core → Type 0
CoreFits c = (catalog : Catalog) (sorts : List SortTree) → Gives Laid (c catalog sorts)

abbrev pub NextFits : (Bool × Core) → Type 0
NextFits next = CoreFits next.1

unite_all-laid : (catalog : Catalog) (left : Outcome Logical) (cs : List (Bool × Core)) → Gives Laid left → All NextFits cs → Gives Laid (unite_all catalog left cs)
unite_all-laid catalog left [] h all = h
unite_all-laid catalog left (c ∷ cs) h all =
    unite_all-laid catalog (upon left (λ l. upon (c.1 catalog []) (λ r. union_of c.0 l r))) cs
    (gives_upon Laid Laid left (λ l. upon (c.1 catalog []) (λ r. union_of c.0 l r)) h (λ l p.
    gives_upon Laid Laid (c.1 catalog []) (λ r. union_of c.0 l r) (All-head NextFits c cs all catalog []) (λ r q. union-laid c.0 l r p q)))
    (All-tail NextFits c cs all)

pub union_rule-laid : (first : Core) (cs : List (Bool × Core)) → CoreFits first → All NextFits cs → CoreFits (union_rule first cs)
union_rule-laid first [] h all catalog sorts = h catalog sorts
union_rule-laid first (c ∷ cs) h all catalog sorts =
    gives_upon Laid Laid (unite_all catalog (first catalog []) (c ∷ cs)) (ordered sorts)
    (unite_all-laid catalog (first catalog []) (c ∷ cs) (h catalog []) all) (λ plan p. ordered-laid sorts plan p)

pub paren-laid : (query : Catalog → Outcome Logical) → ((catalog : Catalog) → Gives Laid (query catalog)) → (catalog : Catalog) (sorts : List SortTree) → Gives Laid (upon (query catalog) (ordered sorts))
paren-laid query h catalog sorts = gives_upon Laid Laid (query catalog) (ordered sorts) (h catalog) (λ plan p. ordered-laid sorts plan p)

-- LIMIT
bounded-number : (n : ℕ) → IsLimitNumber (bounded n)
bounded-number n = omega arith

bounded-count : (n : Option ℕ) → IsLimitCount (option_map bounded n)
bounded-count None = tt
bounded-count (Some n) = bounded-number n

cut-laid : (limit offset : Option ℕ) (plan : Logical) → Laid plan → Laid (cut limit offset plan)
cut-laid None None plan h = h
cut-laid None (Some m) plan h = (h, tt, bounded-number m)
cut-laid (Some n) None plan h = (h, bounded-number n, bounded-number 0)
cut-laid (Some n) (Some m) plan h = (h, bounded-number n, bounded-number m)

abbrev pub Done : Logical → Type 0
Done p = Laid p × Bounded p

pub query-done : (union : Core) (sorts : List SortTree) (limit offset : Option ℕ) (catalog : Catalog) → CoreFits union →
    Gives Done (upon (union catalog sorts) (λ plan. within_limits (cut limit offset plan)))
query-done union sorts limit offset catalog h =
    gives_upon Laid Done (union catalog sorts) (λ plan. within_limits (cut limit offset plan)) (h catalog sorts) (λ plan p. within-bounded Laid (cut limit offset plan) (cut-laid limit offset plan p))
