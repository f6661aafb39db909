-- The plan of a SELECT with its ORDER BY, over what FROM shows.
use Rattle.std.proofs.Common.{◌≡◌, Bool, cond, List, [], map, length, Option, Some, None, Ok, Err, option_map, arith, refl, sym, subst}
use Rattle.std.specs.Prelude.{All}
use Rattle.std.proofs.lemmas.List.Elements.{All-map, All-weaker}
use Rattle.aqe_values.specs.declared.schema.Field.{Field}
use Rattle.aqe_logical.specs.declared.plan.Logical.{Logical}
use Rattle.aqe_logical.specs.Shapes.{filtered}
use Rattle.aqe_logical.specs.Columns.{schema_of}
use Rattle.aqe_trees.specs.declared.expression.OrTree.{OrTree}
use Rattle.aqe_trees.specs.declared.query.ItemTree.{ItemTree}
use Rattle.aqe_trees.specs.declared.query.SortTree.{SortTree}
use Rattle.aqe_rules.specs.Outcomes.{Outcome, upon, if_any}
use Rattle.aqe_rules.specs.declared.typed.Typed.{Typed}
use Rattle.aqe_rules.specs.declared.names.Named.{Named}
use Rattle.aqe_rules.specs.Readings.{Call}
use Rattle.aqe_rules.specs.Expressions.{read}
use Rattle.aqe_rules.specs.Limits.{within_limits}
use Rattle.aqe_rules.specs.Sources.{Item, From, columns_of, numbered, condition, kept}
use Rattle.aqe_rules.specs.Selects.{Output, at, with_aliases, outputs, grouping_keys, is_grouped, built, having_condition}
use Rattle.aqe_rules.specs.Plans.{fields_of, sortings, hidden_columns, keys_of, sorted_by, without_hidden, hidden_output, shown_columns, no_hidden}
use Rattle.aqe_rules.specs.Analysis.{Selected, plan_of, hide, sorted_plan, select_parts, calls_if, select_over}
use Rattle.aqe_rules.proofs.Gives.{Gives, gives_upon}
use Rattle.aqe_laws.proofs.OperationsBelow.{Below, either_one}
use Rattle.aqe_laws.proofs.Sources.{Whole, numbered-fit, numbered-length}
use Rattle.aqe_laws.proofs.Selects.{Ruled, grouping_keys-below}
use Rattle.aqe_laws.proofs.Plans.{SortingFits, sortings-fit, hidden-all}
use Rattle.aqe_laws.proofs.Queries.{calls_if-ruled}
use Rattle.aqe_laws.proofs.Walks.{gives_after}
use Rattle.aqe_type_laws.specs.Plans.{KeepsTypes}
use Rattle.aqe_type_laws.proofs.OperationsTyped.{Typed_over}
use Rattle.aqe_type_laws.proofs.RowsTyped.{Front, CallTyped}
use Rattle.aqe_type_laws.proofs.ReadingsTyped.{kinds_of, Standing, ColumnTyped, PlaceTyped, read-typed}
use Rattle.aqe_type_laws.proofs.ExpressionsTyped.{place-typed}
use Rattle.aqe_type_laws.proofs.SelectsTyped.{ColumnIs, outputs-are, at-typed, grouping_keys-typed, calls_if-typed}
use Rattle.aqe_type_laws.proofs.GroupsTyped.{fields, row-front, row-length, Under, built-typed}
use Rattle.aqe_type_laws.proofs.PlansTyped.{OutputTyped, RowsOf, select-keeps}

-- both of two properties
gives_both : {T : Type 0} (P Q : T → Type 0) (o : Outcome T) → Gives P o → Gives Q o → Gives (λ t. P t × Q t) o
gives_both P Q (Ok t) h k = (h, k)
gives_both P Q (Err check) h k = tt

-- rows of items
pub items-rows : (items : List Item) → RowsOf (columns_of items) (fields items)
items-rows items row f = (row-front items row f, row-length items row f)

-- the whole of ORDER BY's columns
shown-whole : (fs : List Field) → Whole (numbered None 0 fs)
shown-whole fs = numbered-fit (length (numbered None 0 fs)) None 0 fs (omega (arith, numbered-length None 0 fs))

-- What is known of a SELECT with these calls.
abbrev SelectedTyped : List Call → Selected → Type 0
SelectedTyped calls s =
    KeepsTypes s.below × RowsOf s.columns (schema_of s.below) × All (Typed_over (Front (kinds_of s.columns))) s.keys × All (Below (length s.columns)) s.keys ×
    All (OutputTyped (Under s.is_grouped s.columns s.keys calls)) s.outputs

-- a hidden column
hide-typed : (s : Selected) (calls : List Call) → SelectedTyped calls s → Ruled s.is_grouped calls → PlaceTyped (at s.columns calls) → (value : OrTree) →
    Gives (Typed_over (Under s.is_grouped s.columns s.keys calls)) (hide s calls value)
hide-typed s calls (g, rows, k, below, outs) ruled place value =
    either_one (Gives (Typed_over (Under s.is_grouped s.columns s.keys calls))) s.distinct (no_hidden (shown_columns s.outputs) value)
    (upon (read value (at s.columns calls)).value (built s.is_grouped s.keys s.columns)) tt
    (gives_upon (Typed_over (Standing (kinds_of s.columns) (length s.columns) calls)) (Typed_over (Under s.is_grouped s.columns s.keys calls)) (read value (at s.columns calls)).value (built s.is_grouped s.keys s.columns)
    (read-typed value (at s.columns calls) place).0 (λ a p. built-typed s.is_grouped s.columns s.keys calls ruled below a p))

-- what its hidden columns are
abbrev Hidden : Selected → List Call → Typed → Type 0
Hidden s calls = Typed_over (Under s.is_grouped s.columns s.keys calls)

sorted_plan-keeps : (s : Selected) (calls : List Call) (sorts : List SortTree) → SelectedTyped calls s → Ruled s.is_grouped calls → PlaceTyped (at s.columns calls) → All (CallTyped (kinds_of s.columns)) calls →
    Gives KeepsTypes (sorted_plan s calls sorts)
sorted_plan-keeps s calls sorts (g, rows, k, below, outs) ruled place c =
    gives_upon (All (SortingFits (length (shown_columns s.outputs)) (Hidden s calls))) KeepsTypes (sortings (hide s calls) (shown_columns s.outputs) sorts)
    (λ all. Ok (without_hidden (hidden_columns all) s.outputs (sorted_by (keys_of (length s.outputs) all sorts) (plan_of s calls (map hidden_output (hidden_columns all))))))
    (sortings-fit (Hidden s calls) (hide s calls) (hide-typed s calls (g, rows, k, below, outs) ruled place) (shown_columns s.outputs) (shown-whole (fields_of s.outputs)) sorts) (λ all p.
    select-keeps s.is_grouped s.distinct s.columns s.keys calls s.having s.outputs (map hidden_output (hidden_columns all)) (hidden_columns all) (keys_of (length s.outputs) all sorts) s.below
    rows k c outs (All-map (OutputTyped (Under s.is_grouped s.columns s.keys calls)) hidden_output (hidden_columns all) (hidden-all (length (shown_columns s.outputs)) (Hidden s calls) all p)) g)

-- FROM
abbrev pub FromTyped : From → Type 0
FromTyped f = KeepsTypes f.plan × (schema_of f.plan ≡ fields f.items)

-- WHERE
kept-keeps : (filter : Option OrTree) (from : From) (list : List ItemTree) → FromTyped from →
    Gives (λ p. KeepsTypes p × (schema_of p ≡ fields from.items)) (kept filter (with_aliases (columns_of from.items) list []) from.plan)
kept-keeps None from list h = h
kept-keeps (Some tree) from list (g, e) =
    gives_after (λ p. KeepsTypes p × (schema_of p ≡ fields from.items)) (condition tree (with_aliases (columns_of from.items) list [])) (λ a. Ok (filtered a from.plan))
    (λ a. (g, e))

-- what is known of a SELECT over these items
abbrev SelectedOver : Bool → List Item → List Call → Selected → Type 0
SelectedOver grouped items calls s = SelectedTyped calls s × (s.is_grouped ≡ grouped) × (s.columns ≡ columns_of items)

module _ (distinct : Bool) (list : List ItemTree) (has_from : Bool) (filter : Option OrTree) (group : List OrTree) (having : Option OrTree) (grouped : Bool) (all : List Call) (from : From) where
  abbrev cols : List Named
  cols = columns_of from.items

  abbrev made : Logical → List Typed → List Output → Option Typed → Selected
  made below keys outs cond = record { below = below; columns = cols; is_grouped = grouped; keys = keys; outputs = outs; having = cond; distinct = distinct }

  abbrev with_outputs : Logical → List Typed → List Output → Outcome Selected
  with_outputs below keys outs = upon (if_any (option_map (having_condition (built grouped keys cols) (with_aliases cols list all)) having)) (λ cond. Ok (made below keys outs cond))

  abbrev with_keys : Logical → List Typed → Outcome Selected
  with_keys below keys = upon (outputs (built grouped keys cols) has_from from.items (at cols all) 0 list) (λ outs. with_outputs below keys outs)

  abbrev Fine : Selected → Type 0
  Fine = SelectedOver grouped from.items all

  abbrev FromFront : Typed → Type 0
  FromFront = Typed_over (Front (kinds_of cols))

  abbrev Stand : Typed → Type 0
  Stand = Typed_over (Standing (kinds_of cols) (length cols) all)

  abbrev Below_plan : Logical → Type 0
  Below_plan p = KeepsTypes p × (schema_of p ≡ fields from.items)

  rows-of : (p : Logical) → schema_of p ≡ fields from.items → RowsOf cols (schema_of p)
  rows-of p e = subst (RowsOf cols) (sym e) (items-rows from.items)

  wide : All (ColumnIs Stand) cols
  wide = All-weaker (ColumnTyped (kinds_of cols)) (ColumnIs Stand) (λ c h row r. h row r.0) cols (place-typed from.items).0

  outputs-typed : (keys : List Typed) → Ruled grouped all → All (Below (length cols)) keys →
      Gives (All (OutputTyped (Under grouped cols keys all))) (outputs (built grouped keys cols) has_from from.items (at cols all) 0 list)
  outputs-typed keys ruled below =
      outputs-are Stand (Typed_over (Under grouped cols keys all)) (built grouped keys cols) (λ a h. built-typed grouped cols keys all ruled below a h) has_from from.items (at cols all) 0 wide wide
      (λ value. (read-typed value (at cols all) (at-typed from.items all)).0) list

  pub parts-typed : FromTyped from → Ruled grouped all → Gives Fine (select_parts distinct list has_from filter group having grouped all from)
  parts-typed h ruled =
      gives_upon Below_plan Fine (kept filter (with_aliases cols list []) from.plan)
      (λ below. upon (grouping_keys has_from from.items (with_aliases cols list []) list group) (λ keys. with_keys below keys))
      (kept-keeps filter from list h) (λ below p.
      gives_upon (λ keys. All FromFront keys × All (Below (length cols)) keys) Fine (grouping_keys has_from from.items (with_aliases cols list []) list group) (λ keys. with_keys below keys)
      (gives_both (All FromFront) (All (Below (length cols))) (grouping_keys has_from from.items (with_aliases cols list []) list group)
      (grouping_keys-typed from.items has_from list group) (grouping_keys-below has_from from.items list group)) (λ keys q.
      gives_upon (All (OutputTyped (Under grouped cols keys all))) Fine (outputs (built grouped keys cols) has_from from.items (at cols all) 0 list) (λ outs. with_outputs below keys outs)
      (outputs-typed keys ruled q.1) (λ outs r.
      gives_after Fine (if_any (option_map (having_condition (built grouped keys cols) (with_aliases cols list all)) having)) (λ cond. Ok (made below keys outs cond)) (λ cond.
      ((p.0, rows-of below p.1, q.0, q.1, r), refl, refl)))))

-- a SELECT, where it is known whether it is grouped
select_known-keeps : (b distinct : Bool) (list : List ItemTree) (has_from : Bool) (filter : Option OrTree) (group : List OrTree) (having : Option OrTree) (sorts : List SortTree) (from : From) → FromTyped from →
    Gives KeepsTypes (upon (select_parts distinct list has_from filter group having b (calls_if b from.items list having sorts) from) (λ s.
    upon (within_limits (plan_of s (calls_if s.is_grouped from.items list having []) [])) (λ plan. sorted_plan s (calls_if s.is_grouped from.items list having sorts) sorts)))
select_known-keeps b distinct list has_from filter group having sorts from fits =
    gives_upon (SelectedOver b from.items (calls_if b from.items list having sorts)) KeepsTypes (select_parts distinct list has_from filter group having b (calls_if b from.items list having sorts) from)
    (λ s. upon (within_limits (plan_of s (calls_if s.is_grouped from.items list having []) [])) (λ plan. sorted_plan s (calls_if s.is_grouped from.items list having sorts) sorts))
    (parts-typed distinct list has_from filter group having b (calls_if b from.items list having sorts) from fits (calls_if-ruled b from.items list having sorts)) (λ s p.
    gives_after KeepsTypes (within_limits (plan_of s (calls_if s.is_grouped from.items list having []) [])) (λ plan. sorted_plan s (calls_if s.is_grouped from.items list having sorts) sorts) (λ plan.
    subst (λ g. Gives KeepsTypes (sorted_plan s (calls_if g from.items list having sorts) sorts)) (sym p.1)
    (sorted_plan-keeps s (calls_if b from.items list having sorts) sorts p.0
    (subst (λ g. Ruled g (calls_if b from.items list having sorts)) (sym p.1) (calls_if-ruled b from.items list having sorts))
    (subst (λ cs. PlaceTyped (at cs (calls_if b from.items list having sorts))) (sym p.2) (at-typed from.items (calls_if b from.items list having sorts)))
    (subst (λ cs. All (CallTyped (kinds_of cs)) (calls_if b from.items list having sorts)) (sym p.2) (calls_if-typed from.items b list having sorts)))))

pub select_over-keeps : (distinct : Bool) (list : List ItemTree) (has_from : Bool) (filter : Option OrTree) (group : List OrTree) (having : Option OrTree) (sorts : List SortTree) (from : From) → FromTyped from →
    Gives KeepsTypes (select_over distinct list has_from filter group having sorts from)
select_over-keeps distinct list has_from filter group having sorts from fits = select_known-keeps (is_grouped list group having sorts) distinct list has_from filter group having sorts from fits
