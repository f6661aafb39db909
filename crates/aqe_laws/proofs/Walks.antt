-- What holds of the plan of each query, where each form of a plan keeps it.
use Rattle.std.proofs.Common.{◌≡◌, ℕ, Bool, true, false, not, List, [], ◌∷◌, ◌++◌, map, length, Option, Some, None, Ok, Err, option_map, refl, sym, ap, subst}
use Rattle.std.specs.Prelude.{All, nat_le, ◌==◌}
use Rattle.std.specs.Option.{unwrap_or}
use Rattle.std.proofs.lemmas.List.Elements.{All-nil, All-cons, All-head, All-tail, All-map}
use Rattle.aqe_base.specs.declared.join_kind.JoinKind.{JoinKind}
use Rattle.aqe_base.specs.declared.join_kind.JoinKind.TheVariants.{Cross}
use Rattle.aqe_base.specs.declared.status.AnalysisKind.TheVariants.{UnionWidth}
use Rattle.aqe_values.specs.declared.schema.Field.{Field}
use Rattle.aqe_values.specs.declared.sql_type.SqlType.{SqlType}
use Rattle.aqe_expr.specs.declared.expr.Expr.{Expr}
use Rattle.aqe_logical.specs.declared.plan.AggCall.{AggCall}
use Rattle.aqe_logical.specs.declared.plan.SortKey.{SortKey}
use Rattle.aqe_logical.specs.declared.plan.Logical.{Logical, OneRow, Scan}
use Rattle.aqe_logical.specs.Shapes.{filtered, projected, joined, aggregated, united, sorted, limited}
use Rattle.aqe_logical.specs.Columns.{schema_of}
use Rattle.aqe_logical.specs.WellFormed.{column_limit}
use Rattle.aqe_trees.specs.declared.expression.OrTree.{OrTree}
use Rattle.aqe_trees.specs.declared.query.QueryTree.{QueryTree, ind-QueryTree, roll-QueryTree}
use Rattle.aqe_trees.specs.declared.query.UnionTree.{UnionTree, roll-UnionTree}
use Rattle.aqe_trees.specs.declared.query.CoreTree.{CoreTree, CoreTree-F, roll-CoreTree}
use Rattle.aqe_trees.specs.declared.query.CoreTree.TheVariants as core
use Rattle.aqe_trees.specs.declared.query.CoreTree.TheVariants.{rolls-Paren, rolls-Select}
use Rattle.aqe_trees.specs.declared.query.SelectTree.{SelectTree, roll-SelectTree}
use Rattle.aqe_trees.specs.declared.query.JoinedTree.{JoinedTree, roll-JoinedTree}
use Rattle.aqe_trees.specs.declared.query.JoinStep.{JoinStep, roll-JoinStep}
use Rattle.aqe_trees.specs.declared.query.SourceTree.{SourceTree, SourceTree-F, roll-SourceTree}
use Rattle.aqe_trees.specs.declared.query.SourceTree.TheVariants as source
use Rattle.aqe_trees.specs.declared.query.SourceTree.TheVariants.{rolls-Table, rolls-Paren as rolls-Query}
use Rattle.aqe_trees.specs.declared.query.ItemTree.{ItemTree}
use Rattle.aqe_trees.specs.declared.query.SortTree.{SortTree}
use Rattle.aqe_trees.specs.Shapes.{query_tree, union_tree, select_tree, joined_tree, join_step}
use Rattle.aqe_rules.specs.Outcomes.{refused, Outcome, upon, provided, if_any, too_many_operators, too_many_columns}
use Rattle.aqe_rules.specs.declared.typed.Typed.{Typed}
use Rattle.aqe_rules.specs.declared.names.Named.{Named}
use Rattle.aqe_rules.specs.Readings.{Call, Place}
use Rattle.aqe_rules.specs.Limits.{operator_limit, operator_count, most_columns, within_limits}
use Rattle.aqe_rules.specs.QueryForms.{Step}
use Rattle.aqe_rules.specs.QueryTrees.{made_of_query, made_of_union, made_of_core, made_of_select, made_of_joined, made_of_step, made_of_source}
use Rattle.aqe_rules.specs.Sources.{Catalog, From, item, from_of, columns_of, numbered, condition, table_named, scanned, table_source, query_source, join_condition, joined_items, join, join_all, cross_all, from_all, kept}
use Rattle.aqe_rules.specs.Selects.{Output, at, with_aliases, outputs, grouping_keys, is_grouped, is_empty, built, having_condition}
use Rattle.aqe_rules.specs.Plans.{aggregate_fields, groups_of, filtered_by, fields_of, projected_to, columns_up_to, distinct_if, sortings, hidden_columns, keys_of, sorted_by, without_hidden, hidden_output, shown_columns, no_hidden, ordered}
use Rattle.aqe_rules.specs.Unions.{common_kinds, has_kinds, cast_columns, cast_fields, cast_side, union_of}
use Rattle.aqe_rules.specs.Analysis.{Selected, plan_of, hide, sorted_plan, select_parts, calls_if, select_over, Core, unite_all, union_rule, bounded, cut, rules, walk}
use Rattle.aqe_rules.proofs.Gives.{Gives, IfAny, gives_upon, gives_provided}
use Rattle.aqe_rules.proofs.QueryLevels as level
use Rattle.aqe_laws.proofs.OperationsBelow.{either_one}

-- Induction over queries, by the parts of each tree.

-- what holds of each tree of a query where it holds of the trees that it is made of
pub record Parts (OfCore : CoreTree → Type 0) (OfSource : SourceTree → Type 0) (OfStep : JoinStep → Type 0) (OfJoined : JoinedTree → Type 0) (OfQuery : QueryTree → Type 0) (OfSelect : SelectTree → Type 0) (OfUnion : UnionTree → Type 0) : Type 0 where
  pub paren : (query : QueryTree) → OfQuery query → OfCore (core.Paren query)
  pub lone : (select : SelectTree) → OfSelect select → OfCore (core.Select select)
  pub table : (name : List ℕ) (alias : Option (List ℕ)) → OfSource (source.Table name alias)
  pub subquery : (query : QueryTree) (alias : Option (List ℕ)) → OfQuery query → OfSource (source.Paren query alias)
  pub step : (kind : JoinKind) (from : SourceTree) (on : Option OrTree) → OfSource from → OfStep (join_step kind from on)
  pub chain : (first : SourceTree) (rest : List JoinStep) → OfSource first → All OfStep rest → OfJoined (joined_tree first rest)
  pub whole : (body : UnionTree) (order : List SortTree) (limit offset : Option ℕ) → OfUnion body → OfQuery (query_tree body order limit offset)
  pub select : (distinct : Bool) (items : List ItemTree) (from : List JoinedTree) (filter : Option OrTree) (group : List OrTree) (having : Option OrTree) → All OfJoined from → OfSelect (select_tree distinct items from filter group having)
  pub union : (first : CoreTree) (rest : List (Bool × CoreTree)) → OfCore first → All (λ next. OfCore next.1) rest → OfUnion (union_tree first rest)

-- trees of one level, each with its proof
each_proved : {X : Type 0} (R : X → Type 0) (all : List ((x : X) × R x)) → All R (map (λ e. e.0) all)
each_proved R [] = All-nil R
each_proved R (e ∷ es) = All-cons R e.0 (map (λ d. d.0) es) e.1 (each_proved R es)

next_proved : (R : CoreTree → Type 0) (all : List (Bool × ((t : CoreTree) × R t))) → All (λ (next : Bool × CoreTree). R next.1) (map (λ (e : Bool × ((t : CoreTree) × R t)). (e.0, (e.1).0)) all)
next_proved R [] = All-nil (λ (next : Bool × CoreTree). R next.1)
next_proved R (e ∷ es) = All-cons (λ (next : Bool × CoreTree). R next.1) (e.0, (e.1).0) (map (λ (d : Bool × ((t : CoreTree) × R t)). (d.0, (d.1).0)) es) (e.1).1 (next_proved R es)

module _ (OfCore : CoreTree → Type 0) (OfSource : SourceTree → Type 0) (OfStep : JoinStep → Type 0) (OfJoined : JoinedTree → Type 0) (OfQuery : QueryTree → Type 0) (OfSelect : SelectTree → Type 0) (OfUnion : UnionTree → Type 0)
    (p : Parts OfCore OfSource OfStep OfJoined OfQuery OfSelect OfUnion) where
  pub each_query : (t : QueryTree) → OfQuery t
  each_query = ind-QueryTree OfCore OfSource OfStep OfJoined OfQuery OfSelect OfUnion
      (λ x. elim [
        | CoreTree-F.«CoreTree::Paren» q ↦ λ is. subst OfCore (ap roll-CoreTree is) (subst OfCore (sym (rolls-Paren q.0)) (p.paren q.0 q.1))
        | CoreTree-F.Select s ↦ λ is. subst OfCore (ap roll-CoreTree is) (subst OfCore (sym (rolls-Select s.0)) (p.lone s.0 s.1))
      ])
      (λ x. elim [
        | SourceTree-F.Table name alias ↦ λ is. subst OfSource (ap roll-SourceTree is) (subst OfSource (sym (rolls-Table name alias)) (p.table name alias))
        | SourceTree-F.«SourceTree::Paren» q alias ↦ λ is. subst OfSource (ap roll-SourceTree is) (subst OfSource (sym (rolls-Query q.0 alias)) (p.subquery q.0 alias q.1))
      ])
      (λ x y is. subst OfStep (ap roll-JoinStep is) (p.step y.kind y.source.0 y.on y.source.1))
      (λ x y is. subst OfJoined (ap roll-JoinedTree is) (p.chain y.first.0 (map (λ e. e.0) y.rest) y.first.1 (each_proved OfStep y.rest)))
      (λ x y is. subst OfQuery (ap roll-QueryTree is) (p.whole y.body.0 y.order y.limit y.offset y.body.1))
      (λ x y is. subst OfSelect (ap roll-SelectTree is) (p.select y.distinct y.items (map (λ e. e.0) y.from) y.filter y.group y.having (each_proved OfJoined y.from)))
      (λ x y is. subst OfUnion (ap roll-UnionTree is) (p.union y.first.0 (map (λ e. (e.0, (e.1).0)) y.rest) y.first.1 (next_proved OfCore y.rest)))

-- Steps of the walk that keep what holds of a plan.

-- whatever the first step gives
pub gives_after : {T U : Type 0} (Q : U → Type 0) (o : Outcome T) (next : T → Outcome U) → ((t : T) → Gives Q (next t)) → Gives Q (upon o next)
gives_after Q o next k = gives_upon (λ t. Unit {0}) Q o next (any o) (λ t u. k t)
  where
    any : {T : Type 0} (o : Outcome T) → Gives (λ t. Unit {0}) o
    any (Ok t) = tt
    any (Err check) = tt

pub limits-keep : (P : Logical → Type 0) (p : Logical) → P p → Gives P (within_limits p)
limits-keep P p h =
    gives_provided P (nat_le (operator_count p) operator_limit) too_many_operators (provided (nat_le (most_columns p) column_limit) too_many_columns (Ok p))
    (gives_provided P (nat_le (most_columns p) column_limit) too_many_columns (Ok p) h)

-- FROM and WHERE of a SELECT
abbrev From_of : (Logical → Type 0) → From → Type 0
From_of P f = P f.plan

query_source-keeps : (P : Logical → Type 0) (alias : Option (List ℕ)) (query : Outcome Logical) → Gives P query → Gives (From_of P) (query_source alias query)
query_source-keeps P alias query h = gives_upon P (From_of P) query (λ plan. Ok (from_of plan (item alias (schema_of plan) ∷ []))) h (λ p k. k)

scanned-keeps : (P : Logical → Type 0) (name : List ℕ) (alias : Option (List ℕ)) (table : Option (ℕ × List Field)) → IfAny (λ t. P (Scan t.0 t.1)) table → Gives (From_of P) (scanned name alias table)
scanned-keeps P name alias None h = tt
scanned-keeps P name alias (Some table) h =
    gives_upon P (From_of P) (within_limits (Scan table.0 table.1)) (λ plan. Ok (from_of plan (item (Some (unwrap_or alias name)) table.1 ∷ [])))
    (limits-keep P (Scan table.0 table.1) h) (λ p k. k)

-- a filter keeps P
abbrev Filters : (Logical → Type 0) → Type 0
Filters P = (condition : Expr) (p : Logical) → P p → P (filtered condition p)

kept-keeps : (P : Logical → Type 0) → Filters P → (filter : Option OrTree) (place : Place) (plan : Logical) → P plan → Gives P (kept filter place plan)
kept-keeps P filters None place plan h = h
kept-keeps P filters (Some tree) place plan h = gives_after P (condition tree place) (λ a. Ok (filtered a plan)) (λ a. filters a plan h)

module _ (distinct : Bool) (list : List ItemTree) (has_from : Bool) (filter : Option OrTree) (group : List OrTree) (having : Option OrTree) (grouped : Bool) (all : List Call) (from : From) (P : Logical → Type 0) where
  abbrev cols : List Named
  cols = columns_of from.items

  abbrev made : Logical → List Typed → List Output → Option Typed → Selected
  made below keys outs cond = record { below = below; columns = cols; is_grouped = grouped; keys = keys; outputs = outs; having = cond; distinct = distinct }

  abbrev with_outputs : Logical → List Typed → List Output → Outcome Selected
  with_outputs below keys outs = upon (if_any (option_map (having_condition (built grouped keys cols) (with_aliases cols list all)) having)) (λ cond. Ok (made below keys outs cond))

  abbrev with_keys : Logical → List Typed → Outcome Selected
  with_keys below keys = upon (outputs (built grouped keys cols) has_from from.items (at cols all) 0 list) (λ outs. with_outputs below keys outs)

  -- what is known of the SELECT
  abbrev Known : Selected → Type 0
  Known s = P s.below × (s.distinct ≡ distinct) × (s.is_grouped ≡ grouped)

  parts-keep : Filters P → P from.plan → Gives Known (select_parts distinct list has_from filter group having grouped all from)
  parts-keep filters h =
      gives_upon P Known (kept filter (with_aliases cols list []) from.plan)
      (λ below. upon (grouping_keys has_from from.items (with_aliases cols list []) list group) (λ keys. with_keys below keys))
      (kept-keeps P filters filter (with_aliases cols list []) from.plan h) (λ below p.
      gives_after Known (grouping_keys has_from from.items (with_aliases cols list []) list group) (λ keys. with_keys below keys) (λ keys.
      gives_after Known (outputs (built grouped keys cols) has_from from.items (at cols all) 0 list) (λ outs. with_outputs below keys outs) (λ outs.
      gives_after Known (if_any (option_map (having_condition (built grouped keys cols) (with_aliases cols list all)) having)) (λ cond. Ok (made below keys outs cond)) (λ cond.
      (p, refl, refl)))))

-- a SELECT gives what its ORDER BY makes of a plan over FROM and WHERE
select-keeps : (P Q : Logical → Type 0) (distinct : Bool) (list : List ItemTree) (has_from : Bool) (filter : Option OrTree) (group : List OrTree) (having : Option OrTree) (sorts : List SortTree) (grouped : Bool) (from : From) →
    Filters P → P from.plan →
    ((s : Selected) (calls : List Call) → P s.below → s.distinct ≡ distinct → s.is_grouped ≡ grouped → Gives Q (sorted_plan s calls sorts)) →
    Gives Q (upon (select_parts distinct list has_from filter group having grouped (calls_if grouped from.items list having sorts) from) (λ s.
    upon (within_limits (plan_of s (calls_if s.is_grouped from.items list having []) [])) (λ plan. sorted_plan s (calls_if s.is_grouped from.items list having sorts) sorts)))
select-keeps P Q distinct list has_from filter group having sorts grouped from filters h finish =
    gives_upon (λ s. P s.below × (s.distinct ≡ distinct) × (s.is_grouped ≡ grouped)) Q (select_parts distinct list has_from filter group having grouped (calls_if grouped from.items list having sorts) from)
    (λ s. upon (within_limits (plan_of s (calls_if s.is_grouped from.items list having []) [])) (λ plan. sorted_plan s (calls_if s.is_grouped from.items list having sorts) sorts))
    (parts-keep distinct list has_from filter group having grouped (calls_if grouped from.items list having sorts) from P filters h) (λ s k.
    gives_after Q (within_limits (plan_of s (calls_if s.is_grouped from.items list having []) [])) (λ plan. sorted_plan s (calls_if s.is_grouped from.items list having sorts) sorts) (λ plan.
    finish s (calls_if s.is_grouped from.items list having sorts) k.0 k.1 k.2))

-- each form of a plan keeps P
pub record PlanKeeps (P : Logical → Type 0) : Type 0 where
  pub one_row : P OneRow
  pub filtered_keeps : Filters P
  pub projected_keeps : (items : List Expr) (schema : List Field) (p : Logical) → P p → P (projected items schema p)
  pub joined_keeps : (kind : JoinKind) (condition : Expr) (l r : Logical) → P l → P r → P (joined kind condition l r)
  pub aggregated_keeps : (keys : List Expr) (calls : List AggCall) (schema : List Field) (p : Logical) → P p → P (aggregated keys calls schema p)
  pub united_keeps : (l r : Logical) → P l → P r → P (united l r)
  pub sorted_keeps : (keys : List SortKey) (p : Logical) → P p → P (sorted keys p)
  pub limited_keeps : (count : Option ℕ) (skip : ℕ) (p : Logical) → P p → P (limited count skip p)

module _ (P : Logical → Type 0) (keeps : PlanKeeps P) where
  abbrev FromHolds : From → Type 0
  FromHolds f = P f.plan

  join-holds : (kind : JoinKind) (on : Option OrTree) (l r : From) → FromHolds l → FromHolds r → Gives FromHolds (join kind on l r)
  join-holds kind on l r h k =
      gives_after FromHolds (join_condition on (l.items ++ r.items))
      (λ on. upon (within_limits (joined kind on l.plan r.plan)) (λ plan. Ok (from_of plan (joined_items kind l.items r.items)))) (λ e.
      gives_upon P FromHolds (within_limits (joined kind e l.plan r.plan)) (λ plan. Ok (from_of plan (joined_items kind l.items r.items)))
      (limits-keep P (joined kind e l.plan r.plan) (keeps.joined_keeps kind e l.plan r.plan h k)) (λ p q. q))

  groups-hold : (grouped : Bool) (keys : List Typed) (calls : List Call) (plan : Logical) → P plan → P (groups_of grouped keys calls plan)
  groups-hold true keys calls plan h = keeps.aggregated_keeps (map (λ k. k.expr) keys) (map (λ c. c.call) calls) (aggregate_fields keys calls) plan h
  groups-hold false keys calls plan h = h

  filtered-holds : (a : Option Typed) (plan : Logical) → P plan → P (filtered_by a plan)
  filtered-holds None plan h = h
  filtered-holds (Some a) plan h = keeps.filtered_keeps a.expr plan h

  distinct-holds : (distinct : Bool) (fields : List Field) (plan : Logical) → P plan → P (distinct_if distinct fields plan)
  distinct-holds true fields plan h = keeps.aggregated_keeps (columns_up_to 0 fields) [] fields plan h
  distinct-holds false fields plan h = h

  plan_of-holds : (s : Selected) (calls : List Call) (more : List Output) → P s.below → P (plan_of s calls more)
  plan_of-holds s calls more h =
      distinct-holds s.distinct (fields_of s.outputs) (projected_to (s.outputs ++ more) (filtered_by s.having (groups_of s.is_grouped s.keys calls s.below)))
      (keeps.projected_keeps (map (λ o. o.value.expr) (s.outputs ++ more)) (fields_of (s.outputs ++ more)) (filtered_by s.having (groups_of s.is_grouped s.keys calls s.below))
      (filtered-holds s.having (groups_of s.is_grouped s.keys calls s.below) (groups-hold s.is_grouped s.keys calls s.below h)))

  sorted-holds : (keys : List SortKey) (plan : Logical) → P plan → P (sorted_by keys plan)
  sorted-holds [] plan h = h
  sorted-holds (first ∷ rest) plan h = keeps.sorted_keeps (first ∷ rest) plan h

  without-holds : (more : List Typed) (outputs : List Output) (plan : Logical) → P plan → P (without_hidden more outputs plan)
  without-holds [] outputs plan h = h
  without-holds (a ∷ more) outputs plan h = keeps.projected_keeps (columns_up_to 0 (fields_of outputs)) (fields_of outputs) plan h

  ordered-holds : (sorts : List SortTree) (plan : Logical) → P plan → Gives P (ordered sorts plan)
  ordered-holds sorts plan h =
      gives_after P (sortings (no_hidden (numbered None 0 (schema_of plan))) (numbered None 0 (schema_of plan)) sorts)
      (λ all. Ok (sorted_by (keys_of 0 all sorts) plan)) (λ all. sorted-holds (keys_of 0 all sorts) plan h)

  sorted_plan-holds : (s : Selected) (calls : List Call) (sorts : List SortTree) → P s.below → Gives P (sorted_plan s calls sorts)
  sorted_plan-holds s calls sorts h =
      gives_after P (sortings (hide s calls) (shown_columns s.outputs) sorts)
      (λ all. Ok (without_hidden (hidden_columns all) s.outputs (sorted_by (keys_of (length s.outputs) all sorts) (plan_of s calls (map hidden_output (hidden_columns all)))))) (λ all.
      without-holds (hidden_columns all) s.outputs (sorted_by (keys_of (length s.outputs) all sorts) (plan_of s calls (map hidden_output (hidden_columns all))))
      (sorted-holds (keys_of (length s.outputs) all sorts) (plan_of s calls (map hidden_output (hidden_columns all))) (plan_of-holds s calls (map hidden_output (hidden_columns all)) h)))

  select-holds : (distinct : Bool) (list : List ItemTree) (has_from : Bool) (filter : Option OrTree) (group : List OrTree) (having : Option OrTree) (sorts : List SortTree) (from : From) → FromHolds from →
      Gives P (select_over distinct list has_from filter group having sorts from)
  select-holds distinct list has_from filter group having sorts from h =
      select-keeps P P distinct list has_from filter group having sorts (is_grouped list group having sorts) from keeps.filtered_keeps h
      (λ s calls below d g. sorted_plan-holds s calls sorts below)

  side-holds : (kinds : List SqlType) (plan : Logical) → P plan → P (cast_side kinds plan)
  side-holds kinds plan h =
      either_one P (has_kinds kinds (schema_of plan)) plan (projected (cast_columns 0 kinds (schema_of plan)) (cast_fields kinds (schema_of plan)) plan) h
      (keeps.projected_keeps (cast_columns 0 kinds (schema_of plan)) (cast_fields kinds (schema_of plan)) plan h)

  union-holds : (distinct : Bool) (left right : Logical) → P left → P right → Gives P (union_of distinct left right)
  union-holds distinct left right h k =
      gives_after P (common_kinds (schema_of left) (schema_of right))
      (λ kinds. provided (length (schema_of left) == length (schema_of right)) (refused UnionWidth [])
      (within_limits (distinct_if distinct (schema_of (cast_side kinds left)) (united (cast_side kinds left) (cast_side kinds right))))) (λ kinds.
      gives_provided P (length (schema_of left) == length (schema_of right)) (refused UnionWidth [])
      (within_limits (distinct_if distinct (schema_of (cast_side kinds left)) (united (cast_side kinds left) (cast_side kinds right))))
      (limits-keep P (distinct_if distinct (schema_of (cast_side kinds left)) (united (cast_side kinds left) (cast_side kinds right)))
      (distinct-holds distinct (schema_of (cast_side kinds left)) (united (cast_side kinds left) (cast_side kinds right))
      (keeps.united_keeps (cast_side kinds left) (cast_side kinds right) (side-holds kinds left h) (side-holds kinds right k)))))

  cut-holds : (limit offset : Option ℕ) (plan : Logical) → P plan → P (cut limit offset plan)
  cut-holds None None plan h = h
  cut-holds None (Some n) plan h = keeps.limited_keeps None (bounded n) plan h
  cut-holds (Some n) None plan h = keeps.limited_keeps (Some (bounded n)) (bounded 0) plan h
  cut-holds (Some n) (Some o) plan h = keeps.limited_keeps (Some (bounded n)) (bounded o) plan h

-- The same of a P that looks at the catalog, where a scan of a table of the catalog has it.
module _ (P : Catalog → Logical → Type 0) (keeps : (catalog : Catalog) → PlanKeeps (P catalog))
    (scans : (catalog : Catalog) (name : List ℕ) → IfAny (λ t. P catalog (Scan t.0 t.1)) (table_named name catalog 0)) where
  abbrev QueryHolds : (Catalog → Outcome Logical) → Type 0
  QueryHolds query = (catalog : Catalog) → Gives (P catalog) (query catalog)

  abbrev CoreHolds : Core → Type 0
  CoreHolds c = (catalog : Catalog) (sorts : List SortTree) → Gives (P catalog) (c catalog sorts)

  abbrev NextHolds : (Bool × Core) → Type 0
  NextHolds next = CoreHolds next.1

  abbrev FromHolds_over : Catalog → From → Type 0
  FromHolds_over catalog f = P catalog f.plan

  abbrev SourceHolds : (Catalog → Outcome From) → Type 0
  SourceHolds from = (catalog : Catalog) → Gives (FromHolds_over catalog) (from catalog)

  abbrev StepHolds : Step (Catalog → Outcome From) → Type 0
  StepHolds s = SourceHolds s.source

  table_source-holds : (name : List ℕ) (alias : Option (List ℕ)) → SourceHolds (table_source name alias)
  table_source-holds name alias catalog = scanned-keeps (P catalog) name alias (table_named name catalog 0) (scans catalog name)

  join_all-holds : (catalog : Catalog) (left : Outcome From) (steps : List (Step (Catalog → Outcome From))) → Gives (FromHolds_over catalog) left → All StepHolds steps →
      Gives (FromHolds_over catalog) (join_all catalog left steps)
  join_all-holds catalog left [] h all = h
  join_all-holds catalog left (j ∷ js) h all =
      join_all-holds catalog (upon left (λ l. upon (j.source catalog) (λ r. join j.kind j.on l r))) js
      (gives_upon (FromHolds_over catalog) (FromHolds_over catalog) left (λ l. upon (j.source catalog) (λ r. join j.kind j.on l r)) h (λ l p.
      gives_upon (FromHolds_over catalog) (FromHolds_over catalog) (j.source catalog) (λ r. join j.kind j.on l r) (All-head StepHolds j js all catalog) (λ r q.
      join-holds (P catalog) (keeps catalog) j.kind j.on l r p q)))
      (All-tail StepHolds j js all)

  cross_all-holds : (catalog : Catalog) (left : Outcome From) (more : List (Catalog → Outcome From)) → Gives (FromHolds_over catalog) left → All SourceHolds more →
      Gives (FromHolds_over catalog) (cross_all catalog left more)
  cross_all-holds catalog left [] h all = h
  cross_all-holds catalog left (j ∷ js) h all =
      cross_all-holds catalog (upon left (λ l. upon (j catalog) (λ r. join Cross None l r))) js
      (gives_upon (FromHolds_over catalog) (FromHolds_over catalog) left (λ l. upon (j catalog) (λ r. join Cross None l r)) h (λ l p.
      gives_upon (FromHolds_over catalog) (FromHolds_over catalog) (j catalog) (λ r. join Cross None l r) (All-head SourceHolds j js all catalog) (λ r q.
      join-holds (P catalog) (keeps catalog) Cross None l r p q)))
      (All-tail SourceHolds j js all)

  from_all-holds : (from : List (Catalog → Outcome From)) → All SourceHolds from → SourceHolds (λ catalog. from_all catalog from)
  from_all-holds [] h catalog = (keeps catalog).one_row
  from_all-holds (j ∷ js) h catalog = cross_all-holds catalog (j catalog) js (All-head SourceHolds j js h catalog) (All-tail SourceHolds j js h)

  unite_all-holds : (catalog : Catalog) (left : Outcome Logical) (cs : List (Bool × Core)) → Gives (P catalog) left → All NextHolds cs → Gives (P catalog) (unite_all catalog left cs)
  unite_all-holds catalog left [] h all = h
  unite_all-holds catalog left (c ∷ cs) h all =
      unite_all-holds catalog (upon left (λ l. upon (c.1 catalog []) (λ r. union_of c.0 l r))) cs
      (gives_upon (P catalog) (P catalog) left (λ l. upon (c.1 catalog []) (λ r. union_of c.0 l r)) h (λ l p.
      gives_upon (P catalog) (P catalog) (c.1 catalog []) (λ r. union_of c.0 l r) (All-head NextHolds c cs all catalog []) (λ r q.
      union-holds (P catalog) (keeps catalog) c.0 l r p q)))
      (All-tail NextHolds c cs all)

  union_rule-holds : (first : Core) (cs : List (Bool × Core)) → CoreHolds first → All NextHolds cs → CoreHolds (union_rule first cs)
  union_rule-holds first [] h all catalog sorts = h catalog sorts
  union_rule-holds first (c ∷ cs) h all catalog sorts =
      gives_upon (P catalog) (P catalog) (unite_all catalog (first catalog []) (c ∷ cs)) (ordered sorts)
      (unite_all-holds catalog (first catalog []) (c ∷ cs) (h catalog []) all) (λ plan p. ordered-holds (P catalog) (keeps catalog) sorts plan p)

  paren-holds : (query : Catalog → Outcome Logical) → QueryHolds query → CoreHolds (rules.paren query)
  paren-holds query h catalog sorts =
      gives_upon (P catalog) (P catalog) (query catalog) (ordered sorts) (h catalog) (λ plan p. ordered-holds (P catalog) (keeps catalog) sorts plan p)

  query-holds : (union : Core) (sorts : List SortTree) (limit offset : Option ℕ) → CoreHolds union → QueryHolds (rules.query union sorts limit offset)
  query-holds union sorts limit offset h catalog =
      gives_upon (P catalog) (P catalog) (union catalog sorts) (λ plan. within_limits (cut limit offset plan)) (h catalog sorts) (λ plan p.
      limits-keep (P catalog) (cut limit offset plan) (cut-holds (P catalog) (keeps catalog) limit offset plan p))

  select_rule-holds : (distinct : Bool) (items : List ItemTree) (from : List (Catalog → Outcome From)) (filter : Option OrTree) (group : List OrTree) (having : Option OrTree) → All SourceHolds from →
      CoreHolds (rules.select distinct items from filter group having)
  select_rule-holds distinct items from filter group having all catalog sorts =
      gives_upon (FromHolds_over catalog) (P catalog) (from_all catalog from) (select_over distinct items (not (is_empty from)) filter group having sorts)
      (from_all-holds from all catalog) (λ f h. select-holds (P catalog) (keeps catalog) distinct items (not (is_empty from)) filter group having sorts f h)

  parts-hold : Parts (λ t. CoreHolds (made_of_core rules t)) (λ t. SourceHolds (made_of_source rules t)) (λ t. StepHolds (made_of_step rules t)) (λ t. SourceHolds (made_of_joined rules t))
      (λ t. QueryHolds (made_of_query rules t)) (λ t. CoreHolds (made_of_select rules t)) (λ t. CoreHolds (made_of_union rules t))
  parts-hold = record {
    paren = λ query h. subst CoreHolds (sym (level.of_core_paren rules query)) (paren-holds (made_of_query rules query) h);
    lone = λ select h. subst CoreHolds (sym (level.of_core_select rules select)) h;
    table = λ name alias. subst SourceHolds (sym (level.of_source_table rules name alias)) (table_source-holds name alias);
    subquery = λ query alias h. subst SourceHolds (sym (level.of_source_paren rules query alias))
        (λ catalog. query_source-keeps (P catalog) alias (made_of_query rules query catalog) (h catalog));
    step = λ kind from on h. subst StepHolds (sym (level.of_step rules kind from on)) h;
    chain = λ first rest h all. subst SourceHolds (sym (level.of_joined rules first rest))
        (λ catalog. join_all-holds catalog (made_of_source rules first catalog) (map (made_of_step rules) rest) (h catalog) (All-map StepHolds (made_of_step rules) rest all));
    whole = λ body order limit offset h. subst QueryHolds (sym (level.of_query rules body order limit offset)) (query-holds (made_of_union rules body) order limit offset h);
    select = λ distinct items from filter group having all. subst CoreHolds (sym (level.of_select rules distinct items from filter group having))
        (select_rule-holds distinct items (map (made_of_joined rules) from) filter group having (All-map SourceHolds (made_of_joined rules) from all));
    union = λ first rest h all. subst CoreHolds (sym (level.of_union rules first rest))
        (union_rule-holds (made_of_core rules first) (map (λ (next : Bool × CoreTree). (next.0, made_of_core rules next.1)) rest) h (All-map NextHolds (λ (next : Bool × CoreTree). (next.0, made_of_core rules next.1)) rest all));
  }

  pub walk-holds : (t : QueryTree) → QueryHolds (walk t)
  walk-holds = each_query (λ t. CoreHolds (made_of_core rules t)) (λ t. SourceHolds (made_of_source rules t)) (λ t. StepHolds (made_of_step rules t)) (λ t. SourceHolds (made_of_joined rules t))
      (λ t. QueryHolds (made_of_query rules t)) (λ t. CoreHolds (made_of_select rules t)) (λ t. CoreHolds (made_of_union rules t)) parts-hold
