-- The nodes of each query's plan give what their columns say, and answer with rows that fit them.
use Rattle.std.proofs.Common.{◌≡◌, ℕ, Bool, not, cond, true, false, List, [], ◌∷◌, ◌++◌, map, Option, Some, None, Ok, refl, sym, subst, ◌∙◌}
use Rattle.std.specs.Prelude.{All}
use Rattle.std.specs.Option.{unwrap_or}
use Rattle.std.proofs.lemmas.List.{append-nil}
use Rattle.std.proofs.lemmas.Grind.{flat_map-append}
use Rattle.std.proofs.lemmas.List.Elements.{All-head, All-tail, All-map, All-weaker}
use Rattle.aqe_base.specs.declared.join_kind.JoinKind.{JoinKind}
use Rattle.aqe_base.specs.declared.join_kind.JoinKind.TheVariants.{Cross}
use Rattle.aqe_values.specs.declared.schema.Field.{Field}
use Rattle.aqe_logical.specs.declared.plan.Logical.{Logical, Scan}
use Rattle.aqe_logical.specs.Shapes.{joined}
use Rattle.aqe_logical.specs.Columns.{schema_of, shows_right}
use Rattle.aqe_logical.proofs.Nodes.{all_nodes}
use Rattle.aqe_trees.specs.declared.expression.OrTree.{OrTree}
use Rattle.aqe_trees.specs.declared.query.QueryTree.{QueryTree}
use Rattle.aqe_trees.specs.declared.query.CoreTree.{CoreTree}
use Rattle.aqe_trees.specs.declared.query.ItemTree.{ItemTree}
use Rattle.aqe_trees.specs.declared.query.SortTree.{SortTree}
use Rattle.aqe_rules.specs.Outcomes.{Outcome, upon}
use Rattle.aqe_rules.specs.Limits.{within_limits}
use Rattle.aqe_rules.specs.QueryForms.{Step}
use Rattle.aqe_rules.specs.QueryTrees.{made_of_query, made_of_union, made_of_core, made_of_select, made_of_joined, made_of_step, made_of_source}
use Rattle.aqe_rules.specs.Sources.{Catalog, Item, From, item, from_of, numbered, table_named, scanned, query_source, join_condition, joined_items, join, join_all, cross_all, from_all}
use Rattle.aqe_rules.specs.Selects.{is_empty}
use Rattle.aqe_rules.specs.Plans.{sortings, keys_of, sorted_by, no_hidden, ordered}
use Rattle.aqe_rules.specs.Unions.{union_of}
use Rattle.aqe_rules.specs.Analysis.{select_over, Core, unite_all, union_rule, cut, rules, walk}
use Rattle.aqe_rules.proofs.Gives.{Gives, gives_upon}
use Rattle.aqe_rules.proofs.QueryLevels as level
use Rattle.aqe_laws.specs.Scans.{scanned_tables, HasItsColumns}
use Rattle.aqe_laws.proofs.Scans.{of_the_catalog}
use Rattle.aqe_type_laws.specs.Plans.{AnswersFit, KeepsTypes, RowsFit}
use Rattle.aqe_type_laws.specs.Laws.{PlansKeepTypes, PlansAreTyped, NodesAreTyped, TablesFitTheScans}
use Rattle.aqe_laws.proofs.Walks.{Parts, each_query, gives_after, limits-keep}
use Rattle.aqe_type_laws.proofs.AnswersTyped.{fit, each-fits}
use Rattle.aqe_type_laws.proofs.GroupsTyped.{fields}
use Rattle.aqe_type_laws.proofs.PlansTyped.{sorted-keeps}
use Rattle.aqe_type_laws.proofs.UnionsTyped.{union-keeps}
use Rattle.aqe_type_laws.proofs.QueriesTyped.{FromTyped, select_over-keeps}

-- the columns of a join are those of the items that it shows
shown-fields : (b : Bool) (a c : List Field) (l r : List Item) → a ≡ fields l → c ≡ fields r → cond b (a ++ c) a ≡ fields (cond b (l ++ r) l)
shown-fields true a c l r e f = (λ i. e i ++ f i) ∙ sym (flat_map-append (λ item. item.columns) l r)
shown-fields false a c l r e f = e

-- FROM
scanned-typed : (name : List ℕ) (alias : Option (List ℕ)) (table : Option (ℕ × List Field)) → Gives FromTyped (scanned name alias table)
scanned-typed name alias None = tt
scanned-typed name alias (Some table) =
    gives_upon (λ p. KeepsTypes p × (schema_of p ≡ table.1 ++ [])) FromTyped (within_limits (Scan table.0 table.1)) (λ plan. Ok (from_of plan (item (Some (unwrap_or alias name)) table.1 ∷ [])))
    (limits-keep (λ p. KeepsTypes p × (schema_of p ≡ table.1 ++ [])) (Scan table.0 table.1) (tt, sym (append-nil table.1))) (λ p q. q)

query_source-typed : (alias : Option (List ℕ)) (query : Outcome Logical) → Gives KeepsTypes query → Gives FromTyped (query_source alias query)
query_source-typed alias query h = gives_upon KeepsTypes FromTyped query (λ plan. Ok (from_of plan (item alias (schema_of plan) ∷ []))) h (λ p g. (g, sym (append-nil (schema_of p))))

join-typed : (kind : JoinKind) (on : Option OrTree) (l r : From) → FromTyped l → FromTyped r → Gives FromTyped (join kind on l r)
join-typed kind on l r (g, e) (h, f) =
    gives_after FromTyped (join_condition on (l.items ++ r.items))
    (λ on. upon (within_limits (joined kind on l.plan r.plan)) (λ plan. Ok (from_of plan (joined_items kind l.items r.items)))) (λ on.
    gives_upon (λ p. KeepsTypes p × (schema_of p ≡ fields (joined_items kind l.items r.items))) FromTyped (within_limits (joined kind on l.plan r.plan)) (λ plan. Ok (from_of plan (joined_items kind l.items r.items)))
    (limits-keep (λ p. KeepsTypes p × (schema_of p ≡ fields (joined_items kind l.items r.items))) (joined kind on l.plan r.plan)
    ((g, h), shown-fields (shows_right kind) (schema_of l.plan) (schema_of r.plan) l.items r.items e f)) (λ p q. q))

abbrev SourceTyped : (Catalog → Outcome From) → Type 0
SourceTyped source = (catalog : Catalog) → Gives FromTyped (source catalog)

abbrev StepTyped : Step (Catalog → Outcome From) → Type 0
StepTyped step = SourceTyped step.source

join_all-typed : (catalog : Catalog) (left : Outcome From) (steps : List (Step (Catalog → Outcome From))) → Gives FromTyped left → All StepTyped steps → Gives FromTyped (join_all catalog left steps)
join_all-typed catalog left [] h all = h
join_all-typed catalog left (j ∷ js) h all =
    join_all-typed catalog (upon left (λ l. upon (j.source catalog) (λ r. join j.kind j.on l r))) js
    (gives_upon FromTyped FromTyped left (λ l. upon (j.source catalog) (λ r. join j.kind j.on l r)) h (λ l p.
    gives_upon FromTyped FromTyped (j.source catalog) (λ r. join j.kind j.on l r) (All-head StepTyped j js all catalog) (λ r q. join-typed j.kind j.on l r p q)))
    (All-tail StepTyped j js all)

cross_all-typed : (catalog : Catalog) (left : Outcome From) (more : List (Catalog → Outcome From)) → Gives FromTyped left → All SourceTyped more → Gives FromTyped (cross_all catalog left more)
cross_all-typed catalog left [] h all = h
cross_all-typed catalog left (j ∷ js) h all =
    cross_all-typed catalog (upon left (λ l. upon (j catalog) (λ r. join Cross None l r))) js
    (gives_upon FromTyped FromTyped left (λ l. upon (j catalog) (λ r. join Cross None l r)) h (λ l p.
    gives_upon FromTyped FromTyped (j catalog) (λ r. join Cross None l r) (All-head SourceTyped j js all catalog) (λ r q. join-typed Cross None l r p q)))
    (All-tail SourceTyped j js all)

from_all-typed : (from : List (Catalog → Outcome From)) → All SourceTyped from → SourceTyped (λ catalog. from_all catalog from)
from_all-typed [] h catalog = (tt, refl)
from_all-typed (j ∷ js) h catalog = cross_all-typed catalog (j catalog) js (All-head SourceTyped j js h catalog) (All-tail SourceTyped j js h)

-- UNION, ORDER BY, LIMIT
abbrev CoreTyped : Core → Type 0
CoreTyped c = (catalog : Catalog) (sorts : List SortTree) → Gives KeepsTypes (c catalog sorts)

abbrev NextTyped : (Bool × Core) → Type 0
NextTyped next = CoreTyped next.1

abbrev QueryTyped : (Catalog → Outcome Logical) → Type 0
QueryTyped query = (catalog : Catalog) → Gives KeepsTypes (query catalog)

ordered-keeps : (sorts : List SortTree) (plan : Logical) → KeepsTypes plan → Gives KeepsTypes (ordered sorts plan)
ordered-keeps sorts plan g =
    gives_after KeepsTypes (sortings (no_hidden (numbered None 0 (schema_of plan))) (numbered None 0 (schema_of plan)) sorts) (λ all. Ok (sorted_by (keys_of 0 all sorts) plan))
    (λ all. sorted-keeps (keys_of 0 all sorts) plan g)

cut-keeps : (limit offset : Option ℕ) (plan : Logical) → KeepsTypes plan → KeepsTypes (cut limit offset plan)
cut-keeps None None plan k = k
cut-keeps None (Some n) plan k = k
cut-keeps (Some n) None plan k = k
cut-keeps (Some n) (Some o) plan k = k

unite_all-keeps : (catalog : Catalog) (left : Outcome Logical) (cs : List (Bool × Core)) → Gives KeepsTypes left → All NextTyped cs → Gives KeepsTypes (unite_all catalog left cs)
unite_all-keeps catalog left [] h all = h
unite_all-keeps catalog left (c ∷ cs) h all =
    unite_all-keeps catalog (upon left (λ l. upon (c.1 catalog []) (λ r. union_of c.0 l r))) cs
    (gives_upon KeepsTypes KeepsTypes left (λ l. upon (c.1 catalog []) (λ r. union_of c.0 l r)) h (λ l p.
    gives_upon KeepsTypes KeepsTypes (c.1 catalog []) (λ r. union_of c.0 l r) (All-head NextTyped c cs all catalog []) (λ r q. union-keeps c.0 l r p q)))
    (All-tail NextTyped c cs all)

union_rule-typed : (first : Core) (cs : List (Bool × Core)) → CoreTyped first → All NextTyped cs → CoreTyped (union_rule first cs)
union_rule-typed first [] h all catalog sorts = h catalog sorts
union_rule-typed first (c ∷ cs) h all catalog sorts =
    gives_upon KeepsTypes KeepsTypes (unite_all catalog (first catalog []) (c ∷ cs)) (ordered sorts) (unite_all-keeps catalog (first catalog []) (c ∷ cs) (h catalog []) all) (λ plan p. ordered-keeps sorts plan p)

paren-typed : (query : Catalog → Outcome Logical) → QueryTyped query → CoreTyped (rules.paren query)
paren-typed query h catalog sorts = gives_upon KeepsTypes KeepsTypes (query catalog) (ordered sorts) (h catalog) (λ plan p. ordered-keeps sorts plan p)

query-typed : (union : Core) (sorts : List SortTree) (limit offset : Option ℕ) → CoreTyped union → QueryTyped (rules.query union sorts limit offset)
query-typed union sorts limit offset h catalog =
    gives_upon KeepsTypes KeepsTypes (union catalog sorts) (λ plan. within_limits (cut limit offset plan)) (h catalog sorts) (λ plan p. limits-keep KeepsTypes (cut limit offset plan) (cut-keeps limit offset plan p))

select-typed : (distinct : Bool) (items : List ItemTree) (from : List (Catalog → Outcome From)) (filter : Option OrTree) (group : List OrTree) (having : Option OrTree) → All SourceTyped from →
    CoreTyped (rules.select distinct items from filter group having)
select-typed distinct items from filter group having all catalog sorts =
    gives_upon FromTyped KeepsTypes (from_all catalog from) (select_over distinct items (not (is_empty from)) filter group having sorts)
    (from_all-typed from all catalog) (λ f h. select_over-keeps distinct items (not (is_empty from)) filter group having sorts f h)

parts-typed : Parts (λ t. CoreTyped (made_of_core rules t)) (λ t. SourceTyped (made_of_source rules t)) (λ t. StepTyped (made_of_step rules t)) (λ t. SourceTyped (made_of_joined rules t))
    (λ t. QueryTyped (made_of_query rules t)) (λ t. CoreTyped (made_of_select rules t)) (λ t. CoreTyped (made_of_union rules t))
parts-typed = record {
  paren = λ query h. subst CoreTyped (sym (level.of_core_paren rules query)) (paren-typed (made_of_query rules query) h);
  lone = λ select h. subst CoreTyped (sym (level.of_core_select rules select)) h;
  table = λ name alias. subst SourceTyped (sym (level.of_source_table rules name alias)) (λ catalog. scanned-typed name alias (table_named name catalog 0));
  subquery = λ query alias h. subst SourceTyped (sym (level.of_source_paren rules query alias))
      (λ catalog. query_source-typed alias (made_of_query rules query catalog) (h catalog));
  step = λ kind from on h. subst StepTyped (sym (level.of_step rules kind from on)) h;
  chain = λ first rest h all. subst SourceTyped (sym (level.of_joined rules first rest))
      (λ catalog. join_all-typed catalog (made_of_source rules first catalog) (map (made_of_step rules) rest) (h catalog) (All-map StepTyped (made_of_step rules) rest all));
  whole = λ body order limit offset h. subst QueryTyped (sym (level.of_query rules body order limit offset)) (query-typed (made_of_union rules body) order limit offset h);
  select = λ distinct items from filter group having all. subst CoreTyped (sym (level.of_select rules distinct items from filter group having))
      (select-typed distinct items (map (made_of_joined rules) from) filter group having (All-map SourceTyped (made_of_joined rules) from all));
  union = λ first rest h all. subst CoreTyped (sym (level.of_union rules first rest))
      (union_rule-typed (made_of_core rules first) (map (λ (next : Bool × CoreTree). (next.0, made_of_core rules next.1)) rest) h (All-map NextTyped (λ (next : Bool × CoreTree). (next.0, made_of_core rules next.1)) rest all));
}

pub walk-typed : (t : QueryTree) → QueryTyped (walk t)
walk-typed = each_query (λ t. CoreTyped (made_of_core rules t)) (λ t. SourceTyped (made_of_source rules t)) (λ t. StepTyped (made_of_step rules t)) (λ t. SourceTyped (made_of_joined rules t))
    (λ t. QueryTyped (made_of_query rules t)) (λ t. CoreTyped (made_of_select rules t)) (λ t. CoreTyped (made_of_union rules t)) parts-typed

-- the laws
pub plans_keep : PlansKeepTypes
plans_keep tree catalog plan e = subst (Gives KeepsTypes) e (walk-typed tree catalog)

pub plans_typed : PlansAreTyped
plans_typed tree catalog plan tables l e f = fit tables plan (plans_keep tree catalog plan e) f l

pub nodes_typed : NodesAreTyped
nodes_typed tree catalog plan tables e f = all_nodes (AnswersFit tables) plan (each-fits tables plan (plans_keep tree catalog plan e) f)

pub tables_fit : TablesFitTheScans
tables_fit tree catalog plan tables e f =
    All-weaker (HasItsColumns catalog) (RowsFit tables) (λ scan has. f scan.0 scan.1 has) (scanned_tables plan) (of_the_catalog tree catalog plan e)
