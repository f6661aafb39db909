-- What the walk over a query comes to, level by level.
use Rattle.std.proofs.Common.{◌≡◌, ℕ, Bool, not, cond, List, [], ◌∷◌, map, Option, None, Ok, Err, refl, ap, sym, ◌∙◌}
use Rattle.std.specs.Prelude.{fold}
use Rattle.aqe_base.specs.declared.join_kind.JoinKind.{JoinKind}
use Rattle.aqe_base.specs.declared.join_kind.JoinKind.TheVariants.{Cross}
use Rattle.aqe_logical.specs.declared.plan.Logical.{Logical, OneRow}
use Rattle.aqe_trees.specs.declared.expression.OrTree.{OrTree}
use Rattle.aqe_trees.specs.declared.query.ItemTree.{ItemTree}
use Rattle.aqe_trees.specs.declared.query.SortTree.{SortTree}
use Rattle.aqe_trees.specs.declared.query.QueryTree.{QueryTree}
use Rattle.aqe_trees.specs.declared.query.UnionTree.{UnionTree}
use Rattle.aqe_trees.specs.declared.query.CoreTree.{CoreTree}
use Rattle.aqe_trees.specs.declared.query.CoreTree.TheVariants as core
use Rattle.aqe_trees.specs.declared.query.SelectTree.{SelectTree}
use Rattle.aqe_trees.specs.declared.query.JoinedTree.{JoinedTree}
use Rattle.aqe_trees.specs.declared.query.JoinStep.{JoinStep}
use Rattle.aqe_trees.specs.declared.query.SourceTree.{SourceTree}
use Rattle.aqe_trees.specs.declared.query.SourceTree.TheVariants as source
use Rattle.aqe_trees.specs.Shapes.{query_tree, union_tree, select_tree, joined_tree, join_step}
use Rattle.aqe_rules.specs.Outcomes.{Outcome, upon}
use Rattle.aqe_rules.specs.Limits.{within_limits}
use Rattle.aqe_rules.specs.QueryForms.{Step}
use Rattle.aqe_rules.specs.Sources.{Catalog, From, from_of, table_source, query_source, join, join_all, cross_all, from_all}
use Rattle.aqe_rules.specs.Selects.{is_empty}
use Rattle.aqe_rules.specs.Plans.{ordered}
use Rattle.aqe_rules.specs.Unions.{union_of}
use Rattle.aqe_rules.specs.Analysis.{Core, select_over, cut, unite_all, union_rule, rules, walk}
use Rattle.aqe_rules.specs.QueryTrees.{made_of_union, made_of_core, made_of_select, made_of_joined, made_of_step, made_of_source}
use Rattle.aqe_rules.proofs.QueryLevels.{of_query, of_union, of_select, of_joined, of_step, of_core_paren, of_core_select, of_source_table, of_source_paren}
use Rattle.aqe_analysis.specs.Steps.{union_in_order}

pub query-walk : (tree : QueryTree) (body : UnionTree) (order : List SortTree) (limit offset : Option ℕ) (catalog : Catalog) → tree ≡ query_tree body order limit offset →
    walk tree catalog ≡ upon (made_of_union rules body catalog order) (λ plan. within_limits (cut limit offset plan))
query-walk tree body order limit offset catalog e = ap (λ t. walk t catalog) e ∙ ap (λ f. f catalog) (of_query rules body order limit offset)

-- UNION, a core more at a time
abbrev pub core_more : Catalog → Outcome Logical → Bool × CoreTree → Outcome Logical
core_more catalog o c = upon o (λ l. upon (made_of_core rules c.1 catalog []) (union_of c.0 l))

abbrev cores : List (Bool × CoreTree) → List (Bool × Core)
cores rest = map (λ next. (next.0, made_of_core rules next.1)) rest

unite-fold : (catalog : Catalog) (o : Outcome Logical) (rest : List (Bool × CoreTree)) → unite_all catalog o (cores rest) ≡ fold (core_more catalog) o rest
unite-fold catalog o [] = refl
unite-fold catalog o (c ∷ cs) = unite-fold catalog (core_more catalog o c) cs

in-order : (first : Core) (rest : List (Bool × CoreTree)) (catalog : Catalog) (order : List SortTree) →
    union_rule first (cores rest) catalog order ≡ union_in_order (is_empty rest) order (unite_all catalog (first catalog (cond (is_empty rest) order [])) (cores rest))
in-order first [] catalog order = refl
in-order first (c ∷ cs) catalog order = refl

pub union-walk : (tree : UnionTree) (first : CoreTree) (rest : List (Bool × CoreTree)) (lone : Bool) (own : List SortTree) (catalog : Catalog) (order : List SortTree) → tree ≡ union_tree first rest →
    lone ≡ is_empty rest → own ≡ cond lone order [] →
    made_of_union rules tree catalog order ≡ union_in_order lone order (fold (core_more catalog) (made_of_core rules first catalog own) rest)
union-walk tree first rest lone own catalog order e h k =
    ap (λ t. made_of_union rules t catalog order) e ∙ ap (λ f. f catalog order) (of_union rules first rest) ∙ in-order (made_of_core rules first) rest catalog order ∙
    ap (union_in_order (is_empty rest) order) (unite-fold catalog (made_of_core rules first catalog (cond (is_empty rest) order [])) rest) ∙
    ap (λ (b : Bool). union_in_order b order (fold (core_more catalog) (made_of_core rules first catalog (cond b order [])) rest)) (sym h) ∙
    ap (λ (s : List SortTree). union_in_order lone order (fold (core_more catalog) (made_of_core rules first catalog s) rest)) (sym k)

pub paren-walk : (tree : CoreTree) (query : QueryTree) (catalog : Catalog) (order : List SortTree) → tree ≡ core.Paren query → made_of_core rules tree catalog order ≡ upon (walk query catalog) (ordered order)
paren-walk tree query catalog order e = ap (λ t. made_of_core rules t catalog order) e ∙ ap (λ f. f catalog order) (of_core_paren rules query)

pub core-walk : (tree : CoreTree) (select : SelectTree) (catalog : Catalog) (order : List SortTree) → tree ≡ core.Select select → made_of_core rules tree catalog order ≡ made_of_select rules select catalog order
core-walk tree select catalog order e = ap (λ t. made_of_core rules t catalog order) e ∙ ap (λ f. f catalog order) (of_core_select rules select)

-- FROM, a source more at a time
pub no-from : (from : List JoinedTree) (catalog : Catalog) → from ≡ [] → from_all catalog (map (made_of_joined rules) from) ≡ Ok (from_of OneRow [])
no-from from catalog e = ap (λ x. from_all catalog (map (made_of_joined rules) x)) e

abbrev pub cross_more : Catalog → Outcome From → JoinedTree → Outcome From
cross_more catalog o j = upon o (λ l. upon (made_of_joined rules j catalog) (join Cross None l))

cross-fold : (catalog : Catalog) (o : Outcome From) (rest : List JoinedTree) → cross_all catalog o (map (made_of_joined rules) rest) ≡ fold (cross_more catalog) o rest
cross-fold catalog o [] = refl
cross-fold catalog o (j ∷ js) = cross-fold catalog (cross_more catalog o j) js

pub from-walk : (from : List JoinedTree) (first : JoinedTree) (rest : List JoinedTree) (catalog : Catalog) → from ≡ first ∷ rest →
    from_all catalog (map (made_of_joined rules) from) ≡ fold (cross_more catalog) (made_of_joined rules first catalog) rest
from-walk from first rest catalog e = ap (λ x. from_all catalog (map (made_of_joined rules) x)) e ∙ cross-fold catalog (made_of_joined rules first catalog) rest

abbrev with_step : Catalog → Outcome From → Step (Catalog → Outcome From) → Outcome From
with_step catalog o s = upon o (λ l. upon (s.source catalog) (join s.kind s.on l))

abbrev pub join_more : Catalog → Outcome From → JoinStep → Outcome From
join_more catalog o s = with_step catalog o (made_of_step rules s)

join-fold : (catalog : Catalog) (o : Outcome From) (rest : List JoinStep) → join_all catalog o (map (made_of_step rules) rest) ≡ fold (join_more catalog) o rest
join-fold catalog o [] = refl
join-fold catalog o (s ∷ ss) = join-fold catalog (join_more catalog o s) ss

pub joined-walk : (tree : JoinedTree) (first : SourceTree) (rest : List JoinStep) (catalog : Catalog) → tree ≡ joined_tree first rest →
    made_of_joined rules tree catalog ≡ fold (join_more catalog) (made_of_source rules first catalog) rest
joined-walk tree first rest catalog e =
    ap (λ t. made_of_joined rules t catalog) e ∙ ap (λ f. f catalog) (of_joined rules first rest) ∙ join-fold catalog (made_of_source rules first catalog) rest

pub step-walk : (step : JoinStep) (kind : JoinKind) (next : SourceTree) (on : Option OrTree) (catalog : Catalog) (o : Outcome From) → step ≡ join_step kind next on →
    join_more catalog o step ≡ upon o (λ l. upon (made_of_source rules next catalog) (join kind on l))
step-walk step kind next on catalog o e = ap (with_step catalog o) (ap (made_of_step rules) e ∙ of_step rules kind next on)

pub table-walk : (tree : SourceTree) (name : List ℕ) (alias : Option (List ℕ)) (catalog : Catalog) → tree ≡ source.Table name alias → made_of_source rules tree catalog ≡ table_source name alias catalog
table-walk tree name alias catalog e = ap (λ t. made_of_source rules t catalog) e ∙ ap (λ f. f catalog) (of_source_table rules name alias)

pub subquery-walk : (tree : SourceTree) (query : QueryTree) (alias : Option (List ℕ)) (catalog : Catalog) → tree ≡ source.Paren query alias →
    made_of_source rules tree catalog ≡ query_source alias (walk query catalog)
subquery-walk tree query alias catalog e = ap (λ t. made_of_source rules t catalog) e ∙ ap (λ f. f catalog) (of_source_paren rules query alias)

mapped-empty : {A B : Type 0} (f : A → B) (xs : List A) → is_empty (map f xs) ≡ is_empty xs
mapped-empty f [] = refl
mapped-empty f (x ∷ xs) = refl

pub select-walk : (tree : SelectTree) (distinct : Bool) (list : List ItemTree) (from : List JoinedTree) (filter : Option OrTree) (group : List OrTree) (having : Option OrTree) (has_from : Bool) (catalog : Catalog)
    (order : List SortTree) → tree ≡ select_tree distinct list from filter group having → has_from ≡ not (is_empty from) →
    made_of_select rules tree catalog order ≡ upon (from_all catalog (map (made_of_joined rules) from)) (select_over distinct list has_from filter group having order)
select-walk tree distinct list from filter group having has_from catalog order e h =
    ap (λ t. made_of_select rules t catalog order) e ∙ ap (λ f. f catalog order) (of_select rules distinct list from filter group having) ∙
    ap (λ (b : Bool). upon (from_all catalog (map (made_of_joined rules) from)) (select_over distinct list (not b) filter group having order)) (mapped-empty (made_of_joined rules) from) ∙
    ap (λ (b : Bool). upon (from_all catalog (map (made_of_joined rules) from)) (select_over distinct list b filter group having order)) (sym h)
