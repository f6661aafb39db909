-- Each query's plan keeps what its rules keep.
use Rattle.std.proofs.Common.{◌≡◌, List, [], ◌∷◌, map, Bool, not, Ok, sym, subst}
use Rattle.std.specs.Prelude.{All}
use Rattle.std.proofs.lemmas.List.Elements.{All-nil, All-cons}
use Rattle.aqe_logical.specs.declared.plan.Logical.{Logical}
use Rattle.aqe_trees.specs.declared.query.QueryTree.{QueryTree, fold-QueryTree, ind-QueryTree, fold-roll-QueryTree}
use Rattle.aqe_trees.specs.declared.query.UnionTree.{UnionTree, fold-UnionTree, fold-roll-UnionTree}
use Rattle.aqe_trees.specs.declared.query.CoreTree.{CoreTree, CoreTree-F, fold-CoreTree, fold-roll-CoreTree}
use Rattle.aqe_trees.specs.declared.query.SelectTree.{SelectTree, fold-SelectTree, fold-roll-SelectTree}
use Rattle.aqe_trees.specs.declared.query.JoinedTree.{JoinedTree, fold-JoinedTree, fold-roll-JoinedTree}
use Rattle.aqe_trees.specs.declared.query.JoinStep.{JoinStep, fold-JoinStep, fold-roll-JoinStep}
use Rattle.aqe_trees.specs.declared.query.SourceTree.{SourceTree, SourceTree-F, fold-SourceTree, fold-roll-SourceTree}
use Rattle.aqe_rules.specs.Outcomes.{Outcome}
use Rattle.aqe_rules.specs.QueryForms.{Step}
use Rattle.aqe_rules.specs.QueryTrees.{core_level, source_level, step_level, joined_level, query_level, select_level, union_level}
use Rattle.aqe_rules.specs.Sources.{Catalog, From, from_all}
use Rattle.aqe_rules.specs.Selects.{is_empty}
use Rattle.aqe_rules.specs.Analysis.{Core, rules, walk, select_over}
use Rattle.aqe_laws.specs.Laws.{PlansAreClosed, PlansAreWellFormed, PlansAreBounded}
use Rattle.aqe_rules.proofs.Gives.{Gives, gives_upon, gives_weaker}
use Rattle.aqe_laws.proofs.Bounds.{Laid, laid-closed, laid-well_formed}
use Rattle.aqe_laws.proofs.Sources.{FromFits, SourceFits, StepFits, table-fits, query-fits, join_all-fits, from_all-fits}
use Rattle.aqe_laws.proofs.Queries.{Done, CoreFits, NextFits, union_rule-laid, paren-laid, query-done, select_over-laid}

abbrev Q : Type 0
Q = Catalog → Outcome Logical

abbrev S : Type 0
S = Catalog → Outcome From

abbrev QueryFits : Q → Type 0
QueryFits q = (catalog : Catalog) → Gives Done (q catalog)

abbrev of_core : CoreTree → Core
of_core = fold-CoreTree Core S (Step S) S Q Core Core (core_level rules) (source_level rules) (step_level rules) (joined_level rules) (query_level rules) (select_level rules) (union_level rules)

abbrev of_source : SourceTree → S
of_source = fold-SourceTree Core S (Step S) S Q Core Core (core_level rules) (source_level rules) (step_level rules) (joined_level rules) (query_level rules) (select_level rules) (union_level rules)

abbrev of_step : JoinStep → Step S
of_step = fold-JoinStep Core S (Step S) S Q Core Core (core_level rules) (source_level rules) (step_level rules) (joined_level rules) (query_level rules) (select_level rules) (union_level rules)

abbrev of_joined : JoinedTree → S
of_joined = fold-JoinedTree Core S (Step S) S Q Core Core (core_level rules) (source_level rules) (step_level rules) (joined_level rules) (query_level rules) (select_level rules) (union_level rules)

abbrev of_query : QueryTree → Q
of_query = fold-QueryTree Core S (Step S) S Q Core Core (core_level rules) (source_level rules) (step_level rules) (joined_level rules) (query_level rules) (select_level rules) (union_level rules)

abbrev of_select : SelectTree → Core
of_select = fold-SelectTree Core S (Step S) S Q Core Core (core_level rules) (source_level rules) (step_level rules) (joined_level rules) (query_level rules) (select_level rules) (union_level rules)

abbrev of_union : UnionTree → Core
of_union = fold-UnionTree Core S (Step S) S Q Core Core (core_level rules) (source_level rules) (step_level rules) (joined_level rules) (query_level rules) (select_level rules) (union_level rules)

-- trees of one level, each with its proof
proved : {X Y : Type 0} (P : Y → Type 0) (R : X → Type 0) (f : X → Y) → ((x : X) → R x → P (f x)) → (all : List ((x : X) × R x)) → All P (map f (map (λ e. e.0) all))
proved P R f h [] = All-nil P
proved P R f h (e ∷ es) = All-cons P (f e.0) (map f (map (λ d. d.0) es)) (h e.0 e.1) (proved P R f h es)

abbrev behind : {B X Y : Type 0} → (X → Y) → B × X → B × Y
behind f q = (q.0, f q.1)

abbrev tree_in : {X : Type 0} (R : X → Type 0) → ((x : X) × R x) → X
tree_in R e = e.0

next_proved : (all : List (Bool × ((t : CoreTree) × CoreFits (of_core t)))) → All NextFits (map (behind of_core) (map (behind (tree_in (λ t. CoreFits (of_core t)))) all))
next_proved [] = All-nil NextFits
next_proved (e ∷ es) = All-cons NextFits (behind of_core (behind (tree_in (λ t. CoreFits (of_core t))) e)) (map (behind of_core) (map (behind (tree_in (λ t. CoreFits (of_core t)))) es)) (e.1).1 (next_proved es)

-- a finished plan is laid out right
done-laid : (o : Outcome Logical) → Gives Done o → Gives Laid o
done-laid o h = gives_weaker Done Laid (λ p d. d.0) o h

walk-done : (t : QueryTree) → QueryFits (walk t)
walk-done = ind-QueryTree
    (λ t. CoreFits (of_core t)) (λ t. SourceFits (of_source t)) (λ t. StepFits (of_step t)) (λ t. SourceFits (of_joined t)) (λ t. QueryFits (of_query t)) (λ t. CoreFits (of_select t)) (λ t. CoreFits (of_union t))
    (λ x. elim [
      | CoreTree-F.«CoreTree::Paren» q ↦ λ is. rw (fold-roll-CoreTree Core S (Step S) S Q Core Core (core_level rules) (source_level rules) (step_level rules) (joined_level rules) (query_level rules) (select_level rules) (union_level rules) x, sym is) (paren-laid (of_query q.0) (λ catalog. done-laid (of_query q.0 catalog) (q.1 catalog)))
      | CoreTree-F.Select s ↦ λ is. rw (fold-roll-CoreTree Core S (Step S) S Q Core Core (core_level rules) (source_level rules) (step_level rules) (joined_level rules) (query_level rules) (select_level rules) (union_level rules) x, sym is) (s.1)
    ])
    (λ x. elim [
      | SourceTree-F.Table name alias ↦ λ is. rw (fold-roll-SourceTree Core S (Step S) S Q Core Core (core_level rules) (source_level rules) (step_level rules) (joined_level rules) (query_level rules) (select_level rules) (union_level rules) x, sym is) (table-fits name alias)
      | SourceTree-F.«SourceTree::Paren» q alias ↦ λ is. rw (fold-roll-SourceTree Core S (Step S) S Q Core Core (core_level rules) (source_level rules) (step_level rules) (joined_level rules) (query_level rules) (select_level rules) (union_level rules) x, sym is) (λ catalog. query-fits alias (of_query q.0 catalog) (done-laid (of_query q.0 catalog) (q.1 catalog)))
    ])
    (λ x y is. rw (fold-roll-JoinStep Core S (Step S) S Q Core Core (core_level rules) (source_level rules) (step_level rules) (joined_level rules) (query_level rules) (select_level rules) (union_level rules) x, sym is) (y.source.1))
    (λ x y is. rw (fold-roll-JoinedTree Core S (Step S) S Q Core Core (core_level rules) (source_level rules) (step_level rules) (joined_level rules) (query_level rules) (select_level rules) (union_level rules) x, sym is) (λ catalog. join_all-fits catalog (of_source y.first.0 catalog) (map of_step (map (λ e. e.0) y.rest)) (y.first.1 catalog) (proved StepFits (λ t. StepFits (of_step t)) of_step (λ t p. p) y.rest)))
    (λ x y is. rw (fold-roll-QueryTree Core S (Step S) S Q Core Core (core_level rules) (source_level rules) (step_level rules) (joined_level rules) (query_level rules) (select_level rules) (union_level rules) x, sym is) (λ catalog. query-done (of_union y.body.0) y.order y.limit y.offset catalog y.body.1))
    (λ x y is. rw (fold-roll-SelectTree Core S (Step S) S Q Core Core (core_level rules) (source_level rules) (step_level rules) (joined_level rules) (query_level rules) (select_level rules) (union_level rules) x, sym is) (λ catalog sorts.
    gives_upon FromFits Laid (from_all catalog (map of_joined (map (λ e. e.0) y.from))) (select_over y.distinct y.items (not (is_empty (map of_joined (map (λ e. e.0) y.from)))) y.filter y.group y.having sorts)
    (from_all-fits catalog (map of_joined (map (λ e. e.0) y.from)) (proved SourceFits (λ t. SourceFits (of_joined t)) of_joined (λ t p. p) y.from))
    (λ from fits. select_over-laid y.distinct y.items (not (is_empty (map of_joined (map (λ e. e.0) y.from)))) y.filter y.group y.having sorts from fits)))
    (λ x y is. rw (fold-roll-UnionTree Core S (Step S) S Q Core Core (core_level rules) (source_level rules) (step_level rules) (joined_level rules) (query_level rules) (select_level rules) (union_level rules) x, sym is) (union_rule-laid (of_core y.first.0) (map (behind of_core) (map (behind (tree_in (λ t. CoreFits (of_core t)))) y.rest)) y.first.1 (next_proved y.rest)))

given : (P : Logical → Type 0) (o : Outcome Logical) (p : Logical) → Gives P o → o ≡ Ok p → P p
given P o p h e = subst (Gives P) e h

pub closed : PlansAreClosed
closed tree catalog p e = laid-closed p (given Done (walk tree catalog) p (walk-done tree catalog) e).0

pub well_formed : PlansAreWellFormed
well_formed tree catalog p e = let done : Done p = given Done (walk tree catalog) p (walk-done tree catalog) e in laid-well_formed p done.0 done.1

pub bounded : PlansAreBounded
bounded tree catalog p e = (given Done (walk tree catalog) p (walk-done tree catalog) e).1
