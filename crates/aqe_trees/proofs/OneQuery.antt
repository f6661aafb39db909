-- A list of terminals begins with at most one query, where what is left does not go on with it.
use Rattle.std.proofs.Common.{ℕ, List, ◌∷◌, Bool, ◌≡◌, ◌<◌, suc, refl, sym, ap, subst, arith, lit<}
use Rattle.std.specs.Prelude.{Option}
use Rattle.aqe_base.specs.declared.join_kind.JoinKind.{JoinKind}
use Rattle.aqe_trees.specs.declared.terminal.Key.{Key}
use Rattle.aqe_trees.specs.declared.terminal.Key.TheVariants as k
use Rattle.aqe_trees.specs.declared.terminal.Terminal.{Terminal}
use Rattle.aqe_trees.specs.declared.terminal.Terminal.TheVariants.{Fixed, Name}
use Rattle.aqe_trees.specs.declared.expression.OrTree.{OrTree}
use Rattle.aqe_trees.specs.declared.expression.AndTree.{AndTree}
use Rattle.aqe_trees.specs.declared.expression.NotTree.{NotTree}
use Rattle.aqe_trees.specs.declared.expression.PredicateTree.{PredicateTree}
use Rattle.aqe_trees.specs.declared.expression.Test.{Test}
use Rattle.aqe_trees.specs.declared.expression.CompareOp.{CompareOp}
use Rattle.aqe_trees.specs.declared.expression.ComparisonTree.{ComparisonTree}
use Rattle.aqe_trees.specs.declared.expression.Sign.{Sign}
use Rattle.aqe_trees.specs.declared.expression.SumTree.{SumTree}
use Rattle.aqe_trees.specs.declared.expression.ProductOp.{ProductOp}
use Rattle.aqe_trees.specs.declared.expression.ProductTree.{ProductTree}
use Rattle.aqe_trees.specs.declared.expression.SignTree.{SignTree}
use Rattle.aqe_trees.specs.declared.expression.PrimaryTree.{PrimaryTree}
use Rattle.aqe_trees.specs.declared.query.QueryTree.{QueryTree}
use Rattle.aqe_trees.specs.declared.query.UnionTree.{UnionTree}
use Rattle.aqe_trees.specs.declared.query.CoreTree.{CoreTree}
use Rattle.aqe_trees.specs.declared.query.SelectTree.{SelectTree}
use Rattle.aqe_trees.specs.declared.query.ItemTree.{ItemTree}
use Rattle.aqe_trees.specs.declared.query.JoinedTree.{JoinedTree}
use Rattle.aqe_trees.specs.declared.query.JoinStep.{JoinStep}
use Rattle.aqe_trees.specs.declared.query.SourceTree.{SourceTree}
use Rattle.aqe_trees.specs.declared.query.SortTree.{SortTree}
use Rattle.aqe_trees.specs.declared.statement.TableForm.{TableForm}
use Rattle.aqe_trees.specs.Follow.{key_binds, binds_at, Stops}
use Rattle.aqe_trees.specs.Expressions.{IsOr, or_of, IsOrRest, or_end, or_more, IsAnd, and_of, IsAndRest, and_end, and_more, IsNot, not_of, affirmed, IsPredicate, predicate_of, IsTest, plain, between, not_between, one_of, not_one_of, like, not_like, is_truth, is_not_truth, IsComparison, comparison_of, IsComparisonRest, comparison_end, comparison_more, IsSum, sum_of_products, IsSumRest, sum_end, sum_more, IsProduct, product_of_signs, IsProductRest, product_end, product_more, IsSign, sign_of, unsigned, signed, IsPrimary, column}
use Rattle.aqe_trees.specs.Lists.{Commas, no_comma, comma, Listed, listed, IsClause, no_clause, clause, IsBound, no_bound, bound, IsAlias, no_alias, alias, as_alias, IsDistinct, unsaid, all, distinct}
use Rattle.aqe_trees.specs.Queries.{IsItem, all_columns, all_columns_of, one_column, IsWay, usual_way, ascending, descending, IsNulls, usual_nulls, nulls, IsSort, sort_of, IsOrder, unordered, ordered, IsGroup, ungrouped, grouped, IsKind, join, inner, cross, left, left_outer, right, right_outer, full, full_outer, semi, left_semi, anti, left_anti, IsQuery, query_of, IsUnion, union_of, IsUnionRest, union_end, union_more, IsCore, core_paren, core_select, IsSelect, select_of, IsFrom, no_from, from_of, IsFromRest, from_end, from_more, IsJoined, joined_of, IsJoinedRest, joined_end, joined_more, IsSource, table, source_paren}
use Rattle.aqe_trees.specs.Tables.{IsColumn, column_of, IsOption, option_of, option_equal, IsPlace, location, options_location, location_options, IsCreate, create}
use Rattle.aqe_trees.proofs.OneExpression.{starts, compare_binds, sum_binds, product_binds, or_starts, one_or, one_list}

-- `name . *` is the beginning of no expression

primary_dot : {p : PrimaryTree} {name : List ℕ} {quoted : Bool} {ts us : List Terminal} →
    IsPrimary p (Name name quoted ∷ Fixed k.Dot ∷ Fixed k.Star ∷ ts) us → binds_at us ≡ 20
primary_dot column = refl

sign_dot : {p : SignTree} {name : List ℕ} {quoted : Bool} {ts us : List Terminal} →
    IsSign p (Name name quoted ∷ Fixed k.Dot ∷ Fixed k.Star ∷ ts) us → binds_at us ≡ 20
sign_dot (sign_of (unsigned d)) = primary_dot d
sign_dot (sign_of (signed e d)) = absurd (cc)

product_rest_dot : {xs : List (ProductOp × SignTree)} {vs us : List Terminal} → IsProductRest xs vs us → binds_at vs ≡ 20 → binds_at us ≡ 20
product_rest_dot product_end e = e
product_rest_dot (product_more {t = t} o d r) e = absurd (let b = product_binds t _ o in omega arith)

product_dot : {p : ProductTree} {name : List ℕ} {quoted : Bool} {ts us : List Terminal} →
    IsProduct p (Name name quoted ∷ Fixed k.Dot ∷ Fixed k.Star ∷ ts) us → binds_at us ≡ 20
product_dot (product_of_signs d r) = product_rest_dot r (sign_dot d)

sum_rest_dot : {xs : List (Sign × ProductTree)} {vs us : List Terminal} → IsSumRest xs vs us → binds_at vs ≡ 20 → binds_at us ≡ 20
sum_rest_dot sum_end e = e
sum_rest_dot (sum_more {t = t} o d r) e = absurd (let b = sum_binds t _ o in omega arith)

sum_dot : {p : SumTree} {name : List ℕ} {quoted : Bool} {ts us : List Terminal} →
    IsSum p (Name name quoted ∷ Fixed k.Dot ∷ Fixed k.Star ∷ ts) us → binds_at us ≡ 20
sum_dot (sum_of_products d r) = sum_rest_dot r (product_dot d)

comparison_rest_dot : {xs : List (CompareOp × SumTree)} {vs us : List Terminal} → IsComparisonRest xs vs us → binds_at vs ≡ 20 → binds_at us ≡ 20
comparison_rest_dot comparison_end e = e
comparison_rest_dot (comparison_more {t = t} o d r) e = absurd (let b = compare_binds t _ o in omega arith)

comparison_dot : {p : ComparisonTree} {name : List ℕ} {quoted : Bool} {ts us : List Terminal} →
    IsComparison p (Name name quoted ∷ Fixed k.Dot ∷ Fixed k.Star ∷ ts) us → binds_at us ≡ 20
comparison_dot (comparison_of d r) = comparison_rest_dot r (sum_dot d)

test_dot : {test : Test} {vs us : List Terminal} → IsTest test vs us → binds_at vs ≡ 20 → binds_at us ≡ 20
test_dot plain e = e
test_dot (between d f) e = absurd (omega arith)
test_dot (not_between d f) e = absurd (omega arith)
test_dot (one_of d) e = absurd (omega arith)
test_dot (not_one_of d) e = absurd (omega arith)
test_dot (like d) e = absurd (omega arith)
test_dot (not_like d) e = absurd (omega arith)
test_dot (is_truth d) e = absurd (omega arith)
test_dot (is_not_truth d) e = absurd (omega arith)

predicate_dot : {p : PredicateTree} {name : List ℕ} {quoted : Bool} {ts us : List Terminal} →
    IsPredicate p (Name name quoted ∷ Fixed k.Dot ∷ Fixed k.Star ∷ ts) us → binds_at us ≡ 20
predicate_dot (predicate_of d r) = test_dot r (comparison_dot d)

not_dot : {p : NotTree} {name : List ℕ} {quoted : Bool} {ts us : List Terminal} →
    IsNot p (Name name quoted ∷ Fixed k.Dot ∷ Fixed k.Star ∷ ts) us → binds_at us ≡ 20
not_dot (not_of (affirmed d)) = predicate_dot d

and_rest_dot : {xs : List NotTree} {vs us : List Terminal} → IsAndRest xs vs us → binds_at vs ≡ 20 → binds_at us ≡ 20
and_rest_dot and_end e = e
and_rest_dot (and_more d r) e = absurd (omega arith)

and_dot : {p : AndTree} {name : List ℕ} {quoted : Bool} {ts us : List Terminal} →
    IsAnd p (Name name quoted ∷ Fixed k.Dot ∷ Fixed k.Star ∷ ts) us → binds_at us ≡ 20
and_dot (and_of d r) = and_rest_dot r (not_dot d)

or_rest_dot : {xs : List AndTree} {vs us : List Terminal} → IsOrRest xs vs us → binds_at vs ≡ 20 → binds_at us ≡ 20
or_rest_dot or_end e = e
or_rest_dot (or_more d r) e = absurd (omega arith)

or_dot : {p : OrTree} {name : List ℕ} {quoted : Bool} {ts us : List Terminal} →
    IsOr p (Name name quoted ∷ Fixed k.Dot ∷ Fixed k.Star ∷ ts) us → binds_at us ≡ 20
or_dot (or_of d r) = or_rest_dot r (and_dot d)

pub no_dot : {p : OrTree} {name : List ℕ} {quoted : Bool} {ts us : List Terminal} →
    IsOr p (Name name quoted ∷ Fixed k.Dot ∷ Fixed k.Star ∷ ts) us → Stops 14 us → ⊥
no_dot d s = let e = or_dot d in omega arith

-- one tree, and one list that is left, where what is left stops the level
abbrev pub Single : {T : Type 0} → (T → List Terminal → List Terminal → Type 0) → ℕ → Type 0
Single {T = T} Is level = (t v : T) (ts us ws : List Terminal) → Is t ts us → Is v ts ws → Stops level us → Stops level ws → (t ≡ v) × (us ≡ ws)

-- shared parts

moved : {T : Type 0} (Is : T → List Terminal → List Terminal → Type 0) {t : T} {a b us : List Terminal} → a ≡ b → Is t b us → Is t a us
moved Is {t = t} {us = us} e d = subst (λ (x : List Terminal). Is t x us) (sym e) d

pub commas_stop : {T : Type 0} {Is : T → List Terminal → List Terminal → Type 0} {xs : List T} {vs us : List Terminal} →
    Commas Is xs vs us → Stops 9 us → Stops 10 vs
commas_stop no_comma s = omega arith
commas_stop (comma d r) s = lit< tt

one_commas : {T : Type 0} (Is : T → List Terminal → List Terminal → Type 0) → Single Is 10 →
    {xs ys : List T} {ts us ws : List Terminal} → Commas Is xs ts us → Commas Is ys ts ws → Stops 9 us → Stops 9 ws → (xs ≡ ys) × (us ≡ ws)
one_commas Is one no_comma no_comma s z = (refl, refl)
one_commas Is one no_comma (comma e q) s z = absurd (omega arith)
one_commas Is one (comma d r) no_comma s z = absurd (omega arith)
one_commas Is one (comma d r) (comma e q) s z =
    let p = one _ _ _ _ _ d e (commas_stop r s) (commas_stop q z) in
    let n = one_commas Is one r (moved (Commas Is) p.1 q) s z in
    (cc, n.1)

pub one_listed : {T : Type 0} (Is : T → List Terminal → List Terminal → Type 0) → Single Is 10 →
    {xs ys : List T} {ts us ws : List Terminal} → Listed Is xs ts us → Listed Is ys ts ws → Stops 9 us → Stops 9 ws → (xs ≡ ys) × (us ≡ ws)
one_listed Is one (listed d r) (listed e q) s z =
    let p = one _ _ _ _ _ d e (commas_stop r s) (commas_stop q z) in
    let n = one_commas Is one r (moved (Commas Is) p.1 q) s z in
    (cc, n.1)

pub clause_stop : {key : Key} {a : Option OrTree} {vs us : List Terminal} → IsClause key a vs us → Stops (key_binds key) us → Stops (suc (key_binds key)) vs
clause_stop no_clause s = omega arith
clause_stop (clause d) s = omega arith

pub one_clause : {key other : Key} {a b : Option OrTree} {ts us ws : List Terminal} → IsClause key a ts us → IsClause other b ts ws →
    key ≡ other → key_binds key < 14 → Stops (key_binds key) us → Stops (key_binds other) ws → (a ≡ b) × (us ≡ ws)
one_clause no_clause no_clause h l s z = (refl, refl)
one_clause no_clause (clause e) h l s z = let b = ap key_binds h in absurd (omega arith)
one_clause (clause d) no_clause h l s z = let b = ap key_binds h in absurd (omega arith)
one_clause (clause d) (clause e) h l s z = let p = one_or d e (omega arith) (omega arith) in (cc, p.1)

pub bound_stop : {key : Key} {a : Option ℕ} {vs us : List Terminal} → IsBound key a vs us → Stops (key_binds key) us → Stops (suc (key_binds key)) vs
bound_stop no_bound s = omega arith
bound_stop (bound d) s = omega arith

pub one_bound : {key other : Key} {a b : Option ℕ} {ts us ws : List Terminal} → IsBound key a ts us → IsBound other b ts ws →
    key ≡ other → Stops (key_binds key) us → Stops (key_binds other) ws → (a ≡ b) × (us ≡ ws)
one_bound no_bound no_bound h s z = (refl, refl)
one_bound no_bound (bound e) h s z = let b = ap key_binds h in absurd (omega arith)
one_bound (bound d) no_bound h s z = let b = ap key_binds h in absurd (omega arith)
one_bound (bound d) (bound e) h s z = (refl, refl)

pub alias_stop : {a : Option (List ℕ)} {vs us : List Terminal} → IsAlias a vs us → Stops 12 us → Stops 13 vs
alias_stop no_alias s = omega arith
alias_stop alias s = lit< tt
alias_stop as_alias s = lit< tt

pub one_alias : {a b : Option (List ℕ)} {ts us ws : List Terminal} → IsAlias a ts us → IsAlias b ts ws → Stops 12 us → Stops 12 ws → (a ≡ b) × (us ≡ ws)
one_alias no_alias no_alias s z = (refl, refl)
one_alias no_alias alias s z = absurd (omega arith)
one_alias no_alias as_alias s z = absurd (omega arith)
one_alias alias no_alias s z = absurd (omega arith)
one_alias as_alias no_alias s z = absurd (omega arith)
one_alias alias alias s z = (refl, refl)
one_alias as_alias as_alias s z = (refl, refl)

pub one_distinct : {usual a b : Bool} {ts us ws : List Terminal} → IsDistinct usual a ts us → IsDistinct usual b ts ws →
    Stops 21 us → Stops 21 ws → (a ≡ b) × (us ≡ ws)
one_distinct unsaid unsaid s z = (refl, refl)
one_distinct unsaid all s z = absurd (omega arith)
one_distinct unsaid distinct s z = absurd (omega arith)
one_distinct all unsaid s z = absurd (omega arith)
one_distinct distinct unsaid s z = absurd (omega arith)
one_distinct all all s z = (refl, refl)
one_distinct distinct distinct s z = (refl, refl)

-- items

pub starts_stop : (ts : List Terminal) → 0 < starts ts → Stops 21 ts
starts_stop (Fixed k.All ∷ ts) h = absurd (omega arith)
starts_stop (Fixed k.Distinct ∷ ts) h = absurd (omega arith)
starts_stop _ h = lit< tt

pub item_begin : {t : ItemTree} {ts us : List Terminal} → IsItem t ts us → Stops 21 ts
item_begin all_columns = lit< tt
item_begin all_columns_of = lit< tt
item_begin (one_column {ts = ts} d e) = starts_stop ts (or_starts d)

pub items_begin : {t : List ItemTree} {ts us : List Terminal} → Listed IsItem t ts us → Stops 21 ts
items_begin (listed d r) = item_begin d

pub no_or_star : {t : OrTree} {ts us : List Terminal} → IsOr t (Fixed k.Star ∷ ts) us → ⊥
no_or_star d = let e = or_starts d in omega arith

pub one_item : Single IsItem 10
one_item _ _ _ _ _ all_columns all_columns s z = (refl, refl)
one_item _ _ _ _ _ all_columns (one_column d e) s z = absurd (no_or_star d)
one_item _ _ _ _ _ all_columns_of all_columns_of s z = (refl, refl)
one_item _ _ _ us ws all_columns_of (one_column {vs = vs} d e) s z =
    absurd (no_dot d (let a = alias_stop e (let up : Stops 12 ws = omega arith in up) in omega arith))
one_item _ _ _ _ _ (one_column d e) all_columns s z = absurd (no_or_star d)
one_item _ _ _ us ws (one_column {vs = vs} d e) all_columns_of s z =
    absurd (no_dot d (let a = alias_stop e (let up : Stops 12 us = omega arith in up) in omega arith))
one_item _ _ _ us ws (one_column d e) (one_column f g) s z =
    let u : Stops 12 us = omega arith in
    let w : Stops 12 ws = omega arith in
    let p = one_or d f (let a = alias_stop e u in omega arith) (let a = alias_stop g w in omega arith) in
    let n = one_alias e (moved IsAlias p.1 g) u w in
    (cc, n.1)

-- sorts

way_stop : {a : Bool} {vs us : List Terminal} → IsWay a vs us → Stops 13 us → Stops 14 vs
way_stop usual_way s = omega arith
way_stop ascending s = lit< tt
way_stop descending s = lit< tt

one_way : {a b : Bool} {ts us ws : List Terminal} → IsWay a ts us → IsWay b ts ws → Stops 13 us → Stops 13 ws → (a ≡ b) × (us ≡ ws)
one_way usual_way usual_way s z = (refl, refl)
one_way usual_way ascending s z = absurd (omega arith)
one_way usual_way descending s z = absurd (omega arith)
one_way ascending usual_way s z = absurd (omega arith)
one_way descending usual_way s z = absurd (omega arith)
one_way ascending ascending s z = (refl, refl)
one_way descending descending s z = (refl, refl)

nulls_stop : {d a : Bool} {vs us : List Terminal} → IsNulls d a vs us → Stops 12 us → Stops 13 vs
nulls_stop usual_nulls s = omega arith
nulls_stop (nulls e) s = lit< tt

one_nulls : {d a b : Bool} {ts us ws : List Terminal} → IsNulls d a ts us → IsNulls d b ts ws → Stops 12 us → Stops 12 ws → (a ≡ b) × (us ≡ ws)
one_nulls usual_nulls usual_nulls s z = (refl, refl)
one_nulls usual_nulls (nulls e) s z = absurd (omega arith)
one_nulls (nulls e) usual_nulls s z = absurd (omega arith)
one_nulls (nulls d) (nulls e) s z = (cc, refl)

at_nulls : {d c a : Bool} {ts us ws : List Terminal} → d ≡ c → ts ≡ ws → IsNulls c a ws us → IsNulls d a ts us
at_nulls {d = d} {a = a} {us = us} {ws = ws} e f n =
    subst (λ (x : List Terminal). IsNulls d a x us) (sym f) (subst (λ (x : Bool). IsNulls x a ws us) (sym e) n)

pub one_sort : Single IsSort 10
one_sort _ _ _ us ws (sort_of d a m) (sort_of e b n) s z =
    let u : Stops 12 us = omega arith in
    let w : Stops 12 ws = omega arith in
    let p = one_or d e (way_stop a (nulls_stop m u)) (way_stop b (nulls_stop n w)) in
    let q = one_way a (moved IsWay p.1 b) (nulls_stop m u) (nulls_stop n w) in
    let r = one_nulls m (at_nulls q.0 q.1 n) u w in
    (cc, r.1)

order_stop : {a : List SortTree} {vs us : List Terminal} → IsOrder a vs us → Stops 3 us → Stops 4 vs
order_stop unordered s = omega arith
order_stop (ordered d) s = lit< tt

one_order : {a b : List SortTree} {ts us ws : List Terminal} → IsOrder a ts us → IsOrder b ts ws → Stops 3 us → Stops 3 ws → (a ≡ b) × (us ≡ ws)
one_order unordered unordered s z = (refl, refl)
one_order unordered (ordered e) s z = absurd (omega arith)
one_order (ordered d) unordered s z = absurd (omega arith)
one_order (ordered d) (ordered e) s z = one_listed IsSort one_sort d e (omega arith) (omega arith)

group_stop : {a : List OrTree} {vs us : List Terminal} → IsGroup a vs us → Stops 6 us → Stops 7 vs
group_stop ungrouped s = omega arith
group_stop (grouped d) s = lit< tt

one_group : {a b : List OrTree} {ts us ws : List Terminal} → IsGroup a ts us → IsGroup b ts ws → Stops 6 us → Stops 6 ws → (a ≡ b) × (us ≡ ws)
one_group ungrouped ungrouped s z = (refl, refl)
one_group ungrouped (grouped e) s z = absurd (omega arith)
one_group (grouped d) ungrouped s z = absurd (omega arith)
one_group (grouped d) (grouped e) s z = one_list d e (omega arith) (omega arith)

-- joins

pub kind_binds : {a : JoinKind} {ts us : List Terminal} → IsKind a ts us → binds_at ts ≡ 10
kind_binds join = refl
kind_binds inner = refl
kind_binds cross = refl
kind_binds left = refl
kind_binds left_outer = refl
kind_binds right = refl
kind_binds right_outer = refl
kind_binds full = refl
kind_binds full_outer = refl
kind_binds semi = refl
kind_binds left_semi = refl
kind_binds anti = refl
kind_binds left_anti = refl

pub one_kind : {a b : JoinKind} {ts us ws : List Terminal} → IsKind a ts us → IsKind b ts ws → (a ≡ b) × (us ≡ ws)
one_kind join join = (refl, refl)
one_kind inner inner = (refl, refl)
one_kind cross cross = (refl, refl)
one_kind left left = (refl, refl)
one_kind left_outer left_outer = (refl, refl)
one_kind right right = (refl, refl)
one_kind right_outer right_outer = (refl, refl)
one_kind full full = (refl, refl)
one_kind full_outer full_outer = (refl, refl)
one_kind semi semi = (refl, refl)
one_kind left_semi left_semi = (refl, refl)
one_kind anti anti = (refl, refl)
one_kind left_anti left_anti = (refl, refl)

pub joined_rest_stop : {a : List JoinStep} {vs us : List Terminal} → IsJoinedRest a vs us → Stops 10 us → Stops 11 vs
joined_rest_stop joined_end s = omega arith
joined_rest_stop (joined_more d e f r) s = let b = kind_binds d in omega arith

pub from_rest_stop : {a : List JoinedTree} {vs us : List Terminal} → IsFromRest a vs us → Stops 9 us → Stops 10 vs
from_rest_stop from_end s = omega arith
from_rest_stop (from_more d r) s = lit< tt

from_stop : {a : List JoinedTree} {vs us : List Terminal} → IsFrom a vs us → Stops 8 us → Stops 9 vs
from_stop no_from s = omega arith
from_stop (from_of d r) s = lit< tt

pub core_begin : {a : CoreTree} {ts us : List Terminal} → IsCore a ts us → Stops 21 ts
core_begin (core_paren d) = lit< tt
core_begin (core_select d) = lit< tt

pub union_rest_stop : {a : List (Bool × CoreTree)} {vs us : List Terminal} → IsUnionRest a vs us → Stops 4 us → Stops 5 vs
union_rest_stop union_end s = omega arith
union_rest_stop (union_more d e r) s = lit< tt

mutual
  pub one_query : {t v : QueryTree} {ts us ws : List Terminal} → IsQuery t ts us → IsQuery v ts ws → Stops 1 us → Stops 1 ws → (t ≡ v) × (us ≡ ws)
  one_query (query_of d o l f) (query_of e p m g) s z =
      let s1 = bound_stop f s in let z1 = bound_stop g z in
      let s2 = bound_stop l s1 in let z2 = bound_stop m z1 in
      let a = one_union d e (order_stop o s2) (order_stop p z2) in
      let b = one_order o (moved IsOrder a.1 p) s2 z2 in
      let c = one_bound l (moved (IsBound k.Limit) b.1 m) refl s1 z1 in
      let h = one_bound f (moved (IsBound k.Offset) c.1 g) refl s z in
      (cc, h.1)

  pub one_union : {t v : UnionTree} {ts us ws : List Terminal} → IsUnion t ts us → IsUnion v ts ws → Stops 4 us → Stops 4 ws → (t ≡ v) × (us ≡ ws)
  one_union (union_of d r) (union_of e q) s z =
      let p = one_core d e (union_rest_stop r s) (union_rest_stop q z) in
      let n = one_union_rest r (moved IsUnionRest p.1 q) s z in
      (cc, n.1)

  pub one_union_rest : {t v : List (Bool × CoreTree)} {ts us ws : List Terminal} → IsUnionRest t ts us → IsUnionRest v ts ws → Stops 4 us → Stops 4 ws → (t ≡ v) × (us ≡ ws)
  one_union_rest union_end union_end s z = (refl, refl)
  one_union_rest union_end (union_more a e q) s z = absurd (omega arith)
  one_union_rest (union_more a d r) union_end s z = absurd (omega arith)
  one_union_rest (union_more a d r) (union_more b e q) s z =
      let o = one_distinct a b (core_begin d) (core_begin e) in
      let p = one_core d (moved IsCore o.1 e) (union_rest_stop r s) (union_rest_stop q z) in
      let n = one_union_rest r (moved IsUnionRest p.1 q) s z in
      (cc, n.1)

  pub one_core : {t v : CoreTree} {ts us ws : List Terminal} → IsCore t ts us → IsCore v ts ws → Stops 5 us → Stops 5 ws → (t ≡ v) × (us ≡ ws)
  one_core (core_paren d) (core_paren e) s z = let p = one_query d e (lit< tt) (lit< tt) in (cc, cc)
  one_core (core_select d) (core_select e) s z = let p = one_select d e s z in (cc, p.1)

  pub one_select : {t v : SelectTree} {ts us ws : List Terminal} → IsSelect t ts us → IsSelect v ts ws → Stops 5 us → Stops 5 ws → (t ≡ v) × (us ≡ ws)
  one_select (select_of a1 b1 c1 d1 e1 f1) (select_of a2 b2 c2 d2 e2 f2) s z =
      let sf = clause_stop f1 s in let zf = clause_stop f2 z in
      let se = group_stop e1 sf in let ze = group_stop e2 zf in
      let sd = clause_stop d1 se in let zd = clause_stop d2 ze in
      let a = one_distinct a1 a2 (items_begin b1) (items_begin b2) in
      let b = one_listed IsItem one_item b1 (moved (Listed IsItem) a.1 b2) (from_stop c1 sd) (from_stop c2 zd) in
      let c = one_from c1 (moved IsFrom b.1 c2) sd zd in
      let d = one_clause d1 (moved (IsClause k.Where) c.1 d2) refl (lit< tt) se ze in
      let e = one_group e1 (moved IsGroup d.1 e2) sf zf in
      let f = one_clause f1 (moved (IsClause k.Having) e.1 f2) refl (lit< tt) s z in
      (cc, f.1)

  pub one_from : {t v : List JoinedTree} {ts us ws : List Terminal} → IsFrom t ts us → IsFrom v ts ws → Stops 8 us → Stops 8 ws → (t ≡ v) × (us ≡ ws)
  one_from no_from no_from s z = (refl, refl)
  one_from no_from (from_of e q) s z = absurd (omega arith)
  one_from (from_of d r) no_from s z = absurd (omega arith)
  one_from {us = us} {ws = ws} (from_of d r) (from_of e q) s z =
      let u : Stops 9 us = omega arith in
      let w : Stops 9 ws = omega arith in
      let p = one_joined d e (from_rest_stop r u) (from_rest_stop q w) in
      let n = one_from_rest r (moved IsFromRest p.1 q) u w in
      (cc, n.1)

  pub one_from_rest : {t v : List JoinedTree} {ts us ws : List Terminal} → IsFromRest t ts us → IsFromRest v ts ws → Stops 9 us → Stops 9 ws → (t ≡ v) × (us ≡ ws)
  one_from_rest from_end from_end s z = (refl, refl)
  one_from_rest from_end (from_more e q) s z = absurd (omega arith)
  one_from_rest (from_more d r) from_end s z = absurd (omega arith)
  one_from_rest (from_more d r) (from_more e q) s z =
      let p = one_joined d e (from_rest_stop r s) (from_rest_stop q z) in
      let n = one_from_rest r (moved IsFromRest p.1 q) s z in
      (cc, n.1)

  pub one_joined : {t v : JoinedTree} {ts us ws : List Terminal} → IsJoined t ts us → IsJoined v ts ws → Stops 10 us → Stops 10 ws → (t ≡ v) × (us ≡ ws)
  one_joined (joined_of d r) (joined_of e q) s z =
      let p = one_source d e (let a = joined_rest_stop r s in omega arith) (let a = joined_rest_stop q z in omega arith) in
      let n = one_joined_rest r (moved IsJoinedRest p.1 q) s z in
      (cc, n.1)

  pub one_joined_rest : {t v : List JoinStep} {ts us ws : List Terminal} → IsJoinedRest t ts us → IsJoinedRest v ts ws → Stops 10 us → Stops 10 ws → (t ≡ v) × (us ≡ ws)
  one_joined_rest joined_end joined_end s z = (refl, refl)
  one_joined_rest joined_end (joined_more a e f q) s z = let b = kind_binds a in absurd (omega arith)
  one_joined_rest (joined_more a d f r) joined_end s z = let b = kind_binds a in absurd (omega arith)
  one_joined_rest (joined_more a d f r) (joined_more b e g q) s z =
      let o = one_kind a b in
      let sr = joined_rest_stop r s in let zr = joined_rest_stop q z in
      let p = one_source d (moved IsSource o.1 e) (clause_stop f sr) (clause_stop g zr) in
      let h = one_clause f (moved (IsClause k.On) p.1 g) refl (lit< tt) sr zr in
      let n = one_joined_rest r (moved IsJoinedRest h.1 q) s z in
      (cc, n.1)

  pub one_source : {t v : SourceTree} {ts us ws : List Terminal} → IsSource t ts us → IsSource v ts ws → Stops 12 us → Stops 12 ws → (t ≡ v) × (us ≡ ws)
  one_source (table a) (table b) s z = let p = one_alias a b s z in (cc, p.1)
  one_source (source_paren d a) (source_paren e b) s z =
      let p = one_query d e (lit< tt) (lit< tt) in
      let n = one_alias a (moved IsAlias (cc) b) s z in
      (cc, n.1)

-- tables

pub one_column_form : Single IsColumn 10
one_column_form _ _ _ _ _ (column_of e) (column_of f) s z = (cc, refl)

pub one_option : Single IsOption 10
one_option _ _ _ _ _ (option_of d e) (option_of f g) s z = (cc, refl)
one_option _ _ _ _ _ (option_of d e) (option_equal f g) s z = absurd (cc)
one_option _ _ _ _ _ (option_equal d e) (option_of f g) s z = absurd (cc)
one_option _ _ _ _ _ (option_equal d e) (option_equal f g) s z = (cc, refl)

one_place : {a b : List (List ℕ × List ℕ)} {p q : List ℕ} {ts : List Terminal} → IsPlace a p ts → IsPlace b q ts → (a ≡ b) × (p ≡ q)
one_place (location d) (location e) = (refl, refl)
one_place (options_location d a e) (options_location f b g) = let p = one_listed IsOption one_option a b (lit< tt) (lit< tt) in (p.0, cc)
one_place (location_options d e a) (location_options f g b) = let p = one_listed IsOption one_option a b (lit< tt) (lit< tt) in (p.0, refl)

at_place : {a : List (List ℕ × List ℕ)} {p : List ℕ} {ts us : List Terminal} → ts ≡ us → IsPlace a p us → IsPlace a p ts
at_place {a = a} {p = p} e d = subst (λ (x : List Terminal). IsPlace a p x) (sym e) d

pub one_create : {a b : TableForm} {ts : List Terminal} → IsCreate a ts → IsCreate b ts → a ≡ b
one_create (create d a e l) (create f b g m) =
    let p = one_listed IsColumn one_column_form a b (lit< tt) (lit< tt) in
    let n = one_place l (at_place (cc) m) in
    cc
