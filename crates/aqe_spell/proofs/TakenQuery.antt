-- What the parts of a spelled query are, by the query.
use Rattle.std.proofs.Common.{ℕ, Bool, false, List, [], ◌∷◌, ◌≡◌, refl, sym, subst}
use Rattle.std.specs.Prelude.{Option}
use Rattle.aqe_base.specs.declared.join_kind.JoinKind.{JoinKind}
use Rattle.aqe_trees.specs.declared.terminal.Key.TheVariants as k
use Rattle.aqe_trees.specs.declared.terminal.Terminal.{Terminal}
use Rattle.aqe_trees.specs.declared.terminal.Terminal.TheVariants.{Fixed, Name}
use Rattle.aqe_trees.specs.declared.expression.OrTree.{OrTree}
use Rattle.aqe_trees.specs.declared.query.QueryTree.{QueryTree, out-QueryTree, out-roll-QueryTree}
use Rattle.aqe_trees.specs.declared.query.UnionTree.{UnionTree, out-UnionTree, out-roll-UnionTree}
use Rattle.aqe_trees.specs.declared.query.CoreTree.{CoreTree, out-CoreTree}
use Rattle.aqe_trees.specs.declared.query.CoreTree.TheVariants as core
use Rattle.aqe_trees.specs.declared.query.SelectTree.{SelectTree, out-SelectTree, out-roll-SelectTree}
use Rattle.aqe_trees.specs.declared.query.ItemTree.{ItemTree}
use Rattle.aqe_trees.specs.declared.query.JoinStep.{JoinStep, out-JoinStep, out-roll-JoinStep}
use Rattle.aqe_trees.specs.declared.query.JoinedTree.{JoinedTree, out-JoinedTree, out-roll-JoinedTree}
use Rattle.aqe_trees.specs.declared.query.SourceTree.{SourceTree, out-SourceTree}
use Rattle.aqe_trees.specs.declared.query.SourceTree.TheVariants as source
use Rattle.aqe_trees.specs.declared.query.SortTree.{SortTree}
use Rattle.aqe_trees.specs.Shapes.{query_tree, union_tree, select_tree, joined_tree, join_step}
use Rattle.aqe_trees.specs.Lists.{Listed, IsClause, IsBound, IsAlias, IsDistinct}
use Rattle.aqe_trees.specs.Queries.{IsItem, IsOrder, IsGroup, IsKind, IsQuery, query_of, IsUnion, union_of, IsUnionRest, IsCore, core_paren, core_select, IsSelect, select_of, IsFrom, IsJoined, joined_of, IsJoinedRest, joined_end, joined_more, IsSource, table, source_paren}
use Rattle.aqe_trees.specs.declared.query.CoreTree.TheOpen as open_core

query_parts : {tree : QueryTree} {ts us : List Terminal} → IsQuery tree ts us
    → (vs : List Terminal) × (ws : List Terminal) × (xs : List Terminal) × IsUnion (out-QueryTree tree).body ts vs
    × IsOrder (out-QueryTree tree).order vs ws × IsBound k.Limit (out-QueryTree tree).limit ws xs
    × IsBound k.Offset (out-QueryTree tree).offset xs us
query_parts (query_of {body = a} {order = b} {limit = c} {offset = d} {ts = ts} {us = us} e f g h) =
    subst (λ x. (vs : List Terminal) × (ws : List Terminal) × (xs : List Terminal) × IsUnion x.body ts vs
    × IsOrder x.order vs ws × IsBound k.Limit x.limit ws xs × IsBound k.Offset x.offset xs us)
    (sym (out-roll-QueryTree (record { body = a; order = b; limit = c; offset = d }))) (_, _, _, e, f, g, h)

pub query_cut : (a : UnionTree) (b : List SortTree) (c d : Option ℕ) {ts us : List Terminal} → IsQuery (query_tree a b c d) ts us
    → (vs : List Terminal) × (ws : List Terminal) × (xs : List Terminal) × IsUnion a ts vs
    × IsOrder b vs ws × IsBound k.Limit c ws xs × IsBound k.Offset d xs us
query_cut a b c d {ts} {us} e =
    subst (λ x. (vs : List Terminal) × (ws : List Terminal) × (xs : List Terminal) × IsUnion x.body ts vs
    × IsOrder x.order vs ws × IsBound k.Limit x.limit ws xs × IsBound k.Offset x.offset xs us)
    (out-roll-QueryTree (record { body = a; order = b; limit = c; offset = d })) (query_parts e)

union_parts : {tree : UnionTree} {ts us : List Terminal} → IsUnion tree ts us
    → (vs : List Terminal) × IsCore (out-UnionTree tree).first ts vs × IsUnionRest (out-UnionTree tree).rest vs us
union_parts (union_of {first = a} {rest = b} {ts = ts} {us = us} d e) =
    subst (λ x. (vs : List Terminal) × IsCore x.first ts vs × IsUnionRest x.rest vs us)
    (sym (out-roll-UnionTree (record { first = a; rest = b }))) (_, d, e)

pub union_cut : (a : CoreTree) (b : List (Bool × CoreTree)) {ts us : List Terminal} → IsUnion (union_tree a b) ts us
    → (vs : List Terminal) × IsCore a ts vs × IsUnionRest b vs us
union_cut a b {ts} {us} d =
    subst (λ x. (vs : List Terminal) × IsCore x.first ts vs × IsUnionRest x.rest vs us)
    (out-roll-UnionTree (record { first = a; rest = b })) (union_parts d)

joined_parts : {tree : JoinedTree} {ts us : List Terminal} → IsJoined tree ts us
    → (vs : List Terminal) × IsSource (out-JoinedTree tree).first ts vs × IsJoinedRest (out-JoinedTree tree).rest vs us
joined_parts (joined_of {first = a} {rest = b} d e) = rw (out-roll-JoinedTree (record { first = a; rest = b })) (_, d, e)

pub joined_cut : (a : SourceTree) (b : List JoinStep) {ts us : List Terminal} → IsJoined (joined_tree a b) ts us
    → (vs : List Terminal) × IsSource a ts vs × IsJoinedRest b vs us
joined_cut a b {ts} {us} d =
    subst (λ x. (vs : List Terminal) × IsSource x.first ts vs × IsJoinedRest x.rest vs us)
    (out-roll-JoinedTree (record { first = a; rest = b })) (joined_parts d)

select_parts : {tree : SelectTree} {ts us : List Terminal} → IsSelect tree ts us
    → (vs : List Terminal) × (ws : List Terminal) × (xs : List Terminal) × (ys : List Terminal) × (zs : List Terminal)
    × IsDistinct false (out-SelectTree tree).distinct ts vs × Listed IsItem (out-SelectTree tree).items vs ws
    × IsFrom (out-SelectTree tree).from ws xs × IsClause k.Where (out-SelectTree tree).filter xs ys
    × IsGroup (out-SelectTree tree).group ys zs × IsClause k.Having (out-SelectTree tree).having zs us
select_parts (select_of {distinct = a} {items = b} {from = c} {filter = d} {having = f} {group = e} p q r s t u) =
    rw (out-roll-SelectTree (record { distinct = a; items = b; from = c; filter = d; group = e; having = f }))
    (_, _, _, _, _, p, q, r, s, t, u)

pub select_cut : (a : Bool) (b : List ItemTree) (c : List JoinedTree) (d : Option OrTree) (e : List OrTree) (f : Option OrTree)
    {ts us : List Terminal} → IsSelect (select_tree a b c d e f) ts us
    → (vs : List Terminal) × (ws : List Terminal) × (xs : List Terminal) × (ys : List Terminal) × (zs : List Terminal)
    × IsDistinct false a ts vs × Listed IsItem b vs ws × IsFrom c ws xs × IsClause k.Where d xs ys
    × IsGroup e ys zs × IsClause k.Having f zs us
select_cut a b c d e f {ts} {us} g =
    subst (λ x. (vs : List Terminal) × (ws : List Terminal) × (xs : List Terminal) × (ys : List Terminal) × (zs : List Terminal)
    × IsDistinct false x.distinct ts vs × Listed IsItem x.items vs ws × IsFrom x.from ws xs × IsClause k.Where x.filter xs ys
    × IsGroup x.group ys zs × IsClause k.Having x.having zs us)
    (out-roll-SelectTree (record { distinct = a; items = b; from = c; filter = d; group = e; having = f })) (select_parts g)

-- a join, by the first of the joins
abbrev StepsHave : List JoinStep → List Terminal → List Terminal → Type 0
StepsHave [] ts us = Unit {0}
StepsHave (first ∷ rest) ts us =
    (vs : List Terminal) × (ws : List Terminal) × (xs : List Terminal) × IsKind (out-JoinStep first).kind ts vs
    × IsSource (out-JoinStep first).source vs ws × IsClause k.On (out-JoinStep first).on ws xs × IsJoinedRest rest xs us

steps_have : {steps : List JoinStep} {ts us : List Terminal} → IsJoinedRest steps ts us → StepsHave steps ts us
steps_have joined_end = tt
steps_have (joined_more {kind = a} {next = b} {on = c} {rest = rest} {ts = ts} {us = us} d e f g) =
    subst (λ x. (vs : List Terminal) × (ws : List Terminal) × (xs : List Terminal) × IsKind x.kind ts vs
    × IsSource x.source vs ws × IsClause k.On x.on ws xs × IsJoinedRest rest xs us)
    (sym (out-roll-JoinStep (record { kind = a; source = b; on = c }))) (_, _, _, d, e, f, g)

pub step_cut : (a : JoinKind) (b : SourceTree) (c : Option OrTree) (rest : List JoinStep) {ts us : List Terminal}
    → IsJoinedRest (join_step a b c ∷ rest) ts us
    → (vs : List Terminal) × (ws : List Terminal) × (xs : List Terminal) × IsKind a ts vs
    × IsSource b vs ws × IsClause k.On c ws xs × IsJoinedRest rest xs us
step_cut a b c rest {ts} {us} d =
    subst (λ x. (vs : List Terminal) × (ws : List Terminal) × (xs : List Terminal) × IsKind x.kind ts vs
    × IsSource x.source vs ws × IsClause k.On x.on ws xs × IsJoinedRest rest xs us)
    (out-roll-JoinStep (record { kind = a; source = b; on = c })) (steps_have d)

-- a core, by what it is
abbrev CoreHas : open_core.CoreTree-F CoreTree SourceTree JoinStep JoinedTree QueryTree SelectTree UnionTree
    → List Terminal → List Terminal → Type 0
CoreHas (open_core.CoreTree::Paren query) ts us = (vs : List Terminal) × (ts ≡ Fixed k.Open ∷ vs) × IsQuery query vs (Fixed k.Close ∷ us)
CoreHas (open_core.Select select) ts us = (vs : List Terminal) × (ts ≡ Fixed k.Select ∷ vs) × IsSelect select vs us

core_has : {tree : CoreTree} {ts us : List Terminal} → IsCore tree ts us → CoreHas (out-CoreTree tree) ts us
core_has (core_paren {query = a} d) = rw (core.outs-Paren a) (_, refl, d)
core_has (core_select {select = a} d) = rw (core.outs-Select a) (_, refl, d)

pub core_paren_cut : (a : QueryTree) {ts us : List Terminal} → IsCore (core.Paren a) ts us
    → (vs : List Terminal) × (ts ≡ Fixed k.Open ∷ vs) × IsQuery a vs (Fixed k.Close ∷ us)
core_paren_cut a {ts} {us} d = subst (λ x. CoreHas x ts us) (core.outs-Paren a) (core_has d)

pub core_select_cut : (a : SelectTree) {ts us : List Terminal} → IsCore (core.Select a) ts us
    → (vs : List Terminal) × (ts ≡ Fixed k.Select ∷ vs) × IsSelect a vs us
core_select_cut a {ts} {us} d = subst (λ x. CoreHas x ts us) (core.outs-Select a) (core_has d)

-- a source, by what it is
abbrev SourceHas : open_core.SourceTree-F CoreTree SourceTree JoinStep JoinedTree QueryTree SelectTree UnionTree
    → List Terminal → List Terminal → Type 0
SourceHas (open_core.Table name named) ts us =
    (quoted : Bool) × (vs : List Terminal) × (ts ≡ Name name quoted ∷ vs) × IsAlias named vs us
SourceHas (open_core.SourceTree::Paren query named) ts us =
    (vs : List Terminal) × (ws : List Terminal) × (ts ≡ Fixed k.Open ∷ vs) × IsQuery query vs (Fixed k.Close ∷ ws) × IsAlias named ws us

source_has : {tree : SourceTree} {ts us : List Terminal} → IsSource tree ts us → SourceHas (out-SourceTree tree) ts us
source_has (table {name = a} {alias = b} d) = rw (source.outs-Table a b) (_, _, refl, d)
source_has (source_paren {query = a} {alias = b} d e) = rw (source.outs-Paren a b) (_, _, refl, d, e)

pub table_cut : (a : List ℕ) (b : Option (List ℕ)) {ts us : List Terminal} → IsSource (source.Table a b) ts us
    → (quoted : Bool) × (vs : List Terminal) × (ts ≡ Name a quoted ∷ vs) × IsAlias b vs us
table_cut a b {ts} {us} d = subst (λ x. SourceHas x ts us) (source.outs-Table a b) (source_has d)

pub source_paren_cut : (a : QueryTree) (b : Option (List ℕ)) {ts us : List Terminal} → IsSource (source.Paren a b) ts us
    → (vs : List Terminal) × (ws : List Terminal) × (ts ≡ Fixed k.Open ∷ vs) × IsQuery a vs (Fixed k.Close ∷ ws) × IsAlias b ws us
source_paren_cut a b {ts} {us} d = subst (λ x. SourceHas x ts us) (source.outs-Paren a b) (source_has d)
