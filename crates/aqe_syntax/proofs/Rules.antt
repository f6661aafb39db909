-- The rules that hold queries: from the reading of the parts to that of the whole.
use Rattle.std.proofs.Common.{ℕ, List, [], ◌∷◌, ◌++◌, Bool, true, false, ◌≡◌, ◌≤◌, ◌<◌, length, refl, sym, ap, subst, arith, lit<, Result, Ok, Err, MatchResult, Bor}
use Rattle.std.specs.Prelude.{Option}
use Rattle.std.proofs.lemmas.List.{append-nil}
use Rattle.std.proofs.Math.Seq.{append_snoc}
use Rattle.aqe_base.specs.declared.join_kind.JoinKind.{JoinKind}
use Rattle.aqe_trees.specs.declared.terminal.Key.TheVariants as k
use Rattle.aqe_trees.specs.declared.terminal.Terminal.{Terminal}
use Rattle.aqe_trees.specs.declared.terminal.Terminal.TheVariants.{Fixed, Name}
use Rattle.aqe_trees.specs.declared.expression.OrTree.{OrTree}
use Rattle.aqe_trees.specs.declared.query.QueryTree.{QueryTree}
use Rattle.aqe_trees.specs.declared.query.UnionTree.{UnionTree}
use Rattle.aqe_trees.specs.declared.query.CoreTree.{CoreTree}
use Rattle.aqe_trees.specs.declared.query.CoreTree.TheVariants as core
use Rattle.aqe_trees.specs.declared.query.SelectTree.{SelectTree}
use Rattle.aqe_trees.specs.declared.query.ItemTree.{ItemTree}
use Rattle.aqe_trees.specs.declared.query.JoinedTree.{JoinedTree}
use Rattle.aqe_trees.specs.declared.query.JoinStep.{JoinStep}
use Rattle.aqe_trees.specs.declared.query.SourceTree.{SourceTree}
use Rattle.aqe_trees.specs.declared.query.SourceTree.TheVariants as source
use Rattle.aqe_trees.specs.declared.query.SortTree.{SortTree}
use Rattle.aqe_trees.specs.Shapes.{query_tree, union_tree, select_tree, joined_tree, join_step}
use Rattle.aqe_trees.specs.Follow.{binds_at, Stops}
use Rattle.aqe_trees.specs.Lists.{Listed, IsClause, IsBound, IsAlias, IsDistinct}
use Rattle.aqe_trees.specs.Queries.{IsItem, IsOrder, unordered, ordered, IsGroup, ungrouped, grouped, IsKind, join, inner, cross, left, left_outer, right, right_outer, full, full_outer, semi, left_semi, anti, left_anti, IsQuery, query_of, IsUnion, union_of, IsUnionRest, union_end, union_more, IsCore, core_paren, core_select, IsSelect, select_of, IsFrom, no_from, from_of, IsFromRest, from_end, from_more, IsJoined, joined_of, IsJoinedRest, joined_end, joined_more, IsSource, table, source_paren}
use Rattle.aqe_trees.proofs.OneQuery.{clause_stop, bound_stop, items_begin, kind_binds, one_kind, joined_rest_stop, from_rest_stop, core_begin, union_rest_stop}
use Rattle.aqe_reader.specs.Reading.{Read, Refuses, Part, Taken, Never, IsRefusal}
use Rattle.aqe_reader.specs.declared.fault.ReadFault.{ReadFault}
use Rattle.aqe_syntax.specs.Parts.{IsNested, IsTail, tail_of, IsSelected, IsStep, step_of, IsConditions, conditions_of}
use Rattle.aqe_syntax.proofs.Chain.{moved, Chain, Step, Stuck, chain_step, chain_done, chain_refused}

order_stop : {a : List SortTree} {vs us : List Terminal} → IsOrder a vs us → Stops 3 us → Stops 4 vs
order_stop unordered s = omega arith
order_stop (ordered d) s = lit< tt

group_stop : {a : List OrTree} {vs us : List Terminal} → IsGroup a vs us → Stops 6 us → Stops 7 vs
group_stop ungrouped s = omega arith
group_stop (grouped d) s = lit< tt

from_stop : {a : List JoinedTree} {vs us : List Terminal} → IsFrom a vs us → Stops 8 us → Stops 9 vs
from_stop no_from s = omega arith
from_stop (from_of d r) s = lit< tt

-- query

tail_only : {o : List SortTree} {l f : Option ℕ} {v : List SortTree × Option ℕ × Option ℕ} {ts vs ws us zs : List Terminal} →
    Part IsOrder 3 ts o vs → Part (IsBound k.Limit) 2 vs l ws → Part (IsBound k.Offset) 1 ws f us →
    IsTail v ts zs → Stops 1 zs → ((o, l, f) ≡ v) × (us ≡ zs)
tail_only p q n (tail_of e g h) s =
    let s1 = bound_stop h s in
    let s2 = bound_stop g s1 in
    let b = p.only _ _ e s2 in
    let c = q.only _ _ (moved (IsBound k.Limit) b.1 g) s1 in
    let z = n.only _ _ (moved (IsBound k.Offset) c.1 h) s in
    (cc, z.1)

pub tail_read : {o : List SortTree} {l f : Option ℕ} {ts vs ws us : List Terminal} →
    Part IsOrder 3 ts o vs → Part (IsBound k.Limit) 2 vs l ws → Part (IsBound k.Offset) 1 ws f us → Part IsTail 1 ts (o, l, f) us
tail_read p q n = record {
  found = tail_of p.found q.found n.found;
  only = λ v ws d s. tail_only p q n d s;
  within = let a = p.within in let b = q.within in let c = n.within in omega arith;
}

no_tail : {v : List SortTree × Option ℕ × Option ℕ} {ts zs : List Terminal} → Refuses IsOrder 3 ts → IsTail v ts zs → Stops 1 zs → ⊥
no_tail n (tail_of e g h) s = n _ _ e (bound_stop g (bound_stop h s))

pub tail_refused : {ts : List Terminal} → Refuses IsOrder 3 ts → Refuses IsTail 1 ts
tail_refused n v ws d s = no_tail n d s

no_limit : {o : List SortTree} {v : List SortTree × Option ℕ × Option ℕ} {ts vs zs : List Terminal} → Part IsOrder 3 ts o vs →
    Refuses (IsBound k.Limit) 2 vs → IsTail v ts zs → Stops 1 zs → ⊥
no_limit p n (tail_of e g h) s =
    let s1 = bound_stop h s in
    let b = p.only _ _ e (bound_stop g s1) in
    n _ _ (moved (IsBound k.Limit) b.1 g) s1

pub limit_refused : {o : List SortTree} {ts vs : List Terminal} → Part IsOrder 3 ts o vs → Refuses (IsBound k.Limit) 2 vs → Refuses IsTail 1 ts
limit_refused p n v ws d s = no_limit p n d s

no_offset : {o : List SortTree} {l : Option ℕ} {v : List SortTree × Option ℕ × Option ℕ} {ts vs ws zs : List Terminal} → Part IsOrder 3 ts o vs →
    Part (IsBound k.Limit) 2 vs l ws → Refuses (IsBound k.Offset) 1 ws → IsTail v ts zs → Stops 1 zs → ⊥
no_offset p q n (tail_of e g h) s =
    let s1 = bound_stop h s in
    let b = p.only _ _ e (bound_stop g s1) in
    let c = q.only _ _ (moved (IsBound k.Limit) b.1 g) s1 in
    n _ _ (moved (IsBound k.Offset) c.1 h) s

pub offset_refused : {o : List SortTree} {l : Option ℕ} {ts vs ws : List Terminal} → Part IsOrder 3 ts o vs → Part (IsBound k.Limit) 2 vs l ws →
    Refuses (IsBound k.Offset) 1 ws → Refuses IsTail 1 ts
offset_refused p q n v ws d s = no_offset p q n d s

-- the query of a body and its tail
abbrev pub of_tail : UnionTree → List SortTree × Option ℕ × Option ℕ → QueryTree
of_tail b t = query_tree b t.0 t.1 t.2

whole : {b : UnionTree} {t : List SortTree × Option ℕ × Option ℕ} {ts us xs : List Terminal} → IsUnion b ts us → IsTail t us xs →
    IsQuery (of_tail b t) ts xs
whole d (tail_of e g h) = query_of d e g h

query_only : {b : UnionTree} {t : List SortTree × Option ℕ × Option ℕ} {v : QueryTree} {ts us xs zs : List Terminal} → Read IsUnion 4 ts b us →
    Part IsTail 1 us t xs → IsQuery v ts zs → Stops 1 zs → (of_tail b t ≡ v) × (xs ≡ zs)
query_only r p (query_of d e g h) s =
    let a = r.only _ _ d (order_stop e (bound_stop g (bound_stop h s))) in
    let z = p.only _ _ (tail_of (moved IsOrder a.1 e) g h) s in
    (cc, z.1)

pub query_read : {b : UnionTree} {t : List SortTree × Option ℕ × Option ℕ} {ts us xs : List Terminal} → Read IsUnion 4 ts b us →
    Part IsTail 1 us t xs → Read IsQuery 1 ts (of_tail b t) xs
query_read r p = record {
  found = whole r.found p.found;
  only = λ v ws d s. query_only r p d s;
  shorter = let a = r.shorter in let b = p.within in omega arith;
}

no_body : {v : QueryTree} {ts zs : List Terminal} → Refuses IsUnion 4 ts → IsQuery v ts zs → Stops 1 zs → ⊥
no_body n (query_of d e g h) s = n _ _ d (order_stop e (bound_stop g (bound_stop h s)))

pub query_refused : {ts : List Terminal} → Refuses IsUnion 4 ts → Refuses IsQuery 1 ts
query_refused n v ws d s = no_body n d s

no_query_tail : {b : UnionTree} {v : QueryTree} {ts us zs : List Terminal} → Read IsUnion 4 ts b us → Refuses IsTail 1 us →
    IsQuery v ts zs → Stops 1 zs → ⊥
no_query_tail r n (query_of d e g h) s =
    let a = r.only _ _ d (order_stop e (bound_stop g (bound_stop h s))) in
    n _ _ (tail_of (moved IsOrder a.1 e) g h) s

pub query_tail_refused : {b : UnionTree} {ts us : List Terminal} → Read IsUnion 4 ts b us → Refuses IsTail 1 us → Refuses IsQuery 1 ts
query_tail_refused r n v ws d s = no_query_tail r n d s

-- a query behind its parenthesis

pub nested_read : {q : QueryTree} {ts rest us : List Terminal} → Read IsQuery 1 ts q rest → rest ≡ Fixed k.Close ∷ us → Taken IsNested ts q us
nested_read {rest = rest} {us = us} r e = record {
  found = let d = r.found in rw e at d;
  only = λ v ws d. let o = r.only v (Fixed k.Close ∷ ws) d (lit< tt) in (o.0, cc);
  shorter = let a = r.shorter in let b : length rest ≡ length (Fixed k.Close ∷ us) = ap length e in omega arith;
}

pub nested_refused : {ts : List Terminal} → Refuses IsQuery 1 ts → Never IsNested ts
nested_refused n v ws d = n v (Fixed k.Close ∷ ws) d (lit< tt)

pub nested_open : {q : QueryTree} {ts rest : List Terminal} → Read IsQuery 1 ts q rest →
    ((us : List Terminal) → rest ≡ Fixed k.Close ∷ us → ⊥) → Never IsNested ts
nested_open r n v ws d = let o = r.only v (Fixed k.Close ∷ ws) d (lit< tt) in n ws o.1

-- core

paren_core_only : {q : QueryTree} {v : CoreTree} {after us ws : List Terminal} → Taken IsNested after q us →
    IsCore v (Fixed k.Open ∷ after) ws → (core.Paren q ≡ v) × (us ≡ ws)
paren_core_only r (core_paren d) = let o = r.only _ _ d in (cc, o.1)

pub paren_core_read : {q : QueryTree} {ts after us : List Terminal} → ts ≡ Fixed k.Open ∷ after → Taken IsNested after q us →
    Read IsCore 5 ts (core.Paren q) us
paren_core_read e r = rw e (record {
  found = core_paren r.found;
  only = λ v ws d s. paren_core_only r d;
  shorter = let a = r.shorter in omega arith;
})

no_paren_core : {v : CoreTree} {after ws : List Terminal} → Never IsNested after → IsCore v (Fixed k.Open ∷ after) ws → ⊥
no_paren_core n (core_paren d) = n _ _ d

pub paren_core_refused : {ts after : List Terminal} → ts ≡ Fixed k.Open ∷ after → Never IsNested after → Refuses IsCore 5 ts
paren_core_refused e n = rw e (λ v ws d s. no_paren_core n d)

selected_shorter : {x : CoreTree} {ts after us : List Terminal} → ts ≡ Fixed k.Select ∷ after → Read IsSelected 5 after x us → Read IsCore 5 ts x us
selected_shorter e r = rw e (record { found = r.found; only = r.only; shorter = let a = r.shorter in omega arith })

no_selected : {ts after : List Terminal} → ts ≡ Fixed k.Select ∷ after → Refuses IsSelected 5 after → Refuses IsCore 5 ts
no_selected e n = rw e n

-- what the reader behind SELECT answers is what that of the core does
pub selected_answer : {ts after : List Terminal} (r : Result (CoreTree × Bor (List Terminal)) ReadFault) → ts ≡ Fixed k.Select ∷ after →
    MatchResult r (λ x. Read IsSelected 5 after x.0 x.1.now) (λ e. IsRefusal e → Refuses IsSelected 5 after) →
    MatchResult r (λ x. Read IsCore 5 ts x.0 x.1.now) (λ e. IsRefusal e → Refuses IsCore 5 ts)
selected_answer (Ok x) e r = selected_shorter e r
selected_answer (Err f) e n = λ g. no_selected e (n g)

no_core : {v : CoreTree} {ts ws : List Terminal} → ((us : List Terminal) → ts ≡ Fixed k.Open ∷ us → ⊥) →
    ((us : List Terminal) → ts ≡ Fixed k.Select ∷ us → ⊥) → IsCore v ts ws → ⊥
no_core m n (core_paren d) = m _ refl
no_core m n (core_select d) = n _ refl

pub core_refused : {ts : List Terminal} → ((us : List Terminal) → ts ≡ Fixed k.Open ∷ us → ⊥) →
    ((us : List Terminal) → ts ≡ Fixed k.Select ∷ us → ⊥) → Refuses IsCore 5 ts
core_refused m n v ws d s = no_core m n d

-- source

table_only : {name : List ℕ} {alias : Option (List ℕ)} {quoted : Bool} {v : SourceTree} {rest us ws : List Terminal} →
    Part IsAlias 12 rest alias us → IsSource v (Name name quoted ∷ rest) ws → Stops 12 ws → (source.Table name alias ≡ v) × (us ≡ ws)
table_only p (table a) s = let o = p.only _ _ a s in (cc, o.1)

pub table_read : {name : List ℕ} {alias : Option (List ℕ)} {quoted : Bool} {ts rest us : List Terminal} →
    ts ≡ Name name quoted ∷ rest → Part IsAlias 12 rest alias us → Read IsSource 12 ts (source.Table name alias) us
table_read e p = rw e (record {
  found = table p.found;
  only = λ v ws d s. table_only p d s;
  shorter = let a = p.within in omega arith;
})

paren_source_only : {q : QueryTree} {alias : Option (List ℕ)} {v : SourceTree} {after rest us ws : List Terminal} →
    Taken IsNested after q rest → Part IsAlias 12 rest alias us → IsSource v (Fixed k.Open ∷ after) ws → Stops 12 ws →
    (source.Paren q alias ≡ v) × (us ≡ ws)
paren_source_only r p (source_paren d a) s =
    let o = r.only _ _ d in
    let z = p.only _ _ (moved IsAlias o.1 a) s in
    (cc, z.1)

pub paren_source_read : {q : QueryTree} {alias : Option (List ℕ)} {ts after rest us : List Terminal} → ts ≡ Fixed k.Open ∷ after →
    Taken IsNested after q rest → Part IsAlias 12 rest alias us → Read IsSource 12 ts (source.Paren q alias) us
paren_source_read e r p = rw e (record {
  found = source_paren r.found p.found;
  only = λ v ws d s. paren_source_only r p d s;
  shorter = let a = r.shorter in let b = p.within in omega arith;
})

no_table_alias : {name : List ℕ} {quoted : Bool} {v : SourceTree} {rest ws : List Terminal} → Refuses IsAlias 12 rest →
    IsSource v (Name name quoted ∷ rest) ws → Stops 12 ws → ⊥
no_table_alias n (table a) s = n _ _ a s

pub table_alias_refused : {name : List ℕ} {quoted : Bool} {ts rest : List Terminal} → ts ≡ Name name quoted ∷ rest → Refuses IsAlias 12 rest →
    Refuses IsSource 12 ts
table_alias_refused e n = rw e (λ v ws d s. no_table_alias n d s)

no_paren_alias : {q : QueryTree} {v : SourceTree} {after rest ws : List Terminal} → Taken IsNested after q rest → Refuses IsAlias 12 rest →
    IsSource v (Fixed k.Open ∷ after) ws → Stops 12 ws → ⊥
no_paren_alias r n (source_paren d a) s = let o = r.only _ _ d in n _ _ (moved IsAlias o.1 a) s

pub paren_alias_refused : {q : QueryTree} {ts after rest : List Terminal} → ts ≡ Fixed k.Open ∷ after → Taken IsNested after q rest →
    Refuses IsAlias 12 rest → Refuses IsSource 12 ts
paren_alias_refused e r n = rw e (λ v ws d s. no_paren_alias r n d s)

no_paren_source : {v : SourceTree} {after ws : List Terminal} → Never IsNested after → IsSource v (Fixed k.Open ∷ after) ws → ⊥
no_paren_source n (source_paren d a) = n _ _ d

pub paren_source_refused : {ts after : List Terminal} → ts ≡ Fixed k.Open ∷ after → Never IsNested after → Refuses IsSource 12 ts
paren_source_refused e n = rw e (λ v ws d s. no_paren_source n d)

no_source : {v : SourceTree} {ts ws : List Terminal} → ((us : List Terminal) → ts ≡ Fixed k.Open ∷ us → ⊥) →
    ((name : List ℕ) (quoted : Bool) (us : List Terminal) → ts ≡ Name name quoted ∷ us → ⊥) → IsSource v ts ws → ⊥
no_source m n (table a) = n _ _ _ refl
no_source m n (source_paren d a) = m _ refl

pub source_refused : {ts : List Terminal} → ((us : List Terminal) → ts ≡ Fixed k.Open ∷ us → ⊥) →
    ((name : List ℕ) (quoted : Bool) (us : List Terminal) → ts ≡ Name name quoted ∷ us → ⊥) → Refuses IsSource 12 ts
source_refused m n v ws d s = no_source m n d

-- joined

pub kind_shorter : {a : JoinKind} {ts us : List Terminal} → IsKind a ts us → length us < length ts
kind_shorter join = omega arith
kind_shorter inner = omega arith
kind_shorter cross = omega arith
kind_shorter left = omega arith
kind_shorter left_outer = omega arith
kind_shorter right = omega arith
kind_shorter right_outer = omega arith
kind_shorter full = omega arith
kind_shorter full_outer = omega arith
kind_shorter semi = omega arith
kind_shorter left_semi = omega arith
kind_shorter anti = omega arith
kind_shorter left_anti = omega arith

-- a source and the joins that are read so far
pub record JoinedSoFar (first : SourceTree) (steps : List JoinStep) (ts rest : List Terminal) : Type 0 where
  pub chain : Chain IsJoined IsJoinedRest 10 (λ ys. joined_tree first (steps ++ ys)) ts rest

first_source : {x : SourceTree} {v : JoinedTree} {ts rest us : List Terminal} → Read IsSource 12 ts x rest → IsJoined v ts us → Stops 10 us →
    (ys : List JoinStep) × (v ≡ joined_tree x ys) × IsJoinedRest ys rest us
first_source r (joined_of {rest = ys} d q) s =
    let o = r.only _ _ d (let b = joined_rest_stop q s in omega arith) in
    (ys, cc, moved IsJoinedRest o.1 q)

joined_first : {x : SourceTree} {ts rest : List Terminal} → Read IsSource 12 ts x rest → JoinedSoFar x [] ts rest
joined_first r = record {
  chain = record {
    more = λ ys us d. joined_of r.found d;
    back = λ v us d s. first_source r d s;
    shorter = r.shorter;
  };
}

pub joined_begin : {x : SourceTree} {steps : List JoinStep} {ts rest : List Terminal} → Read IsSource 12 ts x rest → steps ≡ [] →
    JoinedSoFar x steps ts rest
joined_begin r e = rw e (joined_first r)

-- a source and its condition, behind JOIN
step_only : {kind : JoinKind} {x : SourceTree} {on : Option OrTree} {v : JoinStep} {ts vs us ws : List Terminal} → Read IsSource 12 ts x vs →
    Part (IsClause k.On) 11 vs on us → IsStep kind v ts ws → Stops 11 ws → (join_step kind x on ≡ v) × (us ≡ ws)
step_only r p (step_of d f) s =
    let n = r.only _ _ d (clause_stop f s) in
    let c = p.only _ _ (moved (IsClause k.On) n.1 f) s in
    (cc, c.1)

pub step_read : {kind : JoinKind} {x : SourceTree} {on : Option OrTree} {ts vs us : List Terminal} → Read IsSource 12 ts x vs →
    Part (IsClause k.On) 11 vs on us → Read (IsStep kind) 11 ts (join_step kind x on) us
step_read r p = record {
  found = step_of r.found p.found;
  only = λ v ws d s. step_only r p d s;
  shorter = let b = r.shorter in let c = p.within in omega arith;
}

no_step_source : {kind : JoinKind} {v : JoinStep} {ts ws : List Terminal} → Refuses IsSource 12 ts → IsStep kind v ts ws → Stops 11 ws → ⊥
no_step_source n (step_of d f) s = n _ _ d (clause_stop f s)

pub step_source_refused : {kind : JoinKind} {ts : List Terminal} → Refuses IsSource 12 ts → Refuses (IsStep kind) 11 ts
step_source_refused n v ws d s = no_step_source n d s

no_step_on : {kind : JoinKind} {x : SourceTree} {v : JoinStep} {ts vs ws : List Terminal} → Read IsSource 12 ts x vs →
    Refuses (IsClause k.On) 11 vs → IsStep kind v ts ws → Stops 11 ws → ⊥
no_step_on r n (step_of d f) s = let m = r.only _ _ d (clause_stop f s) in n _ _ (moved (IsClause k.On) m.1 f) s

pub step_on_refused : {kind : JoinKind} {x : SourceTree} {ts vs : List Terminal} → Read IsSource 12 ts x vs → Refuses (IsClause k.On) 11 vs →
    Refuses (IsStep kind) 11 ts
step_on_refused r n v ws d s = no_step_on r n d s

at_step : {kind other : JoinKind} {v : JoinStep} {a b us : List Terminal} → kind ≡ other → a ≡ b → IsStep other v b us → IsStep kind v a us
at_step e f d = rw (e, f) d

join_found : {kind : JoinKind} {x : JoinStep} {ys : List JoinStep} {rest after left us : List Terminal} → IsKind kind rest after →
    IsStep kind x after left → IsJoinedRest ys left us → IsJoinedRest (x ∷ ys) rest us
join_found j (step_of d f) q = joined_more j d f q

join_uncons : {kind : JoinKind} {x : JoinStep} {zs : List JoinStep} {rest after left us : List Terminal} →
    IsKind kind rest after → Read (IsStep kind) 11 after x left → IsJoinedRest zs rest us → Stops 10 us →
    (ys : List JoinStep) × (zs ≡ x ∷ ys) × IsJoinedRest ys left us
join_uncons j r joined_end s = let b = kind_binds j in absurd (omega arith)
join_uncons j r (joined_more {rest = ys} a d f q) s =
    let o = one_kind j a in
    let n = r.only _ _ (at_step o.0 o.1 (step_of d f)) (joined_rest_stop q s) in
    (ys, cc, moved IsJoinedRest n.1 q)

join_read : {kind : JoinKind} {x : JoinStep} {rest after left : List Terminal} →
    IsKind kind rest after → Read (IsStep kind) 11 after x left → Step IsJoinedRest 10 x rest left
join_read j r = record {
  cons = λ ys us d. join_found j r.found d;
  uncons = λ zs us d s. join_uncons j r d s;
  less = let a = kind_shorter j in let b = r.shorter in omega arith;
}

pub joined_step : {kind : JoinKind} {first : SourceTree} {x : JoinStep} {steps next : List JoinStep} {ts rest after left : List Terminal} →
    JoinedSoFar first steps ts rest → IsKind kind rest after → Read (IsStep kind) 11 after x left →
    next ≡ steps ++ x ∷ [] → JoinedSoFar first next ts left
joined_step {x = x} {steps = steps} c j r e =
    record { chain = chain_step c.chain (join_read j r) (λ ys. rw e (rw (append_snoc steps x ys))) }

no_join : {zs : List JoinStep} {rest us : List Terminal} → ((a : JoinKind) (vs : List Terminal) → IsKind a rest vs → ⊥) →
    IsJoinedRest zs rest us → (zs ≡ []) × (us ≡ rest)
no_join n joined_end = (refl, refl)
no_join n (joined_more a d f q) = absurd (n _ _ a)

pub joined_done : {first : SourceTree} {steps : List JoinStep} {ts rest : List Terminal} → JoinedSoFar first steps ts rest →
    ((a : JoinKind) (vs : List Terminal) → IsKind a rest vs → ⊥) → Read IsJoined 10 ts (joined_tree first steps) rest
joined_done {steps = steps} c n =
    chain_done c.chain (record { here = joined_end; only = λ ys us d s. no_join n d }) (rw (append-nil steps))

no_first_source : {v : JoinedTree} {ts us : List Terminal} → Refuses IsSource 12 ts → IsJoined v ts us → Stops 10 us → ⊥
no_first_source n (joined_of d q) s = n _ _ d (let b = joined_rest_stop q s in omega arith)

pub joined_refused : {ts : List Terminal} → Refuses IsSource 12 ts → Refuses IsJoined 10 ts
joined_refused n v ws d s = no_first_source n d s

no_next_step : {kind : JoinKind} {zs : List JoinStep} {rest after us : List Terminal} → IsKind kind rest after → Refuses (IsStep kind) 11 after →
    IsJoinedRest zs rest us → Stops 10 us → ⊥
no_next_step j n joined_end s = let b = kind_binds j in omega arith
no_next_step j n (joined_more a d f q) s =
    let o = one_kind j a in
    n _ _ (at_step o.0 o.1 (step_of d f)) (joined_rest_stop q s)

pub join_step_refused : {kind : JoinKind} {first : SourceTree} {steps : List JoinStep} {ts rest after : List Terminal} →
    JoinedSoFar first steps ts rest → IsKind kind rest after → Refuses (IsStep kind) 11 after → Refuses IsJoined 10 ts
join_step_refused c j n = chain_refused c.chain (λ ys us d s. no_next_step j n d s)

-- a kind of join begins, and its JOIN is wanting
no_kind_here : {zs : List JoinStep} {rest us : List Terminal} → ((a : JoinKind) (vs : List Terminal) → IsKind a rest vs → ⊥) → binds_at rest ≡ 10 →
    IsJoinedRest zs rest us → Stops 10 us → ⊥
no_kind_here n b joined_end s = omega arith
no_kind_here n b (joined_more a d f q) s = n _ _ a

pub join_kind_refused : {first : SourceTree} {steps : List JoinStep} {ts rest : List Terminal} → JoinedSoFar first steps ts rest →
    ((a : JoinKind) (vs : List Terminal) → IsKind a rest vs → ⊥) → binds_at rest ≡ 10 → Refuses IsJoined 10 ts
join_kind_refused c n b = chain_refused c.chain (λ ys us d s. no_kind_here n b d s)

-- union

-- the cores behind the first that are read so far
pub record CoresSoFar (cores : List (Bool × CoreTree)) (ts rest : List Terminal) : Type 0 where
  pub more : (ys : List (Bool × CoreTree)) (us : List Terminal) → IsUnionRest ys rest us → IsUnionRest (cores ++ ys) ts us
  pub back : (zs : List (Bool × CoreTree)) (us : List Terminal) → IsUnionRest zs ts us → Stops 4 us →
      (ys : List (Bool × CoreTree)) × (zs ≡ cores ++ ys) × IsUnionRest ys rest us
  pub within : length rest ≤ length ts

no_cores_yet : {ts : List Terminal} → CoresSoFar [] ts ts
no_cores_yet = record { more = λ ys us d. d; back = λ zs us d s. (zs, refl, d); within = omega arith }

pub cores_begin : {cores : List (Bool × CoreTree)} {ts : List Terminal} → cores ≡ [] → CoresSoFar cores ts ts
cores_begin e = rw e no_cores_yet

union_uncons : {once : Bool} {x : CoreTree} {zs : List (Bool × CoreTree)} {after vs left us : List Terminal} →
    Part (IsDistinct true) 21 after once vs → Read IsCore 5 vs x left → IsUnionRest zs (Fixed k.Union ∷ after) us → Stops 4 us →
    (ys : List (Bool × CoreTree)) × (zs ≡ (once, x) ∷ ys) × IsUnionRest ys left us
union_uncons p r union_end s = absurd (omega arith)
union_uncons p r (union_more {rest = ys} a d q) s =
    let o = p.only _ _ a (core_begin d) in
    let n = r.only _ _ (moved IsCore o.1 d) (union_rest_stop q s) in
    (ys, cc, moved IsUnionRest n.1 q)

core_step : {once : Bool} {x : CoreTree} {rest after vs left : List Terminal} → rest ≡ Fixed k.Union ∷ after →
    Part (IsDistinct true) 21 after once vs → Read IsCore 5 vs x left → Step IsUnionRest 4 (once, x) rest left
core_step e p r = rw e (record {
  cons = λ ys us d. union_more p.found r.found d;
  uncons = λ zs us d s. union_uncons p r d s;
  less = let a = p.within in let b = r.shorter in omega arith;
})

cores_more : {x : Bool × CoreTree} {cores next : List (Bool × CoreTree)} {ts rest left : List Terminal} → CoresSoFar cores ts rest →
    Step IsUnionRest 4 x rest left → next ≡ cores ++ x ∷ [] → CoresSoFar next ts left
cores_more {x = x} {cores = cores} {ts = ts} c s n = rw n (record {
  more = λ ys us d. rw (append_snoc cores x ys) (c.more (x ∷ ys) us (s.cons ys us d));
  back = λ zs us d z.
      let b = c.back zs us d z in
      let u = s.uncons b.0 us b.2 z in
      (u.0, rw (append_snoc cores x u.0) (cc), u.2);
  within = let a = s.less in let b = c.within in omega arith;
})

pub cores_step : {once : Bool} {x : CoreTree} {cores next : List (Bool × CoreTree)} {ts rest after vs left : List Terminal} →
    CoresSoFar cores ts rest → rest ≡ Fixed k.Union ∷ after → Part (IsDistinct true) 21 after once vs → Read IsCore 5 vs x left →
    next ≡ cores ++ (once, x) ∷ [] → CoresSoFar next ts left
cores_step c e p r n = cores_more c (core_step e p r) n

no_union : {zs : List (Bool × CoreTree)} {rest us : List Terminal} → ((vs : List Terminal) → rest ≡ Fixed k.Union ∷ vs → ⊥) →
    IsUnionRest zs rest us → (zs ≡ []) × (us ≡ rest)
no_union n union_end = (refl, refl)
no_union n (union_more a d q) = absurd (n _ refl)

pub cores_done : {cores : List (Bool × CoreTree)} {ts rest : List Terminal} → CoresSoFar cores ts rest →
    ((vs : List Terminal) → rest ≡ Fixed k.Union ∷ vs → ⊥) → Part IsUnionRest 4 ts cores rest
cores_done {cores = cores} {ts = ts} {rest = rest} c n = record {
  found = subst (λ (x : List (Bool × CoreTree)). IsUnionRest x ts rest) (append-nil cores) (c.more [] rest union_end);
  only = λ v ws d s.
      let b = c.back v ws d s in
      let o = no_union n b.2 in
      let e = append-nil cores in
      (cc, cc);
  within = c.within;
}

no_next_core : {once : Bool} {zs : List (Bool × CoreTree)} {after vs us : List Terminal} → Part (IsDistinct true) 21 after once vs →
    Refuses IsCore 5 vs → IsUnionRest zs (Fixed k.Union ∷ after) us → Stops 4 us → ⊥
no_next_core p n union_end s = omega arith
no_next_core p n (union_more a d q) s =
    let o = p.only _ _ a (core_begin d) in
    n _ _ (moved IsCore o.1 d) (union_rest_stop q s)

core_stuck : {once : Bool} {rest after vs : List Terminal} → rest ≡ Fixed k.Union ∷ after → Part (IsDistinct true) 21 after once vs →
    Refuses IsCore 5 vs → Stuck IsUnionRest 4 rest
core_stuck e p n = rw e (λ ys us d s. no_next_core p n d s)

pub cores_refused : {once : Bool} {cores : List (Bool × CoreTree)} {ts rest after vs : List Terminal} →
    CoresSoFar cores ts rest → rest ≡ Fixed k.Union ∷ after → Part (IsDistinct true) 21 after once vs → Refuses IsCore 5 vs →
    Refuses IsUnionRest 4 ts
cores_refused c e p n v us d s = let b = c.back v us d s in core_stuck e p n b.0 us b.2 s

union_only : {x : CoreTree} {cores : List (Bool × CoreTree)} {v : UnionTree} {ts vs us ws : List Terminal} → Read IsCore 5 ts x vs →
    Part IsUnionRest 4 vs cores us → IsUnion v ts ws → Stops 4 ws → (union_tree x cores ≡ v) × (us ≡ ws)
union_only r p (union_of d q) s =
    let o = r.only _ _ d (union_rest_stop q s) in
    let n = p.only _ _ (moved IsUnionRest o.1 q) s in
    (cc, n.1)

pub union_read : {x : CoreTree} {cores : List (Bool × CoreTree)} {ts vs us : List Terminal} → Read IsCore 5 ts x vs →
    Part IsUnionRest 4 vs cores us → Read IsUnion 4 ts (union_tree x cores) us
union_read r p = record {
  found = union_of r.found p.found;
  only = λ v ws d s. union_only r p d s;
  shorter = let a = r.shorter in let b = p.within in omega arith;
}

no_first_core : {v : UnionTree} {ts us : List Terminal} → Refuses IsCore 5 ts → IsUnion v ts us → Stops 4 us → ⊥
no_first_core n (union_of d q) s = n _ _ d (union_rest_stop q s)

pub union_refused : {ts : List Terminal} → Refuses IsCore 5 ts → Refuses IsUnion 4 ts
union_refused n v ws d s = no_first_core n d s

no_cores : {x : CoreTree} {v : UnionTree} {ts vs us : List Terminal} → Read IsCore 5 ts x vs → Refuses IsUnionRest 4 vs →
    IsUnion v ts us → Stops 4 us → ⊥
no_cores r n (union_of d q) s =
    let o = r.only _ _ d (union_rest_stop q s) in
    n _ _ (moved IsUnionRest o.1 q) s

pub union_cores_refused : {x : CoreTree} {ts vs : List Terminal} → Read IsCore 5 ts x vs → Refuses IsUnionRest 4 vs → Refuses IsUnion 4 ts
union_cores_refused r n v ws d s = no_cores r n d s

-- from

abbrev pub IsFromItems : List JoinedTree → List Terminal → List Terminal → Type 0
IsFromItems items ts us = IsFrom items (Fixed k.From ∷ ts) us

-- the items of FROM that are read so far
pub record FromSoFar (items : List JoinedTree) (ts rest : List Terminal) : Type 0 where
  pub start : List Terminal
  pub begins : ts ≡ Fixed k.From ∷ start
  pub chain : Chain IsFromItems IsFromRest 8 (λ ys. items ++ ys) start rest

first_from : {x : JoinedTree} {v : List JoinedTree} {ts rest us : List Terminal} → Read IsJoined 10 ts x rest →
    IsFrom v (Fixed k.From ∷ ts) us → Stops 8 us → (ys : List JoinedTree) × (v ≡ x ∷ ys) × IsFromRest ys rest us
first_from r no_from s = absurd (omega arith)
first_from {us = us} r (from_of {rest = ys} d q) s =
    let o = r.only _ _ d (from_rest_stop q (let u : Stops 9 us = omega arith in u)) in
    (ys, cc, moved IsFromRest o.1 q)

from_first : {x : JoinedTree} {ts start rest : List Terminal} → ts ≡ Fixed k.From ∷ start → Read IsJoined 10 start x rest →
    FromSoFar ([] ++ x ∷ []) ts rest
from_first e r = record {
  start = _;
  begins = e;
  chain = record {
    more = λ ys us d. from_of r.found d;
    back = λ v us d s. first_from r d s;
    shorter = r.shorter;
  };
}

pub from_begin : {x : JoinedTree} {items : List JoinedTree} {ts start rest : List Terminal} → ts ≡ Fixed k.From ∷ start →
    Read IsJoined 10 start x rest → items ≡ [] ++ x ∷ [] → FromSoFar items ts rest
from_begin b r e = rw e (from_first b r)

from_uncons : {x : JoinedTree} {zs : List JoinedTree} {after left us : List Terminal} → Read IsJoined 10 after x left →
    IsFromRest zs (Fixed k.Comma ∷ after) us → Stops 8 us → (ys : List JoinedTree) × (zs ≡ x ∷ ys) × IsFromRest ys left us
from_uncons r from_end s = absurd (omega arith)
from_uncons {us = us} r (from_more {rest = ys} d q) s =
    let o = r.only _ _ d (from_rest_stop q (let u : Stops 9 us = omega arith in u)) in
    (ys, cc, moved IsFromRest o.1 q)

item_step : {x : JoinedTree} {rest after left : List Terminal} → rest ≡ Fixed k.Comma ∷ after → Read IsJoined 10 after x left →
    Step IsFromRest 8 x rest left
item_step e r = rw e (record {
  cons = λ ys us d. from_more r.found d;
  uncons = λ zs us d s. from_uncons r d s;
  less = let a = r.shorter in omega arith;
})

pub from_step : {x : JoinedTree} {items next : List JoinedTree} {ts rest after left : List Terminal} → FromSoFar items ts rest →
    rest ≡ Fixed k.Comma ∷ after → Read IsJoined 10 after x left → next ≡ items ++ x ∷ [] → FromSoFar next ts left
from_step {x = x} {items = items} c e r n = record { start = c.start; begins = c.begins; chain = chain_step c.chain (item_step e r) (λ ys. rw n (append_snoc items x ys)) }

no_from_item : {zs : List JoinedTree} {rest us : List Terminal} → ((vs : List Terminal) → rest ≡ Fixed k.Comma ∷ vs → ⊥) →
    IsFromRest zs rest us → (zs ≡ []) × (us ≡ rest)
no_from_item n from_end = (refl, refl)
no_from_item n (from_more d q) = absurd (n _ refl)

from_whole : {x : List JoinedTree} {after rest : List Terminal} → Read IsFromItems 8 after x rest → Part IsFrom 8 (Fixed k.From ∷ after) x rest
from_whole r = record { found = r.found; only = r.only; within = let a = r.shorter in omega arith }

pub from_done : {items : List JoinedTree} {ts rest : List Terminal} → FromSoFar items ts rest →
    ((vs : List Terminal) → rest ≡ Fixed k.Comma ∷ vs → ⊥) → Part IsFrom 8 ts items rest
from_done {items = items} c n =
    rw c.begins (from_whole (chain_done c.chain (record { here = from_end; only = λ ys us d s. no_from_item n d }) (sym (append-nil items))))

no_from_only : {v : List JoinedTree} {ts ws : List Terminal} → ((us : List Terminal) → ts ≡ Fixed k.From ∷ us → ⊥) →
    IsFrom v ts ws → ([] ≡ v) × (ts ≡ ws)
no_from_only n no_from = (refl, refl)
no_from_only n (from_of d q) = absurd (n _ refl)

pub no_from_read : {ts : List Terminal} → ((us : List Terminal) → ts ≡ Fixed k.From ∷ us → ⊥) → Part IsFrom 8 ts [] ts
no_from_read n = record { found = no_from; only = λ v ws d s. no_from_only n d; within = omega arith }

no_first_item : {v : List JoinedTree} {after us : List Terminal} → Refuses IsJoined 10 after → IsFrom v (Fixed k.From ∷ after) us → Stops 8 us → ⊥
no_first_item n no_from s = omega arith
no_first_item {us = us} n (from_of d q) s = n _ _ d (from_rest_stop q (let u : Stops 9 us = omega arith in u))

pub from_refused : {ts after : List Terminal} → ts ≡ Fixed k.From ∷ after → Refuses IsJoined 10 after → Refuses IsFrom 8 ts
from_refused e n = rw e (λ v ws d s. no_first_item n d s)

no_next_item : {zs : List JoinedTree} {after us : List Terminal} → Refuses IsJoined 10 after → IsFromRest zs (Fixed k.Comma ∷ after) us → Stops 8 us → ⊥
no_next_item n from_end s = omega arith
no_next_item {us = us} n (from_more d q) s = n _ _ d (from_rest_stop q (let u : Stops 9 us = omega arith in u))

item_stuck : {rest after : List Terminal} → rest ≡ Fixed k.Comma ∷ after → Refuses IsJoined 10 after → Stuck IsFromRest 8 rest
item_stuck e n = rw e (λ ys us d s. no_next_item n d s)

pub from_item_refused : {items : List JoinedTree} {ts rest after : List Terminal} → FromSoFar items ts rest →
    rest ≡ Fixed k.Comma ∷ after → Refuses IsJoined 10 after → Refuses IsFrom 8 ts
from_item_refused c f n = rw c.begins (let r : Refuses IsFromItems 8 c.start = chain_refused c.chain (item_stuck f n) in r)

-- conditions

conditions_only : {filter having : Option OrTree} {group : List OrTree} {v : Option OrTree × List OrTree × Option OrTree} {ts xs ys us zs : List Terminal} →
    Part (IsClause k.Where) 7 ts filter xs → Part IsGroup 6 xs group ys → Part (IsClause k.Having) 5 ys having us →
    IsConditions v ts zs → Stops 5 zs → ((filter, group, having) ≡ v) × (us ≡ zs)
conditions_only d e f (conditions_of d1 e1 f1) s =
    let sf = clause_stop f1 s in
    let se = group_stop e1 sf in
    let t = d.only _ _ d1 se in
    let u = e.only _ _ (moved IsGroup t.1 e1) sf in
    let w = f.only _ _ (moved (IsClause k.Having) u.1 f1) s in
    (cc, w.1)

pub conditions_read : {filter having : Option OrTree} {group : List OrTree} {ts xs ys us : List Terminal} →
    Part (IsClause k.Where) 7 ts filter xs → Part IsGroup 6 xs group ys → Part (IsClause k.Having) 5 ys having us →
    Part IsConditions 5 ts (filter, group, having) us
conditions_read d e f = record {
  found = conditions_of d.found e.found f.found;
  only = λ v ws n s. conditions_only d e f n s;
  within = let t = d.within in let u = e.within in let w = f.within in omega arith;
}

no_filter : {v : Option OrTree × List OrTree × Option OrTree} {ts zs : List Terminal} → Refuses (IsClause k.Where) 7 ts →
    IsConditions v ts zs → Stops 5 zs → ⊥
no_filter n (conditions_of d1 e1 f1) s = n _ _ d1 (group_stop e1 (clause_stop f1 s))

pub filter_refused : {ts : List Terminal} → Refuses (IsClause k.Where) 7 ts → Refuses IsConditions 5 ts
filter_refused n v ws d s = no_filter n d s

no_group : {filter : Option OrTree} {v : Option OrTree × List OrTree × Option OrTree} {ts xs zs : List Terminal} →
    Part (IsClause k.Where) 7 ts filter xs → Refuses IsGroup 6 xs → IsConditions v ts zs → Stops 5 zs → ⊥
no_group d n (conditions_of d1 e1 f1) s =
    let sf = clause_stop f1 s in
    let t = d.only _ _ d1 (group_stop e1 sf) in
    n _ _ (moved IsGroup t.1 e1) sf

pub keys_refused : {filter : Option OrTree} {ts xs : List Terminal} → Part (IsClause k.Where) 7 ts filter xs → Refuses IsGroup 6 xs →
    Refuses IsConditions 5 ts
keys_refused d n v ws m s = no_group d n m s

no_having : {filter : Option OrTree} {group : List OrTree} {v : Option OrTree × List OrTree × Option OrTree} {ts xs ys zs : List Terminal} →
    Part (IsClause k.Where) 7 ts filter xs → Part IsGroup 6 xs group ys → Refuses (IsClause k.Having) 5 ys →
    IsConditions v ts zs → Stops 5 zs → ⊥
no_having d e n (conditions_of d1 e1 f1) s =
    let sf = clause_stop f1 s in
    let t = d.only _ _ d1 (group_stop e1 sf) in
    let u = e.only _ _ (moved IsGroup t.1 e1) sf in
    n _ _ (moved (IsClause k.Having) u.1 f1) s

pub having_refused : {filter : Option OrTree} {group : List OrTree} {ts xs ys : List Terminal} → Part (IsClause k.Where) 7 ts filter xs →
    Part IsGroup 6 xs group ys → Refuses (IsClause k.Having) 5 ys → Refuses IsConditions 5 ts
having_refused d e n v ws m s = no_having d e n m s

-- select

joined_parts : {once : Bool} {items : List ItemTree} {from : List JoinedTree} {filter having : Option OrTree} {group : List OrTree}
    {ts vs ws xs us : List Terminal} → IsDistinct false once ts vs → Listed IsItem items vs ws → IsFrom from ws xs →
    IsConditions (filter, group, having) xs us → IsSelect (select_tree once items from filter group having) ts us
joined_parts a b c (conditions_of d e f) = select_of a b c d e f

-- a SELECT of its parts, as a core
abbrev pub of_parts : Bool → List ItemTree → List JoinedTree → Option OrTree × List OrTree × Option OrTree → CoreTree
of_parts once items from parts = core.Select (select_tree once items from parts.0 parts.1 parts.2)

select_only : {once : Bool} {items : List ItemTree} {from : List JoinedTree} {filter having : Option OrTree} {group : List OrTree}
    {v : SelectTree} {ts vs ws xs us zs : List Terminal} →
    Part (IsDistinct false) 21 ts once vs → Read (Listed IsItem) 9 vs items ws → Part IsFrom 8 ws from xs →
    Part IsConditions 5 xs (filter, group, having) us → IsSelect v ts zs → Stops 5 zs →
    (select_tree once items from filter group having ≡ v) × (us ≡ zs)
select_only a b c n (select_of a1 b1 c1 d1 e1 f1) s =
    let sd = clause_stop d1 (group_stop e1 (clause_stop f1 s)) in
    let p = a.only _ _ a1 (items_begin b1) in
    let q = b.only _ _ (moved (Listed IsItem) p.1 b1) (from_stop c1 sd) in
    let r = c.only _ _ (moved IsFrom q.1 c1) sd in
    let w = n.only _ _ (conditions_of (moved (IsClause k.Where) r.1 d1) e1 f1) s in
    let f = ap (λ x. x.0) w.0 in
    let g = ap (λ x. x.1) w.0 in
    let h = ap (λ x. x.2) w.0 in
    (cc, w.1)

selected_only : {once : Bool} {items : List ItemTree} {from : List JoinedTree} {filter having : Option OrTree} {group : List OrTree}
    {v : CoreTree} {ts vs ws xs us zs : List Terminal} →
    Part (IsDistinct false) 21 ts once vs → Read (Listed IsItem) 9 vs items ws → Part IsFrom 8 ws from xs →
    Part IsConditions 5 xs (filter, group, having) us → IsCore v (Fixed k.Select ∷ ts) zs → Stops 5 zs →
    (core.Select (select_tree once items from filter group having) ≡ v) × (us ≡ zs)
selected_only a b c n (core_select d) s = let o = select_only a b c n d s in (cc, o.1)

selected_read : {once : Bool} {items : List ItemTree} {from : List JoinedTree} {filter having : Option OrTree} {group : List OrTree}
    {ts vs ws xs us : List Terminal} →
    Part (IsDistinct false) 21 ts once vs → Read (Listed IsItem) 9 vs items ws → Part IsFrom 8 ws from xs →
    Part IsConditions 5 xs (filter, group, having) us → Read IsSelected 5 ts (core.Select (select_tree once items from filter group having)) us
selected_read a b c n = record {
  found = core_select (joined_parts a.found b.found c.found n.found);
  only = λ v ws d s. selected_only a b c n d s;
  shorter = let p = a.within in let q = b.shorter in let r = c.within in let t = n.within in omega arith;
}

pub select_read : {once : Bool} {items : List ItemTree} {from : List JoinedTree} {parts : Option OrTree × List OrTree × Option OrTree}
    {ts vs ws xs us : List Terminal} →
    Part (IsDistinct false) 21 ts once vs → Read (Listed IsItem) 9 vs items ws → Part IsFrom 8 ws from xs →
    Part IsConditions 5 xs parts us → Read IsSelected 5 ts (of_parts once items from parts) us
select_read {parts = (filter, group, having)} a b c n = selected_read a b c n

no_items : {once : Bool} {v : CoreTree} {ts vs us : List Terminal} → Part (IsDistinct false) 21 ts once vs → Refuses (Listed IsItem) 9 vs →
    IsCore v (Fixed k.Select ∷ ts) us → Stops 5 us → ⊥
no_items a n (core_select (select_of a1 b1 c1 d1 e1 f1)) s =
    let p = a.only _ _ a1 (items_begin b1) in
    n _ _ (moved (Listed IsItem) p.1 b1) (from_stop c1 (clause_stop d1 (group_stop e1 (clause_stop f1 s))))

pub select_items_refused : {once : Bool} {ts vs : List Terminal} → Part (IsDistinct false) 21 ts once vs → Refuses (Listed IsItem) 9 vs →
    Refuses IsSelected 5 ts
select_items_refused a n v us d s = no_items a n d s

no_from_part : {once : Bool} {items : List ItemTree} {v : CoreTree} {ts vs ws us : List Terminal} → Part (IsDistinct false) 21 ts once vs →
    Read (Listed IsItem) 9 vs items ws → Refuses IsFrom 8 ws → IsCore v (Fixed k.Select ∷ ts) us → Stops 5 us → ⊥
no_from_part a b n (core_select (select_of a1 b1 c1 d1 e1 f1)) s =
    let sd = clause_stop d1 (group_stop e1 (clause_stop f1 s)) in
    let p = a.only _ _ a1 (items_begin b1) in
    let q = b.only _ _ (moved (Listed IsItem) p.1 b1) (from_stop c1 sd) in
    n _ _ (moved IsFrom q.1 c1) sd

pub select_from_refused : {once : Bool} {items : List ItemTree} {ts vs ws : List Terminal} → Part (IsDistinct false) 21 ts once vs →
    Read (Listed IsItem) 9 vs items ws → Refuses IsFrom 8 ws → Refuses IsSelected 5 ts
select_from_refused a b n v us d s = no_from_part a b n d s

no_conditions : {once : Bool} {items : List ItemTree} {from : List JoinedTree} {v : CoreTree} {ts vs ws xs us : List Terminal} →
    Part (IsDistinct false) 21 ts once vs → Read (Listed IsItem) 9 vs items ws → Part IsFrom 8 ws from xs →
    Refuses IsConditions 5 xs → IsCore v (Fixed k.Select ∷ ts) us → Stops 5 us → ⊥
no_conditions a b c n (core_select (select_of a1 b1 c1 d1 e1 f1)) s =
    let sd = clause_stop d1 (group_stop e1 (clause_stop f1 s)) in
    let p = a.only _ _ a1 (items_begin b1) in
    let q = b.only _ _ (moved (Listed IsItem) p.1 b1) (from_stop c1 sd) in
    let r = c.only _ _ (moved IsFrom q.1 c1) sd in
    n _ _ (conditions_of (moved (IsClause k.Where) r.1 d1) e1 f1) s

pub select_conditions_refused : {once : Bool} {items : List ItemTree} {from : List JoinedTree} {ts vs ws xs : List Terminal} →
    Part (IsDistinct false) 21 ts once vs → Read (Listed IsItem) 9 vs items ws → Part IsFrom 8 ws from xs →
    Refuses IsConditions 5 xs → Refuses IsSelected 5 ts
select_conditions_refused a b c n v us d s = no_conditions a b c n d s
