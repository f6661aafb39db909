-- The parts of a query that hold no query: what was read is the one reading.
use Rattle.std.proofs.Common.{ℕ, List, [], ◌∷◌, Bool, true, false, ◌≡◌, ◌≤◌, ◌<◌, refl, ap, arith, lit<}
use Rattle.std.specs.Prelude.{Option, Some, None, codes}
use Rattle.aqe_trees.specs.declared.terminal.Key.{Key}
use Rattle.aqe_trees.specs.declared.terminal.Key.TheVariants as k
use Rattle.aqe_trees.specs.declared.terminal.Terminal.{Terminal}
use Rattle.aqe_trees.specs.declared.terminal.Terminal.TheVariants.{Fixed, Name, Number}
use Rattle.aqe_trees.specs.declared.expression.OrTree.{OrTree}
use Rattle.aqe_trees.specs.declared.query.ItemTree.{ItemTree}
use Rattle.aqe_trees.specs.declared.query.ItemTree.TheVariants as item
use Rattle.aqe_trees.specs.declared.query.SortTree.{SortTree}
use Rattle.aqe_trees.specs.Shapes.{sort_tree}
use Rattle.aqe_trees.specs.Words.{is_word, nulls_of}
use Rattle.aqe_trees.specs.Follow.{key_binds, Stops}
use Rattle.aqe_trees.specs.Expressions.{IsOr, IsList}
use Rattle.aqe_trees.specs.Lists.{Listed, IsClause, no_clause, clause, IsBound, no_bound, bound, IsAlias, no_alias, alias, as_alias, IsDistinct, unsaid, all, distinct}
use Rattle.aqe_trees.specs.Queries.{IsItem, all_columns, all_columns_of, one_column, IsWay, usual_way, ascending, descending, IsNulls, usual_nulls, nulls, IsSort, sort_of, IsOrder, unordered, ordered, IsGroup, ungrouped, grouped}
use Rattle.aqe_trees.proofs.OneQuery.{no_dot, alias_stop, no_or_star}
use Rattle.aqe_reader.specs.Reading.{Read, Refuses, Part}
use Rattle.aqe_syntax.proofs.Chain.{moved}

-- ALL or DISTINCT

all_only : {usual v : Bool} {us ws : List Terminal} → IsDistinct usual v (Fixed k.All ∷ us) ws → Stops 21 ws → (false ≡ v) × (us ≡ ws)
all_only unsaid s = absurd (omega arith)
all_only all s = (refl, refl)

pub all_read : {usual : Bool} {ts us : List Terminal} → ts ≡ Fixed k.All ∷ us → Part (IsDistinct usual) 21 ts false us
all_read e = rw e (record { found = all; only = λ v ws d s. all_only d s; within = omega arith })

distinct_only : {usual v : Bool} {us ws : List Terminal} → IsDistinct usual v (Fixed k.Distinct ∷ us) ws → Stops 21 ws → (true ≡ v) × (us ≡ ws)
distinct_only unsaid s = absurd (omega arith)
distinct_only distinct s = (refl, refl)

pub distinct_read : {usual : Bool} {ts us : List Terminal} → ts ≡ Fixed k.Distinct ∷ us → Part (IsDistinct usual) 21 ts true us
distinct_read e = rw e (record { found = distinct; only = λ v ws d s. distinct_only d s; within = omega arith })

unsaid_only : {usual v : Bool} {ts ws : List Terminal} → ((us : List Terminal) → ts ≡ Fixed k.All ∷ us → ⊥) →
    ((us : List Terminal) → ts ≡ Fixed k.Distinct ∷ us → ⊥) → IsDistinct usual v ts ws → (usual ≡ v) × (ts ≡ ws)
unsaid_only m n unsaid = (refl, refl)
unsaid_only m n all = absurd (m _ refl)
unsaid_only m n distinct = absurd (n _ refl)

pub unsaid_read : {usual : Bool} {ts : List Terminal} → ((us : List Terminal) → ts ≡ Fixed k.All ∷ us → ⊥) →
    ((us : List Terminal) → ts ≡ Fixed k.Distinct ∷ us → ⊥) → Part (IsDistinct usual) 21 ts usual ts
unsaid_read m n = record { found = unsaid; only = λ v ws d s. unsaid_only m n d; within = omega arith }

-- ASC or DESC

asc_only : {v : Bool} {us ws : List Terminal} → IsWay v (Fixed k.Asc ∷ us) ws → Stops 13 ws → (false ≡ v) × (us ≡ ws)
asc_only usual_way s = absurd (omega arith)
asc_only ascending s = (refl, refl)

pub asc_read : {ts us : List Terminal} → ts ≡ Fixed k.Asc ∷ us → Part IsWay 13 ts false us
asc_read e = rw e (record { found = ascending; only = λ v ws d s. asc_only d s; within = omega arith })

desc_only : {v : Bool} {us ws : List Terminal} → IsWay v (Fixed k.Desc ∷ us) ws → Stops 13 ws → (true ≡ v) × (us ≡ ws)
desc_only usual_way s = absurd (omega arith)
desc_only descending s = (refl, refl)

pub desc_read : {ts us : List Terminal} → ts ≡ Fixed k.Desc ∷ us → Part IsWay 13 ts true us
desc_read e = rw e (record { found = descending; only = λ v ws d s. desc_only d s; within = omega arith })

no_way_only : {v : Bool} {ts ws : List Terminal} → ((us : List Terminal) → ts ≡ Fixed k.Asc ∷ us → ⊥) →
    ((us : List Terminal) → ts ≡ Fixed k.Desc ∷ us → ⊥) → IsWay v ts ws → (false ≡ v) × (ts ≡ ws)
no_way_only m n usual_way = (refl, refl)
no_way_only m n ascending = absurd (m _ refl)
no_way_only m n descending = absurd (n _ refl)

pub no_way_read : {ts : List Terminal} → ((us : List Terminal) → ts ≡ Fixed k.Asc ∷ us → ⊥) →
    ((us : List Terminal) → ts ≡ Fixed k.Desc ∷ us → ⊥) → Part IsWay 13 ts false ts
no_way_read m n = record { found = usual_way; only = λ v ws d s. no_way_only m n d; within = omega arith }

-- NULLS FIRST or NULLS LAST

nulls_only : {usual last v : Bool} {t : Terminal} {us ws : List Terminal} → nulls_of t ≡ Some last →
    IsNulls usual v (Fixed k.Nulls ∷ t ∷ us) ws → Stops 12 ws → (last ≡ v) × (us ≡ ws)
nulls_only e usual_nulls s = absurd (omega arith)
nulls_only e (nulls f) s = (cc, refl)

pub nulls_read : {usual last : Bool} {t : Terminal} {ts us : List Terminal} → ts ≡ Fixed k.Nulls ∷ t ∷ us → nulls_of t ≡ Some last →
    Part (IsNulls usual) 12 ts last us
nulls_read e f = rw e (record { found = nulls f; only = λ v ws d s. nulls_only f d s; within = omega arith })

no_nulls_only : {usual v : Bool} {ts ws : List Terminal} →
    ((last : Bool) (t : Terminal) (us : List Terminal) → nulls_of t ≡ Some last → ts ≡ Fixed k.Nulls ∷ t ∷ us → ⊥) →
    IsNulls usual v ts ws → (usual ≡ v) × (ts ≡ ws)
no_nulls_only n usual_nulls = (refl, refl)
no_nulls_only n (nulls f) = absurd (n _ _ _ f refl)

pub no_nulls_read : {usual : Bool} {ts : List Terminal} →
    ((last : Bool) (t : Terminal) (us : List Terminal) → nulls_of t ≡ Some last → ts ≡ Fixed k.Nulls ∷ t ∷ us → ⊥) →
    Part (IsNulls usual) 12 ts usual ts
no_nulls_read n = record { found = usual_nulls; only = λ v ws d s. no_nulls_only n d; within = omega arith }

pub nulls_first : {usual : Bool} {place : List ℕ} {ts after us : List Terminal} → ts ≡ Fixed k.Nulls ∷ after → after ≡ Name place false ∷ us →
    is_word (codes "first") place ≡ true → Part (IsNulls usual) 12 ts false us
nulls_first {place = place} e f h = nulls_read {t = Name place false} (rw (e, f) refl) (rw h refl)

pub nulls_last : {usual : Bool} {place : List ℕ} {ts after us : List Terminal} → ts ≡ Fixed k.Nulls ∷ after → after ≡ Name place false ∷ us →
    is_word (codes "first") place ≡ false → is_word (codes "last") place ≡ true → Part (IsNulls usual) 12 ts true us
nulls_last {place = place} e f g h = nulls_read {t = Name place false} (rw (e, f) refl) (rw (g, h) refl)

pub no_nulls_key : {usual : Bool} {ts : List Terminal} → ((us : List Terminal) → ts ≡ Fixed k.Nulls ∷ us → ⊥) → Part (IsNulls usual) 12 ts usual ts
no_nulls_key n = no_nulls_read (λ last t us h e. n _ e)

-- only a word that is not quoted places NULLs
pub nulls_word : (t : Terminal) (last : Bool) → nulls_of t ≡ Some last → (place : List ℕ) × (t ≡ Name place false)
nulls_word (Name place false) last e = (place, refl)
nulls_word _ last e = absurd (cc)

no_nulls_here : {usual v : Bool} {after ws : List Terminal} →
    ((last : Bool) (t : Terminal) (us : List Terminal) → nulls_of t ≡ Some last → after ≡ t ∷ us → ⊥) →
    IsNulls usual v (Fixed k.Nulls ∷ after) ws → Stops 12 ws → ⊥
no_nulls_here n usual_nulls s = omega arith
no_nulls_here n (nulls f) s = n _ _ _ f refl

nulls_refused : {usual : Bool} {ts after : List Terminal} → ts ≡ Fixed k.Nulls ∷ after →
    ((last : Bool) (t : Terminal) (us : List Terminal) → nulls_of t ≡ Some last → after ≡ t ∷ us → ⊥) → Refuses (IsNulls usual) 12 ts
nulls_refused e n = rw e (λ v ws d s. no_nulls_here n d s)

pub no_nulls_word : {usual : Bool} {ts after : List Terminal} → ts ≡ Fixed k.Nulls ∷ after →
    ((place : List ℕ) (us : List Terminal) → after ≡ Name place false ∷ us → ⊥) → Refuses (IsNulls usual) 12 ts
no_nulls_word e n = nulls_refused e (λ last t us h f. let w = nulls_word t last h in n w.0 us (cc))

pub no_nulls_place : {usual : Bool} {place : List ℕ} {ts after rest : List Terminal} → ts ≡ Fixed k.Nulls ∷ after → after ≡ Name place false ∷ rest →
    is_word (codes "first") place ≡ false → is_word (codes "last") place ≡ false → Refuses (IsNulls usual) 12 ts
no_nulls_place {place = place} e f g h = nulls_refused e (λ last t us i z.
    let same : t ≡ Name place false = cc in
    let none : nulls_of (Name place false) ≡ None = rw (g, h) refl in
    let at = ap nulls_of same in
    absurd (cc))

-- LIMIT and OFFSET

bound_only : {key other : Key} {v : Option ℕ} {value : ℕ} {long : Bool} {us ws : List Terminal} → key ≡ other →
    IsBound key v (Fixed other ∷ Number value long ∷ us) ws → Stops (key_binds key) ws → (Some value ≡ v) × (us ≡ ws)
bound_only e no_bound s = let b = ap key_binds e in absurd (omega arith)
bound_only e (bound h) s = (refl, refl)

pub bound_read : {key : Key} {value : ℕ} {long : Bool} {ts us : List Terminal} →
    ts ≡ Fixed key ∷ Number value long ∷ us → value ≤ 9223372036854775807 → Part (IsBound key) (key_binds key) ts (Some value) us
bound_read e h = rw e (record { found = bound h; only = λ v ws d s. bound_only refl d s; within = omega arith })

no_bound_only : {key : Key} {v : Option ℕ} {ts ws : List Terminal} →
    ((value : ℕ) (long : Bool) (us : List Terminal) → ts ≡ Fixed key ∷ Number value long ∷ us → value ≤ 9223372036854775807 → ⊥) →
    IsBound key v ts ws → (None ≡ v) × (ts ≡ ws)
no_bound_only n no_bound = (refl, refl)
no_bound_only n (bound h) = absurd (n _ _ _ refl h)

pub no_bound_read : {key : Key} {ts : List Terminal} →
    ((value : ℕ) (long : Bool) (us : List Terminal) → ts ≡ Fixed key ∷ Number value long ∷ us → value ≤ 9223372036854775807 → ⊥) →
    Part (IsBound key) (key_binds key) ts None ts
no_bound_read n = record { found = no_bound; only = λ v ws d s. no_bound_only n d; within = omega arith }

pub bound_at : {key : Key} {value : ℕ} {long : Bool} {ts after rest : List Terminal} → ts ≡ Fixed key ∷ after →
    after ≡ Number value long ∷ rest → value ≤ 9223372036854775807 → Part (IsBound key) (key_binds key) ts (Some value) rest
bound_at {long = long} e f h = bound_read {long = long} (rw (e, f) refl) h

pub no_bound_key : {key : Key} {ts : List Terminal} → ((us : List Terminal) → ts ≡ Fixed key ∷ us → ⊥) → Part (IsBound key) (key_binds key) ts None ts
no_bound_key n = no_bound_read (λ value long us e h. n _ e)

no_bound_here : {key other : Key} {v : Option ℕ} {after ws : List Terminal} → key ≡ other →
    ((value : ℕ) (long : Bool) (us : List Terminal) → after ≡ Number value long ∷ us → value ≤ 9223372036854775807 → ⊥) →
    IsBound key v (Fixed other ∷ after) ws → Stops (key_binds key) ws → ⊥
no_bound_here e n no_bound s = let b = ap key_binds e in omega arith
no_bound_here e n (bound h) s = n _ _ _ refl h

bound_refused : {key : Key} {ts after : List Terminal} → ts ≡ Fixed key ∷ after →
    ((value : ℕ) (long : Bool) (us : List Terminal) → after ≡ Number value long ∷ us → value ≤ 9223372036854775807 → ⊥) →
    Refuses (IsBound key) (key_binds key) ts
bound_refused e n = rw e (λ v ws d s. no_bound_here refl n d s)

pub no_bound_number : {key : Key} {ts after : List Terminal} → ts ≡ Fixed key ∷ after →
    ((value : ℕ) (long : Bool) (us : List Terminal) → after ≡ Number value long ∷ us → ⊥) → Refuses (IsBound key) (key_binds key) ts
no_bound_number e n = bound_refused e (λ value long us f h. n value long us f)

pub bound_too_large : {key : Key} {value : ℕ} {long : Bool} {ts after rest : List Terminal} → ts ≡ Fixed key ∷ after →
    after ≡ Number value long ∷ rest → 9223372036854775807 < value → Refuses (IsBound key) (key_binds key) ts
bound_too_large {value = value} e f h = bound_refused e (λ other long us g i. let same : value ≡ other = cc in omega arith)

-- aliases

alias_only : {v : Option (List ℕ)} {text : List ℕ} {quoted : Bool} {us ws : List Terminal} →
    IsAlias v (Name text quoted ∷ us) ws → Stops 12 ws → (Some text ≡ v) × (us ≡ ws)
alias_only no_alias s = absurd (omega arith)
alias_only alias s = (refl, refl)

pub alias_read : {text : List ℕ} {quoted : Bool} {ts us : List Terminal} → ts ≡ Name text quoted ∷ us → Part IsAlias 12 ts (Some text) us
alias_read e = rw e (record { found = alias; only = λ v ws d s. alias_only d s; within = omega arith })

as_only : {v : Option (List ℕ)} {text : List ℕ} {quoted : Bool} {us ws : List Terminal} →
    IsAlias v (Fixed k.As ∷ Name text quoted ∷ us) ws → Stops 12 ws → (Some text ≡ v) × (us ≡ ws)
as_only no_alias s = absurd (omega arith)
as_only as_alias s = (refl, refl)

pub as_read : {text : List ℕ} {quoted : Bool} {ts rest us : List Terminal} →
    ts ≡ Fixed k.As ∷ rest → rest ≡ Name text quoted ∷ us → Part IsAlias 12 ts (Some text) us
as_read e f = rw (e, f) (record { found = as_alias; only = λ v ws d s. as_only d s; within = omega arith })

no_alias_only : {v : Option (List ℕ)} {ts ws : List Terminal} →
    ((text : List ℕ) (quoted : Bool) (us : List Terminal) → ts ≡ Name text quoted ∷ us → ⊥) →
    ((text : List ℕ) (quoted : Bool) (us : List Terminal) → ts ≡ Fixed k.As ∷ Name text quoted ∷ us → ⊥) →
    IsAlias v ts ws → (None ≡ v) × (ts ≡ ws)
no_alias_only m n no_alias = (refl, refl)
no_alias_only m n alias = absurd (m _ _ _ refl)
no_alias_only m n as_alias = absurd (n _ _ _ refl)

pub no_alias_read : {ts : List Terminal} →
    ((text : List ℕ) (quoted : Bool) (us : List Terminal) → ts ≡ Name text quoted ∷ us → ⊥) →
    ((text : List ℕ) (quoted : Bool) (us : List Terminal) → ts ≡ Fixed k.As ∷ Name text quoted ∷ us → ⊥) →
    Part IsAlias 12 ts None ts
no_alias_read m n = record { found = no_alias; only = λ v ws d s. no_alias_only m n d; within = omega arith }

pub no_as_read : {ts : List Terminal} → ((text : List ℕ) (quoted : Bool) (us : List Terminal) → ts ≡ Name text quoted ∷ us → ⊥) →
    ((us : List Terminal) → ts ≡ Fixed k.As ∷ us → ⊥) → Part IsAlias 12 ts None ts
no_as_read m n = no_alias_read m (λ text quoted us e. n _ e)

no_as_name : {v : Option (List ℕ)} {after ws : List Terminal} →
    ((text : List ℕ) (quoted : Bool) (us : List Terminal) → after ≡ Name text quoted ∷ us → ⊥) →
    IsAlias v (Fixed k.As ∷ after) ws → Stops 12 ws → ⊥
no_as_name n no_alias s = omega arith
no_as_name n as_alias s = n _ _ _ refl

pub as_refused : {ts after : List Terminal} → ts ≡ Fixed k.As ∷ after →
    ((text : List ℕ) (quoted : Bool) (us : List Terminal) → after ≡ Name text quoted ∷ us → ⊥) → Refuses IsAlias 12 ts
as_refused e n = rw e (λ v ws d s. no_as_name n d s)

-- clauses

no_clause_only : {key : Key} {v : Option OrTree} {ts ws : List Terminal} → ((us : List Terminal) → ts ≡ Fixed key ∷ us → ⊥) →
    IsClause key v ts ws → (None ≡ v) × (ts ≡ ws)
no_clause_only n no_clause = (refl, refl)
no_clause_only n (clause d) = absurd (n _ refl)

pub no_clause_read : {key : Key} {ts : List Terminal} → ((us : List Terminal) → ts ≡ Fixed key ∷ us → ⊥) →
    Part (IsClause key) (key_binds key) ts None ts
no_clause_read n = record { found = no_clause; only = λ v ws d s. no_clause_only n d; within = omega arith }

clause_only : {key other : Key} {x : OrTree} {v : Option OrTree} {after rest ws : List Terminal} → key ≡ other → key_binds key < 14 →
    Read IsOr 14 after x rest → IsClause key v (Fixed other ∷ after) ws → Stops (key_binds key) ws → (Some x ≡ v) × (rest ≡ ws)
clause_only e h r no_clause s = let b = ap key_binds e in absurd (omega arith)
clause_only e h r (clause d) s = let o = r.only _ _ d (omega arith) in (cc, o.1)

pub clause_read : {key : Key} {x : OrTree} {ts after rest : List Terminal} → ts ≡ Fixed key ∷ after → key_binds key < 14 →
    Read IsOr 14 after x rest → Part (IsClause key) (key_binds key) ts (Some x) rest
clause_read e h r = rw e (record {
  found = clause r.found;
  only = λ v ws d s. clause_only refl h r d s;
  within = let a = r.shorter in omega arith;
})

no_value : {key other : Key} {v : Option OrTree} {after ws : List Terminal} → key ≡ other → key_binds key < 14 → Refuses IsOr 14 after →
    IsClause key v (Fixed other ∷ after) ws → Stops (key_binds key) ws → ⊥
no_value e h n no_clause s = let b = ap key_binds e in omega arith
no_value e h n (clause d) s = n _ _ d (omega arith)

pub clause_refused : {key : Key} {ts after : List Terminal} → ts ≡ Fixed key ∷ after → key_binds key < 14 →
    Refuses IsOr 14 after → Refuses (IsClause key) (key_binds key) ts
clause_refused e h n = rw e (λ v ws d s. no_value refl h n d s)

-- select items

all_columns_only : {v : ItemTree} {us ws : List Terminal} → IsItem v (Fixed k.Star ∷ us) ws → (item.All ≡ v) × (us ≡ ws)
all_columns_only all_columns = (refl, refl)
all_columns_only (one_column d a) = absurd (no_or_star d)

pub all_columns_read : {ts us : List Terminal} → ts ≡ Fixed k.Star ∷ us → Read IsItem 10 ts item.All us
all_columns_read e = rw e (record { found = all_columns; only = λ v ws d s. all_columns_only d; shorter = omega arith })

all_columns_of_only : {v : ItemTree} {table : List ℕ} {quoted : Bool} {us ws : List Terminal} →
    IsItem v (Name table quoted ∷ Fixed k.Dot ∷ Fixed k.Star ∷ us) ws → Stops 10 ws → (item.AllOf table ≡ v) × (us ≡ ws)
all_columns_of_only all_columns_of s = (refl, refl)
all_columns_of_only {ws = ws} (one_column {vs = vs} d a) s =
    absurd (no_dot d (let b = alias_stop a (let up : Stops 12 ws = omega arith in up) in omega arith))

pub all_columns_of_read : {table : List ℕ} {quoted : Bool} {ts us : List Terminal} →
    ts ≡ Name table quoted ∷ Fixed k.Dot ∷ Fixed k.Star ∷ us → Read IsItem 10 ts (item.AllOf table) us
all_columns_of_read e = rw e (record { found = all_columns_of; only = λ v ws d s. all_columns_of_only d s; shorter = omega arith })

one_column_only : {x : OrTree} {name : Option (List ℕ)} {v : ItemTree} {ts vs us ws : List Terminal} →
    ((us : List Terminal) → ts ≡ Fixed k.Star ∷ us → ⊥) →
    ((table : List ℕ) (quoted : Bool) (us : List Terminal) → ts ≡ Name table quoted ∷ Fixed k.Dot ∷ Fixed k.Star ∷ us → ⊥) →
    Read IsOr 14 ts x vs → Part IsAlias 12 vs name us → IsItem v ts ws → Stops 10 ws → (item.One x name ≡ v) × (us ≡ ws)
one_column_only m n r p all_columns s = absurd (m _ refl)
one_column_only m n r p all_columns_of s = absurd (n _ _ _ refl)
one_column_only {ws = ws} m n r p (one_column d a) s =
    let up : Stops 12 ws = omega arith in
    let o = r.only _ _ d (let b = alias_stop a up in omega arith) in
    let q = p.only _ _ (moved IsAlias o.1 a) up in
    (cc, q.1)

pub one_column_read : {x : OrTree} {name : Option (List ℕ)} {ts vs us : List Terminal} →
    ((us : List Terminal) → ts ≡ Fixed k.Star ∷ us → ⊥) →
    ((table : List ℕ) (quoted : Bool) (us : List Terminal) → ts ≡ Name table quoted ∷ Fixed k.Dot ∷ Fixed k.Star ∷ us → ⊥) →
    Read IsOr 14 ts x vs → Part IsAlias 12 vs name us → Read IsItem 10 ts (item.One x name) us
one_column_read m n r p = record {
  found = one_column r.found p.found;
  only = λ v ws d s. one_column_only m n r p d s;
  shorter = let a = r.shorter in let b = p.within in omega arith;
}

no_item : {v : ItemTree} {ts ws : List Terminal} →
    ((us : List Terminal) → ts ≡ Fixed k.Star ∷ us → ⊥) →
    ((table : List ℕ) (quoted : Bool) (us : List Terminal) → ts ≡ Name table quoted ∷ Fixed k.Dot ∷ Fixed k.Star ∷ us → ⊥) →
    Refuses IsOr 14 ts → IsItem v ts ws → Stops 10 ws → ⊥
no_item m n r all_columns s = m _ refl
no_item m n r all_columns_of s = n _ _ _ refl
no_item {ws = ws} m n r (one_column d a) s =
    let up : Stops 12 ws = omega arith in
    r _ _ d (let b = alias_stop a up in omega arith)

pub item_refused : {ts : List Terminal} → ((us : List Terminal) → ts ≡ Fixed k.Star ∷ us → ⊥) →
    ((table : List ℕ) (quoted : Bool) (us : List Terminal) → ts ≡ Name table quoted ∷ Fixed k.Dot ∷ Fixed k.Star ∷ us → ⊥) →
    Refuses IsOr 14 ts → Refuses IsItem 10 ts
item_refused m n r v ws d s = no_item m n r d s

no_item_alias : {x : OrTree} {v : ItemTree} {ts vs ws : List Terminal} →
    ((us : List Terminal) → ts ≡ Fixed k.Star ∷ us → ⊥) →
    ((table : List ℕ) (quoted : Bool) (us : List Terminal) → ts ≡ Name table quoted ∷ Fixed k.Dot ∷ Fixed k.Star ∷ us → ⊥) →
    Read IsOr 14 ts x vs → Refuses IsAlias 12 vs → IsItem v ts ws → Stops 10 ws → ⊥
no_item_alias m n r q all_columns s = m _ refl
no_item_alias m n r q all_columns_of s = n _ _ _ refl
no_item_alias {ws = ws} m n r q (one_column d a) s =
    let up : Stops 12 ws = omega arith in
    let o = r.only _ _ d (let b = alias_stop a up in omega arith) in
    q _ _ (moved IsAlias o.1 a) up

pub item_alias_refused : {x : OrTree} {ts vs : List Terminal} → ((us : List Terminal) → ts ≡ Fixed k.Star ∷ us → ⊥) →
    ((table : List ℕ) (quoted : Bool) (us : List Terminal) → ts ≡ Name table quoted ∷ Fixed k.Dot ∷ Fixed k.Star ∷ us → ⊥) →
    Read IsOr 14 ts x vs → Refuses IsAlias 12 vs → Refuses IsItem 10 ts
item_alias_refused m n r q v ws d s = no_item_alias m n r q d s

-- sorts

way_stop : {a : Bool} {vs us : List Terminal} → IsWay a vs us → Stops 13 us → Stops 14 vs
way_stop usual_way s = omega arith
way_stop ascending s = lit< tt
way_stop descending s = lit< tt

nulls_stop : {d a : Bool} {vs us : List Terminal} → IsNulls d a vs us → Stops 12 us → Stops 13 vs
nulls_stop usual_nulls s = omega arith
nulls_stop (nulls e) s = lit< tt

at_nulls : {d c a : Bool} {ts us ws : List Terminal} → d ≡ c → ts ≡ ws → IsNulls c a ws us → IsNulls d a ts us
at_nulls e f n = rw (e, f) n

sort_only : {x : OrTree} {down last : Bool} {v : SortTree} {ts ms bs us ws : List Terminal} →
    Read IsOr 14 ts x ms → Part IsWay 13 ms down bs → Part (IsNulls down) 12 bs last us →
    IsSort v ts ws → Stops 10 ws → (sort_tree x down last ≡ v) × (us ≡ ws)
sort_only {ws = ws} r p q (sort_of d a m) s =
    let up : Stops 12 ws = omega arith in
    let z = nulls_stop m up in
    let o = r.only _ _ d (way_stop a z) in
    let w = p.only _ _ (moved IsWay o.1 a) z in
    let n = q.only _ _ (at_nulls w.0 w.1 m) up in
    (cc, n.1)

pub sort_read : {x : OrTree} {down last : Bool} {ts ms bs us : List Terminal} →
    Read IsOr 14 ts x ms → Part IsWay 13 ms down bs → Part (IsNulls down) 12 bs last us → Read IsSort 10 ts (sort_tree x down last) us
sort_read r p q = record {
  found = sort_of r.found p.found q.found;
  only = λ v ws d s. sort_only r p q d s;
  shorter = let a = r.shorter in let b = p.within in let c = q.within in omega arith;
}

no_sort : {v : SortTree} {ts ws : List Terminal} → Refuses IsOr 14 ts → IsSort v ts ws → Stops 10 ws → ⊥
no_sort {ws = ws} n (sort_of d a m) s = n _ _ d (way_stop a (nulls_stop m (let up : Stops 12 ws = omega arith in up)))

pub sort_refused : {ts : List Terminal} → Refuses IsOr 14 ts → Refuses IsSort 10 ts
sort_refused n v ws d s = no_sort n d s

no_sort_nulls : {x : OrTree} {down : Bool} {v : SortTree} {ts ms bs ws : List Terminal} → Read IsOr 14 ts x ms → Part IsWay 13 ms down bs →
    Refuses (IsNulls down) 12 bs → IsSort v ts ws → Stops 10 ws → ⊥
no_sort_nulls {ws = ws} r p n (sort_of d a m) s =
    let up : Stops 12 ws = omega arith in
    let z = nulls_stop m up in
    let o = r.only _ _ d (way_stop a z) in
    let w = p.only _ _ (moved IsWay o.1 a) z in
    n _ _ (at_nulls w.0 w.1 m) up

pub sort_nulls_refused : {x : OrTree} {down : Bool} {ts ms bs : List Terminal} → Read IsOr 14 ts x ms → Part IsWay 13 ms down bs →
    Refuses (IsNulls down) 12 bs → Refuses IsSort 10 ts
sort_nulls_refused r p n v ws d s = no_sort_nulls r p n d s

-- ORDER BY

unordered_only : {v : List SortTree} {ts ws : List Terminal} → ((us : List Terminal) → ts ≡ Fixed k.Order ∷ Fixed k.By ∷ us → ⊥) →
    IsOrder v ts ws → ([] ≡ v) × (ts ≡ ws)
unordered_only n unordered = (refl, refl)
unordered_only n (ordered d) = absurd (n _ refl)

pub unordered_read : {ts : List Terminal} → ((us : List Terminal) → ts ≡ Fixed k.Order ∷ us → ⊥) → Part IsOrder 3 ts [] ts
unordered_read n = record { found = unordered; only = λ v ws d s. unordered_only (λ us e. n _ e) d; within = omega arith }

no_order_by : {v : List SortTree} {by ws : List Terminal} → ((us : List Terminal) → by ≡ Fixed k.By ∷ us → ⊥) →
    IsOrder v (Fixed k.Order ∷ by) ws → Stops 3 ws → ⊥
no_order_by n unordered s = omega arith
no_order_by n (ordered d) s = n _ refl

pub order_by_refused : {ts by : List Terminal} → ts ≡ Fixed k.Order ∷ by → ((us : List Terminal) → by ≡ Fixed k.By ∷ us → ⊥) → Refuses IsOrder 3 ts
order_by_refused e n = rw e (λ v ws d s. no_order_by n d s)

ordered_only : {x v : List SortTree} {after us ws : List Terminal} → Read (Listed IsSort) 9 after x us →
    IsOrder v (Fixed k.Order ∷ Fixed k.By ∷ after) ws → Stops 3 ws → (x ≡ v) × (us ≡ ws)
ordered_only r unordered s = absurd (omega arith)
ordered_only r (ordered d) s = r.only _ _ d (omega arith)

pub ordered_read : {x : List SortTree} {ts by after us : List Terminal} → ts ≡ Fixed k.Order ∷ by → by ≡ Fixed k.By ∷ after →
    Read (Listed IsSort) 9 after x us → Part IsOrder 3 ts x us
ordered_read e f r = rw (e, f) (record {
  found = ordered r.found;
  only = λ v ws d s. ordered_only r d s;
  within = let a = r.shorter in omega arith;
})

no_sorts : {v : List SortTree} {after ws : List Terminal} → Refuses (Listed IsSort) 9 after →
    IsOrder v (Fixed k.Order ∷ Fixed k.By ∷ after) ws → Stops 3 ws → ⊥
no_sorts n unordered s = omega arith
no_sorts n (ordered d) s = n _ _ d (omega arith)

pub order_refused : {ts by after : List Terminal} → ts ≡ Fixed k.Order ∷ by → by ≡ Fixed k.By ∷ after →
    Refuses (Listed IsSort) 9 after → Refuses IsOrder 3 ts
order_refused e f n = rw (e, f) (λ v ws d s. no_sorts n d s)

-- GROUP BY

ungrouped_only : {v : List OrTree} {ts ws : List Terminal} → ((us : List Terminal) → ts ≡ Fixed k.Group ∷ Fixed k.By ∷ us → ⊥) →
    IsGroup v ts ws → ([] ≡ v) × (ts ≡ ws)
ungrouped_only n ungrouped = (refl, refl)
ungrouped_only n (grouped d) = absurd (n _ refl)

pub ungrouped_read : {ts : List Terminal} → ((us : List Terminal) → ts ≡ Fixed k.Group ∷ us → ⊥) → Part IsGroup 6 ts [] ts
ungrouped_read n = record { found = ungrouped; only = λ v ws d s. ungrouped_only (λ us e. n _ e) d; within = omega arith }

no_group_by : {v : List OrTree} {by ws : List Terminal} → ((us : List Terminal) → by ≡ Fixed k.By ∷ us → ⊥) →
    IsGroup v (Fixed k.Group ∷ by) ws → Stops 6 ws → ⊥
no_group_by n ungrouped s = omega arith
no_group_by n (grouped d) s = n _ refl

pub group_by_refused : {ts by : List Terminal} → ts ≡ Fixed k.Group ∷ by → ((us : List Terminal) → by ≡ Fixed k.By ∷ us → ⊥) → Refuses IsGroup 6 ts
group_by_refused e n = rw e (λ v ws d s. no_group_by n d s)

grouped_only : {x v : List OrTree} {after us ws : List Terminal} → Read IsList 9 after x us →
    IsGroup v (Fixed k.Group ∷ Fixed k.By ∷ after) ws → Stops 6 ws → (x ≡ v) × (us ≡ ws)
grouped_only r ungrouped s = absurd (omega arith)
grouped_only r (grouped d) s = r.only _ _ d (omega arith)

pub grouped_read : {x : List OrTree} {ts by after us : List Terminal} → ts ≡ Fixed k.Group ∷ by → by ≡ Fixed k.By ∷ after →
    Read IsList 9 after x us → Part IsGroup 6 ts x us
grouped_read e f r = rw (e, f) (record {
  found = grouped r.found;
  only = λ v ws d s. grouped_only r d s;
  within = let a = r.shorter in omega arith;
})

no_keys : {v : List OrTree} {after ws : List Terminal} → Refuses IsList 9 after →
    IsGroup v (Fixed k.Group ∷ Fixed k.By ∷ after) ws → Stops 6 ws → ⊥
no_keys n ungrouped s = omega arith
no_keys n (grouped d) s = n _ _ d (omega arith)

pub group_refused : {ts by after : List Terminal} → ts ≡ Fixed k.Group ∷ by → by ≡ Fixed k.By ∷ after →
    Refuses IsList 9 after → Refuses IsGroup 6 ts
group_refused e f n = rw (e, f) (λ v ws d s. no_keys n d s)
