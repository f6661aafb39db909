-- Queries read back.
use Rattle.std.proofs.Common.{ℕ, Bool, true, false, List, [], ◌∷◌, ◌≡◌, ◌<◌, ◌≤◌, length, refl, subst, arith}
use Rattle.std.specs.Prelude.{Option, Some, None, codes, IsTrue}
use Rattle.aqe_base.specs.declared.join_kind.JoinKind.{JoinKind}
use Rattle.aqe_trees.specs.declared.terminal.Key.{Key}
use Rattle.aqe_trees.specs.declared.terminal.Key.TheVariants as k
use Rattle.aqe_trees.specs.declared.terminal.Terminal.{Terminal}
use Rattle.aqe_trees.specs.declared.terminal.Terminal.TheVariants.{Fixed, Name, Number}
use Rattle.aqe_trees.specs.declared.expression.OrTree.{OrTree}
use Rattle.aqe_trees.specs.declared.query.QueryTree.{QueryTree}
use Rattle.aqe_trees.specs.declared.query.UnionTree.{UnionTree}
use Rattle.aqe_trees.specs.declared.query.CoreTree.{CoreTree}
use Rattle.aqe_trees.specs.declared.query.CoreTree.TheVariants as core
use Rattle.aqe_trees.specs.declared.query.SelectTree.{SelectTree}
use Rattle.aqe_trees.specs.declared.query.ItemTree.{ItemTree}
use Rattle.aqe_trees.specs.declared.query.ItemTree.TheVariants as item
use Rattle.aqe_trees.specs.declared.query.JoinStep.{JoinStep}
use Rattle.aqe_trees.specs.declared.query.JoinedTree.{JoinedTree}
use Rattle.aqe_trees.specs.declared.query.SourceTree.{SourceTree}
use Rattle.aqe_trees.specs.declared.query.SourceTree.TheVariants as source
use Rattle.aqe_trees.specs.declared.query.SortTree.{SortTree}
use Rattle.aqe_trees.specs.Shapes.{query_tree, union_tree, select_tree, joined_tree, join_step, sort_tree}
use Rattle.aqe_trees.specs.Expressions.{IsOr, list_of, IsListRest, list_end}
use Rattle.aqe_trees.specs.Lists.{Commas, no_comma, comma, Listed, listed, IsClause, no_clause, clause, IsBound, no_bound, bound, IsAlias, no_alias, alias, as_alias, IsDistinct, unsaid, all, distinct}
use Rattle.aqe_trees.specs.Queries.{IsItem, all_columns, all_columns_of, one_column, IsWay, usual_way, descending, IsNulls, usual_nulls, nulls, IsSort, sort_of, IsOrder, unordered, ordered, IsGroup, ungrouped, grouped, IsKind, IsQuery, query_of, IsUnion, union_of, IsUnionRest, union_end, union_more, IsCore, core_paren, core_select, IsSelect, select_of, IsFrom, no_from, from_of, IsFromRest, from_end, from_more, IsJoined, joined_of, IsJoinedRest, joined_end, joined_more, IsSource, table, source_paren}
use Rattle.aqe_phrases.specs.Texts.{is_bare}
use Rattle.aqe_phrases.specs.Written.{AllStand, Adds, Spelled, Going}
use Rattle.aqe_spell.specs.Clauses.{all_before, distinct_before, way_before, nulls_before}
use Rattle.aqe_phrases.proofs.Leaves.{adds_then, adds_none}
use Rattle.aqe_phrases.proofs.Left.{left_or}
use Rattle.aqe_spell.proofs.LeftQuery.{left_listed, left_clause, left_bound, left_distinct, left_item, left_sort, left_order, left_group, left_kind, left_query, left_union, left_core, left_from, left_joined, left_source}
use Rattle.aqe_spell.proofs.TakenQuery.{query_cut, union_cut, joined_cut, select_cut, step_cut, core_paren_cut, core_select_cut, table_cut, source_paren_cut}

pub alias_spelled : {text : List ℕ} {quoted : Bool} {old mid new : List ℕ} → Adds (λ us. Fixed k.As ∷ us) old mid
    → (0 < length text → Adds (λ us. Name text quoted ∷ us) mid new) → Spelled IsAlias (Some text) old new
alias_spelled {text = text} {quoted = quoted} a n _ _ alias s = record {
  words = λ us. Fixed k.As ∷ Name text quoted ∷ us;
  adds = adds_then a (n s.0);
  reads = λ us. as_alias;
}
alias_spelled {text = text} {quoted = quoted} a n _ _ as_alias s = record {
  words = λ us. Fixed k.As ∷ Name text quoted ∷ us;
  adds = adds_then a (n s.1.0);
  reads = λ us. as_alias;
}

pub no_alias_spelled : {old : List ℕ} → Spelled IsAlias None old old
no_alias_spelled ts us d s = record { words = λ vs. vs; adds = adds_none; reads = λ vs. no_alias }

pub clause_spelled : {key : Key} {tree : OrTree} {old mid new : List ℕ} → Adds (λ us. Fixed key ∷ us) old mid
    → Spelled IsOr tree mid new → Spelled (IsClause key) (Some tree) old new
clause_spelled {key = key} a v _ _ (clause d) s = let x = v _ _ d s.1 in record {
  words = λ us. Fixed key ∷ x.words us;
  adds = adds_then a x.adds;
  reads = λ us. clause (x.reads us);
}

pub no_clause_spelled : {key : Key} {old : List ℕ} → Spelled (IsClause key) None old old
no_clause_spelled ts us d s = record { words = λ vs. vs; adds = adds_none; reads = λ vs. no_clause }

pub bound_spelled : {key : Key} {count : ℕ} {old mid new : List ℕ} → Adds (λ us. Fixed key ∷ us) old mid
    → (count ≤ 9223372036854775808 → Adds (λ us. Number count false ∷ us) mid new) → Spelled (IsBound key) (Some count) old new
bound_spelled {key = key} {count = count} a n _ _ (bound e) s = record {
  words = λ us. Fixed key ∷ Number count false ∷ us;
  adds = adds_then a (n s.1.0);
  reads = λ us. bound e;
}

pub no_bound_spelled : {key : Key} {old : List ℕ} → Spelled (IsBound key) None old old
no_bound_spelled ts us d s = record { words = λ vs. vs; adds = adds_none; reads = λ vs. no_bound }

pub star_spelled : {old new : List ℕ} → Adds (λ us. Fixed k.Star ∷ us) old new → Spelled IsItem item.All old new
star_spelled a ts us d s = record { words = λ vs. Fixed k.Star ∷ vs; adds = a; reads = λ vs. all_columns }

pub table_star_spelled : {text : List ℕ} {quoted : Bool} {old a b new : List ℕ} → (0 < length text → Adds (λ us. Name text quoted ∷ us) old a)
    → Adds (λ us. Fixed k.Dot ∷ us) a b → Adds (λ us. Fixed k.Star ∷ us) b new → Spelled IsItem (item.AllOf text) old new
table_star_spelled {text = text} {quoted = quoted} n d m _ _ all_columns_of s = record {
  words = λ us. Name text quoted ∷ Fixed k.Dot ∷ Fixed k.Star ∷ us;
  adds = adds_then (n s.0) (adds_then d m);
  reads = λ us. all_columns_of;
}

pub item_spelled : {value : OrTree} {named : Option (List ℕ)} {old mid new : List ℕ} → Spelled IsOr value old mid
    → Spelled IsAlias named mid new → Spelled IsItem (item.One value named) old new
item_spelled v a _ _ (one_column d e) s =
    let x = v _ _ d s in let y = a _ _ e (left_or d s) in
    record {
      words = λ us. x.words (y.words us);
      adds = adds_then x.adds y.adds;
      reads = λ us. one_column (x.reads (y.words us)) (y.reads us);
    }

-- one more item behind a comma
pub comma_step : {T : Type 0} {Is : T → List Terminal → List Terminal → Type 0}
    → ((t : T) (ps qs : List Terminal) → Is t ps qs → AllStand ps → AllStand qs)
    → {next : T} {more : List T} {old mid new : List ℕ} → Adds (λ us. Fixed k.Comma ∷ us) old mid
    → Spelled Is next mid new → Going (Commas Is) (next ∷ more) more old new
comma_step f a n _ _ (comma d r) s = let x = n _ _ d s.1 in record {
  words = λ us. Fixed k.Comma ∷ x.words us;
  adds = adds_then a x.adds;
  reads = λ vs ws e. comma (x.reads vs) e;
  rest = _;
  is_rest = r;
  stand = f _ _ _ d s.1;
}

pub item_step : {next : ItemTree} {more : List ItemTree} {old mid new : List ℕ} → Adds (λ us. Fixed k.Comma ∷ us) old mid
    → Spelled IsItem next mid new → Going (Commas IsItem) (next ∷ more) more old new
item_step a n = comma_step (λ t ps qs p. left_item p) a n

pub sort_step : {next : SortTree} {more : List SortTree} {old mid new : List ℕ} → Adds (λ us. Fixed k.Comma ∷ us) old mid
    → Spelled IsSort next mid new → Going (Commas IsSort) (next ∷ more) more old new
sort_step a n = comma_step (λ t ps qs p. left_sort p) a n

pub items_spelled : {first : ItemTree} {rest : List ItemTree} {old mid new : List ℕ} → Spelled IsItem first old mid
    → Going (Commas IsItem) rest [] mid new → Spelled (Listed IsItem) (first ∷ rest) old new
items_spelled f g _ _ (listed d r) s =
    let x = f _ _ d s in let y = g _ _ r (left_item d s) in
    record {
      words = λ us. x.words (y.words us);
      adds = adds_then x.adds y.adds;
      reads = λ us. listed (x.reads (y.words us)) (y.reads us us no_comma);
    }

pub no_group_spelled : (keys : List OrTree) {old : List ℕ} → length keys ≡ 0 → Spelled IsGroup keys old old
no_group_spelled [] e ts us d s = record { words = λ vs. vs; adds = adds_none; reads = λ vs. ungrouped }
no_group_spelled (x ∷ xs) e ts us d s = absurd (omega (arith, e))

pub group_spelled : {first : OrTree} {rest : List OrTree} {old a b c new : List ℕ} → Adds (λ us. Fixed k.Group ∷ us) old a
    → Adds (λ us. Fixed k.By ∷ us) a b → Spelled IsOr first b c → Going IsListRest rest [] c new
    → Spelled IsGroup (first ∷ rest) old new
group_spelled p q f g _ _ (grouped (list_of d r)) s =
    let x = f _ _ d s.1.1 in let y = g _ _ r (left_or d s.1.1) in
    record {
      words = λ us. Fixed k.Group ∷ Fixed k.By ∷ x.words (y.words us);
      adds = adds_then p (adds_then q (adds_then x.adds y.adds));
      reads = λ us. grouped (list_of (x.reads (y.words us)) (y.reads us us list_end));
    }

pub no_order_spelled : (keys : List SortTree) {old : List ℕ} → length keys ≡ 0 → Spelled IsOrder keys old old
no_order_spelled [] e ts us d s = record { words = λ vs. vs; adds = adds_none; reads = λ vs. unordered }
no_order_spelled (x ∷ xs) e ts us d s = absurd (omega (arith, e))

pub order_spelled : {first : SortTree} {rest : List SortTree} {old a b c new : List ℕ} → Adds (λ us. Fixed k.Order ∷ us) old a
    → Adds (λ us. Fixed k.By ∷ us) a b → Spelled IsSort first b c → Going (Commas IsSort) rest [] c new
    → Spelled IsOrder (first ∷ rest) old new
order_spelled p q f g _ _ (ordered (listed d r)) s =
    let x = f _ _ d s.1.1 in let y = g _ _ r (left_sort d s.1.1) in
    record {
      words = λ us. Fixed k.Order ∷ Fixed k.By ∷ x.words (y.words us);
      adds = adds_then p (adds_then q (adds_then x.adds y.adds));
      reads = λ us. ordered (listed (x.reads (y.words us)) (y.reads us us no_comma));
    }

way_read : (way : Bool) (us : List Terminal) → IsWay way (way_before way us) us
way_read false us = usual_way
way_read true us = descending

nulls_read : (way last : Bool) (us : List Terminal) → IsNulls way last (nulls_before way last us) us
nulls_read false false us = usual_nulls
nulls_read true true us = usual_nulls
nulls_read false true us = nulls refl
nulls_read true false us = nulls refl

pub last_adds : {old mid new : List ℕ} → Adds (λ us. Fixed k.Nulls ∷ us) old mid
    → (IsTrue (is_bare (codes "LAST")) → Adds (λ us. Name (codes "LAST") false ∷ us) mid new) → Adds (nulls_before false true) old new
last_adds a b = adds_then a (b refl)

pub first_adds : {old mid new : List ℕ} → Adds (λ us. Fixed k.Nulls ∷ us) old mid
    → (IsTrue (is_bare (codes "FIRST")) → Adds (λ us. Name (codes "FIRST") false ∷ us) mid new) → Adds (nulls_before true false) old new
first_adds a b = adds_then a (b refl)

pub sort_spelled : {value : OrTree} (way last : Bool) {old a b new : List ℕ} → Spelled IsOr value old a → Adds (way_before way) a b
    → Adds (nulls_before way last) b new → Spelled IsSort (sort_tree value way last) old new
sort_spelled way last v w n _ _ (sort_of d e f) s = let x = v _ _ d s in record {
  words = λ us. x.words (way_before way (nulls_before way last us));
  adds = adds_then x.adds (adds_then w n);
  reads = λ us. sort_of (x.reads (way_before way (nulls_before way last us))) (way_read way (nulls_before way last us)) (nulls_read way last us);
}

pub kind_spelled : {which : JoinKind} {key : Key} {old mid new : List ℕ}
    → ((us : List Terminal) → IsKind which (Fixed key ∷ Fixed k.Join ∷ us) us)
    → Adds (λ us. Fixed key ∷ us) old mid → Adds (λ us. Fixed k.Join ∷ us) mid new → Spelled IsKind which old new
kind_spelled {key = key} r a b ts us d s = record {
  words = λ vs. Fixed key ∷ Fixed k.Join ∷ vs;
  adds = adds_then a b;
  reads = r;
}

pub query_spelled : {body : UnionTree} {order : List SortTree} {limit offset : Option ℕ} {old a b c new : List ℕ}
    → Spelled IsUnion body old a → Spelled IsOrder order a b → Spelled (IsBound k.Limit) limit b c
    → Spelled (IsBound k.Offset) offset c new → Spelled IsQuery (query_tree body order limit offset) old new
query_spelled {body = body} {order = order} {limit = limit} {offset = offset} p q r t ts us d s =
    let c = query_cut body order limit offset d in
    let x = p _ _ c.3 s in let s1 = left_union c.3 s in
    let y = q _ _ c.4 s1 in let s2 = left_order c.4 s1 in
    let z = r _ _ c.5 s2 in let s3 = left_bound c.5 s2 in
    let w = t _ _ c.6 s3 in
    record {
      words = λ vs. x.words (y.words (z.words (w.words vs)));
      adds = adds_then x.adds (adds_then y.adds (adds_then z.adds w.adds));
      reads = λ vs. query_of (x.reads (y.words (z.words (w.words vs)))) (y.reads (z.words (w.words vs))) (z.reads (w.words vs)) (w.reads vs);
    }

all_read : (once : Bool) (us : List Terminal) → IsDistinct true once (all_before once us) us
all_read false us = all
all_read true us = unsaid

distinct_read : (once : Bool) (us : List Terminal) → IsDistinct false once (distinct_before once us) us
distinct_read false us = unsaid
distinct_read true us = distinct

pub union_step : {once : Bool} {next : CoreTree} {more : List (Bool × CoreTree)} {old a b new : List ℕ} → Adds (λ us. Fixed k.Union ∷ us) old a
    → Adds (all_before once) a b → Spelled IsCore next b new → Going IsUnionRest ((once, next) ∷ more) more old new
union_step {once = once} p q n _ _ (union_more e d r) s =
    let at = left_distinct e s.1 in let x = n _ _ d at in
    record {
      words = λ us. Fixed k.Union ∷ all_before once (x.words us);
      adds = adds_then p (adds_then q x.adds);
      reads = λ vs ws f. union_more (all_read once (x.words vs)) (x.reads vs) f;
      rest = _;
      is_rest = r;
      stand = left_core d at;
    }

pub union_spelled : {first : CoreTree} {rest : List (Bool × CoreTree)} {old mid new : List ℕ} → Spelled IsCore first old mid
    → Going IsUnionRest rest [] mid new → Spelled IsUnion (union_tree first rest) old new
union_spelled {first = first} {rest = rest} f g ts us d s =
    let c = union_cut first rest d in let x = f _ _ c.1 s in let y = g _ _ c.2 (left_core c.1 s) in
    record {
      words = λ vs. x.words (y.words vs);
      adds = adds_then x.adds y.adds;
      reads = λ vs. union_of (x.reads (y.words vs)) (y.reads vs vs union_end);
    }

pub core_paren_spelled : {query : QueryTree} {old a b new : List ℕ} → Adds (λ us. Fixed k.Open ∷ us) old a → Spelled IsQuery query a b
    → Adds (λ us. Fixed k.Close ∷ us) b new → Spelled IsCore (core.Paren query) old new
core_paren_spelled {query = query} o q m ts us d s =
    let c = core_paren_cut query d in let at = subst AllStand c.1 s in let x = q _ _ c.2 at.1 in
    record {
      words = λ vs. Fixed k.Open ∷ x.words (Fixed k.Close ∷ vs);
      adds = adds_then o (adds_then x.adds m);
      reads = λ vs. core_paren (x.reads (Fixed k.Close ∷ vs));
    }

pub core_select_spelled : {select : SelectTree} {old mid new : List ℕ} → Adds (λ us. Fixed k.Select ∷ us) old mid
    → Spelled IsSelect select mid new → Spelled IsCore (core.Select select) old new
core_select_spelled {select = select} o q ts us d s =
    let c = core_select_cut select d in let at = subst AllStand c.1 s in let x = q _ _ c.2 at.1 in
    record {
      words = λ vs. Fixed k.Select ∷ x.words vs;
      adds = adds_then o x.adds;
      reads = λ vs. core_select (x.reads vs);
    }

pub select_spelled : (once : Bool) {items : List ItemTree} {from : List JoinedTree} {filter having : Option OrTree} {group : List OrTree}
    {old a b c d e new : List ℕ} → Adds (distinct_before once) old a → Spelled (Listed IsItem) items a b → Spelled IsFrom from b c
    → Spelled (IsClause k.Where) filter c d → Spelled IsGroup group d e → Spelled (IsClause k.Having) having e new
    → Spelled IsSelect (select_tree once items from filter group having) old new
select_spelled once {items} {from} {filter} {having} {group} p q r t u v ts us g s =
    let c = select_cut once items from filter group having g in
    let s1 = left_distinct c.5 s in
    let x = q _ _ c.6 s1 in let s2 = left_listed (λ t ps qs p. left_item p) c.6 s1 in
    let y = r _ _ c.7 s2 in let s3 = left_from c.7 s2 in
    let z = t _ _ c.8 s3 in let s4 = left_clause c.8 s3 in
    let w = u _ _ c.9 s4 in let s5 = left_group c.9 s4 in
    let h = v _ _ c.10 s5 in
    record {
      words = λ vs. distinct_before once (x.words (y.words (z.words (w.words (h.words vs)))));
      adds = adds_then p (adds_then x.adds (adds_then y.adds (adds_then z.adds (adds_then w.adds h.adds))));
      reads = λ vs. select_of (distinct_read once (x.words (y.words (z.words (w.words (h.words vs))))))
          (x.reads (y.words (z.words (w.words (h.words vs))))) (y.reads (z.words (w.words (h.words vs))))
          (z.reads (w.words (h.words vs))) (w.reads (h.words vs)) (h.reads vs);
    }

pub no_from_spelled : (sources : List JoinedTree) {old : List ℕ} → length sources ≡ 0 → Spelled IsFrom sources old old
no_from_spelled [] e ts us d s = record { words = λ vs. vs; adds = adds_none; reads = λ vs. no_from }
no_from_spelled (x ∷ xs) e ts us d s = absurd (omega (arith, e))

pub from_step : {next : JoinedTree} {more : List JoinedTree} {old mid new : List ℕ} → Adds (λ us. Fixed k.Comma ∷ us) old mid
    → Spelled IsJoined next mid new → Going IsFromRest (next ∷ more) more old new
from_step a n _ _ (from_more d r) s = let x = n _ _ d s.1 in record {
  words = λ us. Fixed k.Comma ∷ x.words us;
  adds = adds_then a x.adds;
  reads = λ vs ws e. from_more (x.reads vs) e;
  rest = _;
  is_rest = r;
  stand = left_joined d s.1;
}

pub from_spelled : {first : JoinedTree} {rest : List JoinedTree} {old a b new : List ℕ} → Adds (λ us. Fixed k.From ∷ us) old a
    → Spelled IsJoined first a b → Going IsFromRest rest [] b new → Spelled IsFrom (first ∷ rest) old new
from_spelled p f g _ _ (from_of d r) s =
    let x = f _ _ d s.1 in let y = g _ _ r (left_joined d s.1) in
    record {
      words = λ us. Fixed k.From ∷ x.words (y.words us);
      adds = adds_then p (adds_then x.adds y.adds);
      reads = λ us. from_of (x.reads (y.words us)) (y.reads us us from_end);
    }

pub joined_spelled : {first : SourceTree} {rest : List JoinStep} {old mid new : List ℕ} → Spelled IsSource first old mid
    → Going IsJoinedRest rest [] mid new → Spelled IsJoined (joined_tree first rest) old new
joined_spelled {first = first} {rest = rest} f g ts us d s =
    let c = joined_cut first rest d in let x = f _ _ c.1 s in let y = g _ _ c.2 (left_source c.1 s) in
    record {
      words = λ vs. x.words (y.words vs);
      adds = adds_then x.adds y.adds;
      reads = λ vs. joined_of (x.reads (y.words vs)) (y.reads vs vs joined_end);
    }

pub step_spelled : {which : JoinKind} {next : SourceTree} {on : Option OrTree} {old a b new : List ℕ} → Spelled IsKind which old a
    → Spelled IsSource next a b → Spelled (IsClause k.On) on b new → (more : List JoinStep)
    → Going IsJoinedRest (join_step which next on ∷ more) more old new
step_spelled {which = which} {next = next} {on = on} p q r more ts us d s =
    let c = step_cut which next on more d in
    let x = p _ _ c.3 s in let s1 = left_kind c.3 s in
    let y = q _ _ c.4 s1 in let s2 = left_source c.4 s1 in
    let z = r _ _ c.5 s2 in
    record {
      words = λ vs. x.words (y.words (z.words vs));
      adds = adds_then x.adds (adds_then y.adds z.adds);
      reads = λ vs ws e. joined_more (x.reads (y.words (z.words vs))) (y.reads (z.words vs)) (z.reads vs) e;
      rest = _;
      is_rest = c.6;
      stand = left_clause c.5 s2;
    }

pub table_spelled : {name : List ℕ} {named : Option (List ℕ)} {quoted : Bool} {old mid new : List ℕ}
    → (0 < length name → Adds (λ us. Name name quoted ∷ us) old mid) → Spelled IsAlias named mid new
    → Spelled IsSource (source.Table name named) old new
table_spelled {name = name} {named = named} {quoted = quoted} n a ts us d s =
    let c = table_cut name named d in let at = subst AllStand c.2 s in let x = a _ _ c.3 at.1 in
    record {
      words = λ vs. Name name quoted ∷ x.words vs;
      adds = adds_then (n at.0) x.adds;
      reads = λ vs. table (x.reads vs);
    }

pub source_paren_spelled : {query : QueryTree} {named : Option (List ℕ)} {old a b c new : List ℕ} → Adds (λ us. Fixed k.Open ∷ us) old a
    → Spelled IsQuery query a b → Adds (λ us. Fixed k.Close ∷ us) b c → Spelled IsAlias named c new
    → Spelled IsSource (source.Paren query named) old new
source_paren_spelled {query = query} {named = named} o q m n ts us d s =
    let c = source_paren_cut query named d in let at = subst AllStand c.2 s in
    let x = q _ _ c.3 at.1 in let y = n _ _ c.4 (left_query c.3 at.1).1 in
    record {
      words = λ vs. Fixed k.Open ∷ x.words (Fixed k.Close ∷ y.words vs);
      adds = adds_then o (adds_then x.adds (adds_then m y.adds));
      reads = λ vs. source_paren (x.reads (Fixed k.Close ∷ y.words vs)) (y.reads vs);
    }
