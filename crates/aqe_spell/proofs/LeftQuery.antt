-- What is left behind a part of a query of a source stands in the source.
use Rattle.std.proofs.Common.{ℕ, Bool, List}
use Rattle.std.specs.Prelude.{Option}
use Rattle.aqe_base.specs.declared.join_kind.JoinKind.{JoinKind}
use Rattle.aqe_trees.specs.declared.terminal.Key.{Key}
use Rattle.aqe_trees.specs.declared.terminal.Terminal.{Terminal}
use Rattle.aqe_trees.specs.declared.expression.OrTree.{OrTree}
use Rattle.aqe_trees.specs.declared.query.QueryTree.{QueryTree}
use Rattle.aqe_trees.specs.declared.query.UnionTree.{UnionTree}
use Rattle.aqe_trees.specs.declared.query.CoreTree.{CoreTree}
use Rattle.aqe_trees.specs.declared.query.SelectTree.{SelectTree}
use Rattle.aqe_trees.specs.declared.query.ItemTree.{ItemTree}
use Rattle.aqe_trees.specs.declared.query.JoinStep.{JoinStep}
use Rattle.aqe_trees.specs.declared.query.JoinedTree.{JoinedTree}
use Rattle.aqe_trees.specs.declared.query.SourceTree.{SourceTree}
use Rattle.aqe_trees.specs.declared.query.SortTree.{SortTree}
use Rattle.aqe_trees.specs.Lists.{Commas, no_comma, comma, Listed, listed, IsClause, no_clause, clause, IsBound, no_bound, bound, IsAlias, no_alias, alias, as_alias, IsDistinct, unsaid, all, distinct}
use Rattle.aqe_trees.specs.Queries.{IsItem, all_columns, all_columns_of, one_column, IsWay, usual_way, ascending, descending, IsNulls, usual_nulls, nulls, IsSort, sort_of, IsOrder, unordered, ordered, IsGroup, ungrouped, grouped, IsKind, join, inner, cross, left, left_outer, right, right_outer, full, full_outer, semi, left_semi, anti, left_anti, IsQuery, query_of, IsUnion, union_of, IsUnionRest, union_end, union_more, IsCore, core_paren, core_select, IsSelect, select_of, IsFrom, no_from, from_of, IsFromRest, from_end, from_more, IsJoined, joined_of, IsJoinedRest, joined_end, joined_more, IsSource, table, source_paren}
use Rattle.aqe_phrases.specs.Written.{AllStand}
use Rattle.aqe_phrases.proofs.Left.{left_or, left_list}

pub left_commas : {T : Type 0} {Is : T → List Terminal → List Terminal → Type 0} {rest : List T} {ts us : List Terminal}
    → ((t : T) (ps qs : List Terminal) → Is t ps qs → AllStand ps → AllStand qs) → Commas Is rest ts us → AllStand ts → AllStand us
left_commas f no_comma s = s
left_commas f (comma d r) s = left_commas f r (f _ _ _ d s.1)

pub left_listed : {T : Type 0} {Is : T → List Terminal → List Terminal → Type 0} {items : List T} {ts us : List Terminal}
    → ((t : T) (ps qs : List Terminal) → Is t ps qs → AllStand ps → AllStand qs) → Listed Is items ts us → AllStand ts → AllStand us
left_listed f (listed d r) s = left_commas f r (f _ _ _ d s)

pub left_clause : {key : Key} {value : Option OrTree} {ts us : List Terminal} → IsClause key value ts us → AllStand ts → AllStand us
left_clause no_clause s = s
left_clause (clause d) s = left_or d s.1

pub left_bound : {key : Key} {value : Option ℕ} {ts us : List Terminal} → IsBound key value ts us → AllStand ts → AllStand us
left_bound no_bound s = s
left_bound (bound e) s = s.1.1

pub left_alias : {name : Option (List ℕ)} {ts us : List Terminal} → IsAlias name ts us → AllStand ts → AllStand us
left_alias no_alias s = s
left_alias alias s = s.1
left_alias as_alias s = s.1.1

pub left_distinct : {usual once : Bool} {ts us : List Terminal} → IsDistinct usual once ts us → AllStand ts → AllStand us
left_distinct unsaid s = s
left_distinct all s = s.1
left_distinct distinct s = s.1

pub left_item : {tree : ItemTree} {ts us : List Terminal} → IsItem tree ts us → AllStand ts → AllStand us
left_item all_columns s = s.1
left_item all_columns_of s = s.1.1.1
left_item (one_column d e) s = left_alias e (left_or d s)

pub left_way : {way : Bool} {ts us : List Terminal} → IsWay way ts us → AllStand ts → AllStand us
left_way usual_way s = s
left_way ascending s = s.1
left_way descending s = s.1

pub left_nulls : {way last : Bool} {ts us : List Terminal} → IsNulls way last ts us → AllStand ts → AllStand us
left_nulls usual_nulls s = s
left_nulls (nulls e) s = s.1.1

pub left_sort : {tree : SortTree} {ts us : List Terminal} → IsSort tree ts us → AllStand ts → AllStand us
left_sort (sort_of d e f) s = left_nulls f (left_way e (left_or d s))

pub left_order : {keys : List SortTree} {ts us : List Terminal} → IsOrder keys ts us → AllStand ts → AllStand us
left_order unordered s = s
left_order (ordered d) s = left_listed (λ t ps qs p. left_sort p) d s.1.1

pub left_group : {keys : List OrTree} {ts us : List Terminal} → IsGroup keys ts us → AllStand ts → AllStand us
left_group ungrouped s = s
left_group (grouped d) s = left_list d s.1.1

pub left_kind : {which : JoinKind} {ts us : List Terminal} → IsKind which ts us → AllStand ts → AllStand us
left_kind join s = s.1
left_kind inner s = s.1.1
left_kind cross s = s.1.1
left_kind left s = s.1.1
left_kind left_outer s = s.1.1.1
left_kind right s = s.1.1
left_kind right_outer s = s.1.1.1
left_kind full s = s.1.1
left_kind full_outer s = s.1.1.1
left_kind semi s = s.1.1
left_kind left_semi s = s.1.1.1
left_kind anti s = s.1.1
left_kind left_anti s = s.1.1.1

mutual
  pub left_query : {tree : QueryTree} {ts us : List Terminal} → IsQuery tree ts us → AllStand ts → AllStand us
  left_query (query_of d e f g) s = left_bound g (left_bound f (left_order e (left_union d s)))

  pub left_union : {tree : UnionTree} {ts us : List Terminal} → IsUnion tree ts us → AllStand ts → AllStand us
  left_union (union_of d r) s = left_union_rest r (left_core d s)

  pub left_union_rest : {rest : List (Bool × CoreTree)} {ts us : List Terminal} → IsUnionRest rest ts us → AllStand ts → AllStand us
  left_union_rest union_end s = s
  left_union_rest (union_more e d r) s = left_union_rest r (left_core d (left_distinct e s.1))

  pub left_core : {tree : CoreTree} {ts us : List Terminal} → IsCore tree ts us → AllStand ts → AllStand us
  left_core (core_paren d) s = (left_query d s.1).1
  left_core (core_select d) s = left_select d s.1

  pub left_select : {tree : SelectTree} {ts us : List Terminal} → IsSelect tree ts us → AllStand ts → AllStand us
  left_select (select_of d e f g h i) s =
      left_clause i (left_group h (left_clause g (left_from f (left_listed (λ t ps qs p. left_item p) e (left_distinct d s)))))

  pub left_from : {sources : List JoinedTree} {ts us : List Terminal} → IsFrom sources ts us → AllStand ts → AllStand us
  left_from no_from s = s
  left_from (from_of d r) s = left_from_rest r (left_joined d s.1)

  pub left_from_rest : {sources : List JoinedTree} {ts us : List Terminal} → IsFromRest sources ts us → AllStand ts → AllStand us
  left_from_rest from_end s = s
  left_from_rest (from_more d r) s = left_from_rest r (left_joined d s.1)

  pub left_joined : {tree : JoinedTree} {ts us : List Terminal} → IsJoined tree ts us → AllStand ts → AllStand us
  left_joined (joined_of d r) s = left_joined_rest r (left_source d s)

  pub left_joined_rest : {steps : List JoinStep} {ts us : List Terminal} → IsJoinedRest steps ts us → AllStand ts → AllStand us
  left_joined_rest joined_end s = s
  left_joined_rest (joined_more e d f r) s = left_joined_rest r (left_clause f (left_source d (left_kind e s)))

  pub left_source : {tree : SourceTree} {ts us : List Terminal} → IsSource tree ts us → AllStand ts → AllStand us
  left_source (table e) s = left_alias e s.1
  left_source (source_paren d e) s = left_alias e (left_query d s.1).1
