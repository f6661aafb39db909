-- The grammar of queries, as that of expressions is written: which tree begins a list of terminals, and what it leaves.
use Rattle.std.specs.Prelude.{ℕ, List, [], ◌∷◌, Bool, true, false, Option, Some, ◌≡◌}
use Rattle.aqe_base.specs.declared.join_kind.JoinKind.{JoinKind}
use Rattle.aqe_base.specs.declared.join_kind.JoinKind.TheVariants as kind
use Rattle.aqe_trees.specs.declared.terminal.Key.TheVariants as k
use Rattle.aqe_trees.specs.declared.terminal.Terminal.{Terminal}
use Rattle.aqe_trees.specs.declared.terminal.Terminal.TheVariants.{Fixed, Name}
use Rattle.aqe_trees.specs.declared.expression.OrTree.{OrTree}
use Rattle.aqe_trees.specs.declared.query.QueryTree.{QueryTree}
use Rattle.aqe_trees.specs.declared.query.UnionTree.{UnionTree}
use Rattle.aqe_trees.specs.declared.query.CoreTree.{CoreTree}
use Rattle.aqe_trees.specs.declared.query.CoreTree.TheVariants as core
use Rattle.aqe_trees.specs.declared.query.SelectTree.{SelectTree}
use Rattle.aqe_trees.specs.declared.query.ItemTree.{ItemTree}
use Rattle.aqe_trees.specs.declared.query.ItemTree.TheVariants as item
use Rattle.aqe_trees.specs.declared.query.JoinedTree.{JoinedTree}
use Rattle.aqe_trees.specs.declared.query.JoinStep.{JoinStep}
use Rattle.aqe_trees.specs.declared.query.SourceTree.{SourceTree}
use Rattle.aqe_trees.specs.declared.query.SourceTree.TheVariants as source
use Rattle.aqe_trees.specs.declared.query.SortTree.{SortTree}
use Rattle.aqe_trees.specs.Shapes.{query_tree, union_tree, select_tree, joined_tree, join_step, sort_tree}
use Rattle.aqe_trees.specs.Words.{nulls_of}
use Rattle.aqe_trees.specs.Expressions.{IsOr, IsList}
use Rattle.aqe_trees.specs.Lists.{Listed, IsClause, IsBound, IsAlias, IsDistinct}

-- item = * | name . * | or [[AS] name]
pub data IsItem : ItemTree → List Terminal → List Terminal → Type 0 where
  all_columns : {us : List Terminal} → IsItem item.All (Fixed k.Star ∷ us) us
  all_columns_of : {table : List ℕ} {quoted : Bool} {us : List Terminal} →
      IsItem (item.AllOf table) (Name table quoted ∷ Fixed k.Dot ∷ Fixed k.Star ∷ us) us
  one_column : {value : OrTree} {alias : Option (List ℕ)} {ts vs us : List Terminal} →
      IsOr value ts vs → IsAlias alias vs us → IsItem (item.One value alias) ts us

-- [ASC | DESC]: whether it is descending
pub data IsWay : Bool → List Terminal → List Terminal → Type 0 where
  usual_way : {us : List Terminal} → IsWay false us us
  ascending : {us : List Terminal} → IsWay false (Fixed k.Asc ∷ us) us
  descending : {us : List Terminal} → IsWay true (Fixed k.Desc ∷ us) us

-- [NULLS (FIRST | LAST)]: whether NULLs stand last, which unsaid they do in descending order
pub data IsNulls (descending : Bool) : Bool → List Terminal → List Terminal → Type 0 where
  usual_nulls : {us : List Terminal} → IsNulls descending descending us us
  nulls : {last : Bool} {t : Terminal} {us : List Terminal} → nulls_of t ≡ Some last →
      IsNulls descending last (Fixed k.Nulls ∷ t ∷ us) us

-- sort = or [ASC | DESC] [NULLS (FIRST | LAST)]
pub data IsSort : SortTree → List Terminal → List Terminal → Type 0 where
  sort_of : {value : OrTree} {descending last : Bool} {ts vs ws us : List Terminal} →
      IsOr value ts vs → IsWay descending vs ws → IsNulls descending last ws us →
      IsSort (sort_tree value descending last) ts us

-- [ORDER BY sort {, sort}]
pub data IsOrder : List SortTree → List Terminal → List Terminal → Type 0 where
  unordered : {us : List Terminal} → IsOrder [] us us
  ordered : {sorts : List SortTree} {ts us : List Terminal} →
      Listed IsSort sorts ts us → IsOrder sorts (Fixed k.Order ∷ Fixed k.By ∷ ts) us

-- [GROUP BY or {, or}]
pub data IsGroup : List OrTree → List Terminal → List Terminal → Type 0 where
  ungrouped : {us : List Terminal} → IsGroup [] us us
  grouped : {keys : List OrTree} {ts us : List Terminal} →
      IsList keys ts us → IsGroup keys (Fixed k.Group ∷ Fixed k.By ∷ ts) us

-- kind = INNER | CROSS | LEFT [OUTER] | RIGHT [OUTER] | FULL [OUTER] | [LEFT] SEMI | [LEFT] ANTI, and then JOIN
pub data IsKind : JoinKind → List Terminal → List Terminal → Type 0 where
  join : {us : List Terminal} → IsKind kind.Inner (Fixed k.Join ∷ us) us
  inner : {us : List Terminal} → IsKind kind.Inner (Fixed k.Inner ∷ Fixed k.Join ∷ us) us
  cross : {us : List Terminal} → IsKind kind.Cross (Fixed k.Cross ∷ Fixed k.Join ∷ us) us
  left : {us : List Terminal} → IsKind kind.LeftOuter (Fixed k.Left ∷ Fixed k.Join ∷ us) us
  left_outer : {us : List Terminal} → IsKind kind.LeftOuter (Fixed k.Left ∷ Fixed k.Outer ∷ Fixed k.Join ∷ us) us
  right : {us : List Terminal} → IsKind kind.RightOuter (Fixed k.Right ∷ Fixed k.Join ∷ us) us
  right_outer : {us : List Terminal} → IsKind kind.RightOuter (Fixed k.Right ∷ Fixed k.Outer ∷ Fixed k.Join ∷ us) us
  full : {us : List Terminal} → IsKind kind.FullOuter (Fixed k.Full ∷ Fixed k.Join ∷ us) us
  full_outer : {us : List Terminal} → IsKind kind.FullOuter (Fixed k.Full ∷ Fixed k.Outer ∷ Fixed k.Join ∷ us) us
  semi : {us : List Terminal} → IsKind kind.LeftSemi (Fixed k.Semi ∷ Fixed k.Join ∷ us) us
  left_semi : {us : List Terminal} → IsKind kind.LeftSemi (Fixed k.Left ∷ Fixed k.Semi ∷ Fixed k.Join ∷ us) us
  anti : {us : List Terminal} → IsKind kind.LeftAnti (Fixed k.Anti ∷ Fixed k.Join ∷ us) us
  left_anti : {us : List Terminal} → IsKind kind.LeftAnti (Fixed k.Left ∷ Fixed k.Anti ∷ Fixed k.Join ∷ us) us

mutual
  -- query = union [ORDER BY sort {, sort}] [LIMIT number] [OFFSET number]
  pub data IsQuery : QueryTree → List Terminal → List Terminal → Type 0 where
    query_of : {body : UnionTree} {order : List SortTree} {limit offset : Option ℕ} {ts vs ws xs us : List Terminal} →
        IsUnion body ts vs → IsOrder order vs ws → IsBound k.Limit limit ws xs → IsBound k.Offset offset xs us →
        IsQuery (query_tree body order limit offset) ts us

  -- union = core {UNION [ALL | DISTINCT] core}
  pub data IsUnion : UnionTree → List Terminal → List Terminal → Type 0 where
    union_of : {first : CoreTree} {rest : List (Bool × CoreTree)} {ts vs us : List Terminal} →
        IsCore first ts vs → IsUnionRest rest vs us → IsUnion (union_tree first rest) ts us

  pub data IsUnionRest : List (Bool × CoreTree) → List Terminal → List Terminal → Type 0 where
    union_end : {us : List Terminal} → IsUnionRest [] us us
    union_more : {distinct : Bool} {next : CoreTree} {rest : List (Bool × CoreTree)} {ts vs ws us : List Terminal} →
        IsDistinct true distinct ts vs → IsCore next vs ws → IsUnionRest rest ws us →
        IsUnionRest ((distinct, next) ∷ rest) (Fixed k.Union ∷ ts) us

  -- core = ( query ) | SELECT [ALL | DISTINCT] item {, item} [FROM joined {, joined}] [WHERE or]
  --        [GROUP BY or {, or}] [HAVING or]
  pub data IsCore : CoreTree → List Terminal → List Terminal → Type 0 where
    core_paren : {query : QueryTree} {ts us : List Terminal} →
        IsQuery query ts (Fixed k.Close ∷ us) → IsCore (core.Paren query) (Fixed k.Open ∷ ts) us
    core_select : {select : SelectTree} {ts us : List Terminal} →
        IsSelect select ts us → IsCore (core.Select select) (Fixed k.Select ∷ ts) us

  pub data IsSelect : SelectTree → List Terminal → List Terminal → Type 0 where
    select_of : {distinct : Bool} {items : List ItemTree} {from : List JoinedTree} {filter having : Option OrTree}
        {group : List OrTree} {ts vs ws xs ys zs us : List Terminal} →
        IsDistinct false distinct ts vs → Listed IsItem items vs ws → IsFrom from ws xs →
        IsClause k.Where filter xs ys → IsGroup group ys zs → IsClause k.Having having zs us →
        IsSelect (select_tree distinct items from filter group having) ts us

  -- [FROM joined {, joined}]
  pub data IsFrom : List JoinedTree → List Terminal → List Terminal → Type 0 where
    no_from : {us : List Terminal} → IsFrom [] us us
    from_of : {first : JoinedTree} {rest : List JoinedTree} {ts vs us : List Terminal} →
        IsJoined first ts vs → IsFromRest rest vs us → IsFrom (first ∷ rest) (Fixed k.From ∷ ts) us

  pub data IsFromRest : List JoinedTree → List Terminal → List Terminal → Type 0 where
    from_end : {us : List Terminal} → IsFromRest [] us us
    from_more : {next : JoinedTree} {rest : List JoinedTree} {ts vs us : List Terminal} →
        IsJoined next ts vs → IsFromRest rest vs us → IsFromRest (next ∷ rest) (Fixed k.Comma ∷ ts) us

  -- joined = source {[kind] JOIN source [ON or]}
  pub data IsJoined : JoinedTree → List Terminal → List Terminal → Type 0 where
    joined_of : {first : SourceTree} {rest : List JoinStep} {ts vs us : List Terminal} →
        IsSource first ts vs → IsJoinedRest rest vs us → IsJoined (joined_tree first rest) ts us

  pub data IsJoinedRest : List JoinStep → List Terminal → List Terminal → Type 0 where
    joined_end : {us : List Terminal} → IsJoinedRest [] us us
    joined_more : {kind : JoinKind} {next : SourceTree} {on : Option OrTree} {rest : List JoinStep} {ts vs ws xs us : List Terminal} →
        IsKind kind ts vs → IsSource next vs ws → IsClause k.On on ws xs → IsJoinedRest rest xs us →
        IsJoinedRest (join_step kind next on ∷ rest) ts us

  -- source = name [[AS] name] | ( query ) [[AS] name]
  pub data IsSource : SourceTree → List Terminal → List Terminal → Type 0 where
    table : {name : List ℕ} {quoted : Bool} {alias : Option (List ℕ)} {ts us : List Terminal} →
        IsAlias alias ts us → IsSource (source.Table name alias) (Name name quoted ∷ ts) us
    source_paren : {query : QueryTree} {alias : Option (List ℕ)} {ts vs us : List Terminal} →
        IsQuery query ts (Fixed k.Close ∷ vs) → IsAlias alias vs us → IsSource (source.Paren query alias) (Fixed k.Open ∷ ts) us
