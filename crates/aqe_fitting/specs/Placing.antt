-- Where the rows of a plan stand, node by node, and what a node may ask of the rows below it.
use Rattle.std.specs.Prelude.{ℕ, zero, suc, Bool, true, false, ◌&&◌, cond, Option, Some, None, List, [], ◌∷◌, map, option_map}
use Rattle.std.specs.List.{list_all, list_any, position}
use Rattle.std.specs.Cmp.Lexicographic.{pointwise}
use Rattle.aqe_base.specs.declared.join_kind.JoinKind.{JoinKind}
use Rattle.aqe_base.specs.declared.join_kind.JoinKind.TheVariants.{RightOuter, FullOuter}
use Rattle.aqe_base.specs.declared.stage_id.StageId.{StageId}
use Rattle.aqe_values.specs.contracts.sort_way.SortWayPartialEq.TheImpl as way_eq
use Rattle.aqe_expr.specs.declared.expr.Expr.{Expr, Column}
use Rattle.aqe_columns.specs.Replacing.{replaced}
use Rattle.aqe_rules.specs.Equality.{same_expr}
use Rattle.aqe_logical.specs.declared.plan.Placement.{Placement}
use Rattle.aqe_logical.specs.declared.plan.Placement.TheVariants as place
use Rattle.aqe_logical.specs.declared.plan.SortKey.{SortKey}
use Rattle.aqe_logical.specs.declared.plan.Logical.{Logical}
use Rattle.aqe_logical.specs.Shapes.{sampled}
use Rattle.aqe_join_rows.specs.declared.join_keys.JoinKeys.{JoinKeys}
use Rattle.aqe_physical.specs.declared.target.Target.{Target}
use Rattle.aqe_physical.specs.declared.target.Target.TheVariants as target
use Rattle.aqe_physical.specs.declared.plan.Plan.{Plan, Nothing, ReadBroadcast}
use Rattle.aqe_join_keys.specs.Keys.{columns_from}

-- two sort keys are the same where they compare the same expression in the same way
abbrev pub same_key : SortKey → SortKey → Bool
same_key a b = same_expr a.expr b.expr && (way_eq.ghosts).eq a.way b.way

-- what each item of a list has, where each has something
abbrev pub with_more : {B : Type 0} → Option B → Option (List B) → Option (List B)
with_more None more = None
with_more (Some y) None = None
with_more (Some y) (Some ys) = Some (y ∷ ys)

abbrev pub each_found : {A B : Type 0} → (A → Option B) → List A → Option (List B)
each_found found [] = Some []
each_found found (x ∷ xs) = with_more (found x) (each_found found xs)

-- the first column of rows that are made of items at which an expression stands
abbrev pub column_with : List Expr → Expr → Option Expr
column_with items e = option_map (λ k. Column k) (position (λ item. same_expr item e) items)

-- a project keeps a column at its first place among the items; of other expressions nothing is known behind it
abbrev pub kept_column : List Expr → Expr → Option Expr
kept_column items (Column k) = column_with items (Column k)
kept_column items e = None

-- a sort key over another expression
abbrev pub key_over : SortKey → Expr → SortKey
key_over key e = record { expr = e; way = key.way }

abbrev pub found_key : (Expr → Option Expr) → SortKey → Option SortKey
found_key found key = option_map (key_over key) (found key.expr)

-- a place by keys, where each key is found
abbrev pub hash_by : Option (List Expr) → Placement
hash_by None = place.Any
hash_by (Some keys) = place.Hash keys

abbrev pub range_by : Option (List SortKey) → Placement
range_by None = place.Any
range_by (Some keys) = place.Range keys

-- After a project rows stand as before. A hash or a range is known as long as each of its keys is a plain column that is kept;
-- it is then spelled over the new columns.
abbrev pub after_project : List Expr → Placement → Placement
after_project items place.Single = place.Single
after_project items (place.Hash keys) = hash_by (each_found (kept_column items) keys)
after_project items (place.Range keys) = range_by (each_found (found_key (kept_column items)) keys)
after_project items w = place.Any

-- The first columns of partial groups are their keys. So a hash by some of the grouping keys is told by these columns, by the first one that
-- has the key; where rows stood by something else, or in a range, nothing is known of the groups.
abbrev pub after_groups : List Expr → Placement → Placement
after_groups keys place.Single = place.Single
after_groups keys (place.Hash others) = hash_by (each_found (column_with keys) others)
after_groups keys w = place.Any

-- an expression over the columns of the right side, w of them, spelled over joined rows, whose first v columns are those of the left side
abbrev pub behind : ℕ → ℕ → Expr → Expr
behind v w e = replaced (columns_from v w) e

-- a place of the right side, spelled over joined rows
abbrev pub placed_behind : ℕ → ℕ → Placement → Placement
placed_behind v w (place.Hash keys) = place.Hash (map (behind v w) keys)
placed_behind v w (place.Range keys) = place.Range (map (λ key. key_over key (behind v w key.expr)) keys)
placed_behind v w other = other

-- After a join part by part: rows stand by the keys of the side all of whose rows come out, or of the left one. Where rows of both
-- sides may come out padded, nothing is known.
abbrev pub after_join : JoinKind → JoinKeys → ℕ → ℕ → Placement
after_join RightOuter keys v w = place.Hash (map (behind v w) keys.right)
after_join FullOuter keys v w = place.Any
after_join kind keys v w = place.Hash keys.left

-- the place that an exchange gives; a broadcast gives none
abbrev pub place_of : Target → Placement
place_of (target.Hash keys n) = place.Hash keys
place_of (target.Range keys n sample) = place.Range keys
place_of target.Single = place.Single
place_of target.Broadcast = place.Any

-- where partial groups are moved to: by the hash of their key columns, or to one part without keys
abbrev pub groups_target : ℕ → ℕ → Target
groups_target n zero = target.Single
groups_target n (suc k) = target.Hash (columns_from 0 (suc k)) n

-- What a node may ask of the rows of a child: all in one part; by the hash of just these keys; rows with equal grouping keys in one
-- part; sorted part by part they are sorted end to end; kept whole for every reader.
pub data Asks : Type 0 where
  one_part : Asks
  hash_of : List Expr → Asks
  groups_of : List Expr → Asks
  order_of : List SortKey → Asks
  whole : Asks

abbrev pub is_single : Placement → Bool
is_single place.Single = true
is_single w = false

abbrev pub is_hash_of : List Expr → Placement → Bool
is_hash_of keys (place.Hash others) = pointwise same_expr others keys
is_hash_of keys w = false

-- without grouping keys all rows are one group
abbrev pub keeps_groups : List Expr → Placement → Bool
keeps_groups keys place.Single = true
keeps_groups [] w = false
keeps_groups (key ∷ keys) (place.Hash others) = list_all (λ e. list_any (λ k. same_expr k e) (key ∷ keys)) others
keeps_groups (key ∷ keys) w = false

abbrev pub keeps_order : List SortKey → Placement → Bool
keeps_order keys place.Single = true
keeps_order keys (place.Range others) = pointwise same_key others keys
keeps_order keys w = false

-- the plan of no row, and that of rows that a stage keeps whole
abbrev pub is_nothing : Plan → Bool
is_nothing (Nothing parts width) = true
is_nothing p = false

abbrev pub is_kept_whole : Plan → Bool
is_kept_whole (ReadBroadcast stage) = true
is_kept_whole p = false

-- whether a child, planned as it is and placed as it is, gives what is asked
abbrev pub gives : Asks → Plan → Placement → Bool
gives one_part p w = is_single w
gives (hash_of keys) p w = is_hash_of keys w
gives (groups_of keys) p w = keeps_groups keys w
gives (order_of keys) p w = keeps_order keys w
gives whole p w = is_kept_whole p

-- no row serves whatever is asked
abbrev pub serves : Asks → Plan → Placement → Bool
serves asks p w = cond (is_nothing p) true (gives asks p w)

-- the place of partial groups over a child; over no row they stand in one part
abbrev pub place_of_groups : List Expr → Plan → Placement → Placement
place_of_groups keys p w = cond (is_nothing p) place.Single (after_groups keys w)

-- a broadcast is the place of no rows that are read part by part
abbrev pub is_broadcast : Placement → Bool
is_broadcast place.Broadcast = true
is_broadcast w = false

-- the sample stage that a plan has of its rows already, if any
abbrev pub sample_of : Logical → Option StageId
sample_of (sampled stage child) = Some stage
sample_of node = None
