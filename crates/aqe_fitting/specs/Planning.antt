-- The table of planning: which plan stands for a logical plan, and where its rows stand. One constructor a row.
use Rattle.std.specs.Prelude.{ℕ, ◌+◌, ◌-◌, ◌≡◌, Bool, true, false, Option, Some, None, List, length}
use Rattle.aqe_base.specs.declared.cells.Rect.{Rect}
use Rattle.aqe_base.specs.declared.join_kind.JoinKind.{JoinKind}
use Rattle.aqe_base.specs.declared.join_kind.Side.TheVariants.{Left, Right}
use Rattle.aqe_base.specs.declared.stage_id.StageId.{StageId}
use Rattle.aqe_values.specs.declared.schema.Field.{Field}
use Rattle.aqe_expr.specs.declared.expr.Expr.{Expr}
use Rattle.aqe_logical.specs.declared.plan.AggCall.{AggCall}
use Rattle.aqe_logical.specs.declared.plan.Placement.{Placement}
use Rattle.aqe_logical.specs.declared.plan.Placement.TheVariants as place
use Rattle.aqe_logical.specs.declared.plan.SortKey.{SortKey}
use Rattle.aqe_logical.specs.declared.plan.Logical as logical
use Rattle.aqe_logical.specs.declared.plan.Logical.{Logical}
use Rattle.aqe_logical.specs.Shapes.{filtered, projected, joined, aggregated, united, sorted, limited, sampled}
use Rattle.aqe_logical.specs.Columns.{width}
use Rattle.aqe_join_rows.specs.declared.join_keys.JoinKeys.{JoinKeys}
use Rattle.aqe_physical.specs.declared.target.Target.{Target}
use Rattle.aqe_physical.specs.declared.target.Target.TheVariants as target
use Rattle.aqe_physical.specs.declared.target.JoinWay.{JoinWay}
use Rattle.aqe_physical.specs.declared.target.JoinWay.TheVariants as way
use Rattle.aqe_physical.specs.declared.plan.Plan as plan
use Rattle.aqe_physical.specs.declared.plan.Plan.{Plan}
use Rattle.aqe_physical.specs.Shapes.{kept, mapped, moved, matched, grouped, finished, ordered, cut_locally, cut_globally, both_of}
use Rattle.aqe_join_keys.specs.Keys.{keys_of, has_keys}
use Rattle.aqe_fitting.specs.Placing.{Asks, one_part, hash_of, groups_of, order_of, whole, serves, after_project, after_join, placed_behind, place_of, place_of_groups, groups_target, is_broadcast, sample_of}

-- What is asked of a child is brought: it stays as it is planned where it serves, and else an exchange stands over it.
pub data Brought (asks : Asks) (to : Target) : Plan → Placement → Plan → Type 0 where
  stays : (p : Plan) (w : Placement) → serves asks p w ≡ true → Brought asks to p w p
  goes : (p : Plan) (w : Placement) → serves asks p w ≡ false → Brought asks to p w (moved to p)

-- the keys of a join and the widths of its sides are those of the logical join
abbrev pub IsCut : Expr → Logical → Logical → JoinKeys → ℕ → ℕ → Type 0
IsCut condition x y keys v w = (keys ≡ keys_of condition (width x)) × (v ≡ width x) × (w ≡ width y)

-- ways that join parts of one number with each other
abbrev pub is_by_parts : JoinWay → Bool
is_by_parts way.SortMerge = true
is_by_parts (way.ShuffledHash side) = true
is_by_parts other = false

-- The choice of a way is a parameter: of a join of a kind, with such sides, in such a way. So are the number of parts of an
-- exchange and the number of files of each table. Which cells a read takes, and how many parts no row has, is said apart.
pub data Planned (ways : JoinKind → Logical → Logical → JoinWay → Type 0) (n : ℕ) (files : ℕ → ℕ) : Logical → Plan → Placement → Type 0 where
  a_row : Planned ways n files logical.OneRow plan.OneRow place.Single
  a_scan : (table : ℕ) (schema : List Field) (count : ℕ) → count ≡ files table →
      Planned ways n files (logical.Scan table schema) (plan.Scan table count) place.Any
  a_nothing : (schema : List Field) (parts size : ℕ) → size ≡ length schema →
      Planned ways n files (logical.Empty schema) (plan.Nothing parts size) place.Any
  a_read : (stage : StageId) (w : Placement) (schema : List Field) (maps reducers : ℕ) (rects : List Rect) → is_broadcast w ≡ false →
      Planned ways n files (logical.Held stage w schema) (plan.Read stage maps reducers rects) w
  a_whole_read : (stage : StageId) (schema : List Field) →
      Planned ways n files (logical.Held stage place.Broadcast schema) (plan.ReadBroadcast stage) place.Any
  a_filter : (condition : Expr) (x : Logical) (p : Plan) (w : Placement) → Planned ways n files x p w →
      Planned ways n files (filtered condition x) (kept condition p) w
  a_project : (items : List Expr) (schema : List Field) (x : Logical) (p : Plan) (w out : Placement) → Planned ways n files x p w →
      out ≡ after_project items w →
      Planned ways n files (projected items schema x) (mapped items p) out
  -- a join with keys: both sides by the hash of their keys; or one side kept whole, and the other as it stands
  by_parts : (how : JoinWay) (kind : JoinKind) (condition : Expr) (keys : JoinKeys) (v w : ℕ) (x y : Logical) (p p1 q q1 : Plan) (u t out : Placement) →
      Planned ways n files x p u → Planned ways n files y q t → IsCut condition x y keys v w → has_keys keys ≡ true →
      is_by_parts how ≡ true → ways kind x y how →
      Brought (hash_of keys.left) (target.Hash keys.left n) p u p1 → Brought (hash_of keys.right) (target.Hash keys.right n) q t q1 →
      out ≡ after_join kind keys v w →
      Planned ways n files (joined kind condition x y) (matched how kind keys v w p1 q1) out
  by_whole_right : (kind : JoinKind) (condition : Expr) (keys : JoinKeys) (v w : ℕ) (x y : Logical) (p q q1 : Plan) (u t : Placement) →
      Planned ways n files x p u → Planned ways n files y q t → IsCut condition x y keys v w → has_keys keys ≡ true →
      ways kind x y (way.Broadcast Right) → Brought whole target.Broadcast q t q1 →
      Planned ways n files (joined kind condition x y) (matched (way.Broadcast Right) kind keys v w p q1) u
  by_whole_left : (kind : JoinKind) (condition : Expr) (keys : JoinKeys) (v w : ℕ) (x y : Logical) (p p1 q : Plan) (u t out : Placement) →
      Planned ways n files x p u → Planned ways n files y q t → IsCut condition x y keys v w → has_keys keys ≡ true →
      ways kind x y (way.Broadcast Left) → Brought whole target.Broadcast p u p1 → out ≡ placed_behind v w t →
      Planned ways n files (joined kind condition x y) (matched (way.Broadcast Left) kind keys v w p1 q) out
  -- a join without keys: each row against each, in one part
  by_loop : (kind : JoinKind) (condition : Expr) (keys : JoinKeys) (v w : ℕ) (x y : Logical) (p p1 q q1 : Plan) (u t : Placement) →
      Planned ways n files x p u → Planned ways n files y q t → IsCut condition x y keys v w → has_keys keys ≡ false →
      Brought one_part target.Single p u p1 → Brought one_part target.Single q t q1 →
      Planned ways n files (joined kind condition x y) (matched way.NestedLoop kind keys v w p1 q1) place.Single
  -- groups: finished where they are made, or behind an exchange; or their partial rows are read from a stage
  groups_here : (keys : List Expr) (calls : List AggCall) (schema : List Field) (count : ℕ) (x : Logical) (p : Plan) (w out : Placement) →
      Planned ways n files x p w → serves (groups_of keys) p w ≡ true → count ≡ length keys → out ≡ place_of_groups keys p w →
      Planned ways n files (aggregated keys calls schema x) (finished count calls (grouped keys calls p)) out
  groups_moved : (keys : List Expr) (calls : List AggCall) (schema : List Field) (count : ℕ) (to : Target) (x : Logical) (p : Plan) (w out : Placement) →
      Planned ways n files x p w → serves (groups_of keys) p w ≡ false → count ≡ length keys → to ≡ groups_target n count → out ≡ place_of to →
      Planned ways n files (aggregated keys calls schema x) (finished count calls (moved to (grouped keys calls p))) out
  groups_read : (stage : StageId) (calls : List AggCall) (schema : List Field) (count maps reducers : ℕ) (rects : List Rect) (out : Placement) →
      count ≡ length schema - length calls → out ≡ place_of (groups_target n count) →
      Planned ways n files (logical.HeldPartial stage calls schema) (finished count calls (plan.Read stage maps reducers rects)) out
  a_union : (x y : Logical) (p q : Plan) (u t : Placement) → Planned ways n files x p u → Planned ways n files y q t →
      Planned ways n files (united x y) (both_of p q) place.Any
  -- a sort: of parts that end to end are in order, or behind an exchange by ranges, whose bounds come from the sample that there is
  sort_here : (keys : List SortKey) (x : Logical) (p : Plan) (w : Placement) → Planned ways n files x p w → serves (order_of keys) p w ≡ true →
      Planned ways n files (sorted keys x) (ordered keys p) w
  sort_moved : (keys : List SortKey) (sample : Option StageId) (x : Logical) (p : Plan) (w : Placement) → Planned ways n files x p w →
      serves (order_of keys) p w ≡ false → sample ≡ sample_of x →
      Planned ways n files (sorted keys x) (ordered keys (moved (target.Range keys n sample) p)) (place.Range keys)
  -- a limit: of one part, or of one part that each part gives its first rows to
  limit_here : (count : Option ℕ) (skip : ℕ) (x : Logical) (p : Plan) (w : Placement) → Planned ways n files x p w → serves one_part p w ≡ true →
      Planned ways n files (limited count skip x) (cut_globally count skip p) w
  limit_moved : (count skip first : ℕ) (x : Logical) (p : Plan) (w : Placement) → Planned ways n files x p w → serves one_part p w ≡ false →
      first ≡ count + skip →
      Planned ways n files (limited (Some count) skip x) (cut_globally (Some count) skip (moved target.Single (cut_locally first p))) place.Single
  skip_moved : (skip : ℕ) (x : Logical) (p : Plan) (w : Placement) → Planned ways n files x p w → serves one_part p w ≡ false →
      Planned ways n files (limited None skip x) (cut_globally None skip (moved target.Single p)) place.Single
  -- a plan of which a sample was taken is planned as it is
  a_sampled : (stage : StageId) (x : Logical) (p : Plan) (w : Placement) → Planned ways n files x p w →
      Planned ways n files (sampled stage x) p w
