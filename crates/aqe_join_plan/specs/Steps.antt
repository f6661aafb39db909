-- A join: how it is chosen, and what it makes of the plans of its two sides.
use Rattle.std.specs.Prelude.{ℕ, cond, List, []}
use Rattle.aqe_base.specs.declared.join_kind.JoinKind.{JoinKind}
use Rattle.aqe_base.specs.declared.join_kind.Side.{Side}
use Rattle.aqe_base.specs.declared.join_kind.Side.TheVariants.{Left, Right}
use Rattle.aqe_expr.specs.declared.expr.Expr.{Expr}
use Rattle.aqe_logical.specs.declared.plan.Placement.{Placement}
use Rattle.aqe_logical.specs.declared.plan.Placement.TheVariants as place
use Rattle.aqe_logical.specs.declared.plan.Logical.{Logical}
use Rattle.aqe_logical.specs.Columns.{width}
use Rattle.aqe_settings.specs.declared.entry.Value.{Value}
use Rattle.aqe_physical.specs.declared.sizes.Estimate.{Estimate}
use Rattle.aqe_physical.specs.declared.target.Target.{Target}
use Rattle.aqe_physical.specs.declared.target.Target.TheVariants as target
use Rattle.aqe_physical.specs.declared.target.JoinWay.{JoinWay}
use Rattle.aqe_physical.specs.declared.target.JoinWay.TheVariants as way
use Rattle.aqe_physical.specs.declared.plan.Joining.{Joining}
use Rattle.aqe_physical.specs.declared.plan.Plan.{Plan, Exchange}
use Rattle.aqe_physical.specs.Forms.{join_of}
use Rattle.aqe_join_switch.specs.declared.sizes.JoinChoice.{JoinChoice}
use Rattle.aqe_join_switch.specs.Choice.{choice}
use Rattle.aqe_join_keys.specs.Keys.{keys_of, has_keys}
use Rattle.aqe_fitting.specs.InForce.{in_force}
use Rattle.aqe_fitting.specs.Ways.{side_sizes, join_rule, way_of}
use Rattle.aqe_fitting.specs.Placing.{Asks, hash_of, whole, one_part, serves, after_join, placed_behind}
use Rattle.aqe_join_plan.specs.declared.sides.Want.{Want}
use Rattle.aqe_join_plan.specs.declared.sides.Want.TheVariants.{AsItStands, ByHash, Whole, OnePart}

-- what the sizes of the sides choose, where no stage was made
abbrev pub chosen : JoinKind → Logical → Logical → List Estimate → List Value → JoinChoice
chosen kind x y estimates values =
    choice kind (side_sizes estimates [] x) (side_sizes estimates [] y) (join_rule (in_force values))

-- a join with keys goes the way that is chosen for it, and one without keys meets each row with each
abbrev pub joining_by : JoinWay → JoinKind → Expr → Logical → Logical → Joining
joining_by how kind condition x y =
    record {
      way = cond (has_keys (keys_of condition (width x))) how way.NestedLoop;
      kind = kind;
      keys = keys_of condition (width x);
      left_width = width x;
      right_width = width y;
    }

-- the same, the way that the sizes of the sides choose
abbrev pub joining_of : JoinKind → Expr → Logical → Logical → List Estimate → List Value → Joining
joining_of kind condition x y estimates values = joining_by (way_of (chosen kind x y estimates values)) kind condition x y

-- What a join wants of a side: its rows by the hash of their keys, where parts are joined with each other; the built side whole for every
-- part of the other one, and that as it stands; and of each side all rows in one part where each row meets each.
abbrev pub wanted : Side → JoinWay → Want
wanted side way.SortMerge = ByHash
wanted side (way.ShuffledHash built) = ByHash
wanted Left (way.Broadcast Left) = Whole
wanted Left (way.Broadcast Right) = AsItStands
wanted Right (way.Broadcast Left) = AsItStands
wanted Right (way.Broadcast Right) = Whole
wanted side way.NestedLoop = OnePart

-- what is asked of a side is brought: it stays where it serves, and else it is moved
abbrev pub brought : Asks → Target → Plan → Placement → Plan
brought asks to p w = cond (serves asks p w) p (Exchange to p)

-- a side with the keys that it has, and with what is wanted of it
abbrev pub side_plan : Want → ℕ → List Expr → Plan → Placement → Plan
side_plan AsItStands n keys p w = p
side_plan ByHash n keys p w = brought (hash_of keys) (target.Hash keys n) p w
side_plan Whole n keys p w = brought whole target.Broadcast p w
side_plan OnePart n keys p w = brought one_part target.Single p w

-- the join of two sides that stand as planned, with exchanges of n parts
abbrev pub join_plan : ℕ → Joining → Plan → Placement → Plan → Placement → Plan
join_plan n join p u q t =
    join_of join (side_plan (wanted Left join.way) n join.keys.left p u) (side_plan (wanted Right join.way) n join.keys.right q t)

-- where its rows stand
abbrev pub place_by : JoinWay → Joining → Placement → Placement → Placement
place_by way.SortMerge join u t = after_join join.kind join.keys join.left_width join.right_width
place_by (way.ShuffledHash built) join u t = after_join join.kind join.keys join.left_width join.right_width
place_by (way.Broadcast Left) join u t = placed_behind join.left_width join.right_width t
place_by (way.Broadcast Right) join u t = u
place_by way.NestedLoop join u t = place.Single

abbrev pub join_place : Joining → Placement → Placement → Placement
join_place join u t = place_by join.way join u t
