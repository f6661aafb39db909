-- Which sides of a join stand under a node that relies on where rows stand.
use Rattle.std.specs.Prelude.{Bool, true, false}
use Rattle.aqe_base.specs.declared.join_kind.Side.{Side}
use Rattle.aqe_base.specs.declared.join_kind.Side.TheVariants.{Left, Right}
use Rattle.aqe_physical.specs.declared.target.JoinWay.{JoinWay}
use Rattle.aqe_physical.specs.declared.target.JoinWay.TheVariants as way

-- a broadcast join relies on no place: its built side is another strand, and above the other one stands what stands above the join
abbrev pub side_under : Side → JoinWay → Bool → Bool
side_under Left (way.Broadcast Left) under = false
side_under Left (way.Broadcast Right) under = under
side_under Right (way.Broadcast Left) under = under
side_under Right (way.Broadcast Right) under = false
side_under side how under = true
