-- The way of a join, by what is known of the sizes of its sides.
use Rattle.std.specs.Prelude.{ℕ, ℤ, pos, sum, ◌≡◌, cond, Option, Some, None, List, [], option_map}
use Rattle.aqe_base.specs.declared.join_kind.JoinKind.{JoinKind}
use Rattle.aqe_logical.specs.declared.plan.Placement.{Placement}
use Rattle.aqe_logical.specs.declared.plan.Placement.TheVariants as place
use Rattle.aqe_logical.specs.declared.plan.Logical as logical
use Rattle.aqe_logical.specs.declared.plan.Logical.{Logical}
use Rattle.aqe_logical.specs.Shapes.{filtered, projected}
use Rattle.aqe_settings.specs.declared.entry.Value.{Value}
use Rattle.aqe_settings.specs.declared.entry.Value.TheVariants as value
use Rattle.aqe_settings.specs.declared.key.SettingKey.TheVariants as key
use Rattle.aqe_settings.specs.Values.{value_of, number_or}
use Rattle.aqe_physical.specs.declared.sizes.Estimate.{Estimate}
use Rattle.aqe_physical.specs.declared.sizes.StageSize.{StageSize}
use Rattle.aqe_physical.specs.declared.target.JoinWay.{JoinWay}
use Rattle.aqe_physical.specs.declared.target.JoinWay.TheVariants as way
use Rattle.aqe_join_switch.specs.declared.sizes.SizeSource.TheVariants as source
use Rattle.aqe_join_switch.specs.declared.sizes.JoinRule.{JoinRule}
use Rattle.aqe_join_switch.specs.declared.sizes.JoinChoice.{JoinChoice}
use Rattle.aqe_join_switch.specs.declared.sizes.JoinChoice.TheVariants as chosen
use Rattle.aqe_join_switch.specs.Choice.{SideData, choice}
use Rattle.aqe_skew.specs.Paired.{SideCells, partition_sizes}
use Rattle.aqe_fitting.specs.InForce.{shuffles_have_sizes}
use Rattle.aqe_fitting.specs.Known.{estimate_of, cells_of}

-- the table that a plan scans, where it is a scan under filters and projections
abbrev pub table_of : Logical → Option ℕ
table_of (logical.Scan table schema) = Some table
table_of (filtered condition x) = table_of x
table_of (projected items schema x) = table_of x
table_of x = None

abbrev pub estimated : List Estimate → ℕ → SideData
estimated estimates table = record { source = source.Estimate; total = (estimate_of estimates table).bytes; parts = [] }

abbrev pub shuffled : SideCells → SideData
shuffled cells = record { source = source.Shuffle; total = sum (partition_sizes cells); parts = partition_sizes cells }

abbrev pub kept_by_each : SideData
kept_by_each = record { source = source.Broadcast; total = 0; parts = [] }

-- the sizes of a side that a stage holds: where it is a broadcast, and where it is a hash of which all was made
abbrev pub held_sizes : Placement → Option SideCells → Option SideData
held_sizes place.Broadcast cells = Some kept_by_each
held_sizes (place.Hash keys) cells = cond shuffles_have_sizes (option_map shuffled cells) None
held_sizes w cells = None

-- what is known of the size of a side
abbrev pub side_sizes : List Estimate → List StageSize → Logical → Option SideData
side_sizes estimates sizes (logical.Held stage w schema) = held_sizes w (cells_of sizes stage)
side_sizes estimates sizes x = option_map (estimated estimates) (table_of x)

-- a threshold, or another where it is unset
abbrev pub threshold_or : ℤ → Value → ℤ
threshold_or other (value.Threshold n) = n
threshold_or other v = other

abbrev pub first_threshold : List Value → ℤ
first_threshold values = threshold_or (pos 0) (value_of key.FirstThreshold values)

abbrev pub join_rule : List Value → JoinRule
join_rule values = record {
  first_threshold = first_threshold values;
  adaptive_threshold = threshold_or (first_threshold values) (value_of key.AdaptiveThreshold values);
  ratio_thousandths = number_or 0 (value_of key.Ratio values);
  local_map = number_or 0 (value_of key.LocalMap values);
  advisory = number_or 0 (value_of key.Advisory values);
}

abbrev pub way_of : JoinChoice → JoinWay
way_of (chosen.Broadcast side) = way.Broadcast side
way_of (chosen.ShuffledHash side) = way.ShuffledHash side
way_of chosen.SortMerge = way.SortMerge

-- the way that the sizes choose
abbrev pub ways_by_sizes : List Estimate → List StageSize → List Value → JoinKind → Logical → Logical → JoinWay → Type 0
ways_by_sizes estimates sizes values kind x y how =
    how ≡ way_of (choice kind (side_sizes estimates sizes x) (side_sizes estimates sizes y) (join_rule values))
