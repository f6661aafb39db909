-- The number of partitions of an exchange lies in the range of the shuffle partitions.
use Rattle.std.proofs.Common.{◌≤◌, ℕ, Bool, true, false, List, ◌&&◌, if◌then◌else◌}
use Rattle.aqe_settings.specs.declared.entry.Value.{Value}
use Rattle.aqe_settings.specs.declared.entry.Value.TheVariants as value
use Rattle.aqe_settings.specs.declared.key.SettingKey.TheVariants as key
use Rattle.aqe_settings.specs.Table.{row_of}
use Rattle.aqe_settings.specs.Ranges.{Takes, InRange}
use Rattle.aqe_settings.specs.Values.{number_or, value_of, shuffle_partitions, partitions, is_on}

abbrev pub IsCount : ℕ → Type 0
IsCount n = 1 ≤ n × n ≤ 10000

shuffle_is_count : (v : Value) → Takes (row_of key.ShufflePartitions) v → IsCount (number_or 0 v)
shuffle_is_count (value.Number n) t = t
shuffle_is_count (value.Flag on) t = absurd t
shuffle_is_count (value.Threshold n) t = absurd t
shuffle_is_count value.Unset t = cc

initial_is_count : (other : ℕ) → IsCount other → (v : Value) → Takes (row_of key.InitialPartitions) v → IsCount (number_or other v)
initial_is_count other is (value.Number n) t = t
initial_is_count other is (value.Flag on) t = absurd t
initial_is_count other is (value.Threshold n) t = absurd t
initial_is_count other is value.Unset t = is

choice_is_count : (b : Bool) (m n : ℕ) → IsCount m → IsCount n → IsCount (if b then m else n)
choice_is_count true m n i j = i
choice_is_count false m n i j = j

pub partitions_is_count : (values : List Value) → InRange values → IsCount (partitions values)
partitions_is_count values r =
    let shuffle : IsCount (shuffle_partitions values) = shuffle_is_count (value_of key.ShufflePartitions values) (r key.ShufflePartitions) in
    choice_is_count (is_on (value_of key.Enabled values) && is_on (value_of key.Coalesce values)) _ _
    (initial_is_count (shuffle_partitions values) shuffle (value_of key.InitialPartitions values) (r key.InitialPartitions)) shuffle
