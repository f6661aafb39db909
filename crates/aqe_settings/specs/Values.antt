-- Settings as plain data: the list of their 18 values in the order of the table, and what definitions read from it.
use Rattle.std.specs.Prelude.{ℕ, ℤ, Bool, false, ◌&&◌, if◌then◌else◌, Option, Some, None, List, map, slice_index_or}
use Rattle.aqe_settings.specs.declared.entry.Value.{Value}
use Rattle.aqe_settings.specs.declared.entry.Value.TheVariants as value
use Rattle.aqe_settings.specs.declared.key.SettingKey.{SettingKey}
use Rattle.aqe_settings.specs.declared.key.SettingKey.TheVariants as key
use Rattle.aqe_settings.specs.declared.settings.Settings.{Settings}
use Rattle.aqe_settings.specs.Table.{row_of, keys}

-- a field that may be unset
abbrev pub number_or_unset : Option ℕ → Value
number_or_unset (Some n) = value.Number n
number_or_unset None = value.Unset

abbrev pub threshold_or_unset : Option ℤ → Value
threshold_or_unset (Some n) = value.Threshold n
threshold_or_unset None = value.Unset

-- the value of each setting
abbrev pub value_in : Settings → SettingKey → Value
value_in s key.Enabled = value.Flag s.enabled
value_in s key.ShufflePartitions = value.Number s.shuffle_partitions
value_in s key.Advisory = value.Number s.advisory
value_in s key.Coalesce = value.Flag s.coalesce
value_in s key.ParallelismFirst = value.Flag s.parallelism_first
value_in s key.MinPartition = value.Number s.min_partition
value_in s key.InitialPartitions = number_or_unset s.initial_partitions
value_in s key.Skew = value.Flag s.skew
value_in s key.SkewFactor = value.Number s.skew_factor_thousandths
value_in s key.SkewThreshold = value.Number s.skew_threshold
value_in s key.LocalReads = value.Flag s.local_reads
value_in s key.LocalMap = value.Number s.local_map
value_in s key.FirstThreshold = value.Threshold s.first_threshold
value_in s key.AdaptiveThreshold = threshold_or_unset s.adaptive_threshold
value_in s key.Ratio = value.Number s.ratio_thousandths
value_in s key.Parallelism = value.Number s.parallelism
value_in s key.MaxFailures = value.Number s.max_failures
value_in s key.MaxAttempts = value.Number s.max_attempts

-- the list of the 18 values
abbrev pub values_of : Settings → List Value
values_of s = map (value_in s) keys

-- the list of the values that hold where nothing is set
abbrev pub default_values : List Value
default_values = map (λ k. (row_of k).default) keys

-- where a key's value stands in the list, counted from 0
abbrev pub place_of : SettingKey → ℕ
place_of key.Enabled = 0
place_of key.ShufflePartitions = 1
place_of key.Advisory = 2
place_of key.Coalesce = 3
place_of key.ParallelismFirst = 4
place_of key.MinPartition = 5
place_of key.InitialPartitions = 6
place_of key.Skew = 7
place_of key.SkewFactor = 8
place_of key.SkewThreshold = 9
place_of key.LocalReads = 10
place_of key.LocalMap = 11
place_of key.FirstThreshold = 12
place_of key.AdaptiveThreshold = 13
place_of key.Ratio = 14
place_of key.Parallelism = 15
place_of key.MaxFailures = 16
place_of key.MaxAttempts = 17

-- the value of a key in the list
abbrev pub value_of : SettingKey → List Value → Value
value_of k values = slice_index_or values (place_of k) value.Unset

-- whether a value says "on"
abbrev pub is_on : Value → Bool
is_on (value.Flag on) = on
is_on (value.Number n) = false
is_on (value.Threshold n) = false
is_on value.Unset = false

-- the number of a value, or another number where it has none
abbrev pub number_or : ℕ → Value → ℕ
number_or other (value.Number n) = n
number_or other (value.Flag on) = other
number_or other (value.Threshold n) = other
number_or other value.Unset = other

-- the number of shuffle partitions
abbrev pub shuffle_partitions : List Value → ℕ
shuffle_partitions values = number_or 0 (value_of key.ShufflePartitions values)

-- How many partitions an exchange has: as many as the shuffle partitions say. Where the rest of a query is planned again and small partitions
-- may be joined, it can begin with more: then the initial number counts, if there is one.
abbrev pub partitions : List Value → ℕ
partitions values =
    if is_on (value_of key.Enabled values) && is_on (value_of key.Coalesce values)
    then number_or (shuffle_partitions values) (value_of key.InitialPartitions values)
    else shuffle_partitions values
