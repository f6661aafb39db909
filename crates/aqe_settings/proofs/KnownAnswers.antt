-- Small known answers: a check of the definitions by hand.
use Rattle.std.proofs.Common.{◌≡◌, ℕ, List, [], ◌∷◌, refl, Bool, true, false, length, pos, negsuc, map, lit≤, arith, rules}
use Rattle.std.specs.Set.{distinct_count}
use Rattle.std.specs.Str.{bytes_eq}
use Rattle.aqe_settings.specs.declared.entry.Value.{Value}
use Rattle.aqe_settings.specs.declared.entry.Value.TheVariants as value
use Rattle.aqe_settings.specs.declared.key.SettingKey.{SettingKey}
use Rattle.aqe_settings.specs.declared.key.SettingKey.TheVariants as key
use Rattle.aqe_settings.specs.declared.settings.Settings.{Settings}
use Rattle.aqe_settings.specs.Table.{keys, row_of}
use Rattle.aqe_settings.specs.Values.{default_values, value_in, values_of, value_of, partitions}
use Rattle.aqe_settings.specs.Ranges.{Takes}

-- there are 18 keys
eighteen : length keys ≡ 18
eighteen = refl

-- no two keys are written alike
distinct_texts : distinct_count bytes_eq (map (λ k. (row_of k).text) keys) ≡ 18
distinct_texts = refl

-- the value of a field is the one that is read from the list by its key
read_by_key : (s : Settings) (k : SettingKey) → value_of k (values_of s) ≡ value_in s k
read_by_key s key.Enabled = refl
read_by_key s key.ShufflePartitions = refl
read_by_key s key.Advisory = refl
read_by_key s key.Coalesce = refl
read_by_key s key.ParallelismFirst = refl
read_by_key s key.MinPartition = refl
read_by_key s key.InitialPartitions = refl
read_by_key s key.Skew = refl
read_by_key s key.SkewFactor = refl
read_by_key s key.SkewThreshold = refl
read_by_key s key.LocalReads = refl
read_by_key s key.LocalMap = refl
read_by_key s key.FirstThreshold = refl
read_by_key s key.AdaptiveThreshold = refl
read_by_key s key.Ratio = refl
read_by_key s key.Parallelism = refl
read_by_key s key.MaxFailures = refl
read_by_key s key.MaxAttempts = refl

-- the defaults, written out
the_defaults : default_values ≡
    value.Flag true ∷ value.Number 200 ∷ value.Number 67108864 ∷ value.Flag true ∷ value.Flag true ∷ value.Number 1048576 ∷ value.Unset ∷
    value.Flag true ∷ value.Number 5000 ∷ value.Number 268435456 ∷ value.Flag true ∷ value.Number 0 ∷ value.Threshold (pos 10485760) ∷
    value.Unset ∷ value.Number 200 ∷ value.Number 8 ∷ value.Number 4 ∷ value.Number 4 ∷ []
the_defaults = refl

-- settings of which only the four that decide the partitions of an exchange differ from the defaults
abbrev four : Bool → ℕ → Bool → Value → List Value
four enabled shuffle coalesce initial =
    value.Flag enabled ∷ value.Number shuffle ∷ value.Number 67108864 ∷ value.Flag coalesce ∷ value.Flag true ∷ value.Number 1048576 ∷ initial ∷
    value.Flag true ∷ value.Number 5000 ∷ value.Number 268435456 ∷ value.Flag true ∷ value.Number 0 ∷ value.Threshold (pos 10485760) ∷
    value.Unset ∷ value.Number 200 ∷ value.Number 8 ∷ value.Number 4 ∷ value.Number 4 ∷ []

by_default : partitions default_values ≡ 200
by_default = refl

initial_is_taken : partitions (four true 16 true (value.Number 7)) ≡ 7
initial_is_taken = refl

initial_is_unset : partitions (four true 16 true value.Unset) ≡ 16
initial_is_unset = refl

never_planned_again : partitions (four false 16 true (value.Number 7)) ≡ 16
never_planned_again = refl

never_put_together : partitions (four true 16 false (value.Number 7)) ≡ 16
never_put_together = refl

-- ends of ranges
most_partitions : Takes (row_of key.ShufflePartitions) (value.Number 10000)
most_partitions = (lit≤ tt, lit≤ tt)

no_partitions : Takes (row_of key.ShufflePartitions) (value.Number 0) → ⊥
no_partitions t = omega (t.0, arith)

too_many_partitions : Takes (row_of key.ShufflePartitions) (value.Number 10001) → ⊥
too_many_partitions t = omega (t.1, arith)

no_broadcast : Takes (row_of key.FirstThreshold) (value.Threshold (negsuc 0))
no_broadcast = (search rules, search rules)

below_no_broadcast : Takes (row_of key.FirstThreshold) (value.Threshold (negsuc 1)) → ⊥
below_no_broadcast t = absurd (search rules)

whole_ratio : Takes (row_of key.Ratio) (value.Number 1000)
whole_ratio = lit≤ tt

-- a setting with a default is never unset, and a flag is no number
always_set : Takes (row_of key.Parallelism) value.Unset → ⊥
always_set t = cc

a_flag_is_no_number : Takes (row_of key.Skew) (value.Number 1) → ⊥
a_flag_is_no_number t = t
