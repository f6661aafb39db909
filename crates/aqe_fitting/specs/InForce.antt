-- What is not looked at yet. Each line goes when the rule that it holds back is built.
use Rattle.std.specs.Prelude.{Bool, false, List, set}
use Rattle.aqe_settings.specs.declared.entry.Value.{Value}
use Rattle.aqe_settings.specs.declared.entry.Value.TheVariants as value
use Rattle.aqe_settings.specs.declared.key.SettingKey.TheVariants as key
use Rattle.aqe_settings.specs.Values.{place_of}

-- reads are not local, whatever the settings say
abbrev pub without_local_reads : List Value → List Value
without_local_reads values = set values (place_of key.LocalReads) (value.Flag false)

-- skewed partitions are not split, whatever the settings say
abbrev pub without_skew : List Value → List Value
without_skew values = set values (place_of key.Skew) (value.Flag false)

-- the settings by which plans fit
abbrev pub in_force : List Value → List Value
in_force values = without_local_reads (without_skew values)

-- whether the sizes of a side that a hash stage holds are looked at
abbrev pub shuffles_have_sizes : Bool
shuffles_have_sizes = false
