use Rattle.std.proofs.Common.{ℕ, Option, subst}
use Rattle.aqe_settings.specs.declared.key.SettingKey.TheVariants.{InitialPartitions, ShufflePartitions}
use Rattle.aqe_settings.specs.Table.{row_of}
use Rattle.aqe_settings.specs.Ranges.{Takes}
use Rattle.aqe_settings.specs.Values.{number_or_unset}
use Rattle.aqe_settings.proofs.settings.Settings.exchange_partitions.Goals as goal

-- the number that is set lies in its range
pub returns-in-Some-clause-in_range : goal.returns-in-Some-clause-in_range
returns-in-Some-clause-in_range c = λ r.
    let P : Option ℕ → Type 0 = λ set. Takes (row_of InitialPartitions) (number_or_unset set) in
    subst P c.in-Some.is (r InitialPartitions)

pub returns-in_default-clause-in_range : goal.returns-in_default-clause-in_range
returns-in_default-clause-in_range c = λ r. r ShufflePartitions
