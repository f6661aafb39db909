use Rattle.aqe_settings.proofs.Partitions.{partitions_is_count}
use Rattle.aqe_settings.proofs.laws.partitions_in_range.Goals as goal

pub returns : goal.returns
returns c = partitions_is_count
