use Rattle.aqe_endings.proofs.Endings.{next_ending_counts}
use Rattle.aqe_endings.proofs.laws.next_endings_count.Goals as goal

pub returns : goal.returns
returns c = next_ending_counts
