use Rattle.aqe_coalesce.proofs.Unique.{one_list}
use Rattle.aqe_coalesce.proofs.laws.one_list_of_groups.Goals as goal

pub returns : goal.returns
returns c = one_list
