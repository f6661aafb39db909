use Rattle.aqe_coalesce.proofs.SomeGroups.{some_list}
use Rattle.aqe_coalesce.proofs.laws.some_list_of_groups.Goals as goal

pub returns : goal.returns
returns c = some_list
