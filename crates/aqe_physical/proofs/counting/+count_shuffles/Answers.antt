use Rattle.std.proofs.Common.{rules}
use Rattle.aqe_physical.specs.declared.plan.Plan.{the_lemmas}
use Rattle.aqe_physical.proofs.Counted.{less_steps}
use Rattle.aqe_physical.proofs.counting.+count_shuffles.Goals as goal

pub count_shuffles-requires : goal.count_shuffles-requires
count_shuffles-requires t c = (search (rules, the_lemmas), search (rules, less_steps))

pub count_shuffles-requires-in-Join : goal.count_shuffles-requires-in-Join
count_shuffles-requires-in-Join t c = (search (rules, the_lemmas), search (rules, less_steps))

pub count_shuffles-requires-in-Join-2 : goal.count_shuffles-requires-in-Join-2
count_shuffles-requires-in-Join-2 t c = (search (rules, the_lemmas), search (rules, less_steps))

pub count_shuffles-requires-in-Union : goal.count_shuffles-requires-in-Union
count_shuffles-requires-in-Union t c = (search (rules, the_lemmas), search (rules, less_steps))

pub count_shuffles-requires-in-Union-2 : goal.count_shuffles-requires-in-Union-2
count_shuffles-requires-in-Union-2 t c = (search (rules, the_lemmas), search (rules, less_steps))

pub count_shuffles-requires-in-Filter : goal.count_shuffles-requires-in-Filter
count_shuffles-requires-in-Filter t c = (search (rules, the_lemmas), search (rules, less_steps))
