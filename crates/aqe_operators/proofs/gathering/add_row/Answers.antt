use Rattle.aqe_values.specs.Equality.{row_eq}
use Rattle.aqe_operators.proofs.Gathered.{found_whole}
use Rattle.aqe_operators.proofs.gathering.add_row.Goals as goal

pub add_to_group-requires-clause-calls : goal.add_to_group-requires-clause-calls
add_to_group-requires-clause-calls c = found_whole c.args.form.now c.args.calls.now (row_eq c.in_ok-key.key) c.args.groups.now.entries c.requires.groups
