use Rattle.aqe_rules.proofs.FoundSteps.{one_then, several_then}
use Rattle.aqe_rules.proofs.names.one_more.Goals as goal

pub returns-in-One : goal.returns-in-One
returns-in-One c = λ all h. one_then c.args.so_far c.in-One.field-0 all c.args.column.now c.in-One.is h

pub returns-in-Several : goal.returns-in-Several
returns-in-Several c = λ all h. several_then c.args.so_far all c.args.column.now c.in-Several.is h
