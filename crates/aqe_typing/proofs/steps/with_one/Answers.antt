use Rattle.std.proofs.Common.{rules}
use Rattle.aqe_typing.proofs.ListSteps.{one_more}
use Rattle.aqe_typing.proofs.steps.with_one.Goals as goal

pub returns : goal.returns
returns c = λ os o h k. one_more os o c.args.all c.args.next c.in_ok-all.all c.push.new.self c.in_ok-next.field-0 (search rules) (search rules) (search rules) h k
