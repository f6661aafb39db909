use Rattle.std.proofs.Common.{rules}
use Rattle.aqe_typing.proofs.ListSteps.{one_more}
use Rattle.aqe_typing.proofs.steps.with_arm.Goals as goal

pub returns : goal.returns
returns c = λ os o h k. one_more os o c.args.arms c.args.next c.in_ok-arms.arms c.push.new.self c.in_ok-next.field-0 (search rules) (search rules) (search rules) h k
