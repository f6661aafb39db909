use Rattle.std.proofs.Common.{rules}
use Rattle.aqe_typing.proofs.CallSteps.{at_place}
use Rattle.aqe_typing.proofs.calls.value_of_call.Goals as goal

pub returns-in_ok-value-in-Some : goal.returns-in_ok-value-in-Some
returns-in_ok-value-in-Some c =
    at_place c.args.name.now c.args.call.now c.args.calls.now c.args.columns c.in-Some.place c.in_ok-value-in-Some.value
    (search rules) (search rules)
