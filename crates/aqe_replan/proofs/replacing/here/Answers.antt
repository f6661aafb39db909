use Rattle.std.proofs.Common.{ap, sym, ◌∙◌}
use Rattle.aqe_physical.specs.declared.plan.Plan.TheVariants.{Exchange}
use Rattle.aqe_replan.proofs.Steps.{here-exchange}
use Rattle.aqe_replan.proofs.replacing.here.Goals as goal

pub returns-in-Exchange : goal.returns-in-Exchange
returns-in-Exchange c =
    here-exchange c.args.newest.stage c.args.newest.maps c.read.result c.args.plan.now c.in-Exchange.to c.get.result.now
    (c.in-Exchange.is ∙ ap (Exchange c.in-Exchange.to) (sym c.get.ensures)) c.read.ensures
