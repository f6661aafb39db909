use Rattle.std.proofs.Common.{rules, ◌≡◌, false}
use Rattle.aqe_replan.specs.Versions.{is_result}
use Rattle.aqe_replan.proofs.Replaced.{exchange_made}
use Rattle.aqe_replan.proofs.versions.Versions.after.Goals as goal

pub returns-in_ok-plan : goal.returns-in_ok-plan
returns-in_ok-plan c =
    let other : is_result c.args.making.now.kind ≡ false = search rules in
    (other, exchange_made c.args.stage c.args.making.now c.slice.result.now c.args.self.now.plan c.in_ok-plan.plan c.parts.result c.requires.stands other c.parts.ensures c.slice.ensures c.in_ok-plan.ensures)
