use Rattle.std.proofs.Common.{subst, sym}
use Rattle.aqe_logical.specs.declared.plan.Logical.{Logical}
use Rattle.aqe_rules.specs.Faults.{Says}
use Rattle.aqe_rules.specs.Outcomes.{Outcome}
use Rattle.aqe_select.proofs.SelectSteps.{select-made, select-fails}
use Rattle.aqe_select.proofs.one_select.over_shown.Goals as goal

pub returns-in-Ok : goal.returns-in-Ok
returns-in-Ok c =
    subst (λ (o : Outcome Logical). Says c.planned.result o)
    (sym (select-made c.args.clauses.now c.args.is_grouped c.args.shown c.args.plan c.requires.as_grouped c.requires.shows c.in-Ok.selected c.in-Ok.ensures.as_grouped c.in-Ok.ensures.says))
    c.planned.ensures

pub returns-in-Err : goal.returns-in-Err
returns-in-Err c = select-fails c.args.clauses.now c.args.is_grouped c.args.shown c.args.plan c.requires.as_grouped c.requires.shows c.in-Err.fault c.in-Err.ensures.says
