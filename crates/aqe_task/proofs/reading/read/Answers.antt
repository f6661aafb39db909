use Rattle.std.proofs.Common.{◌∙◌, ◌++◌, ap, sym, arith, List}
use Rattle.aqe_logical.specs.Answers.{Row}
use Rattle.aqe_task.specs.Pieces.{kept_column}
use Rattle.aqe_task.proofs.Lending.{flat_more}
use Rattle.aqe_task.proofs.reading.read.Goals as goal

pub reducers-preserved : goal.reducers-preserved
reducers-preserved c = (
  c.in_ok-lend_column.ensures ∙ (ap (λ (l : List Row). l ++ kept_column c.args.outputs.now c.args.stage.0 c.args.rect.m0 c.args.rect.m1 c.reducers.r) c.reducers.invariant.0 ∙
      sym (flat_more (kept_column c.args.outputs.now c.args.stage.0 c.args.rect.m0 c.args.rect.m1) c.args.rect.r0 c.reducers.r c.reducers.auto.r)),
  (λ h. absurd (omega (arith, h, c.reducers.auto.r, c.reducers-test.true))),
)
