use Rattle.std.proofs.Common.{◌∙◌, ◌==◌, false}
use Rattle.std.specs.List.{list_any}
use Rattle.aqe_base.specs.declared.stage_id.StageId.{StageId}
use Rattle.aqe_fitting.specs.Strands.{relied}
use Rattle.aqe_placing.proofs.Relied.{join-left, join-right, union-left, union-right}
use Rattle.aqe_placing.proofs.relying.+is_relied.Goals as goal

pub returns-then-is_relied : goal.returns-then-is_relied
returns-then-is_relied t c =
    join-left c.args.plan.now c.in-Join.way c.in-Join.kind c.in-Join.keys c.in-Join.left_width c.in-Join.right_width c.in-Join.left c.in-Join.right c.args.under
    (λ (read : StageId). read.0 == c.args.stage.0) c.is_relied-in-Join.result c.in-Join.is
    (c.is_relied-in-Join.ensures ∙ (λ i. list_any (λ (read : StageId). read.0 == c.args.stage.0) (relied (c.get-in-Join.ensures i) (c.side_under.ensures i))))
    c.if-is_relied.true

pub returns-else-is_relied : goal.returns-else-is_relied
returns-else-is_relied t c =
    join-right c.args.plan.now c.in-Join.way c.in-Join.kind c.in-Join.keys c.in-Join.left_width c.in-Join.right_width c.in-Join.left c.in-Join.right c.args.under
    (λ (read : StageId). read.0 == c.args.stage.0) c.is_relied-in-Join.result c.is_relied-else-is_relied.result c.in-Join.is
    (c.is_relied-in-Join.ensures ∙ (λ i. list_any (λ (read : StageId). read.0 == c.args.stage.0) (relied (c.get-in-Join.ensures i) (c.side_under.ensures i))))
    c.if-is_relied.false
    (c.is_relied-else-is_relied.ensures ∙
    (λ i. list_any (λ (read : StageId). read.0 == c.args.stage.0) (relied (c.get-else-is_relied.ensures i) (c.side_under-else-is_relied.ensures i))))

pub returns-then-is_relied-2 : goal.returns-then-is_relied-2
returns-then-is_relied-2 t c =
    union-left c.args.plan.now c.in-Union.left c.in-Union.right c.args.under (λ (read : StageId). read.0 == c.args.stage.0) c.is_relied-in-Union.result c.in-Union.is
    (c.is_relied-in-Union.ensures ∙ (λ i. list_any (λ (read : StageId). read.0 == c.args.stage.0) (relied (c.get-in-Union.ensures i) false)))
    c.if-is_relied-2.true

pub returns-else-is_relied-2 : goal.returns-else-is_relied-2
returns-else-is_relied-2 t c =
    union-right c.args.plan.now c.in-Union.left c.in-Union.right c.args.under (λ (read : StageId). read.0 == c.args.stage.0) c.is_relied-in-Union.result
    c.is_relied-else-is_relied-2.result c.in-Union.is
    (c.is_relied-in-Union.ensures ∙ (λ i. list_any (λ (read : StageId). read.0 == c.args.stage.0) (relied (c.get-in-Union.ensures i) false)))
    c.if-is_relied-2.false
    (c.is_relied-else-is_relied-2.ensures ∙ (λ i. list_any (λ (read : StageId). read.0 == c.args.stage.0) (relied (c.get-else-is_relied-2.ensures i) false)))
