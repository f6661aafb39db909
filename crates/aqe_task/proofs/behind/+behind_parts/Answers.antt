use Rattle.std.proofs.Common.{inl, inr, ap, refl, ◌∙◌}
use Rattle.aqe_base.specs.declared.join_kind.Side.{Side}
use Rattle.aqe_base.specs.declared.join_kind.Side.TheVariants.{Left, Right}
use Rattle.aqe_physical.specs.declared.target.JoinWay.TheVariants as way
use Rattle.aqe_physical.specs.Counts.{part_count}
use Rattle.aqe_task.proofs.BehindParts.{behind_join, among_left}
use Rattle.aqe_task.proofs.behind.+behind_parts.Goals as goal

pub returns-in-SortMerge : goal.returns-in-SortMerge
returns-in-SortMerge t c =
    elim c.in-SortMerge.is [
      | inl is ↦
          behind_join c.args.plan.now c.in-Join.way way.SortMerge c.in-Join.kind c.in-Join.keys c.in-Join.left_width c.in-Join.right_width c.in-Join.left c.in-Join.right c.args.k
          (part_count c.get-in-SortMerge.result.now) c.behind_parts-in-SortMerge.result c.in-Join.is is (ap part_count c.get-in-SortMerge.ensures) c.behind_parts-in-SortMerge.ensures
      | inr is ↦
          behind_join c.args.plan.now c.in-Join.way (way.ShuffledHash is.0) c.in-Join.kind c.in-Join.keys c.in-Join.left_width c.in-Join.right_width c.in-Join.left c.in-Join.right c.args.k
          (part_count c.get-in-SortMerge.result.now) c.behind_parts-in-SortMerge.result c.in-Join.is is.1 (ap part_count c.get-in-SortMerge.ensures) c.behind_parts-in-SortMerge.ensures
    ]

pub returns-in-Broadcast-Left : goal.returns-in-Broadcast-Left
returns-in-Broadcast-Left t c =
    behind_join c.args.plan.now c.in-Join.way (way.Broadcast Left) c.in-Join.kind c.in-Join.keys c.in-Join.left_width c.in-Join.right_width c.in-Join.left c.in-Join.right c.args.k
    (part_count c.get.result.now) c.behind_parts.result c.in-Join.is (c.in-Broadcast-Left.is ∙ ap (λ (side : Side). way.Broadcast side) (rw c.in-Broadcast-Left.is at c.in-Broadcast-Left.field-0-is))
    (ap part_count c.get.ensures) c.behind_parts.ensures

pub returns-in-Broadcast-Right : goal.returns-in-Broadcast-Right
returns-in-Broadcast-Right t c =
    behind_join c.args.plan.now c.in-Join.way (way.Broadcast Right) c.in-Join.kind c.in-Join.keys c.in-Join.left_width c.in-Join.right_width c.in-Join.left c.in-Join.right c.args.k
    (part_count c.get-in-Broadcast-Right.result.now) c.behind_parts-in-Broadcast-Right.result c.in-Join.is (c.in-Broadcast-Right.is ∙ ap (λ (side : Side). way.Broadcast side) (rw c.in-Broadcast-Right.is at c.in-Broadcast-Right.field-0-is))
    (ap part_count c.get-in-Broadcast-Right.ensures) c.behind_parts-in-Broadcast-Right.ensures

pub returns-in-NestedLoop : goal.returns-in-NestedLoop
returns-in-NestedLoop t c =
    behind_join c.args.plan.now c.in-Join.way way.NestedLoop c.in-Join.kind c.in-Join.keys c.in-Join.left_width c.in-Join.right_width c.in-Join.left c.in-Join.right c.args.k
    1 c.checked_sub-in-NestedLoop.result c.in-Join.is c.in-NestedLoop.is refl c.checked_sub-in-NestedLoop.ensures

pub returns-in-None : goal.returns-in-None
returns-in-None t c = among_left c.args.plan.now c.in-Union.left c.in-Union.right c.get-in-Union.result.now c.args.k c.in-Union.is c.get-in-Union.ensures c.in-None.ensures
