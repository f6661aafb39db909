-- The logical plan after a stage was made: it is walked together with the plan that carries it out.
use Rattle.std.specs.Prelude.{List, None, [], ◌∷◌}
use Rattle.aqe_base.specs.declared.stage_id.StageId.{StageId}
use Rattle.aqe_base.specs.declared.join_kind.Side.TheVariants.{Left, Right}
use Rattle.aqe_values.specs.declared.schema.Field.{Field}
use Rattle.aqe_logical.specs.declared.plan.AggCall.{AggCall}
use Rattle.aqe_logical.specs.declared.plan.Placement.{Placement}
use Rattle.aqe_logical.specs.declared.plan.Placement.TheVariants as place
use Rattle.aqe_logical.specs.declared.plan.Logical.{Logical, Held, HeldPartial}
use Rattle.aqe_logical.specs.Shapes.{filtered, projected, joined, aggregated, united, sorted, limited, sampled}
use Rattle.aqe_logical.specs.Columns.{schema_of}
use Rattle.aqe_physical.specs.declared.target.Target.{Target}
use Rattle.aqe_physical.specs.declared.target.Target.TheVariants as target
use Rattle.aqe_physical.specs.declared.plan.Plan.{Plan}
use Rattle.aqe_physical.specs.Shapes.{kept, mapped, moved, matched, grouped, finished, ordered, cut_locally, cut_globally, both_of}
use Rattle.aqe_making.specs.Makings.{Place}

-- the rows of a stage stand as its exchange sends them
abbrev pub held_place : Target → Placement
held_place (target.Hash keys n) = place.Hash keys
held_place (target.Range keys n sample) = place.Range keys
held_place target.Single = place.Single
held_place target.Broadcast = place.Broadcast

-- what stands for a logical plan whose rows the stage of an exchange holds
abbrev pub held : StageId → Target → Logical → Logical
held number to plan = Held number (held_place to) (schema_of plan)

-- How a logical plan changes where a stage is made at a place of the plan that carries it out.
abbrev pub Change : Type 0
Change = Place → Plan → Logical

-- A side of a join, or the child of a sort, may be carried out below an exchange. Where that is made, the stage holds it.
abbrev pub side_after : StageId → Logical → Change → Change
side_after number plan deeper [] (moved to child) = held number to plan
side_after number plan deeper (Left ∷ place) (moved to child) = deeper place child
side_after number plan deeper place child = deeper place child

-- where the sample of a range is made, the rows of the sort are sampled
abbrev pub sort_after : StageId → Logical → Change → Change
sort_after number plan deeper [] (moved (target.Range keys n None) child) = sampled number plan
sort_after number plan deeper place child = side_after number plan deeper place child

-- the child of a limit may be cut by parts below its exchange
abbrev pub limit_after : StageId → Logical → Change → Change
limit_after number plan deeper (Left ∷ Left ∷ place) (moved to (cut_locally count child)) = deeper place child
limit_after number plan deeper place child = side_after number plan deeper place child

-- Groups are made in two steps, with or without an exchange between them. Where that is made, the stage holds partial rows.
abbrev pub groups_after : StageId → Logical → List AggCall → List Field → (Logical → Logical) → Logical → Change → Change
groups_after number plan calls schema groups child deeper [] (moved to p) = HeldPartial number calls schema
groups_after number plan calls schema groups child deeper (Left ∷ Left ∷ place) (moved to (grouped keys partial p)) = groups (deeper place p)
groups_after number plan calls schema groups child deeper (Left ∷ place) (grouped keys partial p) = groups (deeper place p)
groups_after number plan calls schema groups child deeper place p = plan

-- The logical plan after the stage at a place was made. A sampled plan is carried out as its child is.
abbrev pub logical_after : StageId → Logical → Place → Plan → Logical
logical_after number (filtered test x) (Left ∷ place) (kept test2 p) = filtered test (logical_after number x place p)
logical_after number (projected items schema x) (Left ∷ place) (mapped items2 p) = projected items schema (logical_after number x place p)
logical_after number (joined kind test x y) (Left ∷ place) (matched way kind2 keys v w p q) = joined kind test (side_after number x (logical_after number x) place p) y
logical_after number (joined kind test x y) (Right ∷ place) (matched way kind2 keys v w p q) = joined kind test x (side_after number y (logical_after number y) place q)
logical_after number (aggregated keys calls schema x) (Left ∷ place) (finished n calls2 p) =
    groups_after number (aggregated keys calls schema x) calls schema (aggregated keys calls schema) x (logical_after number x) place p
logical_after number (united x y) (Left ∷ place) (both_of p q) = united (logical_after number x place p) y
logical_after number (united x y) (Right ∷ place) (both_of p q) = united x (logical_after number y place q)
logical_after number (sorted keys x) (Left ∷ place) (ordered keys2 p) = sorted keys (sort_after number x (logical_after number x) place p)
logical_after number (limited count skip x) (Left ∷ place) (cut_globally count2 skip2 p) = limited count skip (limit_after number x (logical_after number x) place p)
logical_after number (sampled stage x) place p = sampled stage (logical_after number x place p)
logical_after number plan place p = plan
