-- What is made of small plans, and in which order, worked out by hand from the rules: a check of the definitions.
use Rattle.std.proofs.Common.{◌≡◌, ℕ, ◌+◌, Bool, true, false, List, [], ◌∷◌, refl, Some, None}
use Rattle.std.specs.Prelude.{◌==◌}
use Rattle.aqe_base.specs.declared.cells.Rect.{Rect}
use Rattle.aqe_base.specs.declared.stage_id.StageId.{StageId}
use Rattle.aqe_base.specs.declared.join_kind.JoinKind.TheVariants.{Inner}
use Rattle.aqe_base.specs.declared.join_kind.Side.TheVariants.{Left, Right}
use Rattle.aqe_values.specs.declared.schema.Field.{Field}
use Rattle.aqe_expr.specs.declared.expr.Expr.{Expr, Column}
use Rattle.aqe_logical.specs.declared.plan.AggCall.{AggCall}
use Rattle.aqe_logical.specs.declared.plan.SortKey.{SortKey}
use Rattle.aqe_logical.specs.declared.plan.Placement.TheVariants as place
use Rattle.aqe_logical.specs.declared.plan.Logical.{Logical, Scan, Held, HeldPartial}
use Rattle.aqe_logical.specs.Shapes.{joined, aggregated, sorted, limited, sampled}
use Rattle.aqe_join_rows.specs.declared.join_keys.JoinKeys.{JoinKeys}
use Rattle.aqe_physical.specs.declared.target.Target.TheVariants as to
use Rattle.aqe_physical.specs.declared.target.JoinWay.TheVariants as way
use Rattle.aqe_physical.specs.declared.plan.Plan as plan
use Rattle.aqe_physical.specs.declared.plan.Plan.{Plan}
use Rattle.aqe_physical.specs.Shapes.{moved, matched, grouped, finished, ordered, cut_locally, cut_globally}
use Rattle.aqe_stages.specs.Stages.{Stage}
use Rattle.aqe_stages.specs.Making.{shuffle, broadcast, sampling}
use Rattle.aqe_making.specs.Makings.{Place, Making, makings, all_makings, result_of}
use Rattle.aqe_making.specs.After.{after, stage_at}
use Rattle.aqe_making.specs.Held.{logical_after}

abbrev first : List Expr
first = Column 0 ∷ []

abbrev by_first : List SortKey
by_first = record { expr = Column 0; way = record { descending = false; nulls_last = false } } ∷ []

abbrev no_calls : List AggCall
no_calls = []

abbrev keys : JoinKeys
keys = record { left = first; right = first; rest = Column 0 }

abbrev none : ℕ → Bool
none stage = false

abbrev only : ℕ → ℕ → Bool
only n stage = stage == n

abbrev making : Place → Stage → Making
making place stage = record { place = place; stage = stage }

abbrev number : ℕ → StageId
number n = record { 0 = n }

abbrev rect : ℕ → ℕ → Rect
rect maps r = record { m0 = 0; m1 = maps; r0 = r; r1 = r + 1 }

-- groups behind an exchange: one stage of two maps and two reducers, then the result
abbrev part : Plan
part = grouped first no_calls (plan.Scan 0 2)

abbrev groups : Plan
groups = finished 1 no_calls (moved (to.Hash first 2) part)

abbrev groups_read : Plan
groups_read = finished 1 no_calls (plan.Read (number 0) 2 2 (rect 2 0 ∷ rect 2 1 ∷ []))

groups_first : all_makings none false groups ≡ making (Left ∷ []) (shuffle (to.Hash first 2) part) ∷ []
groups_first = refl

groups_after : after (number 0) (Left ∷ []) groups ≡ groups_read
groups_after = refl

-- the result waits for the stage that it reads, and is made once
result_waits : all_makings none false groups_read ≡ []
result_waits = refl

result_made : all_makings (only 0) false groups_read ≡ result_of groups_read ∷ []
result_made = refl

result_once : all_makings (only 0) true groups_read ≡ []
result_once = refl

-- the left side of a join is made before the right one, and neither waits for the other
abbrev join : Plan
join = matched way.SortMerge Inner keys 1 1 (moved (to.Hash first 2) (plan.Scan 0 1)) (moved (to.Hash first 2) (plan.Scan 1 3))

join_order : makings none join ≡ making (Left ∷ []) (shuffle (to.Hash first 2) (plan.Scan 0 1)) ∷ making (Right ∷ []) (shuffle (to.Hash first 2) (plan.Scan 1 3)) ∷ []
join_order = refl

join_next : makings none (after (number 0) (Left ∷ []) join) ≡ making (Right ∷ []) (shuffle (to.Hash first 2) (plan.Scan 1 3)) ∷ []
join_next = refl

-- an exchange over another waits until that was made and its stage is whole
abbrev nested : Plan
nested = moved to.Single groups

nested_waits : makings none nested ≡ making (Left ∷ Left ∷ []) (shuffle (to.Hash first 2) part) ∷ []
nested_waits = refl

nested_still_waits : makings none (moved to.Single groups_read) ≡ []
nested_still_waits = refl

nested_made : makings (only 0) (moved to.Single groups_read) ≡ making [] (shuffle to.Single groups_read) ∷ []
nested_made = refl

-- a range is made behind its sample
abbrev sort : Plan
sort = ordered by_first (moved (to.Range by_first 2 None) (plan.Scan 0 1))

abbrev sort_sampled : Plan
sort_sampled = ordered by_first (moved (to.Range by_first 2 (Some (number 0))) (plan.Scan 0 1))

sample_first : makings none sort ≡ making (Left ∷ []) (sampling by_first (plan.Scan 0 1)) ∷ []
sample_first = refl

sample_named : after (number 0) (Left ∷ []) sort ≡ sort_sampled
sample_named = refl

range_waits : makings none sort_sampled ≡ []
range_waits = refl

range_made : makings (only 0) sort_sampled ≡ making (Left ∷ []) (shuffle (to.Range by_first 2 (Some (number 0))) (plan.Scan 0 1)) ∷ []
range_made = refl

broadcast_made : makings none (moved to.Broadcast (plan.Scan 0 1)) ≡ making [] (broadcast (plan.Scan 0 1)) ∷ []
broadcast_made = refl

broadcast_read : after (number 3) [] (moved to.Broadcast (plan.Scan 0 1)) ≡ plan.ReadBroadcast (number 3)
broadcast_read = refl

-- no exchange stands at the place of a scan
nothing_there : stage_at (Left ∷ Left ∷ Left ∷ []) groups ≡ None
nothing_there = refl

-- the logical plans: the side of a join, the child of a limit and of a sort are held, groups are held as partial rows
abbrev no_fields : List Field
no_fields = []

abbrev scan : Logical
scan = Scan 0 no_fields

left_held : logical_after (number 0) (joined Inner (Column 0) scan scan) (Left ∷ []) join ≡ joined Inner (Column 0) (Held (number 0) (place.Hash first) no_fields) scan
left_held = refl

right_held : logical_after (number 1) (joined Inner (Column 0) scan scan) (Right ∷ []) join ≡ joined Inner (Column 0) scan (Held (number 1) (place.Hash first) no_fields)
right_held = refl

partial_held : logical_after (number 0) (aggregated first no_calls no_fields scan) (Left ∷ []) groups ≡ HeldPartial (number 0) no_calls no_fields
partial_held = refl

sort_is_sampled : logical_after (number 0) (sorted by_first scan) (Left ∷ []) sort ≡ sorted by_first (sampled (number 0) scan)
sort_is_sampled = refl

sort_held : logical_after (number 1) (sorted by_first (sampled (number 0) scan)) (Left ∷ []) sort_sampled ≡ sorted by_first (Held (number 1) (place.Range by_first) no_fields)
sort_held = refl

limit_held : logical_after (number 0) (limited (Some 3) 1 scan) (Left ∷ []) (cut_globally (Some 3) 1 (moved to.Single (cut_locally 4 (plan.Scan 0 1)))) ≡ limited (Some 3) 1 (Held (number 0) place.Single no_fields)
limit_held = refl

-- below a limit whose parts are cut, below a sort and below groups
deeper_held : logical_after (number 0) (limited (Some 3) 1 (aggregated first no_calls no_fields scan)) (Left ∷ Left ∷ Left ∷ Left ∷ []) (cut_globally (Some 3) 1 (moved to.Single (cut_locally 4 groups))) ≡
    limited (Some 3) 1 (HeldPartial (number 0) no_calls no_fields)
deeper_held = refl
