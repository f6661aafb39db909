-- A stage that is made of a part of a plan, and the plan after it.
use Rattle.std.specs.Prelude.{ℕ, Option, Some, None, List}
use Rattle.aqe_base.specs.declared.stage_id.StageId.{StageId}
use Rattle.aqe_base.specs.declared.join_kind.JoinKind.{JoinKind}
use Rattle.aqe_expr.specs.declared.expr.Expr.{Expr}
use Rattle.aqe_logical.specs.declared.plan.AggCall.{AggCall}
use Rattle.aqe_logical.specs.declared.plan.SortKey.{SortKey}
use Rattle.aqe_join_rows.specs.declared.join_keys.JoinKeys.{JoinKeys}
use Rattle.aqe_rects.specs.Rectangles.{plain_rects}
use Rattle.aqe_physical.specs.declared.target.Target.{Target}
use Rattle.aqe_physical.specs.declared.target.Target.TheVariants as target
use Rattle.aqe_physical.specs.declared.target.StageKind.TheVariants as kind
use Rattle.aqe_physical.specs.declared.target.JoinWay.{JoinWay}
use Rattle.aqe_physical.specs.declared.plan.Plan.{Plan, Read, ReadBroadcast}
use Rattle.aqe_physical.specs.Shapes.{kept, mapped, moved, matched, grouped, finished, ordered, cut_locally, cut_globally, both_of}
use Rattle.aqe_physical.specs.Counts.{part_count, target_count}
use Rattle.aqe_stages.specs.Stages.{Stage}

-- the stage that an exchange becomes, and the sample stage of a range
abbrev pub shuffle : Target → Plan → Stage
shuffle to child = record { kind = kind.Shuffle to; body = child }

abbrev pub broadcast : Plan → Stage
broadcast child = record { kind = kind.Broadcast; body = child }

abbrev pub sampling : List SortKey → Plan → Stage
sampling keys child = record { kind = kind.Sample keys; body = child }

-- the plain read of a stage that was made of an exchange: a part for each reducer, with all maps
abbrev pub plain_read : StageId → Target → Plan → Plan
plain_read stage to child = Read stage (part_count child) (target_count to) (plain_rects (part_count child) (target_count to))

-- a target that is no broadcast shuffles
abbrev pub IsShuffle : Target → Type 0
IsShuffle target.Broadcast = ⊥
IsShuffle to = Unit {0}

-- Of a plan one exchange, or the sample of one range, is made a stage with a new number, and the plan after it reads that stage: an
-- exchange becomes its plain read, and a range names its sample. Where the exchange stands does not matter.
pub data Made (number : StageId) : Plan → Stage → Plan → Type 0 where
  shuffled : (to : Target) (child : Plan) → IsShuffle to → Made number (moved to child) (shuffle to child) (plain_read number to child)
  broadcasted : (child : Plan) → Made number (moved target.Broadcast child) (broadcast child) (ReadBroadcast number)
  sampled : (keys : List SortKey) (n : ℕ) (child : Plan) →
      Made number (moved (target.Range keys n None) child) (sampling keys child) (moved (target.Range keys n (Some number)) child)
  in_kept : (cond : Expr) (p q : Plan) (stage : Stage) → Made number p stage q → Made number (kept cond p) stage (kept cond q)
  in_mapped : (items : List Expr) (p q : Plan) (stage : Stage) → Made number p stage q → Made number (mapped items p) stage (mapped items q)
  in_moved : (to : Target) (p q : Plan) (stage : Stage) → Made number p stage q → Made number (moved to p) stage (moved to q)
  in_left : (way : JoinWay) (kind : JoinKind) (keys : JoinKeys) (v w : ℕ) (p q other : Plan) (stage : Stage) →
      Made number p stage q → Made number (matched way kind keys v w p other) stage (matched way kind keys v w q other)
  in_right : (way : JoinWay) (kind : JoinKind) (keys : JoinKeys) (v w : ℕ) (other p q : Plan) (stage : Stage) →
      Made number p stage q → Made number (matched way kind keys v w other p) stage (matched way kind keys v w other q)
  in_grouped : (keys : List Expr) (calls : List AggCall) (p q : Plan) (stage : Stage) → Made number p stage q → Made number (grouped keys calls p) stage (grouped keys calls q)
  in_finished : (keys : ℕ) (calls : List AggCall) (p q : Plan) (stage : Stage) → Made number p stage q → Made number (finished keys calls p) stage (finished keys calls q)
  in_ordered : (keys : List SortKey) (p q : Plan) (stage : Stage) → Made number p stage q → Made number (ordered keys p) stage (ordered keys q)
  in_cut_locally : (count : ℕ) (p q : Plan) (stage : Stage) → Made number p stage q → Made number (cut_locally count p) stage (cut_locally count q)
  in_cut_globally : (count : Option ℕ) (skip : ℕ) (p q : Plan) (stage : Stage) → Made number p stage q → Made number (cut_globally count skip p) stage (cut_globally count skip q)
  in_first : (p q other : Plan) (stage : Stage) → Made number p stage q → Made number (both_of p other) stage (both_of q other)
  in_second : (other p q : Plan) (stage : Stage) → Made number p stage q → Made number (both_of other p) stage (both_of other q)
