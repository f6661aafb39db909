-- What holds of each node of a plan, as a walk over the plan.
use Rattle.std.proofs.Common.{[], ◌++◌}
use Rattle.std.specs.Prelude.{All}
use Rattle.std.proofs.lemmas.List.Elements.{All-nil, All-cons, All-head, All-tail, All-append}
use Rattle.aqe_physical.specs.declared.plan.Plan.{Plan, OneRow, Scan, Nothing, Read, ReadBroadcast}
use Rattle.aqe_physical.specs.Shapes.{kept, mapped, moved, matched, grouped, finished, ordered, cut_locally, cut_globally, both_of}
use Rattle.aqe_physical.specs.Nodes.{nodes}
use Rattle.aqe_physical.proofs.Walk.{all_left, all_right}

-- P holds of the plan, and then of each plan within it
abbrev pub Each : (Plan → Type 0) → Plan → Type 0
Each P OneRow = P OneRow
Each P (Scan table files) = P (Scan table files)
Each P (Nothing count width) = P (Nothing count width)
Each P (Read stage maps reducers rects) = P (Read stage maps reducers rects)
Each P (ReadBroadcast stage) = P (ReadBroadcast stage)
Each P (kept cond child) = P (kept cond child) × Each P child
Each P (mapped items child) = P (mapped items child) × Each P child
Each P (moved target child) = P (moved target child) × Each P child
Each P (matched way kind keys v w left right) = P (matched way kind keys v w left right) × Each P left × Each P right
Each P (grouped keys calls child) = P (grouped keys calls child) × Each P child
Each P (finished keys calls child) = P (finished keys calls child) × Each P child
Each P (ordered keys child) = P (ordered keys child) × Each P child
Each P (cut_locally count child) = P (cut_locally count child) × Each P child
Each P (cut_globally count skip child) = P (cut_globally count skip child) × Each P child
Each P (both_of left right) = P (both_of left right) × Each P left × Each P right

-- from all nodes to the walk
pub each : (P : Plan → Type 0) (plan : Plan) → All P (nodes plan) → Each P plan
each P OneRow h = All-head P OneRow [] h
each P (Scan table files) h = All-head P (Scan table files) [] h
each P (Nothing count width) h = All-head P (Nothing count width) [] h
each P (Read stage maps reducers rects) h = All-head P (Read stage maps reducers rects) [] h
each P (ReadBroadcast stage) h = All-head P (ReadBroadcast stage) [] h
each P (kept cond child) h = (All-head P (kept cond child) (nodes child) h, each P child (All-tail P (kept cond child) (nodes child) h))
each P (mapped items child) h = (All-head P (mapped items child) (nodes child) h, each P child (All-tail P (mapped items child) (nodes child) h))
each P (moved target child) h = (All-head P (moved target child) (nodes child) h, each P child (All-tail P (moved target child) (nodes child) h))
each P (matched way kind keys v w left right) h =
    let both : All P (nodes left ++ nodes right) = All-tail P (matched way kind keys v w left right) (nodes left ++ nodes right) h in
    (All-head P (matched way kind keys v w left right) (nodes left ++ nodes right) h, each P left (all_left P (nodes left) (nodes right) both), each P right (all_right P (nodes left) (nodes right) both))
each P (grouped keys calls child) h = (All-head P (grouped keys calls child) (nodes child) h, each P child (All-tail P (grouped keys calls child) (nodes child) h))
each P (finished keys calls child) h = (All-head P (finished keys calls child) (nodes child) h, each P child (All-tail P (finished keys calls child) (nodes child) h))
each P (ordered keys child) h = (All-head P (ordered keys child) (nodes child) h, each P child (All-tail P (ordered keys child) (nodes child) h))
each P (cut_locally count child) h = (All-head P (cut_locally count child) (nodes child) h, each P child (All-tail P (cut_locally count child) (nodes child) h))
each P (cut_globally count skip child) h = (All-head P (cut_globally count skip child) (nodes child) h, each P child (All-tail P (cut_globally count skip child) (nodes child) h))
each P (both_of left right) h =
    let both : All P (nodes left ++ nodes right) = All-tail P (both_of left right) (nodes left ++ nodes right) h in
    (All-head P (both_of left right) (nodes left ++ nodes right) h, each P left (all_left P (nodes left) (nodes right) both), each P right (all_right P (nodes left) (nodes right) both))

-- from the walk to all nodes
pub all_nodes : (P : Plan → Type 0) (plan : Plan) → Each P plan → All P (nodes plan)
all_nodes P OneRow h = All-cons P OneRow [] h (All-nil P)
all_nodes P (Scan table files) h = All-cons P (Scan table files) [] h (All-nil P)
all_nodes P (Nothing count width) h = All-cons P (Nothing count width) [] h (All-nil P)
all_nodes P (Read stage maps reducers rects) h = All-cons P (Read stage maps reducers rects) [] h (All-nil P)
all_nodes P (ReadBroadcast stage) h = All-cons P (ReadBroadcast stage) [] h (All-nil P)
all_nodes P (kept cond child) h = All-cons P (kept cond child) (nodes child) h.0 (all_nodes P child h.1)
all_nodes P (mapped items child) h = All-cons P (mapped items child) (nodes child) h.0 (all_nodes P child h.1)
all_nodes P (moved target child) h = All-cons P (moved target child) (nodes child) h.0 (all_nodes P child h.1)
all_nodes P (matched way kind keys v w left right) h =
    All-cons P (matched way kind keys v w left right) (nodes left ++ nodes right) h.0 (All-append P (nodes left) (nodes right) (all_nodes P left h.1) (all_nodes P right h.2))
all_nodes P (grouped keys calls child) h = All-cons P (grouped keys calls child) (nodes child) h.0 (all_nodes P child h.1)
all_nodes P (finished keys calls child) h = All-cons P (finished keys calls child) (nodes child) h.0 (all_nodes P child h.1)
all_nodes P (ordered keys child) h = All-cons P (ordered keys child) (nodes child) h.0 (all_nodes P child h.1)
all_nodes P (cut_locally count child) h = All-cons P (cut_locally count child) (nodes child) h.0 (all_nodes P child h.1)
all_nodes P (cut_globally count skip child) h = All-cons P (cut_globally count skip child) (nodes child) h.0 (all_nodes P child h.1)
all_nodes P (both_of left right) h =
    All-cons P (both_of left right) (nodes left ++ nodes right) h.0 (All-append P (nodes left) (nodes right) (all_nodes P left h.1) (all_nodes P right h.2))

-- what holds of each node holds of it weakened
pub each_weaker : (P Q : Plan → Type 0) → ((node : Plan) → P node → Q node) → (plan : Plan) → Each P plan → Each Q plan
each_weaker P Q weaker OneRow h = weaker OneRow h
each_weaker P Q weaker (Scan table files) h = weaker (Scan table files) h
each_weaker P Q weaker (Nothing count width) h = weaker (Nothing count width) h
each_weaker P Q weaker (Read stage maps reducers rects) h = weaker (Read stage maps reducers rects) h
each_weaker P Q weaker (ReadBroadcast stage) h = weaker (ReadBroadcast stage) h
each_weaker P Q weaker (kept cond child) h = (weaker (kept cond child) h.0, each_weaker P Q weaker child h.1)
each_weaker P Q weaker (mapped items child) h = (weaker (mapped items child) h.0, each_weaker P Q weaker child h.1)
each_weaker P Q weaker (moved target child) h = (weaker (moved target child) h.0, each_weaker P Q weaker child h.1)
each_weaker P Q weaker (matched way kind keys v w left right) h = (weaker (matched way kind keys v w left right) h.0, each_weaker P Q weaker left h.1, each_weaker P Q weaker right h.2)
each_weaker P Q weaker (grouped keys calls child) h = (weaker (grouped keys calls child) h.0, each_weaker P Q weaker child h.1)
each_weaker P Q weaker (finished keys calls child) h = (weaker (finished keys calls child) h.0, each_weaker P Q weaker child h.1)
each_weaker P Q weaker (ordered keys child) h = (weaker (ordered keys child) h.0, each_weaker P Q weaker child h.1)
each_weaker P Q weaker (cut_locally count child) h = (weaker (cut_locally count child) h.0, each_weaker P Q weaker child h.1)
each_weaker P Q weaker (cut_globally count skip child) h = (weaker (cut_globally count skip child) h.0, each_weaker P Q weaker child h.1)
each_weaker P Q weaker (both_of left right) h = (weaker (both_of left right) h.0, each_weaker P Q weaker left h.1, each_weaker P Q weaker right h.2)
