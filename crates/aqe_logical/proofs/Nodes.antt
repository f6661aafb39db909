-- What holds of each node of a plan, as a walk over the plan.
use Rattle.std.proofs.Common.{◌≡◌, ℕ, ◌+◌, Bool, true, false, List, [], ◌∷◌, ◌++◌, length, ap, ◌∙◌, length-append}
use Rattle.std.specs.Prelude.{filter, flat_map, All}
use Rattle.std.proofs.lemmas.List.Elements.{All-nil, All-cons, All-head, All-tail, All-append, filter-append}
use Rattle.std.proofs.lemmas.Grind.{flat_map-append}
use Rattle.aqe_logical.specs.declared.plan.Logical.{Logical, OneRow, Scan, Empty, Held, HeldPartial}
use Rattle.aqe_logical.specs.Shapes.{filtered, projected, joined, aggregated, united, sorted, limited, sampled}
use Rattle.aqe_logical.specs.Nodes.{nodes, is_leaf, scanned}

-- P holds of the plan, and then of each plan within it
abbrev pub Each : (Logical → Type 0) → Logical → Type 0
Each P OneRow = P OneRow
Each P (Scan table schema) = P (Scan table schema)
Each P (filtered condition child) = P (filtered condition child) × Each P child
Each P (projected items schema child) = P (projected items schema child) × Each P child
Each P (joined kind condition left right) = P (joined kind condition left right) × Each P left × Each P right
Each P (aggregated keys calls schema child) = P (aggregated keys calls schema child) × Each P child
Each P (united left right) = P (united left right) × Each P left × Each P right
Each P (sorted keys child) = P (sorted keys child) × Each P child
Each P (limited count skip child) = P (limited count skip child) × Each P child
Each P (Empty schema) = P (Empty schema)
Each P (Held stage place schema) = P (Held stage place schema)
Each P (HeldPartial stage calls schema) = P (HeldPartial stage calls schema)
Each P (sampled stage child) = P (sampled stage child) × Each P child

all_left : {X : Type 0} (P : X → Type 0) (xs ys : List X) → All P (xs ++ ys) → All P xs
all_left P [] ys h = All-nil P
all_left P (x ∷ xs) ys h = All-cons P x xs (All-head P x (xs ++ ys) h) (all_left P xs ys (All-tail P x (xs ++ ys) h))

all_right : {X : Type 0} (P : X → Type 0) (xs ys : List X) → All P (xs ++ ys) → All P ys
all_right P [] ys h = h
all_right P (x ∷ xs) ys h = all_right P xs ys (All-tail P x (xs ++ ys) h)

-- from all nodes to the walk
pub each : (P : Logical → Type 0) (plan : Logical) → All P (nodes plan) → Each P plan
each P OneRow h = All-head P OneRow [] h
each P (Scan table schema) h = All-head P (Scan table schema) [] h
each P (filtered condition child) h = (All-head P (filtered condition child) (nodes child) h, each P child (All-tail P (filtered condition child) (nodes child) h))
each P (projected items schema child) h = (All-head P (projected items schema child) (nodes child) h, each P child (All-tail P (projected items schema child) (nodes child) h))
each P (joined kind condition left right) h =
    let both : All P (nodes left ++ nodes right) = All-tail P (joined kind condition left right) (nodes left ++ nodes right) h in
    (All-head P (joined kind condition left right) (nodes left ++ nodes right) h, each P left (all_left P (nodes left) (nodes right) both), each P right (all_right P (nodes left) (nodes right) both))
each P (aggregated keys calls schema child) h = (All-head P (aggregated keys calls schema child) (nodes child) h, each P child (All-tail P (aggregated keys calls schema child) (nodes child) h))
each P (united left right) h =
    let both : All P (nodes left ++ nodes right) = All-tail P (united left right) (nodes left ++ nodes right) h in
    (All-head P (united left right) (nodes left ++ nodes right) h, each P left (all_left P (nodes left) (nodes right) both), each P right (all_right P (nodes left) (nodes right) both))
each P (sorted keys child) h = (All-head P (sorted keys child) (nodes child) h, each P child (All-tail P (sorted keys child) (nodes child) h))
each P (limited count skip child) h = (All-head P (limited count skip child) (nodes child) h, each P child (All-tail P (limited count skip child) (nodes child) h))
each P (Empty schema) h = All-head P (Empty schema) [] h
each P (Held stage place schema) h = All-head P (Held stage place schema) [] h
each P (HeldPartial stage calls schema) h = All-head P (HeldPartial stage calls schema) [] h
each P (sampled stage child) h = (All-head P (sampled stage child) (nodes child) h, each P child (All-tail P (sampled stage child) (nodes child) h))

one : (P : Logical → Type 0) (plan : Logical) → P plan → All P (plan ∷ [])
one P plan h = All-cons P plan [] h (All-nil P)

-- from the walk to all nodes
pub all_nodes : (P : Logical → Type 0) (plan : Logical) → Each P plan → All P (nodes plan)
all_nodes P OneRow h = one P OneRow h
all_nodes P (Scan table schema) h = one P (Scan table schema) h
all_nodes P (filtered condition child) (h, k) = All-cons P (filtered condition child) (nodes child) h (all_nodes P child k)
all_nodes P (projected items schema child) (h, k) = All-cons P (projected items schema child) (nodes child) h (all_nodes P child k)
all_nodes P (joined kind condition left right) (h, k, l) =
    All-cons P (joined kind condition left right) (nodes left ++ nodes right) h (All-append P (nodes left) (nodes right) (all_nodes P left k) (all_nodes P right l))
all_nodes P (aggregated keys calls schema child) (h, k) = All-cons P (aggregated keys calls schema child) (nodes child) h (all_nodes P child k)
all_nodes P (united left right) (h, k, l) =
    All-cons P (united left right) (nodes left ++ nodes right) h (All-append P (nodes left) (nodes right) (all_nodes P left k) (all_nodes P right l))
all_nodes P (sorted keys child) (h, k) = All-cons P (sorted keys child) (nodes child) h (all_nodes P child k)
all_nodes P (limited count skip child) (h, k) = All-cons P (limited count skip child) (nodes child) h (all_nodes P child k)
all_nodes P (Empty schema) h = one P (Empty schema) h
all_nodes P (Held stage place schema) h = one P (Held stage place schema) h
all_nodes P (HeldPartial stage calls schema) h = one P (HeldPartial stage calls schema) h
all_nodes P (sampled stage child) (h, k) = All-cons P (sampled stage child) (nodes child) h (all_nodes P child k)

-- counts and lists over the nodes of two sides
pub count_two : (p : Logical → Bool) (left right : Logical) → length (filter p (nodes left ++ nodes right)) ≡ length (filter p (nodes left)) + length (filter p (nodes right))
count_two p left right = ap length (filter-append p (nodes left) (nodes right)) ∙ length-append (filter p (nodes left)) (filter p (nodes right))

pub scans_two : (left right : Logical) → flat_map scanned (nodes left ++ nodes right) ≡ flat_map scanned (nodes left) ++ flat_map scanned (nodes right)
scans_two left right = flat_map-append scanned (nodes left) (nodes right)
