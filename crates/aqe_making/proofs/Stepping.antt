-- Stages that are made one by one are those that could be made at once.
use Rattle.std.proofs.Common.{◌≡◌, ℕ, Bool, true, false, List, [], ◌∷◌, ◌++◌, map, refl, sym, ap, ◌∙◌, subst, Some, None, append-nil}
use Rattle.std.specs.Prelude.{All, cond, not, ◌&&◌}
use Rattle.std.proofs.lemmas.List.Elements.{All-head}
use Rattle.aqe_base.specs.declared.stage_id.StageId.{StageId}
use Rattle.aqe_base.specs.declared.join_kind.Side.{Side}
use Rattle.aqe_base.specs.declared.join_kind.Side.TheVariants.{Left, Right}
use Rattle.aqe_physical.specs.declared.target.Target.{Target}
use Rattle.aqe_physical.specs.declared.target.Target.TheVariants.{Hash, Range, Single, Broadcast}
use Rattle.aqe_physical.specs.declared.plan.Plan.{Plan, OneRow, Scan, Nothing, Read, ReadBroadcast}
use Rattle.aqe_physical.specs.Shapes.{kept, mapped, moved, matched, grouped, finished, ordered, cut_locally, cut_globally, both_of}
use Rattle.aqe_stages.specs.Stages.{Stage}
use Rattle.aqe_making.specs.Ready.{is_ready, sample_ready}
use Rattle.aqe_making.specs.Makings.{Place, Making, below, stage_of, made_here, makings, result_of, all_makings}
use Rattle.aqe_making.specs.After.{after, read_after, stage_at}
use Rattle.aqe_stages.specs.Making.{Made}
use Rattle.aqe_making.specs.Held.{logical_after}
use Rattle.aqe_making.specs.Laws.{AtMostOneIsNext, NextIsMade, MadeOneByOne, QueriesMadeOneByOne, ReadyHasNoOther, NotReadyAfter}
use Rattle.aqe_making.proofs.Lists.{and_left, and_right, false_left, false_right, no_stage, no_making, same_head, same_tail}
use Rattle.aqe_making.proofs.Standing.{standing, made_at}

pub none_other : ReadyHasNoOther
none_other whole OneRow e = refl
none_other whole (Scan table files) e = refl
none_other whole (Nothing parts width) e = refl
none_other whole (Read stage maps reducers rects) e = refl
none_other whole (ReadBroadcast stage) e = refl
none_other whole (kept test p) e = ap (map (below Left)) (none_other whole p e)
none_other whole (mapped items p) e = ap (map (below Left)) (none_other whole p e)
none_other whole (moved to p) e = absurd (let no : false ≡ true = e in cc no)
none_other whole (matched y kind keys v w p q) e =
    let left = none_other whole p (and_left (is_ready whole p) (is_ready whole q) e) in
    let right = none_other whole q (and_right (is_ready whole p) (is_ready whole q) e) in
    (λ i. map (below Left) (left i) ++ map (below Right) (right i))
none_other whole (grouped keys calls p) e = ap (map (below Left)) (none_other whole p e)
none_other whole (finished keys calls p) e = ap (map (below Left)) (none_other whole p e)
none_other whole (ordered keys p) e = ap (map (below Left)) (none_other whole p e)
none_other whole (cut_locally count p) e = ap (map (below Left)) (none_other whole p e)
none_other whole (cut_globally count skip p) e = ap (map (below Left)) (none_other whole p e)
none_other whole (both_of p q) e =
    let left = none_other whole p (and_left (is_ready whole p) (is_ready whole q) e) in
    let right = none_other whole q (and_right (is_ready whole p) (is_ready whole q) e) in
    (λ i. map (below Left) (left i) ++ map (below Right) (right i))

read_not_ready : (whole : ℕ → Bool) (number : StageId) (to : Target) (p : Plan) → whole number.0 ≡ false → is_ready whole (read_after number to p) ≡ false
read_not_ready whole number (Hash keys n) p w = w
read_not_ready whole number (Range keys n None) p w = refl
read_not_ready whole number (Range keys n (Some stage)) p w = w
read_not_ready whole number Single p w = w
read_not_ready whole number Broadcast p w = w

pub not_ready : NotReadyAfter
not_ready whole number (Left ∷ place) (kept test p) stage w e = not_ready whole number place p stage w e
not_ready whole number (Left ∷ place) (mapped items p) stage w e = not_ready whole number place p stage w e
not_ready whole number [] (moved to p) stage w e = read_not_ready whole number to p w
not_ready whole number (Left ∷ place) (moved to p) stage w e = refl
not_ready whole number (Left ∷ place) (matched y kind keys v z p q) stage w e =
    false_left (is_ready whole (after number place p)) (is_ready whole q) (not_ready whole number place p stage w e)
not_ready whole number (Right ∷ place) (matched y kind keys v z p q) stage w e =
    false_right (is_ready whole p) (is_ready whole (after number place q)) (not_ready whole number place q stage w e)
not_ready whole number (Left ∷ place) (grouped keys calls p) stage w e = not_ready whole number place p stage w e
not_ready whole number (Left ∷ place) (finished keys calls p) stage w e = not_ready whole number place p stage w e
not_ready whole number (Left ∷ place) (ordered keys p) stage w e = not_ready whole number place p stage w e
not_ready whole number (Left ∷ place) (cut_locally count p) stage w e = not_ready whole number place p stage w e
not_ready whole number (Left ∷ place) (cut_globally count skip p) stage w e = not_ready whole number place p stage w e
not_ready whole number (Left ∷ place) (both_of p q) stage w e =
    false_left (is_ready whole (after number place p)) (is_ready whole q) (not_ready whole number place p stage w e)
not_ready whole number (Right ∷ place) (both_of p q) stage w e =
    false_right (is_ready whole p) (is_ready whole (after number place q)) (not_ready whole number place q stage w e)
not_ready whole number place plan stage w e = absurd (no_stage stage e)

-- the first of what is made below a side is made there first
record First (side : Side) (ms : List Making) (making : Making) (others : List Making) : Type 0 where
  first : Making
  rest : List Making
  is : ms ≡ first ∷ rest
  making_is : making ≡ below side first
  others_are : others ≡ map (below side) rest

first_of : (side : Side) (ms : List Making) (making : Making) (others : List Making) → map (below side) ms ≡ making ∷ others → First side ms making others
first_of side [] making others e = absurd (no_making making others e)
first_of side (m ∷ ms) making others e =
    record { first = m; rest = ms; is = refl; making_is = sym (same_head (below side m) making (map (below side) ms) others e); others_are = sym (same_tail (below side m) making (map (below side) ms) others e) }

-- what the law says of a plan
abbrev Steps : (ℕ → Bool) → StageId → Plan → Type 0
Steps whole number plan = (making : Making) (others : List Making) → makings whole plan ≡ making ∷ others → makings whole (after number making.place plan) ≡ others

-- a node with one child
one_child : (whole : ℕ → Bool) (number : StageId) (node p : Plan) → ((place : Place) → makings whole (after number (Left ∷ place) node) ≡ map (below Left) (makings whole (after number place p))) →
    Steps whole number p → (making : Making) (others : List Making) → map (below Left) (makings whole p) ≡ making ∷ others → makings whole (after number making.place node) ≡ others
one_child whole number node p computes ih making others e =
    let f = first_of Left (makings whole p) making others e in
    ap (λ (m : Making). makings whole (after number m.place node)) f.making_is ∙
    (computes f.first.place ∙ (ap (map (below Left)) (ih f.first f.rest f.is) ∙ sym f.others_are))

-- a node with two
two_children : (whole : ℕ → Bool) (number : StageId) (node p q : Plan) →
    ((place : Place) → makings whole (after number (Left ∷ place) node) ≡ map (below Left) (makings whole (after number place p)) ++ map (below Right) (makings whole q)) →
    ((place : Place) → makings whole (after number (Right ∷ place) node) ≡ map (below Left) (makings whole p) ++ map (below Right) (makings whole (after number place q))) →
    Steps whole number p → Steps whole number q → (making : Making) (others : List Making) →
    (ls : List Making) → makings whole p ≡ ls → map (below Left) ls ++ map (below Right) (makings whole q) ≡ making ∷ others → makings whole (after number making.place node) ≡ others
two_children whole number node p q on_left on_right ih kh making others [] l e =
    let f = first_of Right (makings whole q) making others e in
    ap (λ (m : Making). makings whole (after number m.place node)) f.making_is ∙
    (on_right f.first.place ∙
    ((λ i. map (below Left) (l i) ++ map (below Right) (kh f.first f.rest f.is i)) ∙ sym f.others_are))
two_children whole number node p q on_left on_right ih kh making others (m ∷ ms) l e =
    let right = map (below Right) (makings whole q) in
    let head = same_head (below Left m) making (map (below Left) ms ++ right) others e in
    let tail = same_tail (below Left m) making (map (below Left) ms ++ right) others e in
    ap (λ (m : Making). makings whole (after number m.place node)) (sym head) ∙
    (on_left m.place ∙ ((λ i. map (below Left) (ih m ms l i) ++ right) ∙ tail))

-- an exchange whose part is not ready is not made
not_here : (whole : ℕ → Bool) (to : Target) (p : Plan) → is_ready whole p ≡ false → made_here whole to p ≡ []
not_here whole to p e =
    ap (λ (b : Bool). cond (b && sample_ready whole to) (record { place = []; stage = stage_of to p } ∷ []) []) e

-- once an exchange was made, nothing more is made in its place
nothing_here : (whole : ℕ → Bool) (number : StageId) (to : Target) (p : Plan) → whole number.0 ≡ false → makings whole p ≡ [] → makings whole (read_after number to p) ≡ []
nothing_here whole number (Hash keys n) p w e = refl
nothing_here whole number (Range keys n None) p w e =
    (λ i. map (below Left) (e i) ++ cond (is_ready whole p && w i) (record { place = []; stage = stage_of (Range keys n (Some number)) p } ∷ []) []) ∙
    ap (λ (b : Bool). cond b (record { place = []; stage = stage_of (Range keys n (Some number)) p } ∷ []) []) (false_right (is_ready whole p) false refl)
nothing_here whole number (Range keys n (Some stage)) p w e = refl
nothing_here whole number Single p w e = refl
nothing_here whole number Broadcast p w e = refl

not_false : (whole : ℕ → Bool) (p : Plan) (m : Making) (ms : List Making) → makings whole p ≡ m ∷ ms → (b : Bool) → is_ready whole p ≡ b → is_ready whole p ≡ false
not_false whole p m ms l false e = e
not_false whole p m ms l true e = absurd (no_making m ms (sym (none_other whole p e) ∙ l))

here_first : (whole : ℕ → Bool) (number : StageId) (to : Target) (p : Plan) → whole number.0 ≡ false → makings whole p ≡ [] → (b : Bool) (making : Making) (others : List Making) →
    cond b (record { place = []; stage = stage_of to p } ∷ []) [] ≡ making ∷ others → makings whole (after number making.place (moved to p)) ≡ others
here_first whole number to p w l false making others e = absurd (no_making making others e)
here_first whole number to p w l true making others e =
    let head = same_head (record { place = []; stage = stage_of to p }) making [] others e in
    let tail = same_tail (record { place = []; stage = stage_of to p }) making [] others e in
    ap (λ (m : Making). makings whole (after number m.place (moved to p))) (sym head) ∙ (nothing_here whole number to p w l ∙ tail)

exchange_first : (whole : ℕ → Bool) (number : StageId) (to : Target) (p : Plan) → whole number.0 ≡ false → Steps whole number p → (making : Making) (others : List Making) →
    (ls : List Making) → makings whole p ≡ ls → map (below Left) ls ++ made_here whole to p ≡ making ∷ others → makings whole (after number making.place (moved to p)) ≡ others
exchange_first whole number to p w ih making others [] l e = here_first whole number to p w l (is_ready whole p && sample_ready whole to) making others e
exchange_first whole number to p w ih making others (m ∷ ms) l e =
    let head = same_head (below Left m) making (map (below Left) ms ++ made_here whole to p) others e in
    let tail = same_tail (below Left m) making (map (below Left) ms ++ made_here whole to p) others e in
    let stands : stage_at m.place p ≡ Some m.stage =
    All-head (λ (n : Making). stage_at n.place p ≡ Some n.stage) m ms (subst (All (λ (n : Making). stage_at n.place p ≡ Some n.stage)) l (standing whole p)) in
    let before = not_here whole to p (not_false whole p m ms l (is_ready whole p) refl) in
    let then = not_here whole to (after number m.place p) (not_ready whole number m.place p m.stage w stands) in
    ap (λ (n : Making). makings whole (after number n.place (moved to p))) (sym head) ∙
    ((λ i. map (below Left) (ih m ms l i) ++ then i) ∙ ((λ i. map (below Left) ms ++ sym before i) ∙ tail))

pub one_by_one : MadeOneByOne
one_by_one whole number OneRow making others w e = absurd (no_making making others e)
one_by_one whole number (Scan table files) making others w e = absurd (no_making making others e)
one_by_one whole number (Nothing parts width) making others w e = absurd (no_making making others e)
one_by_one whole number (Read stage maps reducers rects) making others w e = absurd (no_making making others e)
one_by_one whole number (ReadBroadcast stage) making others w e = absurd (no_making making others e)
one_by_one whole number (kept test p) making others w e = one_child whole number (kept test p) p (λ place. refl) (λ m ms. one_by_one whole number p m ms w) making others e
one_by_one whole number (mapped items p) making others w e = one_child whole number (mapped items p) p (λ place. refl) (λ m ms. one_by_one whole number p m ms w) making others e
one_by_one whole number (moved to p) making others w e = exchange_first whole number to p w (λ m ms. one_by_one whole number p m ms w) making others (makings whole p) refl e
one_by_one whole number (matched y kind keys v z p q) making others w e =
    two_children whole number (matched y kind keys v z p q) p q (λ place. refl) (λ place. refl)
    (λ m ms. one_by_one whole number p m ms w) (λ m ms. one_by_one whole number q m ms w) making others (makings whole p) refl e
one_by_one whole number (grouped keys calls p) making others w e = one_child whole number (grouped keys calls p) p (λ place. refl) (λ m ms. one_by_one whole number p m ms w) making others e
one_by_one whole number (finished keys calls p) making others w e = one_child whole number (finished keys calls p) p (λ place. refl) (λ m ms. one_by_one whole number p m ms w) making others e
one_by_one whole number (ordered keys p) making others w e = one_child whole number (ordered keys p) p (λ place. refl) (λ m ms. one_by_one whole number p m ms w) making others e
one_by_one whole number (cut_locally count p) making others w e = one_child whole number (cut_locally count p) p (λ place. refl) (λ m ms. one_by_one whole number p m ms w) making others e
one_by_one whole number (cut_globally count skip p) making others w e = one_child whole number (cut_globally count skip p) p (λ place. refl) (λ m ms. one_by_one whole number p m ms w) making others e
one_by_one whole number (both_of p q) making others w e =
    two_children whole number (both_of p q) p q (λ place. refl) (λ place. refl)
    (λ m ms. one_by_one whole number p m ms w) (λ m ms. one_by_one whole number q m ms w) making others (makings whole p) refl e

-- no result is made of a plan that is not ready
no_result : (whole : ℕ → Bool) (has_result : Bool) (plan : Plan) (ms : List Making) → makings whole plan ≡ ms → is_ready whole plan ≡ false → all_makings whole has_result plan ≡ ms
no_result whole has_result plan ms e f =
    (λ i. e i ++ cond (f i && not has_result) (result_of plan ∷ []) []) ∙ append-nil ms

first_stands : (whole : ℕ → Bool) (plan : Plan) (m : Making) (ms : List Making) → makings whole plan ≡ m ∷ ms → stage_at m.place plan ≡ Some m.stage
first_stands whole plan m ms l =
    All-head (λ (n : Making). stage_at n.place plan ≡ Some n.stage) m ms (subst (All (λ (n : Making). stage_at n.place plan ≡ Some n.stage)) l (standing whole plan))

pub queries_one_by_one : QueriesMadeOneByOne
queries_one_by_one whole has_result number plan making others w e = (
  no_result whole has_result plan (making ∷ others) e (not_false whole plan making others e (is_ready whole plan) refl),
  no_result whole has_result (after number making.place plan) others (one_by_one whole number plan making others w e)
      (not_ready whole number making.place plan making.stage w (first_stands whole plan making others e)),
)

pub one_next : AtMostOneIsNext
one_next whole number x p stage stage2 x1 x2 p1 p2 h k =
    let same : h.0 ≡ k.0 = same_head h.0 k.0 h.1.0 k.1.0 (sym h.1.1 ∙ k.1.1) in (
      h.2 ∙ (ap (λ (m : Making). m.stage) same ∙ sym k.2),
      h.3 ∙ (ap (λ (m : Making). logical_after number x m.place p) same ∙ sym k.3),
      h.4 ∙ (ap (λ (m : Making). after number m.place p) same ∙ sym k.4),
    )

pub next_made : NextIsMade
next_made whole number x p stage x1 p1 h =
    let stands = first_stands whole p h.0 h.1.0 h.1.1 in
    let made = made_at number h.0.place p h.0.stage stands in
    subst (λ (s : Stage). Made number p s p1) (sym h.2) (subst (λ (q : Plan). Made number p h.0.stage q) (sym h.4) made)
