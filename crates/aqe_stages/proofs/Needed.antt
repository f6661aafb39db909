-- A part is computed from what it needs alone.
use Rattle.std.proofs.Common.{◌≡◌, ℕ, zero, suc, ◌+◌, ◌-◌, ◌<◌, ◌≤◌, Bool, true, false, cond, List, [], ◌∷◌, ◌++◌, map, length, get_or, filter, take, drop, Option, Some, None, refl, ap, sym, ◌∙◌, subst, arith}
use Rattle.std.specs.Prelude.{flat_map, nat_lt, All}
use Rattle.std.specs.List.{range_with_len}
use Rattle.std.proofs.lemmas.Bool.Decides.{nat_tests}
use Rattle.std.proofs.lemmas.List.{get_or_append_left, get_or-append_right}
use Rattle.std.proofs.lemmas.List.Elements.{All-head}
use Rattle.aqe_base.specs.declared.stage_id.StageId.{StageId}
use Rattle.aqe_base.specs.declared.cells.Rect.{Rect}
use Rattle.aqe_base.specs.declared.join_kind.Side.TheVariants.{Left, Right}
use Rattle.aqe_expr.specs.Meaning.{holds}
use Rattle.aqe_logical.specs.declared.plan.SortKey.{SortKey}
use Rattle.aqe_logical.specs.Answers.{Row, Tables, at_most_rows}
use Rattle.aqe_logical.specs.Groups.{row_of, finish_rows}
use Rattle.aqe_logical.specs.Order.{before}
use Rattle.aqe_places.specs.Places.{by_range, exchanged}
use Rattle.aqe_logical.specs.Order.{key_of}
use Rattle.aqe_places.specs.Sorting.{stable_sort}
use Rattle.aqe_places.specs.Samples.{bounds}
use Rattle.aqe_partial.specs.PartialRows.{joined_parts, partial_rows}
use Rattle.aqe_physical.specs.declared.target.Target.{Target}
use Rattle.aqe_physical.specs.declared.target.Target.TheVariants.{Hash, Range, Single, Broadcast}
use Rattle.aqe_physical.specs.declared.target.StageKind.TheVariants as kind
use Rattle.aqe_physical.specs.declared.target.JoinWay.{JoinWay}
use Rattle.aqe_physical.specs.declared.target.JoinWay.TheVariants as way
use Rattle.aqe_physical.specs.declared.plan.Plan.{Plan, OneRow, Scan, Nothing, Read, ReadBroadcast}
use Rattle.aqe_physical.specs.Shapes.{kept, mapped, moved, matched, grouped, finished, ordered, cut_locally, cut_globally, both_of}
use Rattle.aqe_physical.specs.Counts.{part_count, target_count}
use Rattle.aqe_physical.proofs.Walk.{all_left, all_right}
use Rattle.aqe_stages.specs.Stages.{Given, Output, output_of}
use Rattle.aqe_stages.specs.Cells.{cell, numbers, rect_rows, all_rows}
use Rattle.aqe_stages.specs.Places.{place, key_less, sample_of, samples, exchanged_parts}
use Rattle.aqe_stages.specs.Parts.{parts, side_by_side, joined_sides, join_rows}
use Rattle.aqe_stages.specs.Reads.{Need, some_maps, all_maps, Agrees, needs, all_needs, join_needs, rect_needs, sample_needs, NamesSample}
use Rattle.aqe_stages.specs.Laws.{PartsNeedTheirReads, TasksNeedTheirReads}
use Rattle.aqe_stages.proofs.Counted.{counted}

abbrev Parts : Type 0
Parts = List (List Row)

-- a part of parts that are each mapped
mapped_part : (f : List Row → List Row) (ps qs : Parts) (k : ℕ) → length ps ≡ length qs → get_or ps k [] ≡ get_or qs k [] → get_or (map f ps) k [] ≡ get_or (map f qs) k []
mapped_part f [] [] k e h = refl
mapped_part f [] (q ∷ qs) k e h = absurd (let no : ⊥ = omega (arith, e) in no)
mapped_part f (p ∷ ps) [] k e h = absurd (let no : ⊥ = omega (arith, e) in no)
mapped_part f (p ∷ ps) (q ∷ qs) zero e h = ap f h
mapped_part f (p ∷ ps) (q ∷ qs) (suc k) e h = mapped_part f ps qs k (omega (arith, e)) h

side_part : (join : List Row → List Row → List Row) (as_ as' bs bs' : Parts) (k : ℕ) → length as_ ≡ length as' → get_or as_ k [] ≡ get_or as' k [] → get_or bs k [] ≡ get_or bs' k [] →
    get_or (side_by_side join as_ bs) k [] ≡ get_or (side_by_side join as' bs') k []
side_part join [] [] bs bs' k e h g = refl
side_part join [] (a ∷ as') bs bs' k e h g = absurd (let no : ⊥ = omega (arith, e) in no)
side_part join (a ∷ as_) [] bs bs' k e h g = absurd (let no : ⊥ = omega (arith, e) in no)
side_part join (a ∷ as_) (a' ∷ as') [] [] zero e h g = (λ i. join (h i) [])
side_part join (a ∷ as_) (a' ∷ as') [] (b' ∷ bs') zero e h g = (λ i. join (h i) (g i))
side_part join (a ∷ as_) (a' ∷ as') (b ∷ bs) [] zero e h g = (λ i. join (h i) (g i))
side_part join (a ∷ as_) (a' ∷ as') (b ∷ bs) (b' ∷ bs') zero e h g = (λ i. join (h i) (g i))
side_part join (a ∷ as_) (a' ∷ as') [] [] (suc k) e h g = side_part join as_ as' [] [] k (omega (arith, e)) h refl
side_part join (a ∷ as_) (a' ∷ as') [] (b' ∷ bs') (suc k) e h g = side_part join as_ as' [] bs' k (omega (arith, e)) h g
side_part join (a ∷ as_) (a' ∷ as') (b ∷ bs) [] (suc k) e h g = side_part join as_ as' bs [] k (omega (arith, e)) h g
side_part join (a ∷ as_) (a' ∷ as') (b ∷ bs) (b' ∷ bs') (suc k) e h g = side_part join as_ as' bs bs' k (omega (arith, e)) h g

-- parts that are the same at each number are the same
all_alike : (ps qs : Parts) → length ps ≡ length qs → ((k : ℕ) → k < length ps → get_or ps k [] ≡ get_or qs k []) → ps ≡ qs
all_alike [] [] e h = refl
all_alike [] (q ∷ qs) e h = absurd (let no : ⊥ = omega (arith, e) in no)
all_alike (p ∷ ps) [] e h = absurd (let no : ⊥ = omega (arith, e) in no)
all_alike (p ∷ ps) (q ∷ qs) e h =
    let rest = all_alike ps qs (omega (arith, e)) (λ k lt. h (suc k) (omega (arith, lt))) in
    let first = h 0 (omega arith) in
    (λ i. first i ∷ rest i)

-- what all of a row of numbers need is needed by each
needed_by : {X : Type 0} (P : X → Type 0) (f : ℕ → List X) (a n k : ℕ) → All P (flat_map f (range_with_len a n)) → a ≤ k → k < a + n → All P (f k)
needed_by P f a zero k h le lt = absurd (let no : ⊥ = omega (arith, le, lt) in no)
needed_by P f a (suc n) k h le lt =
    by (nat_lt a k) refl (λ more. needed_by P f (a + 1) n k (all_right P (f a) (flat_map f (range_with_len (a + 1) n)) h) (omega (arith, more)) (omega (arith, lt)))
  where
    by : (b : Bool) → nat_lt a k ≡ b → (a < k → All P (f k)) → All P (f k)
    by true e rest = let more : a < k = grind (arith, nat_tests, e) in rest more
    by false e rest =
        let same : a ≡ k = grind (arith, nat_tests, e, le) in
        subst (λ (j : ℕ). All P (f j)) same (all_left P (f a) (flat_map f (range_with_len (a + 1) n)) h)

map_alike : (o o' : Output) (r a n : ℕ) → ((m : ℕ) → a ≤ m → m < a + n → get_or o m [] ≡ get_or o' m []) →
    flat_map (λ m. cell o m r) (range_with_len a n) ≡ flat_map (λ m. cell o' m r) (range_with_len a n)
map_alike o o' r a zero h = refl
map_alike o o' r a (suc n) h =
    let here = h a (omega arith) (omega arith) in
    let rest = map_alike o o' r (a + 1) n (λ m le lt. h m (omega (arith, le)) (omega (arith, lt))) in
    (λ i. get_or (here i) r [] ++ rest i)

rect_alike : (o o' : Output) (rect : Rect) → ((m : ℕ) → rect.m0 ≤ m → m < rect.m1 → get_or o m [] ≡ get_or o' m []) → rect_rows o rect ≡ rect_rows o' rect
rect_alike o o' rect h =
    (λ i. flat_map (λ r. map_alike o o' r rect.m0 (rect.m1 - rect.m0) (λ m le lt. h m le (omega (arith, le, lt))) i) (numbers rect.r0 rect.r1))

read_part : (given other : Given) (stage : StageId) (rects : List Rect) (k : ℕ) → All (Agrees given other) (rect_needs stage rects k) →
    get_or (map (rect_rows (output_of given stage.0)) rects) k [] ≡ get_or (map (rect_rows (output_of other stage.0)) rects) k []
read_part given other stage [] k h = refl
read_part given other stage (rect ∷ rects) zero h =
    rect_alike (output_of given stage.0) (output_of other stage.0) rect (All-head (Agrees given other) (some_maps stage.0 rect.m0 rect.m1) [] h)
read_part given other stage (rect ∷ rects) (suc k) h = read_part given other stage rects k h

samples_alike : (given other : Given) (keys : List SortKey) (n : ℕ) (sample : Option StageId) (ps : Parts) → All (Agrees given other) (sample_needs (Range keys n sample)) →
    samples given keys sample ps ≡ samples other keys sample ps
samples_alike given other keys n None ps h = refl
samples_alike given other keys n (Some stage) ps h = ap all_rows (All-head (Agrees given other) (all_maps stage.0) [] h)

exchange_alike : (given other : Given) (target : Target) (ps : Parts) → All (Agrees given other) (sample_needs target) → exchanged_parts given target ps ≡ exchanged_parts other target ps
exchange_alike given other (Hash keys n) ps h = refl
exchange_alike given other (Range keys n sample) ps h =
    ap (λ (rows : List Row). exchanged (by_range (key_less keys) (bounds (key_less keys) n rows) (key_of keys)) n (joined_parts ps)) (samples_alike given other keys n sample ps h)
exchange_alike given other Single ps h = refl
exchange_alike given other Broadcast ps h = refl

-- parts of the two sides of a join, each of which may be taken alone or whole
join_part : (P : Need → Type 0) (y : JoinWay) (join : List Row → List Row → List Row) (as_ as' bs bs' : Parts) (k : ℕ) (na alla nb allb : List Need) →
    length as_ ≡ length as' → length bs ≡ length bs' →
    (All P na → get_or as_ k [] ≡ get_or as' k []) → (All P alla → as_ ≡ as') → (All P nb → get_or bs k [] ≡ get_or bs' k []) → (All P allb → bs ≡ bs') →
    All P (join_needs y na alla nb allb) → get_or (joined_sides y join as_ bs) k [] ≡ get_or (joined_sides y join as' bs') k []
join_part P way.SortMerge join as_ as' bs bs' k na alla nb allb e f ha hs hb ht h = side_part join as_ as' bs bs' k e (ha (all_left P na nb h)) (hb (all_right P na nb h))
join_part P (way.ShuffledHash side) join as_ as' bs bs' k na alla nb allb e f ha hs hb ht h = side_part join as_ as' bs bs' k e (ha (all_left P na nb h)) (hb (all_right P na nb h))
join_part P (way.Broadcast Left) join as_ as' bs bs' k na alla nb allb e f ha hs hb ht h =
    mapped_part (λ b. join (joined_parts as_) b) bs bs' k f (hb (all_right P alla nb h)) ∙
    ap (λ (ps : Parts). get_or (map (λ b. join (joined_parts ps) b) bs') k []) (hs (all_left P alla nb h))
join_part P (way.Broadcast Right) join as_ as' bs bs' k na alla nb allb e f ha hs hb ht h =
    mapped_part (λ a. join a (joined_parts bs)) as_ as' k e (ha (all_left P na allb h)) ∙
    ap (λ (ps : Parts). get_or (map (λ a. join a (joined_parts ps)) as') k []) (ht (all_right P na allb h))
join_part P way.NestedLoop join as_ as' bs bs' k na alla nb allb e f ha hs hb ht h =
    (λ i. get_or (join (joined_parts (hs (all_left P alla allb h) i)) (joined_parts (ht (all_right P alla allb h) i)) ∷ []) k [])

same_count : (tables : Tables) (given other : Given) (plan : Plan) → length (parts tables given plan) ≡ length (parts tables other plan)
same_count tables given other plan = counted tables given plan ∙ sym (counted tables other plan)

-- where each part needs what all parts need, all parts are the same
whole_alike : (tables : Tables) (given other : Given) (plan : Plan) →
    ((k : ℕ) → All (Agrees given other) (needs plan k) → get_or (parts tables given plan) k [] ≡ get_or (parts tables other plan) k []) →
    All (Agrees given other) (all_needs plan (needs plan)) → parts tables given plan ≡ parts tables other plan
whole_alike tables given other plan each h =
    all_alike (parts tables given plan) (parts tables other plan) (same_count tables given other plan)
    (λ k lt. let count = counted tables given plan in each k (needed_by (Agrees given other) (needs plan) 0 (part_count plan) k h (omega arith) (omega (arith, count, lt))))

pub part_alike : PartsNeedTheirReads
part_alike tables given other OneRow k h = refl
part_alike tables given other (Scan table files) k h = refl
part_alike tables given other (Nothing count width) k h = refl
part_alike tables given other (Read stage maps reducers rects) k h = read_part given other stage rects k h
part_alike tables given other (ReadBroadcast stage) k h =
    ap (λ (o : Output). get_or (all_rows o ∷ []) k []) (All-head (Agrees given other) (all_maps stage.0) [] h)
part_alike tables given other (kept cond child) k h = mapped_part (filter (holds cond)) (parts tables given child) (parts tables other child) k (same_count tables given other child) (part_alike tables given other child k h)
part_alike tables given other (mapped items child) k h = mapped_part (map (row_of items)) (parts tables given child) (parts tables other child) k (same_count tables given other child) (part_alike tables given other child k h)
part_alike tables given other (moved target child) k h =
    ap (λ (ps : Parts). get_or (exchanged_parts given target ps) k []) (whole_alike tables given other child (λ j. part_alike tables given other child j) (all_right (Agrees given other) (sample_needs target) (all_needs child (needs child)) h)) ∙
    ap (λ (ps : Parts). get_or ps k []) (exchange_alike given other target (parts tables other child) (all_left (Agrees given other) (sample_needs target) (all_needs child (needs child)) h))
part_alike tables given other (matched y kind keys v w left right) k h =
    join_part (Agrees given other) y (join_rows y kind keys v w) (parts tables given left) (parts tables other left) (parts tables given right) (parts tables other right) k
    (needs left k) (all_needs left (needs left)) (needs right k) (all_needs right (needs right))
    (same_count tables given other left) (same_count tables given other right)
    (part_alike tables given other left k) (whole_alike tables given other left (λ j. part_alike tables given other left j))
    (part_alike tables given other right k) (whole_alike tables given other right (λ j. part_alike tables given other right j)) h
part_alike tables given other (grouped keys calls child) k h = mapped_part (partial_rows (length keys) (row_of keys) calls) (parts tables given child) (parts tables other child) k (same_count tables given other child) (part_alike tables given other child k h)
part_alike tables given other (finished keys calls child) k h = mapped_part (finish_rows keys calls) (parts tables given child) (parts tables other child) k (same_count tables given other child) (part_alike tables given other child k h)
part_alike tables given other (ordered keys child) k h = mapped_part (stable_sort (before keys)) (parts tables given child) (parts tables other child) k (same_count tables given other child) (part_alike tables given other child k h)
part_alike tables given other (cut_locally count child) k h = mapped_part (take count) (parts tables given child) (parts tables other child) k (same_count tables given other child) (part_alike tables given other child k h)
part_alike tables given other (cut_globally count skip child) k h = mapped_part (λ part. at_most_rows count (drop skip part)) (parts tables given child) (parts tables other child) k (same_count tables given other child) (part_alike tables given other child k h)
part_alike tables given other (both_of left right) k h =
    by (nat_lt k (part_count left)) refl h (part_alike tables given other left k) (part_alike tables given other right (k - part_count left))
  where
    by : (b : Bool) → nat_lt k (part_count left) ≡ b → All (Agrees given other) (cond b (needs left k) (needs right (k - part_count left))) →
        (All (Agrees given other) (needs left k) → get_or (parts tables given left) k [] ≡ get_or (parts tables other left) k []) →
        (All (Agrees given other) (needs right (k - part_count left)) → get_or (parts tables given right) (k - part_count left) [] ≡ get_or (parts tables other right) (k - part_count left) []) →
        get_or (parts tables given left ++ parts tables given right) k [] ≡ get_or (parts tables other left ++ parts tables other right) k []
    by true e g on_left on_right =
        let lt : k < part_count left = grind (arith, nat_tests, e) in
        let one = counted tables given left in
        let two = counted tables other left in
        get_or_append_left (parts tables given left) (parts tables given right) [] k (omega (arith, lt, one)) ∙
        (on_left g ∙ sym (get_or_append_left (parts tables other left) (parts tables other right) [] k (omega (arith, lt, two))))
    by false e g on_left on_right =
        let le : part_count left ≤ k = grind (arith, nat_tests, e) in
        get_or-append_right (parts tables given left) (parts tables given right) (part_count left) k [] (counted tables given left) le ∙
        (on_right g ∙ sym (get_or-append_right (parts tables other left) (parts tables other right) (part_count left) k [] (counted tables other left) le))

-- where a range names its samples, places do not depend on the other parts
place_alike : (given other : Given) (target : Target) (ps qs : Parts) → NamesSample target → All (Agrees given other) (sample_needs target) → place given target ps ≡ place other target qs
place_alike given other (Hash keys n) ps qs named h = refl
place_alike given other (Range keys n None) ps qs named h = absurd named
place_alike given other (Range keys n (Some stage)) ps qs named h =
    ap (λ (o : Output). by_range (key_less keys) (bounds (key_less keys) n (all_rows o)) (key_of keys)) (All-head (Agrees given other) (all_maps stage.0) [] h)
place_alike given other Single ps qs named h = refl
place_alike given other Broadcast ps qs named h = refl

pub task_alike : TasksNeedTheirReads
task_alike tables given other (kind.Shuffle target) body k named h =
    let same = part_alike tables given other body k (all_right (Agrees given other) (sample_needs target) (needs body k) h) in
    let at = place_alike given other target (parts tables given body) (parts tables other body) named (all_left (Agrees given other) (sample_needs target) (needs body k) h) in
    (λ i. exchanged (at i) (target_count target) (same i))
task_alike tables given other kind.Broadcast body k named h = (λ i. part_alike tables given other body k h i ∷ [])
task_alike tables given other (kind.Sample keys) body k named h = (λ i. sample_of keys (part_alike tables given other body k h i) ∷ [])
task_alike tables given other kind.Result body k named h = (λ i. part_alike tables given other body k h i ∷ [])
