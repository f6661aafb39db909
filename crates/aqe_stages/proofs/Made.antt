-- The plan after a stage was made has the parts of the plan before it.
use Rattle.std.proofs.Common.{◌≡◌, ℕ, ◌<◌, ◌≤◌, List, [], ◌∷◌, ◌++◌, map, length, filter, take, drop, Some, None, refl, ap, sym, ◌∙◌, subst, arith, length-append}
use Rattle.std.proofs.lemmas.List.{get_or_push}
use Rattle.aqe_base.specs.declared.stage_id.StageId.{StageId}
use Rattle.aqe_expr.specs.Meaning.{holds}
use Rattle.aqe_logical.specs.declared.plan.SortKey.{SortKey}
use Rattle.aqe_logical.specs.Answers.{Row, Tables, at_most_rows}
use Rattle.aqe_logical.specs.Groups.{row_of, finish_rows}
use Rattle.aqe_logical.specs.Order.{before}
use Rattle.aqe_places.specs.Places.{by_range, exchanged}
use Rattle.aqe_logical.specs.Order.{key_of}
use Rattle.aqe_places.specs.Sorting.{stable_sort}
use Rattle.aqe_places.specs.Samples.{bounds}
use Rattle.aqe_partial.specs.PartialRows.{joined_parts, partial_rows}
use Rattle.aqe_rects.specs.Rectangles.{plain_rects}
use Rattle.aqe_physical.specs.declared.target.Target.{Target}
use Rattle.aqe_physical.specs.declared.target.Target.TheVariants.{Hash, Range, Single, Broadcast}
use Rattle.aqe_physical.specs.declared.plan.Plan.{Plan, OneRow, Scan, Nothing, Read, ReadBroadcast}
use Rattle.aqe_physical.specs.Shapes.{kept, mapped, moved, matched, grouped, finished, ordered, cut_locally, cut_globally, both_of}
use Rattle.aqe_physical.specs.Counts.{part_count, target_count}
use Rattle.aqe_physical.proofs.Nodes.{Each, each, each_weaker, all_nodes}
use Rattle.aqe_stages.specs.Stages.{Stage, Given, Output, output_of}
use Rattle.aqe_stages.specs.Cells.{rect_rows, all_rows}
use Rattle.aqe_stages.specs.Places.{place, key_less, sample_of, samples, exchanged_parts}
use Rattle.aqe_stages.specs.Parts.{parts, output, given_by, joined_sides, join_rows}
use Rattle.aqe_stages.specs.Reads.{SampleBelow, ReadsBelowAt}
use Rattle.aqe_stages.specs.Making.{Made, shuffled, broadcasted, sampled, in_kept, in_mapped, in_moved, in_left, in_right, in_grouped, in_finished, in_ordered, in_cut_locally, in_cut_globally, in_first, in_second, shuffle, broadcast, sampling, plain_read, IsShuffle}
use Rattle.aqe_stages.specs.Laws.{MadeStagesKeepParts, MadeStagesReadBelow}
use Rattle.aqe_stages.proofs.Counted.{counted}
use Rattle.aqe_stages.proofs.Later.{with_stage, given_count, given_one_more, same_in_front, exchanged_same, parts_same}
use Rattle.aqe_stages.proofs.ReadBack.{read_back, all_kept}

-- the new stage holds what it makes over those before it
newest : (tables : Tables) (given : Given) (number : StageId) (stage : Stage) → number.0 ≡ length given → output_of (with_stage tables given stage) number.0 ≡ output tables given stage
newest tables given number stage e = get_or_push given (output tables given stage) [] number.0 (sym e)

-- an exchange that is no broadcast places each row
as_placed : (given : Given) (to : Target) (ps : List (List Row)) → IsShuffle to → exchanged_parts given to ps ≡ exchanged (place given to ps) (target_count to) (joined_parts ps)
as_placed given (Hash keys n) ps is = refl
as_placed given (Range keys n sample) ps is = refl
as_placed given Single ps is = refl
as_placed given Broadcast ps is = absurd is

shuffled_reads : (tables : Tables) (given : Given) (number : StageId) (to : Target) (child : Plan) → number.0 ≡ length given → IsShuffle to →
    parts tables (with_stage tables given (shuffle to child)) (plain_read number to child) ≡ parts tables given (moved to child)
shuffled_reads tables given number to child e is =
    ap (λ (o : Output). map (rect_rows o) (plain_rects (part_count child) (target_count to))) (newest tables given number (shuffle to child) e) ∙
    (ap (λ (m : ℕ). map (rect_rows (output tables given (shuffle to child))) (plain_rects m (target_count to))) (sym (counted tables given child)) ∙
    (read_back (place given to (parts tables given child)) (target_count to) (parts tables given child) ∙
    sym (as_placed given to (parts tables given child) is)))

broadcasted_reads : (tables : Tables) (given : Given) (number : StageId) (child : Plan) → number.0 ≡ length given →
    parts tables (with_stage tables given (broadcast child)) (ReadBroadcast number) ≡ parts tables given (moved Broadcast child)
broadcasted_reads tables given number child e =
    ap (λ (o : Output). all_rows o ∷ []) (newest tables given number (broadcast child) e) ∙
    ap (λ (rows : List Row). rows ∷ []) (all_kept (λ part. part) (parts tables given child))

sampled_ranges : (tables : Tables) (given : Given) (number : StageId) (keys : List SortKey) (n : ℕ) (child : Plan) → number.0 ≡ length given →
    parts tables (with_stage tables given (sampling keys child)) child ≡ parts tables given child →
    parts tables (with_stage tables given (sampling keys child)) (moved (Range keys n (Some number)) child) ≡ parts tables given (moved (Range keys n None) child)
sampled_ranges tables given number keys n child e same =
    let held : all_rows (output_of (with_stage tables given (sampling keys child)) number.0) ≡ samples given keys None (parts tables given child) =
    ap all_rows (newest tables given number (sampling keys child) e) ∙ all_kept (sample_of keys) (parts tables given child) in
    (λ i. exchanged (by_range (key_less keys) (bounds (key_less keys) n (held i)) (key_of keys)) n (joined_parts (same i)))

abbrev Below : Given → Plan → Type 0
Below given plan = Each (ReadsBelowAt (length given)) plan

beside : (tables : Tables) (given : Given) (stage : Stage) (plan : Plan) → Below given plan → parts tables (with_stage tables given stage) plan ≡ parts tables given plan
beside tables given stage plan below =
    parts_same tables (length given) (with_stage tables given stage) given plan below (same_in_front given (output tables given stage ∷ []))

made : (tables : Tables) (given : Given) (number : StageId) (before after : Plan) (stage : Stage) → number.0 ≡ length given → Below given before → Made number before stage after →
    parts tables (with_stage tables given stage) after ≡ parts tables given before
made tables given number _ _ _ e below (shuffled to child is) = shuffled_reads tables given number to child e is
made tables given number _ _ _ e below (broadcasted child) = broadcasted_reads tables given number child e
made tables given number _ _ _ e below (sampled keys n child) = sampled_ranges tables given number keys n child e (beside tables given (sampling keys child) child below.1)
made tables given number _ _ stage e below (in_kept cond p q _ m) = ap (map (filter (holds cond))) (made tables given number p q stage e below.1 m)
made tables given number _ _ stage e below (in_mapped items p q _ m) = ap (map (map (row_of items))) (made tables given number p q stage e below.1 m)
made tables given number _ _ stage e below (in_moved to p q _ m) =
    ap (exchanged_parts (with_stage tables given stage) to) (made tables given number p q stage e below.1 m) ∙
    exchanged_same (length given) (with_stage tables given stage) given to (parts tables given p) below.0 (same_in_front given (output tables given stage ∷ []))
made tables given number _ _ stage e below (in_left y kind keys v w p q other _ m) =
    (λ i. joined_sides y (join_rows y kind keys v w) (made tables given number p q stage e below.1 m i) (beside tables given stage other below.2 i))
made tables given number _ _ stage e below (in_right y kind keys v w other p q _ m) =
    (λ i. joined_sides y (join_rows y kind keys v w) (beside tables given stage other below.1 i) (made tables given number p q stage e below.2 m i))
made tables given number _ _ stage e below (in_grouped keys calls p q _ m) = ap (map (partial_rows (length keys) (row_of keys) calls)) (made tables given number p q stage e below.1 m)
made tables given number _ _ stage e below (in_finished keys calls p q _ m) = ap (map (finish_rows keys calls)) (made tables given number p q stage e below.1 m)
made tables given number _ _ stage e below (in_ordered keys p q _ m) = ap (map (stable_sort (before keys))) (made tables given number p q stage e below.1 m)
made tables given number _ _ stage e below (in_cut_locally count p q _ m) = ap (map (take count)) (made tables given number p q stage e below.1 m)
made tables given number _ _ stage e below (in_cut_globally count skip p q _ m) = ap (map (λ part. at_most_rows count (drop skip part))) (made tables given number p q stage e below.1 m)
made tables given number _ _ stage e below (in_first p q other _ m) =
    (λ i. made tables given number p q stage e below.1 m i ++ beside tables given stage other below.2 i)
made tables given number _ _ stage e below (in_second other p q _ m) =
    (λ i. beside tables given stage other below.1 i ++ made tables given number p q stage e below.2 m i)

pub made_keeps : MadeStagesKeepParts
made_keeps tables stages number before after stage e below m =
    let count = given_count tables stages in
    let walk : Each (ReadsBelowAt (length stages)) before = each (ReadsBelowAt (length stages)) before below in
    ap (λ (g : Given). parts tables g after) (given_one_more tables stages stage) ∙
    made tables (given_by tables stages) number before after stage (e ∙ sym count) (subst (λ (n : ℕ). Each (ReadsBelowAt n) before) (sym count) walk) m

-- what reads below a number reads below a greater one
sample_up : (n k : ℕ) → n ≤ k → (to : Target) → SampleBelow n to → SampleBelow k to
sample_up n k le (Hash keys count) h = h
sample_up n k le (Range keys count None) h = h
sample_up n k le (Range keys count (Some stage)) h = omega (arith, le, h)
sample_up n k le Single h = h
sample_up n k le Broadcast h = h

node_up : (n k : ℕ) → n ≤ k → (plan : Plan) → ReadsBelowAt n plan → ReadsBelowAt k plan
node_up n k le OneRow h = h
node_up n k le (Scan table files) h = h
node_up n k le (Nothing count width) h = h
node_up n k le (Read stage maps reducers rects) h = omega (arith, le, h)
node_up n k le (ReadBroadcast stage) h = omega (arith, le, h)
node_up n k le (kept cond child) h = h
node_up n k le (mapped items child) h = h
node_up n k le (moved target child) h = sample_up n k le target h
node_up n k le (matched y kind keys v w left right) h = h
node_up n k le (grouped keys calls child) h = h
node_up n k le (finished keys calls child) h = h
node_up n k le (ordered keys child) h = h
node_up n k le (cut_locally count child) h = h
node_up n k le (cut_globally count skip child) h = h
node_up n k le (both_of left right) h = h

up : (n k : ℕ) → n ≤ k → (plan : Plan) → Each (ReadsBelowAt n) plan → Each (ReadsBelowAt k) plan
up n k le plan h = each_weaker (ReadsBelowAt n) (ReadsBelowAt k) (λ node. node_up n k le node) plan h

still : (number : StageId) (n k : ℕ) (before after : Plan) (stage : Stage) → number.0 < k → n ≤ k → Each (ReadsBelowAt n) before → Made number before stage after → Each (ReadsBelowAt k) after
still number n k _ _ _ lt le h (shuffled to child is) = lt
still number n k _ _ _ lt le h (broadcasted child) = lt
still number n k _ _ _ lt le h (sampled keys count child) = (lt, up n k le child h.1)
still number n k _ _ stage lt le h (in_kept cond p q _ m) = (tt, still number n k p q stage lt le h.1 m)
still number n k _ _ stage lt le h (in_mapped items p q _ m) = (tt, still number n k p q stage lt le h.1 m)
still number n k _ _ stage lt le h (in_moved to p q _ m) = (sample_up n k le to h.0, still number n k p q stage lt le h.1 m)
still number n k _ _ stage lt le h (in_left y kind keys v w p q other _ m) = (tt, still number n k p q stage lt le h.1 m, up n k le other h.2)
still number n k _ _ stage lt le h (in_right y kind keys v w other p q _ m) = (tt, up n k le other h.1, still number n k p q stage lt le h.2 m)
still number n k _ _ stage lt le h (in_grouped keys calls p q _ m) = (tt, still number n k p q stage lt le h.1 m)
still number n k _ _ stage lt le h (in_finished keys calls p q _ m) = (tt, still number n k p q stage lt le h.1 m)
still number n k _ _ stage lt le h (in_ordered keys p q _ m) = (tt, still number n k p q stage lt le h.1 m)
still number n k _ _ stage lt le h (in_cut_locally count p q _ m) = (tt, still number n k p q stage lt le h.1 m)
still number n k _ _ stage lt le h (in_cut_globally count skip p q _ m) = (tt, still number n k p q stage lt le h.1 m)
still number n k _ _ stage lt le h (in_first p q other _ m) = (tt, still number n k p q stage lt le h.1 m, up n k le other h.2)
still number n k _ _ stage lt le h (in_second other p q _ m) = (tt, up n k le other h.1, still number n k p q stage lt le h.2 m)

pub made_reads_below : MadeStagesReadBelow
made_reads_below stages number before after stage e below m =
    let count = length-append stages (stage ∷ []) in
    all_nodes (ReadsBelowAt (length (stages ++ stage ∷ []))) after
    (still number (length stages) (length (stages ++ stage ∷ [])) before after stage (omega (arith, count, e)) (omega (arith, count)) (each (ReadsBelowAt (length stages)) before below) m)
