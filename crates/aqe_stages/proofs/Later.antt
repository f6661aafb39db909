-- What stages hold does not change when others are made later.
use Rattle.std.proofs.Common.{◌≡◌, ℕ, ◌+◌, ◌<◌, List, [], ◌∷◌, ◌++◌, map, length, filter, take, drop, Option, Some, None, refl, ap, sym, ◌∙◌, arith, append_assoc, append-nil, length-append}
use Rattle.std.specs.Prelude.{fold}
use Rattle.std.proofs.lemmas.List.{get_or_append_left}
use Rattle.std.proofs.lemmas.List.Sums.{fold-append}
use Rattle.aqe_base.specs.declared.stage_id.StageId.{StageId}
use Rattle.aqe_expr.specs.Meaning.{holds}
use Rattle.aqe_logical.specs.declared.plan.SortKey.{SortKey}
use Rattle.aqe_logical.specs.Answers.{Row, Tables, at_most_rows}
use Rattle.aqe_logical.specs.Groups.{row_of, finish_rows}
use Rattle.aqe_logical.specs.Order.{before}
use Rattle.aqe_places.specs.Places.{by_range, exchanged}
use Rattle.aqe_logical.specs.Order.{key_of}
use Rattle.aqe_places.specs.Sorting.{stable_sort}
use Rattle.aqe_places.specs.Samples.{bounds}
use Rattle.aqe_partial.specs.PartialRows.{joined_parts, partial_rows}
use Rattle.aqe_physical.specs.declared.target.Target.{Target}
use Rattle.aqe_physical.specs.declared.target.Target.TheVariants.{Hash, Range, Single, Broadcast}
use Rattle.aqe_physical.specs.declared.plan.Plan.{Plan, OneRow, Scan, Nothing, Read, ReadBroadcast}
use Rattle.aqe_physical.specs.Shapes.{kept, mapped, moved, matched, grouped, finished, ordered, cut_locally, cut_globally, both_of}
use Rattle.aqe_physical.proofs.Nodes.{Each, each}
use Rattle.aqe_stages.specs.Stages.{Stage, Stages, Given, Output, output_of}
use Rattle.aqe_stages.specs.Cells.{rect_rows, all_rows}
use Rattle.aqe_stages.specs.Places.{place, key_less, samples, exchanged_parts}
use Rattle.aqe_stages.specs.Parts.{parts, output, given_by, joined_sides, join_rows}
use Rattle.aqe_stages.specs.Reads.{SampleBelow, ReadsBelowAt}
use Rattle.aqe_stages.specs.Laws.{LaterStagesKeepCells, LaterStagesKeepParts}

-- what stages hold, with one stage more
abbrev pub with_stage : Tables → Given → Stage → Given
with_stage tables given stage = given ++ output tables given stage ∷ []

-- stages made later add to what is held
grown : (tables : Tables) (given : Given) (more : Stages) → (rest : Given) × (fold (with_stage tables) given more ≡ given ++ rest)
grown tables given [] = ([], sym (append-nil given))
grown tables given (stage ∷ more) =
    let later = grown tables (with_stage tables given stage) more in
    (output tables given stage ∷ later.0, later.1 ∙ append_assoc given (output tables given stage ∷ []) later.0)

-- each stage adds one output
made_count : (tables : Tables) (given : Given) (more : Stages) → length (fold (with_stage tables) given more) ≡ length given + length more
made_count tables given [] = omega arith
made_count tables given (stage ∷ more) =
    let later = made_count tables (with_stage tables given stage) more in
    let one = length-append given (output tables given stage ∷ []) in
    omega (arith, later, one)

pub given_count : (tables : Tables) (stages : Stages) → length (given_by tables stages) ≡ length stages
given_count tables stages = let all = made_count tables [] stages in omega (arith, all)

pub given_more : (tables : Tables) (stages more : Stages) → (rest : Given) × (given_by tables (stages ++ more) ≡ given_by tables stages ++ rest)
given_more tables stages more =
    let later = grown tables (given_by tables stages) more in
    (later.0, fold-append (with_stage tables) [] stages more ∙ later.1)

pub given_one_more : (tables : Tables) (stages : Stages) (stage : Stage) → given_by tables (stages ++ stage ∷ []) ≡ with_stage tables (given_by tables stages) stage
given_one_more tables stages stage = fold-append (with_stage tables) [] stages (stage ∷ [])

-- two lists of outputs have the same below a number
abbrev pub SameBelow : ℕ → Given → Given → Type 0
SameBelow n given other = (s : ℕ) → s < n → output_of given s ≡ output_of other s

pub same_in_front : (given rest : Given) → SameBelow (length given) (given ++ rest) given
same_in_front given rest s lt = get_or_append_left given rest [] s lt

samples_same : (n : ℕ) (given other : Given) (keys : List SortKey) (count : ℕ) (sample : Option StageId) (ps : List (List Row)) →
    SampleBelow n (Range keys count sample) → SameBelow n given other → samples given keys sample ps ≡ samples other keys sample ps
samples_same n given other keys count None ps below same = refl
samples_same n given other keys count (Some stage) ps below same = ap all_rows (same stage.0 below)

pub place_same : (n : ℕ) (given other : Given) (target : Target) (ps : List (List Row)) → SampleBelow n target → SameBelow n given other → place given target ps ≡ place other target ps
place_same n given other (Hash keys count) ps below same = refl
place_same n given other (Range keys count sample) ps below same =
    ap (λ (rows : List Row). by_range (key_less keys) (bounds (key_less keys) count rows) (key_of keys)) (samples_same n given other keys count sample ps below same)
place_same n given other Single ps below same = refl
place_same n given other Broadcast ps below same = refl

pub exchanged_same : (n : ℕ) (given other : Given) (target : Target) (ps : List (List Row)) → SampleBelow n target → SameBelow n given other → exchanged_parts given target ps ≡ exchanged_parts other target ps
exchanged_same n given other (Hash keys count) ps below same = refl
exchanged_same n given other (Range keys count sample) ps below same =
    ap (λ (f : Row → ℕ). exchanged f count (joined_parts ps)) (place_same n given other (Range keys count sample) ps below same)
exchanged_same n given other Single ps below same = refl
exchanged_same n given other Broadcast ps below same = refl

pub parts_same : (tables : Tables) (n : ℕ) (given other : Given) (plan : Plan) → Each (ReadsBelowAt n) plan → SameBelow n given other → parts tables given plan ≡ parts tables other plan
parts_same tables n given other OneRow below same = refl
parts_same tables n given other (Scan table files) below same = refl
parts_same tables n given other (Nothing count width) below same = refl
parts_same tables n given other (Read stage maps reducers rects) below same = ap (λ (o : Output). map (rect_rows o) rects) (same stage.0 below)
parts_same tables n given other (ReadBroadcast stage) below same = ap (λ (o : Output). all_rows o ∷ []) (same stage.0 below)
parts_same tables n given other (kept cond child) below same = ap (map (filter (holds cond))) (parts_same tables n given other child below.1 same)
parts_same tables n given other (mapped items child) below same = ap (map (map (row_of items))) (parts_same tables n given other child below.1 same)
parts_same tables n given other (moved target child) below same =
    ap (exchanged_parts given target) (parts_same tables n given other child below.1 same) ∙ exchanged_same n given other target (parts tables other child) below.0 same
parts_same tables n given other (matched y kind keys v w left right) below same =
    (λ i. joined_sides y (join_rows y kind keys v w) (parts_same tables n given other left below.1 same i) (parts_same tables n given other right below.2 same i))
parts_same tables n given other (grouped keys calls child) below same = ap (map (partial_rows (length keys) (row_of keys) calls)) (parts_same tables n given other child below.1 same)
parts_same tables n given other (finished keys calls child) below same = ap (map (finish_rows keys calls)) (parts_same tables n given other child below.1 same)
parts_same tables n given other (ordered keys child) below same = ap (map (stable_sort (before keys))) (parts_same tables n given other child below.1 same)
parts_same tables n given other (cut_locally count child) below same = ap (map (take count)) (parts_same tables n given other child below.1 same)
parts_same tables n given other (cut_globally count skip child) below same = ap (map (λ part. at_most_rows count (drop skip part))) (parts_same tables n given other child below.1 same)
parts_same tables n given other (both_of left right) below same =
    (λ i. parts_same tables n given other left below.1 same i ++ parts_same tables n given other right below.2 same i)

same_before : (tables : Tables) (stages more : Stages) → SameBelow (length stages) (given_by tables (stages ++ more)) (given_by tables stages)
same_before tables stages more s lt =
    let later = given_more tables stages more in
    let count = given_count tables stages in
    ap (λ (g : Given). output_of g s) later.1 ∙ same_in_front (given_by tables stages) later.0 s (omega (arith, count, lt))

pub cells_stay : LaterStagesKeepCells
cells_stay tables stages more stage lt = same_before tables stages more stage lt

pub parts_stay : LaterStagesKeepParts
parts_stay tables stages more plan below =
    parts_same tables (length stages) (given_by tables (stages ++ more)) (given_by tables stages) plan (each (ReadsBelowAt (length stages)) plan below) (same_before tables stages more)
