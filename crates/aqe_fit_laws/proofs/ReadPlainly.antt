-- The plain read of a shuffle stage.
use Rattle.std.proofs.Common.{◌≡◌, ℕ, zero, suc, ◌<◌, ◌≤◌, List, [], ◌∷◌, ◌++◌, map, length, refl, ap, sym, ◌∙◌, arith, append_assoc, append-nil, subst, length-append}
use Rattle.std.specs.Prelude.{IsPermutation}
use Rattle.std.proofs.lemmas.List.{get_or_push}
use Rattle.std.proofs.lemmas.List.FromFn.{length-map-range_with_len}
use Rattle.std.proofs.lemmas.List.Sorted.{IsPermutation-trans, IsPermutation-sym}
use Rattle.aqe_base.specs.declared.cells.Rect.{Rect}
use Rattle.aqe_base.specs.declared.stage_id.StageId.{StageId}
use Rattle.aqe_rects.specs.Rectangles.{plain_rects}
use Rattle.aqe_expr.specs.declared.expr.Expr.{Expr}
use Rattle.aqe_logical.specs.declared.plan.Placement.{Placement}
use Rattle.aqe_logical.specs.declared.plan.Placement.TheVariants as place
use Rattle.aqe_logical.specs.Answers.{Row, Tables, InItsOrder}
use Rattle.aqe_logical.specs.Order.{ways_of, key_of}
use Rattle.aqe_logical.proofs.Rearranged.{flat_map-each}
use Rattle.aqe_partial.specs.PartialRows.{joined_parts}
use Rattle.aqe_places.specs.Places.{by_hash, by_range, single, exchanged, part_of}
use Rattle.aqe_places.specs.Samples.{bounds}
use Rattle.aqe_places.specs.Laws.{PartsInOrder}
use Rattle.aqe_places.proofs.Exchanged.{keep_the_rows, place_the_rows, are_parts, are_hash_parts}
use Rattle.aqe_places.proofs.Bounds.{fewer, one_part}
use Rattle.aqe_places.proofs.Ordered.{key_rows_order, by_key_rows}
use Rattle.aqe_places.proofs.Ranges.{ranges_in_order}
use Rattle.aqe_physical.specs.declared.target.Target.{Target}
use Rattle.aqe_physical.specs.declared.target.Target.TheVariants as target
use Rattle.aqe_physical.specs.declared.target.StageKind.{StageKind}
use Rattle.aqe_physical.specs.declared.target.StageKind.TheVariants as kind
use Rattle.aqe_physical.specs.declared.plan.Plan as plan
use Rattle.aqe_physical.specs.Counts.{part_count, target_count}
use Rattle.aqe_stages.specs.Stages.{Stage, Stages, Given, output_of}
use Rattle.aqe_stages.specs.Cells.{rect_rows, all_rows}
use Rattle.aqe_stages.specs.Places.{place as placed, key_less, samples, cells_of}
use Rattle.aqe_stages.specs.Parts.{parts, output, given_by}
use Rattle.aqe_stages.specs.Runnable.{OfStage}
use Rattle.aqe_stages.proofs.Counted.{counted}
use Rattle.aqe_stages.proofs.Later.{given_count, given_one_more, cells_stay}
use Rattle.aqe_stages.proofs.ReadBack.{read_back}
use Rattle.aqe_fitting.specs.Placing.{place_of}
use Rattle.aqe_fit_laws.specs.Standing.{Stands, plainly}
use Rattle.aqe_fit_laws.specs.Leaves.{HasParts, GivesPlace}
use Rattle.aqe_fit_laws.proofs.Together.{flat_map_map}

-- what is said of a stage
pub of_both : (stages : Stages) (n : ℕ) (P Q : Stage → Type 0) → OfStage stages n P → OfStage stages n Q → OfStage stages n (λ stage. P stage × Q stage)
of_both [] n P Q h k = h
of_both (stage ∷ stages) zero P Q h k = (h, k)
of_both (stage ∷ stages) (suc n) P Q h k = of_both stages n P Q h k

pub of_weaker : (stages : Stages) (n : ℕ) (P Q : Stage → Type 0) → ((stage : Stage) → P stage → Q stage) → OfStage stages n P → OfStage stages n Q
of_weaker [] n P Q to h = h
of_weaker (stage ∷ stages) zero P Q to h = to stage h
of_weaker (stage ∷ stages) (suc n) P Q to h = of_weaker stages n P Q to h

abbrev StandsAt : Stages → ℕ → (Stage → Type 0) → Type 0
StandsAt stages n P = (front : Stages) × (stage : Stage) × (back : Stages) × (stages ≡ front ++ stage ∷ back) × (length front ≡ n) × P stage

found : (stages : Stages) (n : ℕ) (P : Stage → Type 0) → OfStage stages n P → StandsAt stages n P
found [] n P h = absurd h
found (stage ∷ stages) zero P h = ([], stage, stages, refl, refl, h)
found (stage ∷ stages) (suc n) P h =
    let rest = found stages n P h in
    (stage ∷ rest.0, rest.1, rest.2, ap (λ (ss : Stages). stage ∷ ss) rest.3, ap suc rest.4, rest.5)

-- a stage holds what it makes over those before it
holds_its_output : (tables : Tables) (front back : Stages) (stage : Stage) → output_of (given_by tables (front ++ stage ∷ back)) (length front) ≡ output tables (given_by tables front) stage
holds_its_output tables front back stage =
    let one = length-append front (stage ∷ []) in
    ap (λ (stages : Stages). output_of (given_by tables stages) (length front)) (sym (append_assoc front (stage ∷ []) back)) ∙
    (cells_stay tables (front ++ stage ∷ []) back (length front) (omega (arith, one)) ∙
    (ap (λ (given : Given). output_of given (length front)) (given_one_more tables front stage) ∙
    get_or_push (given_by tables front) (output tables (given_by tables front) stage) [] (length front) (given_count tables front)))

-- What a shuffle stage holds: its body's parts, each exchanged.
pub record Shuffled (tables : Tables) (stages : Stages) (number : ℕ) (to : Target) (maps : ℕ) : Type 0 where
  pub before : Given
  pub bodies : List (List Row)
  pub is : output_of (given_by tables stages) number ≡ map (exchanged (placed before to bodies) (target_count to)) bodies
  pub count : length bodies ≡ maps

abbrev pub IsShuffleOf : Target → ℕ → Stage → Type 0
IsShuffleOf to maps stage = (stage.kind ≡ kind.Shuffle to) × (maps ≡ part_count stage.body)

pub shuffled : (tables : Tables) (stages : Stages) (number : ℕ) (to : Target) (maps : ℕ) → OfStage stages number (IsShuffleOf to maps) → Shuffled tables stages number to maps
shuffled tables stages number to maps h = at (found stages number (IsShuffleOf to maps) h)
  where
    at : StandsAt stages number (IsShuffleOf to maps) → Shuffled tables stages number to maps
    at (front, stage, back, whole, place, is) =
        let given : Given = given_by tables front in
        let bodies : List (List Row) = parts tables given stage.body in
        record {
          before = given;
          bodies = bodies;
          is = (λ i. output_of (given_by tables (whole i)) (sym place i)) ∙
              (holds_its_output tables front back stage ∙
              ap (λ (k : StageKind). map (cells_of given k bodies) bodies) is.0);
          count = counted tables given stage.body ∙ sym is.1;
        }

module _ (before : Given) (bodies : List (List Row)) (n : ℕ) (some : 1 ≤ n) where
  -- each row has a place that is that of a part
  pub below : (to : Target) → HasParts n to → (row : Row) → placed before to bodies row < target_count to
  below (target.Hash keys count) h row = are_hash_parts count keys row (omega (arith, h, some))
  below (target.Range keys count sample) h row =
      are_parts (key_less keys) (bounds (key_less keys) count (samples before keys sample bodies)) (key_of keys) count row (fewer (key_less keys) count (samples before keys sample bodies) h)
  below target.Single h row = omega arith
  below target.Broadcast h row = absurd h

  stands_by_hash : (keys : List Expr) (count : ℕ) → count ≡ n → (rows : List Row) → Stands n (plainly n) (place.Hash keys) (exchanged (by_hash count keys) count rows)
  stands_by_hash keys count e rows =
      subst (λ (m : ℕ). Stands n (plainly n) (place.Hash keys) (exchanged (by_hash m keys) m rows)) (sym e)
      (length-map-range_with_len (part_of (by_hash n keys) rows) 0 n, place_the_rows (by_hash n keys) n rows)

  -- the parts of an exchange stand as its target says
  pub stands_as : (to : Target) → HasParts n to → (rows : List Row) → Stands n (plainly n) (place_of to) (exchanged (placed before to bodies) (target_count to) rows)
  stands_as (target.Hash keys count) h rows = stands_by_hash keys count h rows
  stands_as (target.Range keys count sample) h rows =
      let ends : List Row = bounds (key_less keys) count (samples before keys sample bodies) in (
        subst (λ (less : Row → Row → _). PartsInOrder less (exchanged (by_range (key_less keys) ends (key_of keys)) count rows)) (by_key_rows keys)
            (ranges_in_order (key_less keys) (key_rows_order (ways_of keys)) ends (key_of keys) count rows),
        ends,
        place_the_rows (by_range (key_less keys) ends (key_of keys)) count rows,
      )
  stands_as target.Single h rows = refl
  stands_as target.Broadcast h rows = absurd h

  pub held_stands : (to : Target) (w : Placement) → GivesPlace n to w → (rows : List Row) → Stands n (plainly n) w (exchanged (placed before to bodies) (target_count to) rows)
  held_stands to place.Any h rows = tt
  held_stands to place.Single (h, e) rows = subst (λ (w : Placement). Stands n (plainly n) w (exchanged (placed before to bodies) (target_count to) rows)) e (stands_as to h rows)
  held_stands to (place.Hash keys) (h, e) rows = subst (λ (w : Placement). Stands n (plainly n) w (exchanged (placed before to bodies) (target_count to) rows)) e (stands_as to h rows)
  held_stands to (place.Range keys) (h, e) rows = subst (λ (w : Placement). Stands n (plainly n) w (exchanged (placed before to bodies) (target_count to) rows)) e (stands_as to h rows)
  held_stands to place.Broadcast (h, e) rows = tt

  pub has_parts : (to : Target) (w : Placement) → GivesPlace n to w → HasParts n to
  has_parts to place.Any h = h
  has_parts to place.Single (h, e) = h
  has_parts to (place.Hash keys) (h, e) = h
  has_parts to (place.Range keys) (h, e) = h
  has_parts to place.Broadcast (h, e) = h

  -- the rows of all cells are those of the bodies
  pub cells_have_the_rows : (to : Target) → HasParts n to → IsPermutation (joined_parts bodies) (all_rows (map (exchanged (placed before to bodies) (target_count to)) bodies))
  cells_have_the_rows to h =
      subst (λ (rows : List Row). IsPermutation (joined_parts bodies) rows) (sym (flat_map_map joined_parts (exchanged (placed before to bodies) (target_count to)) bodies))
      (flat_map-each (λ (part : List Row). part) (λ part. joined_parts (exchanged (placed before to bodies) (target_count to) part))
      (λ part. keep_the_rows (placed before to bodies) (target_count to) part (below to h)) bodies)

  pub reads_the_rows : (to : Target) → HasParts n to → IsPermutation (all_rows (map (exchanged (placed before to bodies) (target_count to)) bodies)) (joined_parts (exchanged (placed before to bodies) (target_count to) (joined_parts bodies)))
  reads_the_rows to h =
      IsPermutation-trans (all_rows (map (exchanged (placed before to bodies) (target_count to)) bodies)) (joined_parts bodies) (joined_parts (exchanged (placed before to bodies) (target_count to) (joined_parts bodies)))
      (IsPermutation-sym (joined_parts bodies) (all_rows (map (exchanged (placed before to bodies) (target_count to)) bodies)) (cells_have_the_rows to h))
      (keep_the_rows (placed before to bodies) (target_count to) (joined_parts bodies) (below to h))

  -- in one part they stay in their order
  whole_cells : (ps : List (List Row)) → all_rows (map (exchanged single 1) ps) ≡ joined_parts ps
  whole_cells [] = refl
  whole_cells (part ∷ ps) = (λ i. joined_parts (one_part part i) ++ whole_cells ps i) ∙ ap (λ rows. rows ++ joined_parts ps) (append-nil part)

  single_order : joined_parts (exchanged single 1 (joined_parts bodies)) ≡ all_rows (map (exchanged single 1) bodies)
  single_order = ap joined_parts (one_part (joined_parts bodies)) ∙ (append-nil (joined_parts bodies) ∙ sym (whole_cells bodies))

  order_as : (to : Target) → HasParts n to → InItsOrder (place_of to) (all_rows (map (exchanged (placed before to bodies) (target_count to)) bodies)) (joined_parts (exchanged (placed before to bodies) (target_count to) (joined_parts bodies)))
  order_as (target.Hash keys count) h = tt
  order_as (target.Range keys count sample) h = tt
  order_as target.Single h = single_order
  order_as target.Broadcast h = absurd h

  pub held_order : (to : Target) (w : Placement) → GivesPlace n to w → InItsOrder w (all_rows (map (exchanged (placed before to bodies) (target_count to)) bodies)) (joined_parts (exchanged (placed before to bodies) (target_count to) (joined_parts bodies)))
  held_order to place.Any h = tt
  held_order to place.Single (h, e) = subst (λ (w : Placement). InItsOrder w (all_rows (map (exchanged (placed before to bodies) (target_count to)) bodies)) (joined_parts (exchanged (placed before to bodies) (target_count to) (joined_parts bodies)))) e (order_as to h)
  held_order to (place.Hash keys) h = tt
  held_order to (place.Range keys) h = tt
  held_order to place.Broadcast h = tt

-- the plain read of a stage has the parts of the exchange
pub plainly_read : (tables : Tables) (stages : Stages) (stage : StageId) (to : Target) (maps reducers : ℕ) (rects : List Rect) → (s : Shuffled tables stages stage.0 to maps) →
    reducers ≡ target_count to → rects ≡ plain_rects maps reducers →
    parts tables (given_by tables stages) (plan.Read stage maps reducers rects) ≡ exchanged (placed s.before to s.bodies) (target_count to) (joined_parts s.bodies)
plainly_read tables stages stage to maps reducers rects s as_many plain =
    (λ i. map (rect_rows (s.is i)) ((plain ∙ (λ j. plain_rects (sym s.count j) (as_many j))) i)) ∙
    read_back (placed s.before to s.bodies) (target_count to) s.bodies
