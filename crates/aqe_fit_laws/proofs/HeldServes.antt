-- Plain reads of stages serve the leaves that these hold.
use Rattle.std.proofs.Common.{◌≡◌, ℕ, zero, suc, ◌+◌, ◌-◌, ◌≤◌, List, [], ◌∷◌, map, length, refl, ap, sym, ◌∙◌, arith, append-nil, subst}
use Rattle.std.specs.Prelude.{All, IsPermutation}
use Rattle.std.proofs.lemmas.List.Sorted.{IsPermutation-refl, IsPermutation-trans, IsPermutation-sym, All-permutation}
use Rattle.aqe_base.specs.declared.stage_id.StageId.{StageId}
use Rattle.aqe_base.specs.declared.cells.Rect.{Rect}
use Rattle.aqe_rects.specs.Rectangles.{LiesWithin, plain_rects}
use Rattle.aqe_values.specs.declared.schema.Field.{Field}
use Rattle.aqe_values.specs.Murmur.{hash_place}
use Rattle.aqe_expr.specs.declared.expr.Expr.{Expr}
use Rattle.aqe_logical.specs.declared.plan.AggCall.{AggCall}
use Rattle.aqe_logical.specs.declared.plan.Placement.{Placement}
use Rattle.aqe_logical.specs.declared.plan.Placement.TheVariants as place
use Rattle.aqe_logical.specs.declared.plan.Logical as logical
use Rattle.aqe_logical.specs.declared.plan.Logical.{Logical}
use Rattle.aqe_logical.specs.Answers.{Row, Tables, Answer, InItsOrder}
use Rattle.aqe_logical.specs.Groups.{finish_rows}
use Rattle.aqe_logical.specs.WellFormed.{HaveWidth}
use Rattle.aqe_partial.specs.PartialRows.{joined_parts}
use Rattle.aqe_places.specs.Places.{by_hash, exchanged}
use Rattle.aqe_places.proofs.Exchanged.{are_hash_parts}
use Rattle.aqe_places.proofs.Bounds.{one_part}
use Rattle.aqe_physical.specs.declared.target.Target.{Target}
use Rattle.aqe_physical.specs.declared.target.Target.TheVariants as target
use Rattle.aqe_physical.specs.declared.target.StageKind.TheVariants as kind
use Rattle.aqe_physical.specs.declared.plan.Plan as plan
use Rattle.aqe_physical.specs.declared.plan.Plan.{Plan}
use Rattle.aqe_physical.specs.Shapes.{finished}
use Rattle.aqe_physical.specs.Counts.{part_count, target_count}
use Rattle.aqe_stages.specs.Stages.{Stages}
use Rattle.aqe_stages.specs.Cells.{all_rows}
use Rattle.aqe_stages.specs.Places.{place as placed}
use Rattle.aqe_stages.specs.Parts.{parts, given_by, all}
use Rattle.aqe_stages.specs.Runnable.{OfStage, reducers_of}
use Rattle.aqe_join_keys.specs.Keys.{columns_from}
use Rattle.aqe_fitting.specs.Placing.{place_of, groups_target}
use Rattle.aqe_fit_laws.specs.Standing.{Stands, plainly}
use Rattle.aqe_fit_laws.specs.Leaves.{held_rows, HasParts, GivesPlace, IsHeldAs, IsPlainRead}
use Rattle.aqe_fit_laws.specs.Laws.{PlainReadsServe}
use Rattle.aqe_fit_laws.specs.Serving.{KeysOver}
use Rattle.aqe_fit_laws.proofs.Together.{moved_finish, finish_permuted}
use Rattle.aqe_fit_laws.proofs.Respelled.{columns_of_front, columns_below}
use Rattle.aqe_fit_laws.proofs.GroupPlaces.{finished_stand}
use Rattle.aqe_fit_laws.proofs.ReadPlainly.{of_both, of_weaker, Shuffled, IsShuffleOf, shuffled, held_stands, has_parts, held_order, reads_the_rows, cells_have_the_rows, plainly_read}
use Rattle.aqe_fit_laws.proofs.Widths.{narrow, plain_lie}
use Rattle.aqe_fit_laws.proofs.NodeServes.{Fine, Served, narrow_answer}

-- a stage of which something is said by its target, whatever the target is
some_stage : (stages : Stages) (number : ℕ) (n : ℕ) (w : Placement) → OfStage stages number (IsHeldAs n w) → (to : Target) × GivesPlace n to w × OfStage stages number (λ stage. stage.kind ≡ kind.Shuffle to)
some_stage [] number n w h = absurd h
some_stage (stage ∷ stages) zero n w (to, is, gives) = (to, gives, is)
some_stage (stage ∷ stages) (suc number) n w h = some_stage stages number n w h

module _ (tables : Tables) (stages : Stages) (n : ℕ) (files : ℕ → ℕ) (some : 1 ≤ n) (stage : StageId) (maps reducers : ℕ) (rects : List Rect) (plain : IsPlainRead stages (plan.Read stage maps reducers rects)) where
  -- what a plain read of a stage that shuffles to a target has
  record ReadOf (to : Target) : Type 0 where
    pub held : Shuffled tables stages stage.0 to maps
    pub reads : parts tables (given_by tables stages) (plan.Read stage maps reducers rects) ≡ exchanged (placed held.before to held.bodies) (target_count to) (joined_parts held.bodies)

  same_reducers : (to : Target) → OfStage stages stage.0 (λ read. read.kind ≡ kind.Shuffle to) → reducers ≡ target_count to
  same_reducers to is = at stages stage.0 (of_both stages stage.0 (λ read. read.kind ≡ kind.Shuffle to) (λ read. (maps ≡ part_count read.body) × (reducers ≡ reducers_of read.kind)) is plain.0)
    where
      at : (ss : Stages) (number : ℕ) → OfStage ss number (λ read. (read.kind ≡ kind.Shuffle to) × ((maps ≡ part_count read.body) × (reducers ≡ reducers_of read.kind))) → reducers ≡ target_count to
      at [] number h = absurd h
      at (read ∷ ss) zero (k, e) = e.1 ∙ ap reducers_of k
      at (read ∷ ss) (suc number) h = at ss number h

  read_of : (to : Target) → OfStage stages stage.0 (λ read. read.kind ≡ kind.Shuffle to) → ReadOf to
  read_of to is =
      let s : Shuffled tables stages stage.0 to maps =
      shuffled tables stages stage.0 to maps
      (of_weaker stages stage.0 (λ read. (read.kind ≡ kind.Shuffle to) × ((maps ≡ part_count read.body) × (reducers ≡ reducers_of read.kind))) (IsShuffleOf to maps) (λ read h. (h.0, h.1.0))
      (of_both stages stage.0 (λ read. read.kind ≡ kind.Shuffle to) (λ read. (maps ≡ part_count read.body) × (reducers ≡ reducers_of read.kind)) is plain.0)) in
      record { held = s; reads = plainly_read tables stages stage to maps reducers rects s (same_reducers to is) plain.1 }

  -- the read's rectangles lie within the cells
  read_runs : OfStage stages stage.0 (λ read. All (LiesWithin (part_count read.body) (reducers_of read.kind)) rects)
  read_runs =
      of_weaker stages stage.0 (λ read. (maps ≡ part_count read.body) × (reducers ≡ reducers_of read.kind)) (λ read. All (LiesWithin (part_count read.body) (reducers_of read.kind)) rects)
      (λ read e. subst (λ (rs : List Rect). All (LiesWithin (part_count read.body) (reducers_of read.kind)) rs) (sym (plain.1 ∙ (λ i. plain_rects (e.0 i) (e.1 i)))) (plain_lie (part_count read.body) (reducers_of read.kind))) plain.0

  abbrev read : Plan
  read = plan.Read stage maps reducers rects

  abbrev held : List Row
  held = held_rows tables stages stage.0

  module _ (to : Target) (has : HasParts n to) (is : OfStage stages stage.0 (λ read. read.kind ≡ kind.Shuffle to)) where
    abbrev r : ReadOf to
    r = read_of to is

    abbrev bodies : List Row
    bodies = joined_parts r.held.bodies

    abbrev moved_bodies : List (List Row)
    moved_bodies = exchanged (placed r.held.before to r.held.bodies) (target_count to) bodies

    -- its rows, and those of the bodies, are those that the stage holds
    read_rows : IsPermutation held (all tables stages read)
    read_rows =
        subst (λ (ps : List (List Row)). IsPermutation held (joined_parts ps)) (sym r.reads)
        (subst (λ (rows : List Row). IsPermutation rows (joined_parts moved_bodies))
        (sym (ap all_rows r.held.is)) (reads_the_rows r.held.before r.held.bodies n some to has))

    body_rows : IsPermutation held bodies
    body_rows =
        subst (λ (rows : List Row). IsPermutation rows bodies) (sym (ap all_rows r.held.is))
        (IsPermutation-sym bodies (all_rows (map (exchanged (placed r.held.before to r.held.bodies) (target_count to)) r.held.bodies)) (cells_have_the_rows r.held.before r.held.bodies n some to has))

    read_order : (w : Placement) → GivesPlace n to w → InItsOrder w held (all tables stages read)
    read_order w gives =
        subst (λ (ps : List (List Row)). InItsOrder w held (joined_parts ps)) (sym r.reads)
        (subst (λ (rows : List Row). InItsOrder w rows (joined_parts moved_bodies))
        (sym (ap all_rows r.held.is)) (held_order r.held.before r.held.bodies n some to w gives))

    read_stands : (w : Placement) → GivesPlace n to w → Stands n (plainly n) w (parts tables (given_by tables stages) read)
    read_stands w gives =
        subst (λ (ps : List (List Row)). Stands n (plainly n) w ps) (sym r.reads) (held_stands r.held.before r.held.bodies n some to w gives bodies)

  abbrev Right : Placement → Type 0
  Right w = (to : Target) × GivesPlace n to w × OfStage stages stage.0 (λ read. read.kind ≡ kind.Shuffle to)

  pub a_read_serves : (w : Placement) (schema : List Field) → Fine tables stages n files some (logical.Held stage w schema) →
      OfStage stages stage.0 (IsHeldAs n w) → KeysOver (length schema) w → Served tables stages n files some (logical.Held stage w schema) read w
  a_read_serves w schema fine right over = at (some_stage stages stage.0 n w right)
    where
      at : Right w → Served tables stages n files some (logical.Held stage w schema) read w
      at (to, gives, is) =
          let has : HasParts n to = has_parts [] [] n some to w gives in
          let a : Answer tables (held_rows tables stages) (logical.Held stage w schema) (all tables stages read) = (read_rows to has is, read_order to has is w gives) in
          record {
            answers = a;
            stands = read_stands to has is w gives;
            over = over;
            runs = (read_runs, narrow_answer tables stages n files some (logical.Held stage w schema) (all tables stages read) fine a);
          }

  module _ (calls : List AggCall) (schema : List Field) (fine : Fine tables stages n files some (logical.HeldPartial stage calls schema)) where
    abbrev leaf : Logical
    leaf = logical.HeldPartial stage calls schema

    partials : (count : ℕ) → count ≡ length schema - length calls → (rows : List Row) → IsPermutation held rows → HaveWidth (count + length calls) rows
    partials count e rows p =
        let whole : count + length calls ≡ length schema = omega (arith, e, fine.sound.0) in
        subst (λ (m : ℕ). HaveWidth m rows) (sym whole) (All-permutation (λ row. length row ≡ length schema) held rows p fine.fits)

    kind_is : (count : ℕ) → count ≡ length schema - length calls → OfStage stages stage.0 (λ read. read.kind ≡ kind.Shuffle (groups_target n count))
    kind_is count e = subst (λ (m : ℕ). OfStage stages stage.0 (λ read. read.kind ≡ kind.Shuffle (groups_target n m))) (sym e) fine.right

    -- a plan of finished groups serves where its rows are those of the stage, finished
    finished_serves : (count : ℕ) → count ≡ length schema - length calls → (w : Placement) → IsPermutation (finish_rows count calls held) (all tables stages (finished count calls read)) →
        IsPermutation held (all tables stages read) → Stands n (plainly n) w (parts tables (given_by tables stages) (finished count calls read)) → KeysOver (length schema) w →
        Served tables stages n files some leaf (finished count calls read) w
    finished_serves count e w p rows stands over =
        let a : Answer tables (held_rows tables stages) leaf (all tables stages (finished count calls read)) =
        subst (λ (m : ℕ). IsPermutation (finish_rows m calls held) (all tables stages (finished count calls read))) e p in
        record {
          answers = a;
          stands = stands;
          over = over;
          runs = (
            (partials count e (all tables stages read) rows, narrow_answer tables stages n files some leaf (all tables stages (finished count calls read)) fine a),
            (read_runs, narrow (count + length calls) (all tables stages read) (omega (arith, e, fine.sound.0, fine.sound.1)) (partials count e (all tables stages read) rows)),
          );
        }

    pub groups_read_serve : (count : ℕ) → count ≡ length schema - length calls → Served tables stages n files some leaf (finished count calls read) (place_of (groups_target n count))
    groups_read_serve zero e =
        let is = kind_is zero e in
        let r = read_of target.Single is in
        let rows : List Row = joined_parts r.held.bodies in
        let one : parts tables (given_by tables stages) read ≡ rows ∷ [] = r.reads ∙ one_part rows in
        let whole : all tables stages (finished 0 calls read) ≡ finish_rows 0 calls rows =
        ap (λ (ps : List (List Row)). joined_parts (map (finish_rows 0 calls) ps)) one ∙ append-nil (finish_rows 0 calls rows) in
        finished_serves zero e place.Single
        (subst (λ (l : List Row). IsPermutation (finish_rows 0 calls held) l) (sym whole) (finish_permuted 0 calls held rows (body_rows target.Single tt is)))
        (read_rows target.Single tt is)
        (ap (λ (ps : List (List Row)). length (map (finish_rows 0 calls) ps)) one)
        tt
    groups_read_serve (suc k) e =
        let cols : List Expr = columns_from 0 (suc k) in
        let is = kind_is (suc k) e in
        let r = read_of (target.Hash cols n) is in
        let rows : List Row = joined_parts r.held.bodies in
        let moved : IsPermutation (finish_rows (suc k) calls rows) (joined_parts (map (finish_rows (suc k) calls) (exchanged (by_hash n cols) n rows))) =
        subst (λ (f : Row → ℕ). IsPermutation (finish_rows (suc k) calls rows) (joined_parts (map (finish_rows (suc k) calls) (exchanged f n rows))))
        (λ i row. hash_place n (columns_of_front (suc k) row i))
        (moved_finish k calls (by_hash n cols) n rows (λ row. are_hash_parts n cols row some)) in
        finished_serves (suc k) e (place.Hash cols)
        (subst (λ (ps : List (List Row)). IsPermutation (finish_rows (suc k) calls held) (joined_parts (map (finish_rows (suc k) calls) ps))) (sym r.reads)
        (IsPermutation-trans (finish_rows (suc k) calls held) (finish_rows (suc k) calls rows) (joined_parts (map (finish_rows (suc k) calls) (exchanged (by_hash n cols) n rows)))
        (finish_permuted (suc k) calls held rows (body_rows (target.Hash cols n) refl is)) moved))
        (read_rows (target.Hash cols n) refl is)
        (subst (λ (ps : List (List Row)). Stands n (plainly n) (place.Hash cols) (map (finish_rows (suc k) calls) ps)) (sym r.reads)
        (finished_stand n k calls rows (partials (suc k) e rows (body_rows (target.Hash cols n) refl is))))
        (columns_below 0 (suc k) (length schema) (omega (arith, e)))

-- the read of a stage that is kept whole
pub a_whole_read_serves : (tables : Tables) (stages : Stages) (n : ℕ) (files : ℕ → ℕ) (some : 1 ≤ n) (stage : StageId) (schema : List Field) → Fine tables stages n files some (logical.Held stage place.Broadcast schema) →
    Served tables stages n files some (logical.Held stage place.Broadcast schema) (plan.ReadBroadcast stage) place.Any
a_whole_read_serves tables stages n files some stage schema fine =
    let held : List Row = held_rows tables stages stage.0 in
    let rows : List Row = all tables stages (plan.ReadBroadcast stage) in
    let a : Answer tables (held_rows tables stages) (logical.Held stage place.Broadcast schema) rows = (subst (λ (l : List Row). IsPermutation held l) (sym (append-nil held)) (IsPermutation-refl held), tt) in
    record { answers = a; stands = tt; over = tt; runs = (fine.right, narrow_answer tables stages n files some (logical.Held stage place.Broadcast schema) rows fine a) }

-- the read of a stage that was made for a place
pub plain_serve : PlainReadsServe
plain_serve tables stages n stage maps reducers rects w some right plain = at (some_stage stages stage.0 n w right)
  where
    at : (to : Target) × GivesPlace n to w × OfStage stages stage.0 (λ read. read.kind ≡ kind.Shuffle to) →
        IsPermutation (held_rows tables stages stage.0) (all tables stages (plan.Read stage maps reducers rects)) ×
        InItsOrder w (held_rows tables stages stage.0) (all tables stages (plan.Read stage maps reducers rects)) ×
        Stands n (plainly n) w (parts tables (given_by tables stages) (plan.Read stage maps reducers rects))
    at (to, gives, is) =
        let has : HasParts n to = has_parts [] [] n some to w gives in (
          read_rows tables stages n (λ t. 0) some stage maps reducers rects plain to has is,
          read_order tables stages n (λ t. 0) some stage maps reducers rects plain to has is w gives,
          read_stands tables stages n (λ t. 0) some stage maps reducers rects plain to has is w gives,
        )
