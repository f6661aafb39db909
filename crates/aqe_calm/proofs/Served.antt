-- A task that may end next is served where the outputs of all counted tasks are kept, and no others.
use Rattle.std.proofs.Common.{◌≡◌, ap, sym, subst, ◌∙◌, ◌≤◌, ◌<◌, ◌+◌, ◌-◌, zero, suc, ℕ, Bool, true, false, ◌&&◌, cond, nat_lt, List, [], ◌∷◌, ◌++◌, map, flat_map, take, length, refl, arith, Some, None, slice_get, slice_index_or, inl, inr}
use Rattle.std.specs.Prelude.{All}
use Rattle.aqe_base.specs.declared.cells.Rect.{Rect}
use Rattle.aqe_base.specs.declared.stage_id.StageId.{StageId}
use Rattle.aqe_base.specs.declared.join_kind.Side.TheVariants.{Left, Right}
use Rattle.std.proofs.lemmas.Bool.{cases_eq, cases_lt}
use Rattle.std.proofs.lemmas.Option.{slice_get_past}
use Rattle.std.specs.List.{list_all, range_with_len}
use Rattle.std.specs.Option.{unwrap_or, option_and_then}
use Rattle.std.proofs.lemmas.List.{append-nil, append_assoc}
use Rattle.std.proofs.lemmas.List.Elements.{All-nil, All-cons, All-append, All-head, All-tail}
use Rattle.aqe_logical.specs.Answers.{Tables}
use Rattle.aqe_physical.specs.declared.plan.Plan.{Plan, OneRow, Scan, Nothing, Read, ReadBroadcast}
use Rattle.aqe_physical.specs.Shapes.{kept, mapped, moved, matched, grouped, finished, ordered, cut_locally, cut_globally, both_of}
use Rattle.aqe_physical.specs.declared.target.StageKind.{StageKind}
use Rattle.aqe_physical.specs.declared.target.StageKind.TheVariants as kind
use Rattle.aqe_physical.specs.declared.target.Target.{Target}
use Rattle.aqe_physical.specs.declared.target.Target.TheVariants as target
use Rattle.aqe_physical.specs.Counts.{part_count}
use Rattle.aqe_physical.specs.declared.target.JoinWay.{JoinWay}
use Rattle.aqe_physical.specs.declared.target.JoinWay.TheVariants as way
use Rattle.aqe_physical.proofs.Nodes.{Each, each}
use Rattle.aqe_blocks.specs.Kept.{AllKept, output_at}
use Rattle.aqe_stages.specs.Parts.{cells}
use Rattle.aqe_stages.specs.Stages.{Stage, Stages}
use Rattle.aqe_stages.specs.Reads as reads
use Rattle.aqe_stages.specs.Reads.{needs, task_needs, ReadsBelowAt}
use Rattle.aqe_scheduler.specs.History.{Step}
use Rattle.aqe_scheduler.specs.Looks.{births, done}
use Rattle.aqe_scheduler.specs.Fates.{has_inputs, maps_of, task_reads}
use Rattle.aqe_scheduler.specs.declared.need.Need.{Need}
use Rattle.aqe_task.specs.Built.{is_built, IsBuiltBody}
use Rattle.aqe_task.specs.Tasks.{IsKept, IsMet}
use Rattle.aqe_journal.specs.Needed.{need_over, birth_over, map_count, maps_in}
use Rattle.aqe_calm.specs.Calm.{births_over}
use Rattle.std.proofs.lemmas.List.FromFn.{length-map-range_with_len}
use Rattle.aqe_scheduler.specs.Looks.{counted, task_count, tasks_in}
use Rattle.aqe_task.specs.Tasks.{IsServedTask}
use Rattle.aqe_journal.specs.Asked.{Asked}
use Rattle.aqe_journal.specs.States.{State, history}
use Rattle.aqe_journal.specs.Steady.{Kept}
use Rattle.aqe_journal.proofs.StagesRun.{carried_out}
use Rattle.aqe_calm.specs.Forms.{IsCarriedOut}
use Rattle.aqe_calm.specs.Calm.{Calm, IsAnswerAt, KindBelow}
use Rattle.aqe_calm.specs.Laws.{KeepsCounted}
use Rattle.aqe_calm.proofs.HeldCells.{cells_many}
use Rattle.aqe_calm.proofs.Calm.{stage_there}
use Rattle.aqe_endings.proofs.Histories.{done_counted}
use Rattle.aqe_endings.proofs.Endings.{MayEnd, both_left, both_right}

-- the birth of a stage that is there
pub births_at : (before stages : Stages) (s : ℕ) (stage : Stage) → slice_get stages s ≡ Some stage → slice_get (births_over before stages) s ≡ Some (birth_over (before ++ take s stages) stage)
births_at before [] s stage e = absurd (none e)
  where
    none : None ≡ Some stage → ⊥
    none n = cc (n)
births_at before (x ∷ xs) zero stage e = ap (λ b. Some (birth_over b x)) (sym (append-nil before)) ∙ ap (λ st. Some (birth_over (before ++ []) st)) (some_one x stage e)
  where
    some_one : (a b : Stage) → Some a ≡ Some b → a ≡ b
    some_one a b h = ap (λ o. unwrap_or o a) h
births_at before (x ∷ xs) (suc s) stage e =
    births_at (before ++ x ∷ []) xs s stage e ∙ ap (λ b. Some (birth_over b stage)) (append_assoc before (x ∷ []) (take s xs))

clash : false ≡ true → ⊥
clash e = cc (e)

-- what holds of all holds of the one with a number
pub all_at : {X : Type 0} (P : X → Type 0) (xs : List X) (i : ℕ) (x : X) → All P xs → slice_get xs i ≡ Some x → P x
all_at {X = X} P [] i x all e = absurd (none e)
  where
    none : None ≡ Some x → ⊥
    none n = cc (n)
all_at {X = X} P (y ∷ ys) zero x all e = subst P (some_one y x e) (All-head P y ys all)
  where
    some_one : (a b : X) → Some a ≡ Some b → a ≡ b
    some_one a b h = ap (λ o. unwrap_or o a) h
all_at P (y ∷ ys) (suc i) x all e = all_at P ys i x (All-tail P y ys all) e

list_all_at : (p : ℕ → Bool) (a n m : ℕ) → list_all p (range_with_len a n) ≡ true → a ≤ m → m < a + n → p m ≡ true
list_all_at p a zero m all low high = absurd (omega (arith, low, high))
list_all_at p a (suc n) m all low high = elim (cases_eq a m) as (λ w. p m ≡ true) [
  | inl same ↦ ap p (sym same) ∙ both_left (p a) (list_all p (range_with_len (a + 1) n)) all
  | inr apart ↦ list_all_at p (a + 1) n m (both_right (p a) (list_all p (range_with_len (a + 1) n)) all) (omega (arith, low, apart)) (omega (arith, high))
]

pub get_taken : {X : Type 0} (xs : List X) (n s : ℕ) → s < n → slice_get (take n xs) s ≡ slice_get xs s
get_taken xs zero s lt = absurd (omega (arith, lt))
get_taken [] (suc n) s lt = refl
get_taken (x ∷ xs) (suc n) zero lt = refl
get_taken (x ∷ xs) (suc n) (suc s) lt = get_taken xs n s (omega (arith, lt))

pub get_behind : {X : Type 0} (xs : List X) (n s : ℕ) → n ≤ s → slice_get (take n xs) s ≡ None
get_behind xs zero s le = refl
get_behind [] (suc n) s le = refl
get_behind (x ∷ xs) (suc n) zero le = absurd (omega (arith, le))
get_behind (x ∷ xs) (suc n) (suc s) le = get_behind xs n s (omega (arith, le))

get_within : {X : Type 0} (xs : List X) (d : X) (m : ℕ) → m < length xs → slice_get xs m ≡ Some (slice_index_or xs m d)
get_within [] d m lt = absurd (omega (arith, lt))
get_within (x ∷ xs) d zero lt = refl
get_within (x ∷ xs) d (suc m) lt = get_within xs d m (omega (arith, lt))

there_is : (stages : Stages) (s : ℕ) → s < length stages → (stage : Stage) × (slice_get stages s ≡ Some stage)
there_is [] s lt = absurd (omega (arith, lt))
there_is (x ∷ xs) zero lt = (x, refl)
there_is (x ∷ xs) (suc s) lt = there_is xs s (omega (arith, lt))

-- what all needs of two lists, and of a list of lists, say
inputs_left : (d : ℕ → ℕ → Bool) (f : reads.Need → Need) (a b : List reads.Need) → has_inputs d (map f (a ++ b)) ≡ true → has_inputs d (map f a) ≡ true
inputs_left d f [] b h = refl
inputs_left d f (need ∷ a) b h =
    let first = list_all (d (f need).stage.0) (maps_of (f need)) in
    λ i. both_left first (has_inputs d (map f (a ++ b))) h i && inputs_left d f a b (both_right first (has_inputs d (map f (a ++ b))) h) i

inputs_right : (d : ℕ → ℕ → Bool) (f : reads.Need → Need) (a b : List reads.Need) → has_inputs d (map f (a ++ b)) ≡ true → has_inputs d (map f b) ≡ true
inputs_right d f [] b h = h
inputs_right d f (need ∷ a) b h = inputs_right d f a b (both_right (list_all (d (f need).stage.0) (maps_of (f need))) (has_inputs d (map f (a ++ b))) h)

-- A stage that the rest has run so far: what is kept are the outputs of its tasks that were counted, of which there are no more than it has.
module _ (tables : Tables) (stages : Stages) (n : ℕ) (outputs : AllKept) (h : List Step) (on : n < length stages)
    (exact : (s m : ℕ) → output_at outputs s m ≡ cond (counted h s m) (Some (slice_index_or (cells tables stages s) m [])) None)
    (within : (s : ℕ) (stage : Stage) → slice_get stages s ≡ Some stage → (m : ℕ) → part_count stage.body ≤ m → counted h s m ≡ false) where
  abbrev prefix : Stages
  prefix = take n stages

  all_kept : (s m : ℕ) → done h s m ≡ true → IsKept tables stages outputs s m
  all_kept s m d = exact s m ∙ ap (λ b. cond b (Some (slice_index_or (cells tables stages s) m [])) None) (done_counted h s m d)

  some_met : (s m0 m1 : ℕ) → list_all (done h s) (range_with_len m0 (m1 - m0)) ≡ true → IsMet tables stages outputs (reads.some_maps s m0 m1)
  some_met s m0 m1 all m low high = all_kept s m (list_all_at (done h s) m0 (m1 - m0) m all low (omega (arith, low, high)))

  rects_met : (stage : StageId) (rects : List Rect) (k : ℕ) →
      has_inputs (done h) (map (need_over prefix) (reads.rect_needs stage rects k)) ≡ true → All (IsMet tables stages outputs) (reads.rect_needs stage rects k)
  rects_met stage [] k all = All-nil (IsMet tables stages outputs)
  rects_met stage (rect ∷ rects) zero all =
      All-cons (IsMet tables stages outputs) (reads.some_maps stage.0 rect.m0 rect.m1) [] (some_met stage.0 rect.m0 rect.m1 (both_left (list_all (done h stage.0) (range_with_len rect.m0 (rect.m1 - rect.m0))) true all)) (All-nil (IsMet tables stages outputs))
  rects_met stage (rect ∷ rects) (suc k) all = rects_met stage rects k all

  -- of a stage that is needed whole all outputs are kept, and there are no others
  whole_met : (s : ℕ) → s < n → list_all (done h s) (range_with_len 0 (map_count prefix s - 0)) ≡ true → IsMet tables stages outputs (reads.all_maps s)
  whole_met s lt all m =
      let st = there_is stages s (omega (arith, lt, on)) in
      let stage = st.0 in
      let count : map_count prefix s ≡ part_count stage.body = ap maps_in (get_taken stages n s lt ∙ st.1) in
      let held = cells_many tables stages s stage st.1 in
      elim (cases_lt m (part_count stage.body)) [
        | inl low ↦ all_kept s m (list_all_at (done h s) 0 (map_count prefix s - 0) m all (omega arith) (omega (arith, low, count)))
            ∙ sym (get_within (cells tables stages s) [] m (omega (arith, low, held)))
        | inr high ↦ exact s m ∙ ap (λ b. cond b (Some (slice_index_or (cells tables stages s) m [])) None) (within s stage st.1 m high)
            ∙ sym (slice_get_past (cells tables stages s) m (omega (arith, high, held)))
      ]

  all_met : (stage : StageId) → stage.0 < n → has_inputs (done h) (need_over prefix (reads.all_maps stage.0) ∷ []) ≡ true → All (IsMet tables stages outputs) (reads.all_maps stage.0 ∷ [])
  all_met stage lt all =
      All-cons (IsMet tables stages outputs) (reads.all_maps stage.0) []
      (whole_met stage.0 lt (both_left (list_all (done h stage.0) (range_with_len 0 (map_count prefix stage.0 - 0))) true all)) (All-nil (IsMet tables stages outputs))

  abbrev Met : List reads.Need → Type 0
  Met wanted = All (IsMet tables stages outputs) wanted

  abbrev AreIn : List reads.Need → Type 0
  AreIn wanted = has_inputs (done h) (map (need_over prefix) wanted) ≡ true

  both_met : (a b : List reads.Need) → (AreIn a → Met a) → (AreIn b → Met b) → AreIn (a ++ b) → Met (a ++ b)
  both_met a b f g all = All-append (IsMet tables stages outputs) a b (f (inputs_left (done h) (need_over prefix) a b all)) (g (inputs_right (done h) (need_over prefix) a b all))

  each_met : (wanted : ℕ → List reads.Need) (ks : List ℕ) → ((k : ℕ) → AreIn (wanted k) → Met (wanted k)) → AreIn (flat_map wanted ks) → Met (flat_map wanted ks)
  each_met wanted [] f all = All-nil (IsMet tables stages outputs)
  each_met wanted (k ∷ ks) f all = both_met (wanted k) (flat_map wanted ks) (f k) (each_met wanted ks f) all

  sides_met : (how : JoinWay) (a all_a b all_b : List reads.Need) → (AreIn a → Met a) → (AreIn all_a → Met all_a) → (AreIn b → Met b) → (AreIn all_b → Met all_b) →
      AreIn (reads.join_needs how a all_a b all_b) → Met (reads.join_needs how a all_a b all_b)
  sides_met way.SortMerge a all_a b all_b f all_f g all_g all = both_met a b f g all
  sides_met (way.ShuffledHash side) a all_a b all_b f all_f g all_g all = both_met a b f g all
  sides_met (way.Broadcast Left) a all_a b all_b f all_f g all_g all = both_met all_a b all_f g all
  sides_met (way.Broadcast Right) a all_a b all_b f all_f g all_g all = both_met a all_b f all_g all
  sides_met way.NestedLoop a all_a b all_b f all_f g all_g all = both_met all_a all_b all_f all_g all

  one_met : (left : Bool) (a b : List reads.Need) → (AreIn a → Met a) → (AreIn b → Met b) → AreIn (cond left a b) → Met (cond left a b)
  one_met true a b f g all = f all
  one_met false a b f g all = g all

  -- what part k of a body needs is kept where it is done
  body_met : (body : Plan) → IsBuiltBody body → Each (ReadsBelowAt n) body → (k : ℕ) → AreIn (needs body k) → Met (needs body k)
  body_met OneRow b r k all = All-nil (IsMet tables stages outputs)
  body_met (Scan table files) b r k all = All-nil (IsMet tables stages outputs)
  body_met (Nothing count width) b r k all = All-nil (IsMet tables stages outputs)
  body_met (Read stage maps reducers rects) b r k all = rects_met stage rects k all
  body_met (ReadBroadcast stage) b r k all = all_met stage r all
  body_met (kept test p) b r k all = body_met p b r.1 k all
  body_met (mapped items p) b r k all = body_met p b r.1 k all
  body_met (moved to p) b r k all = absurd (clash b)
  body_met (matched how kind keys v w p q) b r k all =
      let left = body_met p (both_left (is_built p) (is_built q) b) r.1 in
      let right = body_met q (both_right (is_built p) (is_built q) b) r.2 in
      sides_met how (needs p k) (reads.all_needs p (needs p)) (needs q k) (reads.all_needs q (needs q)) (left k) (each_met (needs p) (range_with_len 0 (part_count p)) left)
      (right k) (each_met (needs q) (range_with_len 0 (part_count q)) right) all
  body_met (grouped keys calls p) b r k all = body_met p b r.1 k all
  body_met (finished keys calls p) b r k all = body_met p b r.1 k all
  body_met (ordered keys p) b r k all = body_met p b r.1 k all
  body_met (cut_locally count p) b r k all = body_met p b r.1 k all
  body_met (cut_globally count skip p) b r k all = body_met p b r.1 k all
  body_met (both_of p q) b r k all =
      one_met (nat_lt k (part_count p)) (needs p k) (needs q (k - part_count p))
      (body_met p (both_left (is_built p) (is_built q) b) r.1 k) (body_met q (both_right (is_built p) (is_built q) b) r.2 (k - part_count p)) all

  -- and so are the samples that the kind of its stage names
  sample_met : (to : Target) → reads.SampleBelow n to → AreIn (reads.sample_needs to) → Met (reads.sample_needs to)
  sample_met (target.Hash keys m) s all = All-nil (IsMet tables stages outputs)
  sample_met (target.Range keys m None) s all = All-nil (IsMet tables stages outputs)
  sample_met (target.Range keys m (Some stage)) s all = all_met stage s all
  sample_met target.Single s all = All-nil (IsMet tables stages outputs)
  sample_met target.Broadcast s all = All-nil (IsMet tables stages outputs)

  task_met : (what : StageKind) (body : Plan) (k : ℕ) → KindBelow n what → IsBuiltBody body → Each (ReadsBelowAt n) body → AreIn (task_needs what body k) → Met (task_needs what body k)
  task_met (kind.Shuffle to) body k s b r all = both_met (reads.sample_needs to) (needs body k) (sample_met to s) (body_met body b r k) all
  task_met kind.Broadcast body k s b r all = body_met body b r k all
  task_met (kind.Sample keys) body k s b r all = body_met body b r k all
  task_met kind.Result body k s b r all = body_met body b r k all

pub get_mapped : {X : Type 0} (f : ℕ → X) (a n t : ℕ) → t < n → slice_get (map f (range_with_len a n)) t ≡ Some (f (a + t))
get_mapped f a zero t lt = absurd (omega (arith, lt))
get_mapped f a (suc n) zero lt = let same : a ≡ a + 0 = omega arith in ap (λ k. Some (f k)) same
get_mapped f a (suc n) (suc t) lt = let same : a + 1 + t ≡ a + suc t = omega arith in get_mapped f (a + 1) n t (omega (arith, lt)) ∙ ap (λ k. Some (f k)) same

-- a task that may end next is served where the outputs of all counted tasks are kept, and no others
pub served : (asked : Asked) (first : Plan) (now : State) (place : ℕ × ℕ) (stage : Stage) (outputs : AllKept) → Calm asked first now → MayEnd (history now) place → slice_get now.stages place.0 ≡ Some stage →
    KeepsCounted asked now outputs → IsServedTask asked.tables now.stages outputs stage.kind stage.body place.1
served asked first now place stage outputs c m is exact =
    let h = history now in
    let s = place.0 in
    let t = place.1 in
    let run = carried_out asked.tables now.stages stage (all_at (Kept asked.tables now.stages) now.stages s stage c.steady.made is) in
    let forms = all_at IsCarriedOut now.stages s stage c.carried is in
    let birth : slice_get (births h) s ≡ Some (birth_over (take s now.stages) stage) = ap (λ bs. slice_get bs s) c.events.births ∙ births_at [] now.stages s stage is in
    let many : task_count (births h) s ≡ part_count stage.body = ap tasks_in birth ∙ length-map-range_with_len (λ k. map (need_over (take s now.stages)) (task_needs stage.kind stage.body k)) 0 (part_count stage.body) in
    let there = stage_there now.stages h place c.events m in
    let within : t < part_count stage.body = omega (arith, many, there.1) in
    let same : 0 + t ≡ t = omega arith in
    let reads_are : task_reads (births h) s t ≡ Some (map (need_over (take s now.stages)) (task_needs stage.kind stage.body t)) =
    ap (λ o. option_and_then (λ b. slice_get b.reads t) o) birth ∙ get_mapped (λ k. map (need_over (take s now.stages)) (task_needs stage.kind stage.body k)) 0 (part_count stage.body) t within
    ∙ ap (λ k. Some (map (need_over (take s now.stages)) (task_needs stage.kind stage.body k))) same in
    let are : m.reads ≡ map (need_over (take s now.stages)) (task_needs stage.kind stage.body t) = ap (λ o. unwrap_or o m.reads) (sym m.task ∙ reads_are) in
    let a = subst (IsAnswerAt asked first now.stages s) is (c.answers s) in
    record {
      runs = run.0;
      keeps = run.1;
      within = within;
      reads = task_met asked.tables now.stages s outputs h there.0 exact past stage.kind stage.body t a.1 forms.0 (each (ReadsBelowAt s) stage.body a.0) (ap (has_inputs (done h)) (sym are) ∙ m.inputs);
    }
  where
    past : (p : ℕ) (other : Stage) → slice_get now.stages p ≡ Some other → (k : ℕ) → part_count other.body ≤ k → counted (history now) p k ≡ false
    past p other at k le =
        let born : slice_get (births (history now)) p ≡ Some (birth_over (take p now.stages) other) = ap (λ bs. slice_get bs p) c.events.births ∙ births_at [] now.stages p other at in
        let many : task_count (births (history now)) p ≡ part_count other.body =
        ap tasks_in born ∙ length-map-range_with_len (λ j. map (need_over (take p now.stages)) (task_needs other.kind other.body j)) 0 (part_count other.body) in
        c.events.within p k (omega (arith, le, many))
