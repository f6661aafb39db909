-- Before a query is done some task may end next.
use Rattle.std.proofs.Common.{◌≡◌, refl, ap, sym, subst, ◌∙◌, ◌≤◌, ◌<◌, ◌+◌, ◌-◌, ◌==◌, zero, suc, ℕ, Bool, true, false, cond, not, nat_lt, ◌&&◌, ◌||◌, List, [], ◌∷◌, ◌++◌, map, flat_map, fold, take, length, arith, Option, Some, None, is_some, slice_get, slice_index_or, length-append, inl, inr}
use Rattle.std.specs.Prelude.{All, ◌⊎◌}
use Rattle.std.specs.List.{list_any, list_all, range_with_len, find}
use Rattle.std.specs.Option.{unwrap_or, option_or, option_and_then}
use Rattle.std.proofs.lemmas.Bool.{cases_Bool, cases_eq, cases_lt, eqb-true}
use Rattle.std.proofs.lemmas.List.{append-nil, append_assoc}
use Rattle.std.proofs.lemmas.List.Folds.{find-append}
use Rattle.std.proofs.lemmas.List.Elements.{All-head, All-tail}
use Rattle.aqe_base.specs.declared.stage_id.StageId.{StageId}
use Rattle.aqe_base.specs.declared.cells.Rect.{Rect}
use Rattle.aqe_base.specs.declared.event.Event.{Event}
use Rattle.aqe_base.specs.declared.join_kind.Side.TheVariants.{Left, Right}
use Rattle.aqe_rects.specs.Rectangles.{LiesWithin}
use Rattle.aqe_physical.specs.declared.target.Target.{Target}
use Rattle.aqe_physical.specs.declared.target.Target.TheVariants as target
use Rattle.aqe_physical.specs.declared.target.StageKind.{StageKind}
use Rattle.aqe_physical.specs.declared.target.StageKind.TheVariants as kind
use Rattle.aqe_physical.specs.declared.target.JoinWay.{JoinWay}
use Rattle.aqe_physical.specs.declared.target.JoinWay.TheVariants as way
use Rattle.aqe_physical.specs.declared.plan.Plan.{Plan, OneRow, Scan, Nothing, Read, ReadBroadcast}
use Rattle.aqe_physical.specs.Shapes.{kept, mapped, moved, matched, grouped, finished, ordered, cut_locally, cut_globally, both_of}
use Rattle.aqe_physical.specs.Nodes.{nodes}
use Rattle.aqe_physical.specs.Counts.{part_count}
use Rattle.aqe_physical.proofs.Nodes.{Each, each, all_nodes}
use Rattle.aqe_logical.specs.Answers.{Tables}
use Rattle.aqe_stages.specs.Stages.{Stage, Stages}
use Rattle.aqe_stages.specs.Reads as reads
use Rattle.aqe_stages.specs.Reads.{ReadsBelow, ReadsBelowAt, needs, task_needs, rect_needs, join_needs}
use Rattle.aqe_stages.specs.Runnable.{CanRun, OfStage, Narrow, reducers_of}
use Rattle.aqe_stages.specs.Parts.{all}
use Rattle.aqe_making.specs.Ready.{is_ready, sample_ready}
use Rattle.aqe_making.specs.Makings.{Making, makings, all_makings, result_of, below, made_here, stage_of}
use Rattle.aqe_making.specs.After.{after, read_after, stage_at}
use Rattle.aqe_making.proofs.Standing.{standing, are_ready, made_at}
use Rattle.aqe_making.proofs.Stepping.{none_other, one_by_one, queries_one_by_one}
use Rattle.aqe_bodies.proofs.MadeRuns.{first_of}
use Rattle.aqe_fit_laws.specs.Serving.{IsNoExchange}
use Rattle.aqe_scheduler.specs.declared.fate.Fate.TheVariants as fate
use Rattle.aqe_scheduler.specs.History.{Entry, Step, Adds, Marks, Marked}
use Rattle.aqe_scheduler.specs.Looks.{births, needed, done, whole, task_count, tasks_in}
use Rattle.aqe_scheduler.specs.Fates.{noted, has_inputs, maps_of, task_reads}
use Rattle.aqe_scheduler.specs.Rest.{tasks_of, may_end, rest_of, rest_ending}
use Rattle.aqe_scheduler.proofs.Behind.{any_more, needed_more}
use Rattle.aqe_scheduler.proofs.Taken.{noted_more}
use Rattle.aqe_endings.proofs.Endings.{MayEnd, next_may_end, whole_other, both_left, both_right}
use Rattle.aqe_endings.proofs.Wholes.{whole_added, whole_marked}
use Rattle.aqe_journal.specs.Asked.{Asked}
use Rattle.aqe_journal.specs.Needed.{is_result, plan_reads, node_reads, target_reads, kind_reads, stage_reads, is_read_later, marks_from, needed_stages, need_over, birth_over, map_count, maps_in}
use Rattle.aqe_journal.specs.States.{State, history, number_of, with_stage, with_event, with_marks, marks_of, is_whole, is_materialised, is_turning}
use Rattle.aqe_journal.specs.LegalRecord.{SoFar, begun, one_on, Takes, goes_on, turns, PlansAgain, never, keeps, adopts, settled, has_result, is_done, is_result_in}
use Rattle.aqe_journal.proofs.Born.{not_materialised}
use Rattle.aqe_journal.proofs.StagesRun.{no_exchange, stays_put, carried_out}
use Rattle.aqe_journal.specs.Steady.{Kept}
use Rattle.aqe_journal.specs.Laws.{IsSound}
use Rattle.aqe_journal.specs.States.{first_state}
use Rattle.aqe_task.specs.Built.{is_built, IsBuiltBody}
use Rattle.aqe_calm.specs.Forms.{IsBuiltNode, IsCarriedOut}
use Rattle.aqe_calm.specs.Calm.{Calm, IsAnswerAt, KindBelow}
use Rattle.aqe_calm.specs.Laws.{Reaches, TasksAreLeft}
use Rattle.aqe_calm.proofs.Calm.{born_many, not_whole}
use Rattle.aqe_calm.proofs.CalmStates.{exchange_made, result_made, calm_event, reads_many}
use Rattle.aqe_calm.proofs.Consequences.{materialised_whole, turning_whole, history_behind}
use Rattle.aqe_calm.proofs.RestRuns.{calm_begun, rest_runs_calm, next_is_rest}
use Rattle.aqe_calm.proofs.Results.{no_result}
use Rattle.aqe_calm.proofs.Served.{all_at, births_at, get_mapped, get_taken, get_behind}

clash : false ≡ true → ⊥
clash c = cc (c)

self : (k : ℕ) → (k == k) ≡ true
self k = grind (arith)

or_true : (a b : Bool) → b ≡ true → (a || b) ≡ true
or_true true b e = refl
or_true false b e = e

or_false : (b : Bool) → (b || false) ≡ b
or_false true = refl
or_false false = refl

none_more : (n : ℕ) → 0 + n ≡ n
none_more n = omega arith

no_item : {X : Type 0} {x : X} {xs : List X} → x ∷ xs ≡ [] → ⊥
no_item e = cc (e)

-- what is there, and holds of a list
empty_map : {X Y : Type 0} (f : X → Y) (xs : List X) → map f xs ≡ [] → xs ≡ []
empty_map f [] e = refl
empty_map f (x ∷ xs) e = absurd (no_item e)

empty_left : {X : Type 0} (xs ys : List X) → xs ++ ys ≡ [] → xs ≡ []
empty_left [] ys e = refl
empty_left (x ∷ xs) ys e = absurd (no_item e)

empty_right : {X : Type 0} (xs ys : List X) → xs ++ ys ≡ [] → ys ≡ []
empty_right [] ys e = e
empty_right (x ∷ xs) ys e = absurd (no_item e)

-- a stage that a plan reads, and that is not whole
record OpenRead (w : ℕ → Bool) (p : Plan) : Type 0 where
  stage : ℕ
  read : plan_reads p stage ≡ true
  unwhole : w stage ≡ false

below_reads : (w : ℕ → Bool) (p q : Plan) → ((s : ℕ) → plan_reads p s ≡ true → plan_reads q s ≡ true) → OpenRead w p → OpenRead w q
below_reads w p q up r = record { stage = r.stage; read = up r.stage r.read; unwhole = r.unwhole }

any_left : {X : Type 0} (p : X → Bool) (xs ys : List X) → list_any p xs ≡ true → list_any p (xs ++ ys) ≡ true
any_left p [] ys e = absurd (clash e)
any_left p (x ∷ xs) ys e = elim (cases_Bool (p x)) as (λ v. list_any p (x ∷ xs ++ ys) ≡ true) [
  | inl here ↦ ap (λ b. b || list_any p (xs ++ ys)) here
  | inr not_here ↦ or_true (p x) (list_any p (xs ++ ys)) (any_left p xs ys (sym (ap (λ b. b || list_any p xs) not_here) ∙ e))
]

any_right : {X : Type 0} (p : X → Bool) (xs ys : List X) → list_any p ys ≡ true → list_any p (xs ++ ys) ≡ true
any_right p [] ys e = e
any_right p (x ∷ xs) ys e = or_true (p x) (list_any p (xs ++ ys)) (any_right p xs ys e)

-- a plan of which nothing can be made, and that is not ready, reads a stage that is not whole
open_read : (w : ℕ → Bool) (p : Plan) → Each IsBuiltNode p → makings w p ≡ [] → is_ready w p ≡ false → OpenRead w p
open_read w OneRow b none f = absurd (clash (sym f))
open_read w (Scan table files) b none f = absurd (clash (sym f))
open_read w (Nothing count width) b none f = absurd b
open_read w (Read stage maps reducers rects) b none f = record { stage = stage.0; read = ap (λ c. c || false) (self stage.0); unwhole = f }
open_read w (ReadBroadcast stage) b none f = record { stage = stage.0; read = ap (λ c. c || false) (self stage.0); unwhole = f }
open_read w (kept c p) b none f = below_reads w p (kept c p) (λ s r. r) (open_read w p b.1 (empty_map (below Left) (makings w p) none) f)
open_read w (mapped items p) b none f = below_reads w p (mapped items p) (λ s r. r) (open_read w p b.1 (empty_map (below Left) (makings w p) none) f)
open_read w (moved to p) b none f =
    at_exchange (cases_Bool (is_ready w p)) (empty_right (map (below Left) (makings w p)) (made_here w to p) none)
    (λ e. open_read w p b.1 (empty_map (below Left) (makings w p) (empty_left (map (below Left) (makings w p)) (made_here w to p) none)) e)
  where
    cond_none : {X : Type 0} (c : Bool) (x : X) → cond c (x ∷ []) [] ≡ [] → c ≡ false
    cond_none true x e = absurd (no_item e)
    cond_none false x e = refl

    -- a range waits for the sample that it names
    open_sample : (to : Target) → sample_ready w to ≡ false → OpenRead w (moved to p)
    open_sample (target.Hash keys n) e = absurd (clash (sym e))
    open_sample (target.Range keys n None) e = absurd (clash (sym e))
    open_sample (target.Range keys n (Some stage)) e = record { stage = stage.0; read = ap (λ c. c || plan_reads p stage.0) (self stage.0); unwhole = e }
    open_sample target.Single e = absurd (clash (sym e))
    open_sample target.Broadcast e = absurd (clash (sym e))

    at_exchange : (is_ready w p ≡ true) ⊎ (is_ready w p ≡ false) → made_here w to p ≡ [] → (is_ready w p ≡ false → OpenRead w p) → OpenRead w (moved to p)
    at_exchange (inl ready) e rest =
        open_sample to (ap (λ c. c && sample_ready w to) (sym ready) ∙ cond_none (is_ready w p && sample_ready w to) (record { place = []; stage = stage_of to p }) e)
    at_exchange (inr unready) e rest = below_reads w p (moved to p) (λ s r. or_true (target_reads s to) (plan_reads p s) r) (rest unready)
open_read w (matched how k keys v u p q) b none f =
    at_side (is_ready w p) refl
    (λ e. open_read w p b.1 (empty_map (below Left) (makings w p) (empty_left (map (below Left) (makings w p)) (map (below Right) (makings w q)) none)) e)
    (λ e. open_read w q b.2 (empty_map (below Right) (makings w q) (empty_right (map (below Left) (makings w p)) (map (below Right) (makings w q)) none)) e)
  where
    at_side : (ready : Bool) → is_ready w p ≡ ready → (is_ready w p ≡ false → OpenRead w p) → (is_ready w q ≡ false → OpenRead w q) → OpenRead w (matched how k keys v u p q)
    at_side false e left right = below_reads w p (matched how k keys v u p q) (λ s r. any_left (node_reads s) (nodes p) (nodes q) r) (left e)
    at_side true e left right =
        below_reads w q (matched how k keys v u p q) (λ s r. any_right (node_reads s) (nodes p) (nodes q) r) (right (sym (ap (λ c. c && is_ready w q) e) ∙ f))
open_read w (grouped keys calls p) b none f = below_reads w p (grouped keys calls p) (λ s r. r) (open_read w p b.1 (empty_map (below Left) (makings w p) none) f)
open_read w (finished n calls p) b none f = below_reads w p (finished n calls p) (λ s r. r) (open_read w p b.1 (empty_map (below Left) (makings w p) none) f)
open_read w (ordered keys p) b none f = below_reads w p (ordered keys p) (λ s r. r) (open_read w p b.1 (empty_map (below Left) (makings w p) none) f)
open_read w (cut_locally n p) b none f = below_reads w p (cut_locally n p) (λ s r. r) (open_read w p b.1 (empty_map (below Left) (makings w p) none) f)
open_read w (cut_globally n k p) b none f = below_reads w p (cut_globally n k p) (λ s r. r) (open_read w p b.1 (empty_map (below Left) (makings w p) none) f)
open_read w (both_of p q) b none f =
    at_side (is_ready w p) refl
    (λ e. open_read w p b.1 (empty_map (below Left) (makings w p) (empty_left (map (below Left) (makings w p)) (map (below Right) (makings w q)) none)) e)
    (λ e. open_read w q b.2 (empty_map (below Right) (makings w q) (empty_right (map (below Left) (makings w p)) (map (below Right) (makings w q)) none)) e)
  where
    at_side : (ready : Bool) → is_ready w p ≡ ready → (is_ready w p ≡ false → OpenRead w p) → (is_ready w q ≡ false → OpenRead w q) → OpenRead w (both_of p q)
    at_side false e left right = below_reads w p (both_of p q) (λ s r. any_left (node_reads s) (nodes p) (nodes q) r) (left e)
    at_side true e left right = below_reads w q (both_of p q) (λ s r. any_right (node_reads s) (nodes p) (nodes q) r) (right (sym (ap (λ c. c && is_ready w q) e) ∙ f))

-- a plan reads stages below a number, and so does the kind of a stage
target_below : (n : ℕ) (to : Target) → reads.SampleBelow n to → (s : ℕ) → target_reads s to ≡ true → s < n
target_below n (target.Range keys m (Some stage)) b s r = subst (λ k. k < n) (eqb-true stage.0 s r) b
target_below n (target.Range keys m None) b s r = absurd (clash r)
target_below n (target.Hash keys m) b s r = absurd (clash r)
target_below n target.Single b s r = absurd (clash r)
target_below n target.Broadcast b s r = absurd (clash r)

kind_reads_below : (n : ℕ) (what : StageKind) → KindBelow n what → (s : ℕ) → kind_reads s what ≡ true → s < n
kind_reads_below n (kind.Shuffle to) b s r = target_below n to b s r
kind_reads_below n kind.Broadcast b s r = absurd (clash r)
kind_reads_below n (kind.Sample keys) b s r = absurd (clash r)
kind_reads_below n kind.Result b s r = absurd (clash r)

reads_below : (n : ℕ) (ps : List Plan) → All (ReadsBelowAt n) ps → (s : ℕ) → list_any (node_reads s) ps ≡ true → s < n
reads_below n [] all s r = absurd (clash r)
reads_below n (p ∷ ps) all s r = elim (cases_Bool (node_reads s p)) [
  | inl here ↦ at p (All-head (ReadsBelowAt n) p ps all) here
  | inr not_here ↦ reads_below n ps (All-tail (ReadsBelowAt n) p ps all) s (ap (λ c. c || list_any (node_reads s) ps) (sym not_here) ∙ r)
]
  where
    at : (p : Plan) → ReadsBelowAt n p → node_reads s p ≡ true → s < n
    at (Read stage maps reducers rects) b r = subst (λ k. k < n) (eqb-true stage.0 s r) b
    at (ReadBroadcast stage) b r = subst (λ k. k < n) (eqb-true stage.0 s r) b
    at (moved to child) b r = target_below n to b s r
    at OneRow b r = absurd (clash r)
    at (Scan table files) b r = absurd (clash r)
    at (Nothing count width) b r = absurd (clash r)
    at (kept c p) b r = absurd (clash r)
    at (mapped items p) b r = absurd (clash r)
    at (matched how k keys v u p q) b r = absurd (clash r)
    at (grouped keys calls p) b r = absurd (clash r)
    at (finished m calls p) b r = absurd (clash r)
    at (ordered keys p) b r = absurd (clash r)
    at (cut_locally m p) b r = absurd (clash r)
    at (cut_globally m k p) b r = absurd (clash r)
    at (both_of p q) b r = absurd (clash r)

-- the marks of stages, each by its number
abbrev mark_at : List Bool → ℕ → Bool
mark_at marks k = slice_index_or marks k false

module _ (w : ℕ → Bool) (plan : Plan) where
  marks_result : (n : ℕ) (stages : Stages) (k : ℕ) (stage : Stage) → slice_get stages k ≡ Some stage → is_result stage.kind ≡ true → mark_at (marks_from w plan n stages) k ≡ true
  marks_result n [] k stage e r = absurd (none e)
    where
      none : None ≡ Some stage → ⊥
      none c = cc (c)
  marks_result n (x ∷ xs) zero stage e r =
      ap (λ c. c || (plan_reads plan n || is_read_later w n (suc n) xs (marks_from w plan (suc n) xs))) (ap is_result_of e ∙ r)
    where
      is_result_of : Option Stage → Bool
      is_result_of (Some st) = is_result st.kind
      is_result_of None = false
  marks_result n (x ∷ xs) (suc k) stage e r = marks_result (suc n) xs k stage e r

  marks_read : (n : ℕ) (stages : Stages) (k : ℕ) → k < length stages → plan_reads plan (n + k) ≡ true → mark_at (marks_from w plan n stages) k ≡ true
  marks_read n [] k lt r = absurd (omega (arith, lt))
  marks_read n (x ∷ xs) zero lt r =
      let same : n + 0 ≡ n = omega arith in
      or_true (is_result x.kind) (plan_reads plan n || is_read_later w n (suc n) xs (marks_from w plan (suc n) xs))
      (ap (λ c. c || is_read_later w n (suc n) xs (marks_from w plan (suc n) xs)) (ap (plan_reads plan) (sym same) ∙ r))
  marks_read n (x ∷ xs) (suc k) lt r = let same : suc n + k ≡ n + suc k = omega arith in marks_read (suc n) xs k (omega (arith, lt)) (ap (plan_reads plan) same ∙ r)

  read_later : (s m : ℕ) (stages : Stages) (marks : List Bool) (j : ℕ) (stage : Stage) → slice_get stages j ≡ Some stage → mark_at marks j ≡ true → w (m + j) ≡ false → stage_reads stage s ≡ true →
      is_read_later w s m stages marks ≡ true
  read_later s m [] marks j stage e b f r = absurd (none e)
    where
      none : None ≡ Some stage → ⊥
      none c = cc (c)
  read_later s m (x ∷ xs) [] j stage e b f r = absurd (clash (none_at j ∙ b))
    where
      none_at : (j : ℕ) → false ≡ mark_at [] j
      none_at j = refl
  read_later s m (x ∷ xs) (b ∷ bs) zero stage e marked_so f r =
      let same : m + 0 ≡ m = omega arith in
      let here : (b && (not (w m) && stage_reads x s)) ≡ true =
      (λ i. marked_so i && (not ((ap w (sym same) ∙ f) i) && reads_of (e i))) ∙ r in
      ap (λ c. c || is_read_later w s (suc m) xs bs) here
    where
      reads_of : Option Stage → Bool
      reads_of (Some st) = stage_reads st s
      reads_of None = false
  read_later s m (x ∷ xs) (b ∷ bs) (suc j) stage e marked_so f r =
      let same : suc m + j ≡ m + suc j = omega arith in
      or_true (b && (not (w m) && stage_reads x s)) (is_read_later w s (suc m) xs bs) (read_later s (suc m) xs bs j stage e marked_so (ap w same ∙ f) r)

  marks_later : (n : ℕ) (stages : Stages) (k j : ℕ) (stage : Stage) → k < j → slice_get stages j ≡ Some stage → mark_at (marks_from w plan n stages) j ≡ true → w (n + j) ≡ false →
      stage_reads stage (n + k) ≡ true → mark_at (marks_from w plan n stages) k ≡ true
  marks_later n [] k j stage lt e b f r = absurd (none e)
    where
      none : None ≡ Some stage → ⊥
      none c = cc (c)
  marks_later n (x ∷ xs) k zero stage lt e b f r = absurd (omega (arith, lt))
  marks_later n (x ∷ xs) zero (suc j) stage lt e b f r =
      let same : n + 0 ≡ n = omega arith in
      let more : suc n + j ≡ n + suc j = omega arith in
      or_true (is_result x.kind) (plan_reads plan n || is_read_later w n (suc n) xs (marks_from w plan (suc n) xs))
      (or_true (plan_reads plan n) (is_read_later w n (suc n) xs (marks_from w plan (suc n) xs))
      (read_later n (suc n) xs (marks_from w plan (suc n) xs) j stage e b (ap w more ∙ f) (ap (stage_reads stage) (sym same) ∙ r)))
  marks_later n (x ∷ xs) (suc k) (suc j) stage lt e b f r =
      let more : suc n + j ≡ n + suc j = omega arith in
      let same : suc n + k ≡ n + suc k = omega arith in
      marks_later (suc n) xs k j stage (omega (arith, lt)) e b (ap w more ∙ f) (ap (stage_reads stage) same ∙ r)

  marks_count : (n : ℕ) (stages : Stages) → length (marks_from w plan n stages) ≡ length stages
  marks_count n [] = refl
  marks_count n (x ∷ xs) = ap suc (marks_count (suc n) xs)

-- marks that were told are what is needed
told_below : (n : ℕ) (marks : List Bool) (entries : List Entry) (s : ℕ) → s < n → needed (noted (entries ++ marks_of n marks)) s ≡ needed (noted entries) s
told_below n [] entries s lt = ap (λ es. needed (noted es) s) (append-nil entries)
told_below n (mark ∷ marks) entries s lt =
    ap (λ es. needed (noted es) s) (sym (append_assoc entries (Marks n mark ∷ []) (marks_of (suc n) marks)))
    ∙ told_below (suc n) marks (entries ++ Marks n mark ∷ []) s (omega (arith, lt))
    ∙ ap (λ h. needed h s) (noted_more entries (Marks n mark)) ∙ needed_more (noted entries) (Marked n mark) s
    ∙ ap (λ c. cond c mark (needed (noted entries) s)) (apart (cases_Bool (n == s)))
  where
    apart : ((n == s) ≡ true) ⊎ ((n == s) ≡ false) → (n == s) ≡ false
    apart (inl so) = let same = eqb-true n s so in absurd (omega (arith, same, lt))
    apart (inr not_so) = not_so

told : (n : ℕ) (marks : List Bool) (entries : List Entry) (k : ℕ) → k < length marks → needed (noted (entries ++ marks_of n marks)) (n + k) ≡ mark_at marks k
told n [] entries k lt = absurd (omega (arith, lt))
told n (mark ∷ marks) entries zero lt =
    let same : n + 0 ≡ n = omega arith in
    ap (λ s. needed (noted (entries ++ marks_of n (mark ∷ marks))) s) same
    ∙ ap (λ es. needed (noted es) n) (sym (append_assoc entries (Marks n mark ∷ []) (marks_of (suc n) marks)))
    ∙ told_below (suc n) marks (entries ++ Marks n mark ∷ []) n (omega arith)
    ∙ ap (λ h. needed h n) (noted_more entries (Marks n mark)) ∙ needed_more (noted entries) (Marked n mark) n
    ∙ ap (λ c. cond c mark (needed (noted entries) n)) (self n)
told n (mark ∷ marks) entries (suc k) lt =
    let same : n + suc k ≡ suc n + k = omega arith in
    ap (λ s. needed (noted (entries ++ marks_of n (mark ∷ marks))) s) same
    ∙ ap (λ es. needed (noted es) (suc n + k)) (sym (append_assoc entries (Marks n mark ∷ []) (marks_of (suc n) marks)))
    ∙ told (suc n) marks (entries ++ Marks n mark ∷ []) k (omega (arith, lt))

-- what no mark changes
pub marks_keep : {X : Type 0} (f : List Step → X) → ((h : List Step) (s : ℕ) (mark : Bool) → f (h ++ Marked s mark ∷ []) ≡ f h) → (n : ℕ) (marks : List Bool) (entries : List Entry) →
    f (noted (entries ++ marks_of n marks)) ≡ f (noted entries)
marks_keep f one n [] entries = ap (λ es. f (noted es)) (append-nil entries)
marks_keep f one n (mark ∷ marks) entries =
    ap (λ es. f (noted es)) (sym (append_assoc entries (Marks n mark ∷ []) (marks_of (suc n) marks)))
    ∙ marks_keep f one (suc n) marks (entries ++ Marks n mark ∷ [])
    ∙ ap f (noted_more entries (Marks n mark)) ∙ one (noted entries) n mark

-- A state in which nothing can be made any more, and in which each stage is marked as it is needed.
record Marks_stand (now : State) : Type 0 where
  none : all_makings (is_whole now) (has_result now.stages) now.plan ≡ []
  marks : (s : ℕ) → s < length now.stages → needed (history now) s ≡ mark_at (needed_stages (is_whole now) now.plan now.stages) s

-- what stages are whole, and what can be made, behind the stages of exchanges
record Gone (w : ℕ → Bool) (now : State) : Type 0 where
  none : all_makings w (has_result now.stages) now.plan ≡ []
  whole_same : (s : ℕ) → is_whole now s ≡ w s

whole_made : (asked : Asked) (first : Plan) (now : State) (making : Making) → Calm asked first now → Calm asked first (with_stage now making) → (s : ℕ) → is_whole (with_stage now making) s ≡ is_whole now s
whole_made asked first now making c d s =
    let n = length now.stages in
    let few : 1 ≤ part_count making.stage.body = (all_at IsCarriedOut (now.stages ++ making.stage ∷ []) n making.stage d.carried (last_one now.stages making.stage)).1 in
    let reads_are = reads_many now.stages making.stage in
    let many = born_many now.stages (history now) c.events in
    ap (λ h. whole h s) (noted_more now.entries (Adds (birth_over now.stages making.stage)))
    ∙ whole_added (history now) (birth_over now.stages making.stage) (λ k t le. c.events.unborn k t (omega (arith, le, many))) (omega (arith, few, reads_are)) s
  where
    last_one : (stages : Stages) (stage : Stage) → slice_get (stages ++ stage ∷ []) (length stages) ≡ Some stage
    last_one [] stage = refl
    last_one (x ∷ xs) stage = last_one xs stage

gone : (asked : Asked) (first : Plan) (w : ℕ → Bool) (ms : List Making) (now : State) → Calm asked first now → ((s : ℕ) → length now.stages ≤ s → w s ≡ false) → ((s : ℕ) → is_whole now s ≡ w s) →
    makings w now.plan ≡ ms → all_makings w (has_result now.stages) now.plan ≡ ms → Gone w (fold with_stage now ms)
gone asked first w [] now c unborn same e is = record { none = is; whole_same = same }
gone asked first w (m ∷ ms) now c unborn same e is =
    let number = number_of (length now.stages) in
    let at = All-head (λ (making : Making). stage_at making.place now.plan ≡ Some making.stage) m ms (subst (All (λ (making : Making). stage_at making.place now.plan ≡ Some making.stage)) e (standing w now.plan)) in
    let ready = All-head (λ (making : Making). is_ready w making.stage.body ≡ true) m ms (subst (All (λ (making : Making). is_ready w making.stage.body ≡ true)) e (are_ready w now.plan)) in
    let next = exchange_made asked first now m c at (all_nodes IsNoExchange m.stage.body (no_exchange w m.stage.body ready)) in
    let long = length-append now.stages (m.stage ∷ []) in
    let fresh = unborn (length now.stages) (omega arith) in
    let no = not_result at in
    gone asked first w ms (with_stage now m) next (λ k le. unborn k (omega (arith, long, le))) (λ s. whole_made asked first now m c next s ∙ same s)
    (one_by_one w number now.plan m ms fresh e)
    (ap (λ has. all_makings w has (after number m.place now.plan)) (any_more (λ (stage : Stage). is_result stage.kind) now.stages m.stage ∙ ap (λ b. has_result now.stages || b) no ∙ or_false (has_result now.stages))
    ∙ (queries_one_by_one w (has_result now.stages) number now.plan m ms fresh e).1)
  where
    not_result : stage_at m.place now.plan ≡ Some m.stage → is_result m.stage.kind ≡ false
    not_result at = elim (cases_Bool (is_result m.stage.kind)) as (λ v. is_result m.stage.kind ≡ false) [
      | inl is_so ↦ absurd (no_result (number_of 0) now.plan (after (number_of 0) m.place now.plan) m.stage (made_at (number_of 0) m.place now.plan m.stage at) is_so)
      | inr not_so ↦ not_so
    ]

-- behind all stages that can be made at a position nothing can be made
gone_settled : (asked : Asked) (first : Plan) (now : State) → Calm asked first now → Gone (is_materialised now) (settled now)
gone_settled asked first now c = elim (cases_Bool (is_ready (is_materialised now) now.plan)) [
  | inl t ↦ subst (λ ms. Gone (is_materialised now) (fold with_stage now ms)) (sym (all_ready t)) (ready_gone (has_result now.stages) refl t)
  | inr f ↦ subst (λ ms. Gone (is_materialised now) (fold with_stage now ms)) (sym (all_open f))
      (gone asked first (is_materialised now) (makings (is_materialised now) now.plan) now c (not_materialised now c.steady.born) (λ s. sym (materialised_whole asked first now c s)) refl (all_open f))
]
  where
    all_ready : is_ready (is_materialised now) now.plan ≡ true → all_makings (is_materialised now) (has_result now.stages) now.plan ≡ cond (not (has_result now.stages)) (result_of now.plan ∷ []) []
    all_ready t = λ i. none_other (is_materialised now) now.plan t i ++ cond (t i && not (has_result now.stages)) (result_of now.plan ∷ []) []

    all_open : is_ready (is_materialised now) now.plan ≡ false → all_makings (is_materialised now) (has_result now.stages) now.plan ≡ makings (is_materialised now) now.plan
    all_open f = (λ i. makings (is_materialised now) now.plan ++ cond (f i && not (has_result now.stages)) (result_of now.plan ∷ []) []) ∙ append-nil (makings (is_materialised now) now.plan)

    ready_gone : (has : Bool) → has_result now.stages ≡ has → is_ready (is_materialised now) now.plan ≡ true → Gone (is_materialised now) (fold with_stage now (cond (not has) (result_of now.plan ∷ []) []))
    ready_gone true e t = record { none = all_ready t ∙ ap (λ h. cond (not h) (result_of now.plan ∷ []) []) e; whole_same = λ s. sym (materialised_whole asked first now c s) }
    ready_gone false e t =
        let none = all_nodes IsNoExchange now.plan (no_exchange (is_materialised now) now.plan t) in
        let put = stays_put (read_after (number_of (length now.stages))) now.plan (first_of IsNoExchange now.plan (each IsNoExchange now.plan none)) in
        let has : has_result (now.stages ++ (result_of now.plan).stage ∷ []) ≡ true = any_more (λ (stage : Stage). is_result stage.kind) now.stages (result_of now.plan).stage ∙ or_true (has_result now.stages) true refl in
        record {
          none = (λ i. all_makings (is_materialised now) (has i) (put i)) ∙ (λ i. none_other (is_materialised now) now.plan t i ++ cond (t i && false) (result_of now.plan ∷ []) []);
          whole_same = λ s. whole_made asked first now (result_of now.plan) c (result_made asked first now c none) s ∙ sym (materialised_whole asked first now c s);
        }

whole_with_marks : (now : State) (s : ℕ) → is_whole (with_marks now) s ≡ is_whole now s
whole_with_marks now s = marks_keep (λ h. whole h s) (λ h k mark. whole_marked h k mark s) 0 (needed_stages (is_whole now) now.plan now.stages) now.entries

-- marks say what is needed
turned_marks : (now : State) → all_makings (is_whole now) (has_result now.stages) now.plan ≡ [] → Marks_stand (with_marks now)
turned_marks now none =
    let marks = needed_stages (is_whole now) now.plan now.stages in
    let many = marks_count (is_whole now) now.plan 0 now.stages in
    record {
      none = (λ i. all_makings (λ s. whole_with_marks now s i) (has_result now.stages) now.plan) ∙ none;
      marks = λ s lt. let none : 0 + s ≡ s = omega arith in ap (needed (history (with_marks now))) (sym none) ∙ told 0 marks now.entries s (omega (arith, lt, many)) ∙ (λ i. mark_at (needed_stages (λ k. sym (whole_with_marks now k) i) now.plan now.stages) s);
    }

settled_marks : (asked : Asked) (first : Plan) (now : State) → Calm asked first now → Marks_stand (with_marks (settled now))
settled_marks asked first now c =
    let g = gone_settled asked first now c in
    turned_marks (settled now) ((λ i. all_makings (λ s. g.whole_same s i) (has_result (settled now).stages) (settled now).plan) ∙ g.none)

planned_same : (asked : Asked) (now next : State) → PlansAgain asked now next → next ≡ now
planned_same asked now next (never n h) = refl
planned_same asked now next (keeps n x p k d w) = refl
planned_same asked now next (adopts n x p k d w) = absurd (clash k)

-- an event that makes no stage whole changes nothing of what is whole
whole_still : (asked : Asked) (first : Plan) (now : State) (place : ℕ × ℕ) → Calm asked first now → MayEnd (history now) place → is_turning now (rest_ending place) ≡ false → (s : ℕ) →
    is_whole (with_event now (rest_ending place)) s ≡ is_whole now s
whole_still asked first now place c m f s = elim (cases_eq place.0 s) [
  | inl same ↦ subst (λ k. is_whole (with_event now (rest_ending place)) k ≡ is_whole now k) same
      (sym (turning_whole asked first now place c m) ∙ f ∙ sym (not_whole now.stages (history now) place c.events m))
  | inr differs ↦ ap (λ h. whole h s) (history_behind now place m) ∙ whole_other (history now) place fate.Counted s differs
]

marks_stand : (asked : Asked) (now : State) → IsSound asked → (r : Reaches asked now) → Marks_stand now
marks_stand asked now sound r = go now r.runs
  where
    go : (now : State) → SoFar asked now → Marks_stand now
    go now (begun plan fits) = settled_marks asked plan (first_state asked.query plan) (calm_begun asked plan sound fits)
    go now (one_on before next event far n e t) =
        let reaches : Reaches asked before = record { sound = r.sound; alone = r.alone; runs = far } in
        let c = rest_runs_calm asked before reaches in
        let rest = next_is_rest asked before event r.alone e in
        let m = next_may_end (history before) rest.place rest.next in
        taken_marks before event rest.place rest.is c.0 c.2 m (go before far) next t
      where
        taken_marks : (before : State) (event : Event) (place : ℕ × ℕ) → event ≡ rest_ending place → (first : Plan) → Calm asked first before → MayEnd (history before) place → Marks_stand before →
            (next : State) → Takes asked before event next → Marks_stand next
        taken_marks before event place is first c m stand next (goes_on b ev f) =
            let still : (s : ℕ) → is_whole (with_event before event) s ≡ is_whole before s =
            λ s. subst (λ (ev : Event). is_turning before ev ≡ false → is_whole (with_event before ev) s ≡ is_whole before s) (sym is) (λ g. whole_still asked first before place c m g s) f in
            turned_marks (with_event before event) ((λ i. all_makings (λ s. still s i) (has_result before.stages) before.plan) ∙ stand.none)
        taken_marks before event place is first c m stand next (turns b planned ev t p) =
            let d : Calm asked first (with_event before event) = subst (λ ev. Calm asked first (with_event before ev)) (sym is) (calm_event asked first before place c m) in
            subst (λ s. Marks_stand (with_marks (settled s))) (sym (planned_same asked (with_event before event) planned p)) (settled_marks asked first (with_event before event) d)

-- the least number that passes a test
record Least (p : ℕ → Bool) : Type 0 where
  least : ℕ
  passes : p least ≡ true
  others : (j : ℕ) → j < least → p j ≡ false

least_from : (p : ℕ → Bool) (fuel a : ℕ) → ((j : ℕ) → j < a → p j ≡ false) → (k : ℕ) → k < a + fuel → p k ≡ true → Least p
least_from p zero a before k lt is =
    let here : k < a = omega (arith, lt) in absurd (clash (sym (before k here) ∙ is))
least_from p (suc fuel) a before k lt is = elim (cases_Bool (p a)) [
  | inl so ↦ record { least = a; passes = so; others = before }
  | inr not_so ↦ least_from p fuel (suc a) (λ j below. more j below not_so (cases_eq j a)) k (omega (arith, lt)) is
]
  where
    more : (j : ℕ) → j < suc a → p a ≡ false → (j ≡ a) ⊎ (j ≡ a → ⊥) → p j ≡ false
    more j below no_a (inl same) = ap p same ∙ no_a
    more j below no_a (inr differs) = before j (omega (arith, below, differs))

-- some number of a range fails a test that not all pass
not_all : (p : ℕ → Bool) (a n : ℕ) → list_all p (range_with_len a n) ≡ false → (t : ℕ) × (t < n) × (p (a + t) ≡ false)
not_all p a zero e = absurd (clash (sym e))
not_all p a (suc n) e = elim (cases_Bool (p a)) [
  | inl so ↦
      let r = not_all p (a + 1) n (ap (λ b. b && list_all p (range_with_len (a + 1) n)) (sym so) ∙ e) in
      let lt = r.1 in
      let same : a + suc r.0 ≡ a + 1 + r.0 = omega arith in
      (suc r.0, omega (arith, lt), ap p same ∙ r.2)
  | inr not_so ↦ let same : a + 0 ≡ a = omega arith in (0, omega arith, ap p same ∙ not_so)
]

all_at_range : (p : ℕ → Bool) (a n m : ℕ) → list_all p (range_with_len a n) ≡ true → a ≤ m → m < a + n → p m ≡ true
all_at_range p a zero m all low high = absurd (omega (arith, low, high))
all_at_range p a (suc n) m all low high = elim (cases_eq a m) as (λ v. p m ≡ true) [
  | inl same ↦ ap p (sym same) ∙ both_left (p a) (list_all p (range_with_len (a + 1) n)) all
  | inr apart ↦ all_at_range p (a + 1) n m (both_right (p a) (list_all p (range_with_len (a + 1) n)) all) (omega (arith, low, apart)) (omega (arith, high))
]

all_of_range : (p : ℕ → Bool) (a n : ℕ) → ((m : ℕ) → a ≤ m → m < a + n → p m ≡ true) → list_all p (range_with_len a n) ≡ true
all_of_range p a zero each = refl
all_of_range p a (suc n) each =
    ap (λ b. b && list_all p (range_with_len (a + 1) n)) (each a (omega arith) (omega arith)) ∙ all_of_range p (a + 1) n (λ m low high. each m (omega (arith, low)) (omega (arith, high)))

-- what a search that finds nothing says of each that it came to
none_or : {X : Type 0} (a b : Option X) → option_or a b ≡ None → (a ≡ None) × (b ≡ None)
none_or None b e = (refl, e)
none_or (Some x) b e = absurd (some_none e)
  where
    some_none : Some x ≡ None → ⊥
    some_none c = cc (c)

none_of_flat : {X : Type 0} (p : X → Bool) (f : ℕ → List X) (a n s : ℕ) → find p (flat_map f (range_with_len a n)) ≡ None → a ≤ s → s < a + n → find p (f s) ≡ None
none_of_flat p f a zero s e low high = absurd (omega (arith, low, high))
none_of_flat p f a (suc n) s e low high =
    let both = none_or (find p (f a)) (find p (flat_map f (range_with_len (a + 1) n))) (sym (find-append p (f a) (flat_map f (range_with_len (a + 1) n))) ∙ e) in
    elim (cases_eq a s) as (λ v. find p (f s) ≡ None) [
      | inl same ↦ ap (λ k. find p (f k)) (sym same) ∙ both.0
      | inr apart ↦ none_of_flat p f (a + 1) n s both.1 (omega (arith, low, apart)) (omega (arith, high))
    ]

none_of_map : {X : Type 0} (p : X → Bool) (g : ℕ → X) (a n t : ℕ) → find p (map g (range_with_len a n)) ≡ None → a ≤ t → t < a + n → p (g t) ≡ false
none_of_map p g a zero t e low high = absurd (omega (arith, low, high))
none_of_map {X = X} p g a (suc n) t e low high = elim (cases_Bool (p (g a))) [
  | inl so ↦ absurd (some_none (sym (ap (λ b. cond b (Some (g a)) (find p (map g (range_with_len (a + 1) n)))) so) ∙ e))
  | inr not_so ↦ elim (cases_eq a t) as (λ v. p (g t) ≡ false) [
    | inl same ↦ ap (λ k. p (g k)) (sym same) ∙ not_so
    | inr apart ↦ none_of_map p g (a + 1) n t (sym (ap (λ b. cond b (Some (g a)) (find p (map g (range_with_len (a + 1) n)))) not_so) ∙ e) (omega (arith, low, apart)) (omega (arith, high))
  ]
]
  where
    some_none : Some (g a) ≡ None → ⊥
    some_none c = cc (c)

-- the stage that is spoken of
record Spoken (stages : Stages) (n : ℕ) (P : Stage → Type 0) : Type 0 where
  stage : Stage
  at : slice_get stages n ≡ Some stage
  holds : P stage

of_stage : (stages : Stages) (n : ℕ) (P : Stage → Type 0) → OfStage stages n P → Spoken stages n P
of_stage [] n P o = absurd o
of_stage (x ∷ xs) zero P o = record { stage = x; at = refl; holds = o }
of_stage (x ∷ xs) (suc n) P o = let r = of_stage xs n P o in record { stage = r.stage; at = r.at; holds = r.holds }

stage_with : (stages : Stages) (s : ℕ) → s < length stages → (stage : Stage) × (slice_get stages s ≡ Some stage)
stage_with [] s lt = absurd (omega (arith, lt))
stage_with (x ∷ xs) zero lt = (x, refl)
stage_with (x ∷ xs) (suc s) lt = stage_with xs s (omega (arith, lt))

module _ (tables : Tables) (stages prefix : Stages) (h : List Step) (counts : (p : ℕ) (stage : Stage) → slice_get stages p ≡ Some stage → task_count (births h) p ≡ part_count stage.body)
    (few : (p : ℕ) → map_count prefix p ≤ task_count (births h) p) where
  abbrev Runs : Plan → Type 0
  Runs node = CanRun tables stages node × Narrow (all tables stages node)

  whole_range : (p m0 m1 : ℕ) → whole h p ≡ true → m1 ≤ task_count (births h) p → list_all (done h p) (range_with_len m0 (m1 - m0)) ≡ true
  whole_range p m0 m1 is le =
      all_of_range (done h p) m0 (m1 - m0)
      (λ m low high. all_at_range (done h p) 0 (task_count (births h) p) m
      (both_right (is_some (slice_get (births h) p)) (list_all (done h p) (range_with_len 0 (task_count (births h) p))) is) (omega arith) (omega (arith, le, low, high)))

  rects_fed : (stage : StageId) (reducers : ℕ) (rects : List Rect) (k : ℕ) → whole h stage.0 ≡ true → All (λ rect. LiesWithin (task_count (births h) stage.0) reducers rect) rects →
      has_inputs (done h) (map (need_over prefix) (rect_needs stage rects k)) ≡ true
  rects_fed stage reducers [] k is lies = refl
  rects_fed stage reducers (rect ∷ rects) zero is lies =
      let one = All-head (λ (rect : Rect). LiesWithin (task_count (births h) stage.0) reducers rect) rect rects lies in
      ap (λ b. b && true) (whole_range stage.0 rect.m0 rect.m1 is (most rect one))
    where
      most : (rect : Rect) → LiesWithin (task_count (births h) stage.0) reducers rect → rect.m1 ≤ task_count (births h) stage.0
      most rect one = one.0
  rects_fed stage reducers (rect ∷ rects) (suc k) is lies = rects_fed stage reducers rects k is (All-tail (λ (rect : Rect). LiesWithin (task_count (births h) stage.0) reducers rect) rect rects lies)

  all_fed : (stage : StageId) → whole h stage.0 ≡ true → has_inputs (done h) (map (need_over prefix) (reads.all_maps stage.0 ∷ [])) ≡ true
  all_fed stage is = ap (λ b. b && true) (whole_range stage.0 0 (map_count prefix stage.0) is (few stage.0))

  abbrev AreIn : List reads.Need → Type 0
  AreIn wanted = has_inputs (done h) (map (need_over prefix) wanted) ≡ true

  both_in : (a b : List reads.Need) → AreIn a → AreIn b → AreIn (a ++ b)
  both_in [] b f g = g
  both_in (need ∷ a) b f g =
      let n = need_over prefix need in
      let first = list_all (done h n.stage.0) (maps_of n) in
      let rest = has_inputs (done h) (map (need_over prefix) a) in
      λ i. both_left first rest f i && both_in a b (both_right first rest f) g i

  each_in : (wanted : ℕ → List reads.Need) (ks : List ℕ) → ((k : ℕ) → AreIn (wanted k)) → AreIn (flat_map wanted ks)
  each_in wanted [] f = refl
  each_in wanted (k ∷ ks) f = both_in (wanted k) (flat_map wanted ks) (f k) (each_in wanted ks f)

  sides_in : (how : JoinWay) (a all_a b all_b : List reads.Need) → AreIn a → AreIn all_a → AreIn b → AreIn all_b → AreIn (join_needs how a all_a b all_b)
  sides_in way.SortMerge a all_a b all_b f all_f g all_g = both_in a b f g
  sides_in (way.ShuffledHash side) a all_a b all_b f all_f g all_g = both_in a b f g
  sides_in (way.Broadcast Left) a all_a b all_b f all_f g all_g = both_in all_a b all_f g
  sides_in (way.Broadcast Right) a all_a b all_b f all_f g all_g = both_in a all_b f all_g
  sides_in way.NestedLoop a all_a b all_b f all_f g all_g = both_in all_a all_b all_f all_g

  one_in : (left : Bool) (a b : List reads.Need) → AreIn a → AreIn b → AreIn (cond left a b)
  one_in true a b f g = f
  one_in false a b f g = g

  -- a body of which all stages that it reads are whole has its inputs
  fed : (body : Plan) (k : ℕ) → IsBuiltBody body → Each Runs body → ((p : ℕ) → plan_reads body p ≡ true → whole h p ≡ true) → AreIn (needs body k)
  fed OneRow k b r all = refl
  fed (Scan table files) k b r all = refl
  fed (Nothing count width) k b r all = refl
  fed (Read stage maps reducers rects) k b r all =
      let spoken = of_stage stages stage.0 (λ read. All (LiesWithin (part_count read.body) (reducers_of read.kind)) rects) r.0 in
      rects_fed stage (reducers_of spoken.stage.kind) rects k (all stage.0 (ap (λ c. c || false) (self stage.0)))
      (subst (λ n. All (λ rect. LiesWithin n (reducers_of spoken.stage.kind) rect) rects) (sym (counts stage.0 spoken.stage spoken.at)) spoken.holds)
  fed (ReadBroadcast stage) k b r all = all_fed stage (all stage.0 (ap (λ c. c || false) (self stage.0)))
  fed (kept c p) k b r all = fed p k b r.1 all
  fed (mapped items p) k b r all = fed p k b r.1 all
  fed (moved to p) k b r all = absurd (clash b)
  fed (matched how kd keys v w p q) k b r all =
      let left = λ (j : ℕ). fed p j (both_left (is_built p) (is_built q) b) r.1 (λ s e. all s (any_left (node_reads s) (nodes p) (nodes q) e)) in
      let right = λ (j : ℕ). fed q j (both_right (is_built p) (is_built q) b) r.2 (λ s e. all s (any_right (node_reads s) (nodes p) (nodes q) e)) in
      sides_in how (needs p k) (reads.all_needs p (needs p)) (needs q k) (reads.all_needs q (needs q)) (left k) (each_in (needs p) (range_with_len 0 (part_count p)) left)
      (right k) (each_in (needs q) (range_with_len 0 (part_count q)) right)
  fed (grouped keys calls p) k b r all = fed p k b r.1 all
  fed (finished n calls p) k b r all = fed p k b r.1 all
  fed (ordered keys p) k b r all = fed p k b r.1 all
  fed (cut_locally n p) k b r all = fed p k b r.1 all
  fed (cut_globally n m p) k b r all = fed p k b r.1 all
  fed (both_of p q) k b r all =
      one_in (nat_lt k (part_count p)) (needs p k) (needs q (k - part_count p))
      (fed p k (both_left (is_built p) (is_built q) b) r.1 (λ s e. all s (any_left (node_reads s) (nodes p) (nodes q) e)))
      (fed q (k - part_count p) (both_right (is_built p) (is_built q) b) r.2 (λ s e. all s (any_right (node_reads s) (nodes p) (nodes q) e)))

  -- and the samples that the kind of its stage names
  sample_fed : (to : Target) → ((p : ℕ) → target_reads p to ≡ true → whole h p ≡ true) → AreIn (reads.sample_needs to)
  sample_fed (target.Hash keys n) all = refl
  sample_fed (target.Range keys n None) all = refl
  sample_fed (target.Range keys n (Some stage)) all = all_fed stage (all stage.0 (self stage.0))
  sample_fed target.Single all = refl
  sample_fed target.Broadcast all = refl

  task_fed : (what : StageKind) (body : Plan) (k : ℕ) → ((p : ℕ) → kind_reads p what ≡ true → whole h p ≡ true) → AreIn (needs body k) → AreIn (task_needs what body k)
  task_fed (kind.Shuffle to) body k all e = both_in (reads.sample_needs to) (needs body k) (sample_fed to all) e
  task_fed kind.Broadcast body k all e = e
  task_fed (kind.Sample keys) body k all e = e
  task_fed kind.Result body k all e = e

marked_below : (marks : List Bool) (k : ℕ) → mark_at marks k ≡ true → k < length marks
marked_below [] k e = absurd (clash e)
marked_below (m ∷ ms) zero e = omega arith
marked_below (m ∷ ms) (suc k) e = let rest = marked_below ms k e in omega (arith, rest)

none_any_at : (p : ℕ → Bool) (a n s : ℕ) → list_any p (range_with_len a n) ≡ false → a ≤ s → s < a + n → p s ≡ false
none_any_at p a zero s e low high = absurd (omega (arith, low, high))
none_any_at p a (suc n) s e low high = elim (cases_Bool (p a)) [
  | inl so ↦ absurd (clash (sym e ∙ ap (λ b. b || list_any p (range_with_len (a + 1) n)) so))
  | inr not_so ↦ elim (cases_eq a s) as (λ v. p s ≡ false) [
    | inl same ↦ ap p (sym same) ∙ not_so
    | inr apart ↦ none_any_at p (a + 1) n s (ap (λ b. b || list_any p (range_with_len (a + 1) n)) (sym not_so) ∙ e) (omega (arith, low, apart)) (omega (arith, high))
  ]
]

not_true : (b : Bool) → not b ≡ false → b ≡ true
not_true true e = refl
not_true false e = absurd (clash (sym e))

-- a result stage that was made
result_made_at : (stages : Stages) → has_result stages ≡ true → (r : ℕ) × (stage : Stage) × (slice_get stages r ≡ Some stage) × (is_result stage.kind ≡ true)
result_made_at [] e = absurd (clash e)
result_made_at (x ∷ xs) e = elim (cases_Bool (is_result x.kind)) [
  | inl so ↦ (0, x, refl, so)
  | inr not_so ↦ let rest = result_made_at xs (ap (λ b. b || has_result xs) (sym not_so) ∙ e) in (suc rest.0, rest.1, rest.2, rest.3)
]

get_below : {X : Type 0} (xs : List X) (i : ℕ) (x : X) → slice_get xs i ≡ Some x → i < length xs
get_below [] i x e = absurd (none e)
  where
    none : None ≡ Some x → ⊥
    none c = cc (c)
get_below (y ∷ ys) zero x e = omega arith
get_below (y ∷ ys) (suc i) x e = let rest = get_below ys i x e in omega (arith, rest)

module _ (asked : Asked) (now : State) (r : Reaches asked now) (undone : is_done now ≡ false) where
  abbrev w : ℕ → Bool
  w = is_whole now

  abbrev h : List Step
  h = history now

  abbrev marks : List Bool
  marks = needed_stages w now.plan now.stages

  calm : Calm asked (rest_runs_calm asked now r).0 now
  calm = (rest_runs_calm asked now r).2

  stand : Marks_stand now
  stand = marks_stand asked now r.sound r

  abbrev is_left : ℕ → Bool
  is_left s = mark_at marks s && not (w s)

  left_by : (s : ℕ) → mark_at marks s ≡ true → w s ≡ false → is_left s ≡ true
  left_by s m f = λ i. m i && not (f i)

  -- some stage is needed and not whole
  some_left : (s : ℕ) × (s < length now.stages) × (is_left s ≡ true)
  some_left = elim (cases_Bool (has_result now.stages)) [
    | inl has ↦
        let made = result_made_at now.stages has in
        let lt = get_below now.stages made.0 made.1 made.2 in
        let no = none_any_at (λ s. is_result_in (slice_get now.stages s) && w s) 0 (length now.stages) made.0 undone (omega arith) (omega (arith, lt)) in (
          made.0,
          lt,
          left_by made.0 (marks_result w now.plan 0 now.stages made.0 made.1 made.2 made.3)
              (sym (ap (λ b. b && w made.0) (ap is_result_in made.2 ∙ made.3)) ∙ no),
        )
    | inr has_none ↦
        let none : makings w now.plan ++ cond (is_ready w now.plan && true) (result_of now.plan ∷ []) [] ≡ [] = (λ i. all_makings w (sym has_none i) now.plan) ∙ stand.none in
        let unready = cond_none (is_ready w now.plan) (empty_right (makings w now.plan) (cond (is_ready w now.plan && true) (result_of now.plan ∷ []) []) none) in
        let open_one = open_read w now.plan (each IsBuiltNode now.plan calm.built) (empty_left (makings w now.plan) (cond (is_ready w now.plan && true) (result_of now.plan ∷ []) []) none) unready in
        let lt = reads_below (length now.stages) (nodes now.plan) calm.steady.below open_one.stage open_one.read in
        (open_one.stage, lt, left_by open_one.stage (marks_read w now.plan 0 now.stages open_one.stage lt (ap (plan_reads now.plan) (none_more open_one.stage) ∙ open_one.read)) open_one.unwhole)
  ]
    where
      cond_none : (c : Bool) → cond (c && true) (result_of now.plan ∷ []) [] ≡ [] → c ≡ false
      cond_none true e = absurd (no_item e)
      cond_none false e = refl

  lowest : Least is_left
  lowest = let s = some_left in let lt = s.1 in least_from is_left (length now.stages) 0 (λ j below. absurd (omega (arith, below))) s.0 (omega (arith, lt)) s.2

  -- the lowest of them has all its inputs, and a task that is not done
  left_ends : rest_of h ≡ None → ⊥
  left_ends none =
      let s = lowest.least in
      let is_marked = both_left (mark_at marks s) (not (w s)) lowest.passes in
      let open_here : w s ≡ false = unwhole (w s) (both_right (mark_at marks s) (not (w s)) lowest.passes) in
      let below_marks = marked_below marks s is_marked in
      let count = marks_count w now.plan 0 now.stages in
      let lt : s < length now.stages = omega (arith, below_marks, count) in
      let st = stage_with now.stages s lt in
      let stage = st.0 in
      let forms = all_at IsCarriedOut now.stages s stage calm.carried st.1 in
      let run = carried_out asked.tables now.stages stage (all_at (Kept asked.tables now.stages) now.stages s stage calm.steady.made st.1) in
      let answer = subst (IsAnswerAt asked (rest_runs_calm asked now r).0 now.stages s) st.1 (calm.answers s) in
      let counts : (p : ℕ) (other : Stage) → slice_get now.stages p ≡ Some other → task_count (births h) p ≡ part_count other.body =
      λ p other e. ap tasks_in (ap (λ bs. slice_get bs p) calm.events.births ∙ births_at [] now.stages p other e) ∙ reads_many (take p now.stages) other in
      let few : (p : ℕ) → map_count (take s now.stages) p ≤ task_count (births h) p = λ p. maps_few s p counts in
      let whole_read : (p : ℕ) → p < s → stage_reads stage p ≡ true → w p ≡ true =
      λ p less reads_it.
      let marked_p = marks_later w now.plan 0 now.stages p s stage less st.1 is_marked (ap w (none_more s) ∙ open_here) (ap (stage_reads stage) (none_more p) ∙ reads_it) in
      not_true (w p) (sym (ap (λ b. b && not (w p)) marked_p) ∙ lowest.others p less) in
      let body_whole : (p : ℕ) → plan_reads stage.body p ≡ true → w p ≡ true =
      λ p e. whole_read p (reads_below s (nodes stage.body) answer.0 p e) (or_true (kind_reads p stage.kind) (plan_reads stage.body p) e) in
      let kind_whole : (p : ℕ) → kind_reads p stage.kind ≡ true → w p ≡ true =
      λ p e. whole_read p (kind_reads_below s stage.kind answer.1 p e) (ap (λ b. b || plan_reads stage.body p) e) in
      let birth : slice_get (births h) s ≡ Some (birth_over (take s now.stages) stage) = ap (λ bs. slice_get bs s) calm.events.births ∙ births_at [] now.stages s stage st.1 in
      let many = counts s stage st.1 in
      let undone_task = not_all (done h s) 0 (task_count (births h) s) (sym (ap (λ o. is_some o && list_all (done h s) (range_with_len 0 (task_count (births h) s))) birth) ∙ open_here) in
      let t = undone_task.0 in
      let t_lt = undone_task.1 in
      let zero_more : 0 + t ≡ t = omega arith in
      let within : t < part_count stage.body = omega (arith, many, t_lt) in
      let wanted = map (need_over (take s now.stages)) (task_needs stage.kind stage.body t) in
      let reads_are : task_reads (births h) s t ≡ Some wanted =
      ap (λ o. option_and_then (λ b. slice_get b.reads t) o) birth ∙ get_mapped (λ k. map (need_over (take s now.stages)) (task_needs stage.kind stage.body k)) 0 (part_count stage.body) t within
      ∙ ap (λ k. Some (map (need_over (take s now.stages)) (task_needs stage.kind stage.body k))) zero_more in
      let inputs : has_inputs (done h) (unwrap_or (task_reads (births h) s t) []) ≡ true =
      ap (λ o. has_inputs (done h) (unwrap_or o [])) reads_are
      ∙ task_fed asked.tables now.stages (take s now.stages) h counts few stage.kind stage.body t kind_whole
      (fed asked.tables now.stages (take s now.stages) h counts few stage.body t forms.0 (each (Runs asked.tables now.stages (take s now.stages) h counts few) stage.body run.0) body_whole) in
      let needed_here : needed h s ≡ true = stand.marks s lt ∙ is_marked in
      let may : may_end (births h) (needed h) (done h) (s, t) ≡ true = λ i. needed_here i && (not ((ap (done h s) (sym zero_more) ∙ undone_task.2) i) && inputs i) in
      let born_count = born_many now.stages h calm.events in
      let of_stage_none = none_of_flat (may_end (births h) (needed h) (done h)) (tasks_of (births h)) 0 (length (births h)) s none (omega arith) (omega (arith, born_count, lt)) in
      let never_may = none_of_map (may_end (births h) (needed h) (done h)) (λ k. (s, k)) 0 (task_count (births h) s) t of_stage_none (omega arith) (omega (arith, t_lt)) in
      clash (sym never_may ∙ may)
    where
      -- a stage has no fewer tasks than the maps that a later stage knows of it
      maps_few : (s p : ℕ) → ((p : ℕ) (other : Stage) → slice_get now.stages p ≡ Some other → task_count (births h) p ≡ part_count other.body) → map_count (take s now.stages) p ≤ task_count (births h) p
      maps_few s p counts = elim (cases_lt p s) [
        | inl lt ↦ at (slice_get now.stages p) refl (get_taken now.stages s p lt)
        | inr ge ↦ let none : map_count (take s now.stages) p ≡ 0 = ap maps_in (get_behind now.stages s p ge) in omega (arith, none)
      ]
        where
          at : (o : Option Stage) → slice_get now.stages p ≡ o → slice_get (take s now.stages) p ≡ slice_get now.stages p → map_count (take s now.stages) p ≤ task_count (births h) p
          at None e t = let none : map_count (take s now.stages) p ≡ 0 = ap maps_in (t ∙ e) in omega (arith, none)
          at (Some other) e t =
              let maps : map_count (take s now.stages) p ≡ part_count other.body = ap maps_in (t ∙ e) in
              let tasks = counts p other e in
              omega (arith, maps, tasks)

      unwhole : (b : Bool) → not b ≡ true → b ≡ false
      unwhole true e = absurd (clash e)
      unwhole false e = refl

pub tasks_left : TasksAreLeft
tasks_left asked now r undone none = left_ends asked now r undone none
