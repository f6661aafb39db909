-- A session shows the state behind a stage more once it made the stage.
use Rattle.std.proofs.Common.{◌≡◌, refl, ap, sym, subst, ◌∙◌, ◌≤◌, ◌<◌, ◌+◌, ◌==◌, zero, suc, ℕ, Bool, true, false, cond, not, ◌&&◌, ◌||◌, List, [], ◌∷◌, ◌++◌, length, arith, Option, Some, None, is_some, slice_get, slice_index_or, length-append, inl, inr}
use Rattle.std.specs.Prelude.{All, ◌⊎◌}
use Rattle.std.specs.List.{list_any}
use Rattle.std.proofs.lemmas.Bool.{cases_Bool, cases_lt, cases_eq, eqb-true}
use Rattle.std.proofs.lemmas.Option.{slice_get_past}
use Rattle.std.proofs.lemmas.List.{append-nil, get_or_append_left}
use Rattle.std.proofs.lemmas.List.Elements.{All-nil, All-head}
use Rattle.aqe_base.specs.declared.stage_id.StageId.{StageId}
use Rattle.aqe_blocks.specs.Kept.{kept_of, output_at}
use Rattle.aqe_physical.specs.declared.plan.Plan.{Plan}
use Rattle.aqe_physical.specs.declared.target.StageKind.{StageKind}
use Rattle.aqe_physical.specs.declared.target.StageKind.TheVariants as kind
use Rattle.aqe_physical.specs.Counts.{part_count}
use Rattle.aqe_physical.proofs.Nodes.{each, all_nodes}
use Rattle.aqe_fit_laws.specs.Serving.{IsNoExchange, WithoutExchange}
use Rattle.aqe_stages.specs.Stages.{Stage, Stages}
use Rattle.aqe_stages.specs.Parts.{cells}
use Rattle.aqe_stages.specs.Runnable.{reducers_of}
use Rattle.aqe_stages.proofs.Later.{cells_stay}
use Rattle.aqe_making.specs.Makings.{Making, makings, all_makings, result_of}
use Rattle.aqe_making.specs.Ready.{is_ready}
use Rattle.aqe_making.specs.After.{after, read_after, stage_at}
use Rattle.aqe_making.proofs.Standing.{standing, made_at}
use Rattle.aqe_making.proofs.Stepping.{none_other}
use Rattle.aqe_bodies.proofs.MadeRuns.{first_of}
use Rattle.aqe_scheduler.specs.History.{Birth, Step, Adds, Added}
use Rattle.aqe_scheduler.specs.Looks.{births, counted, whole}
use Rattle.aqe_scheduler.specs.Fates.{fates}
use Rattle.aqe_scheduler.specs.Stands.{StandsFor}
use Rattle.aqe_scheduler.proofs.Behind.{any_more, counted_more}
use Rattle.aqe_scheduler.proofs.Taken.{noted_more}
use Rattle.aqe_endings.specs.Peace.{happened, first_whole}
use Rattle.aqe_endings.proofs.Wholes.{first_quiet, fates_quiet, whole_added, unborn_whole, get_more, get_last}
use Rattle.aqe_replan.specs.Seen.{listed}
use Rattle.aqe_replan.specs.Versions as replan
use Rattle.aqe_replan.specs.Versions.{ready_of, plan_after, result_after}
use Rattle.aqe_journal.specs.Asked.{Asked}
use Rattle.aqe_journal.specs.Needed.{is_result, birth_over}
use Rattle.aqe_journal.specs.States.{State, history, number_of, with_stage, materialised_at}
use Rattle.aqe_journal.specs.LegalRecord.{has_result, is_result_in, births_from, runs_from}
use Rattle.aqe_journal.proofs.StagesRun.{no_exchange, stays_put}
use Rattle.aqe_needs.specs.Noted.{stages_of}
use Rattle.aqe_calm.specs.Calm.{Calm}
use Rattle.aqe_calm.specs.Forms.{IsCarriedOut}
use Rattle.aqe_calm.proofs.Calm.{born_many}
use Rattle.aqe_calm.proofs.CalmStates.{calm_made, reads_many}
use Rattle.aqe_calm.proofs.Consequences.{materialised_whole}
use Rattle.aqe_calm.proofs.Results.{no_result}
use Rattle.aqe_calm.proofs.Served.{all_at}
use Rattle.aqe_steps.specs.declared.run.Run.{Run}
use Rattle.aqe_steps.specs.Runs.{Makes, Ready, fresh_note, next_number, made_stages, result_with}
use Rattle.aqe_steps.specs.Shows.{Shows, KeptOf, is_at, bare_note, noted_from, kept_in}
use Rattle.aqe_steps.proofs.Notes.{noted_same, noted_more as note_more, stages_noted, count_noted}
use Rattle.aqe_steps.proofs.Ready.{can_make, steady_made}
use Rattle.aqe_steps.proofs.Recorded.{births_added, births_many, runs_added}

same_result : (k : StageKind) → replan.is_result k ≡ is_result k
same_result (kind.Shuffle to) = refl
same_result kind.Broadcast = refl
same_result (kind.Sample keys) = refl
same_result kind.Result = refl

or_false : (b : Bool) → (b || false) ≡ b
or_false true = refl
or_false false = refl

cond_or : (b h : Bool) → cond b true h ≡ (h || b)
cond_or true true = refl
cond_or true false = refl
cond_or false true = refl
cond_or false false = refl

is_not : (b : Bool) → (b ≡ true → ⊥) → b ≡ false
is_not true no_way = absurd (no_way refl)
is_not false no_way = refl

-- how a stage is made: it is the result of a plan without exchanges, or it is made of an exchange
data How (plan : Plan) (making : Making) : Type 0 where
  of_all : making ≡ result_of plan → WithoutExchange plan → How plan making
  of_exchange : stage_at making.place plan ≡ Some making.stage → How plan making

how : (whole : ℕ → Bool) (has : Bool) (plan : Plan) (making : Making) (others : List Making) → all_makings whole has plan ≡ making ∷ others → How plan making
how whole has plan making others is = elim (cases_Bool (is_ready whole plan)) [
  | inl ready ↦
      let all : all_makings whole has plan ≡ cond (not has) (result_of plan ∷ []) [] = λ i. none_other whole plan ready i ++ cond (ready i && not has) (result_of plan ∷ []) [] in
      of_all (only has (sym all ∙ is)) (all_nodes IsNoExchange plan (no_exchange whole plan ready))
  | inr not_ready ↦
      let all : all_makings whole has plan ≡ makings whole plan = (λ i. makings whole plan ++ cond (not_ready i && not has) (result_of plan ∷ []) []) ∙ append-nil (makings whole plan) in
      of_exchange (All-head (λ (m : Making). stage_at m.place plan ≡ Some m.stage) making others (subst (All (λ (m : Making). stage_at m.place plan ≡ Some m.stage)) (sym all ∙ is) (standing whole plan)))
]
  where
    only : (b : Bool) → cond (not b) (result_of plan ∷ []) [] ≡ making ∷ others → making ≡ result_of plan
    only true e = absurd (empty e)
      where
        empty : {X : Type 0} {x : X} {xs : List X} → [] ≡ x ∷ xs → ⊥
        empty e = cc (e)
    only false e = sym (ap (λ ms. first_or (result_of plan) ms) e)
      where
        first_or : Making → List Making → Making
        first_or m [] = m
        first_or m (n ∷ ms) = n

-- the plan is replaced at the place of what is made; a result has the place of the plan itself, where no exchange stands
plan_is : (number : StageId) (plan : Plan) (making : Making) → How plan making → plan_after number making plan ≡ after number making.place plan
plan_is number plan making (of_all e none) =
    ap (λ (m : Making). plan_after number m plan) e ∙ sym (stays_put (read_after number) plan (first_of IsNoExchange plan (each IsNoExchange plan none))) ∙ ap (λ (m : Making). after number m.place plan) (sym e)
plan_is number plan making (of_exchange at) =
    ap (λ b. cond b plan (after number making.place plan))
    (is_not (replan.is_result making.stage.kind) (λ is. no_result number plan (after number making.place plan) making.stage (made_at number making.place plan making.stage at) (sym (same_result making.stage.kind) ∙ is)))

-- a result is made once
once : (whole : ℕ → Bool) (has : Bool) (plan : Plan) (making : Making) (others : List Making) → all_makings whole has plan ≡ making ∷ others → is_result making.stage.kind ≡ true → has ≡ false
once whole has plan making others is result = elim (cases_Bool has) as (λ w. has ≡ false) [
  | inl yes_has ↦
      let all : all_makings whole has plan ≡ makings whole plan =
      (λ i. makings whole plan ++ cond (is_ready whole plan && not (yes_has i)) (result_of plan ∷ []) []) ∙ (λ i. makings whole plan ++ and_false (is_ready whole plan) i) ∙ append-nil (makings whole plan) in
      let at = All-head (λ (m : Making). stage_at m.place plan ≡ Some m.stage) making others (subst (All (λ (m : Making). stage_at m.place plan ≡ Some m.stage)) (sym all ∙ is) (standing whole plan)) in
      let number : StageId = record { 0 = 0 } in
      absurd (no_result number plan (after number making.place plan) making.stage (made_at number making.place plan making.stage at) result)
  | inr no_has ↦ no_has
]
  where
    and_false : (b : Bool) → cond (b && false) (result_of plan ∷ []) [] ≡ []
    and_false true = refl
    and_false false = refl

last_or : {X : Type 0} (xs : List X) (x d : X) → slice_index_or (xs ++ x ∷ []) (length xs) d ≡ x
last_or [] x d = refl
last_or (y ∷ ys) x d = last_or ys x d

none_of : {X : Type 0} (o : Option X) → is_some o ≡ false → o ≡ None
none_of None e = refl
none_of (Some x) e = absurd (clash e)
  where
    clash : true ≡ false → ⊥
    clash c = cc (c)

-- no stage is a result where none of the list is
none_result : (stages : Stages) (s : ℕ) → has_result stages ≡ false → is_result_in (slice_get stages s) ≡ false
none_result stages s e = elim (cases_Bool (is_result_in (slice_get stages s))) as (λ w. is_result_in (slice_get stages s) ≡ false) [
  | inl is ↦ absurd (clash (sym e ∙ some stages s is))
  | inr is ↦ is
]
  where
    clash : false ≡ true → ⊥
    clash c = cc (c)

    or_right : (a b : Bool) → b ≡ true → (a || b) ≡ true
    or_right true b e = refl
    or_right false b e = e

    some : (stages : Stages) (s : ℕ) → is_result_in (slice_get stages s) ≡ true → has_result stages ≡ true
    some [] s is = is
    some (x ∷ xs) zero is = ap (λ b. b || list_any (λ (stage : Stage). is_result stage.kind) xs) is
    some (x ∷ xs) (suc s) is = or_right (is_result x.kind) (has_result xs) (some xs s is)

module _ (asked : Asked) (first : Plan) (now : State) (making : Making) (c : Calm asked first now) (d : Calm asked first (with_stage now making)) where
  abbrev h : List Step
  h = history now

  abbrev birth : Birth
  birth = birth_over now.stages making.stage

  abbrev stages2 : Stages
  stages2 = now.stages ++ making.stage ∷ []

  behind : history (with_stage now making) ≡ h ++ Added birth ∷ []
  behind = noted_more now.entries (Adds birth)

  many : length (births h) ≡ length now.stages
  many = born_many now.stages h c.events

  long : length stages2 ≡ length now.stages + 1
  long = length-append now.stages (making.stage ∷ [])

  some : 1 ≤ part_count making.stage.body → 1 ≤ length birth.reads
  some few = let reads = reads_many now.stages making.stage in omega (arith, few, reads)

  whole_same : 1 ≤ part_count making.stage.body → (s : ℕ) → whole (h ++ Added birth ∷ []) s ≡ whole h s
  whole_same few = whole_added h birth (λ s t le. c.events.unborn s t (omega (arith, le, many))) (some few)

  done_same : 1 ≤ part_count making.stage.body → (s : ℕ) → materialised_at (with_stage now making) s ≡ materialised_at now s
  done_same few s = ap (λ g. first_whole g s) behind ∙ first_quiet h (Added birth) s tt (whole_same few s)

  births_here : births_from 0 (history (with_stage now making)) ≡ births_from 0 h ++ happened h ∷ []
  births_here = let none : 0 + happened h ≡ happened h = omega arith in ap (births_from 0) behind ∙ births_added 0 h birth ∙ ap (λ k. births_from 0 h ++ k ∷ []) none

  born_count : length (births_from 0 h) ≡ length now.stages
  born_count = births_many 0 h ∙ many

  older_note : 1 ≤ part_count making.stage.body → (s : ℕ) (stage : Stage) → s < length now.stages → bare_note now s stage ≡ bare_note (with_stage now making) s stage
  older_note few s stage lt =
      let born : slice_index_or (births_from 0 h) s 0 ≡ slice_index_or (births_from 0 (history (with_stage now making))) s 0 =
      sym (ap (λ bs. slice_index_or bs s 0) births_here ∙ get_or_append_left (births_from 0 h) (happened h ∷ []) 0 s (omega (arith, lt, born_count))) in
      λ i. record { kind = stage.kind; body = stage.body; born = born i; done = sym (done_same few s) i; outputs = [] }

  newest_note : 1 ≤ part_count making.stage.body → fresh_note making.stage (happened h) ≡ bare_note (with_stage now making) (length now.stages) making.stage
  newest_note few =
      let n = length now.stages in
      let born : happened h ≡ slice_index_or (births_from 0 (history (with_stage now making))) n 0 =
      sym (ap (λ bs. slice_index_or bs n 0) births_here ∙ ap (λ k. slice_index_or (births_from 0 h ++ happened h ∷ []) k 0) (sym born_count) ∙ last_or (births_from 0 h) (happened h) 0) in
      let done : None ≡ materialised_at (with_stage now making) n =
      sym (done_same few n ∙ none_of (first_whole h n) (sym (c.events.whole n) ∙ unborn_whole h n (omega (arith, many)))) in
      λ i. record { kind = making.stage.kind; body = making.stage.body; born = born i; done = done i; outputs = [] }

  notes_more : 1 ≤ part_count making.stage.body → noted_from (bare_note now) 0 now.stages ++ fresh_note making.stage (happened h) ∷ [] ≡ noted_from (bare_note (with_stage now making)) 0 stages2
  notes_more few =
      let none : 0 + length now.stages ≡ length now.stages = omega arith in
      (λ i. noted_same (bare_note now) (bare_note (with_stage now making)) 0 now.stages (λ s stage low high. older_note few s stage (omega (arith, high))) i
      ++ (newest_note few ∙ ap (λ k. bare_note (with_stage now making) k making.stage) (sym none)) i ∷ [])
      ∙ sym (note_more (bare_note (with_stage now making)) 0 now.stages making.stage)

  counted_same : (s t : ℕ) → counted (history (with_stage now making)) s t ≡ counted h s t
  counted_same s t = ap (λ g. counted g s t) behind ∙ counted_more h (Added birth) s t ∙ or_false (counted h s t)

  kept_same : (s m : ℕ) → kept_in asked now s m ≡ kept_in asked (with_stage now making) s m
  kept_same s m = elim (cases_lt s (length now.stages)) [
    | inl lt ↦ λ i. cond (sym (counted_same s m) i) (Some (slice_index_or (sym (cells_stay asked.tables now.stages (making.stage ∷ []) s lt) i) m [])) None
    | inr ge ↦ ap (λ b. cond b (Some (slice_index_or (cells asked.tables now.stages s) m [])) None) (c.events.unborn s m ge)
        ∙ sym (ap (λ b. cond b (Some (slice_index_or (cells asked.tables stages2 s) m [])) None) (counted_same s m ∙ c.events.unborn s m ge))
  ]

  module _ (run new : Run) (shows : Shows asked now run) (m : Makes run making new) where
    made_are : made_stages run ≡ now.stages
    made_are = ap stages_of shows.stages ∙ stages_noted (bare_note now) 0 now.stages (λ s stage. refl)

    count_is : length run.stages.items ≡ length now.stages
    count_is = ap (λ notes. length notes) shows.stages ∙ count_noted (bare_note now) 0 now.stages

    number_is : next_number run ≡ number_of (length now.stages)
    number_is = λ i. record { 0 = count_is i }

    cells_more : (s : ℕ) → KeptOf (slice_get stages2 s) (kept_of new.outputs s)
    cells_more s = subst (λ outputs. KeptOf (slice_get stages2 s) (kept_of outputs s)) (sym m.stays.outputs) (at (cases_lt s (length now.stages)))
      where
        at : (s < length now.stages) ⊎ (length now.stages ≤ s) → KeptOf (slice_get stages2 s) (kept_of run.outputs s)
        at (inl lt) = subst (λ o. KeptOf o (kept_of run.outputs s)) (sym (get_more now.stages making.stage s lt)) (shows.cells s)
        at (inr ge) =
            let none : kept_of run.outputs s ≡ [] = subst (λ o. KeptOf o (kept_of run.outputs s)) (slice_get_past now.stages s ge) (shows.cells s) in
            subst (KeptOf (slice_get stages2 s)) (sym none) (empty (slice_get stages2 s))
          where
            empty : (o : Option Stage) → KeptOf o []
            empty None = refl
            empty (Some stage) = All-nil (λ cells. length cells ≡ reducers_of stage.kind)

    result_more : (is_result making.stage.kind ≡ true → has_result now.stages ≡ false) → (s : ℕ) → is_result_in (slice_get stages2 s) ≡ is_at new.result s
    result_more alone s = at (cases_lt s (length now.stages)) ∙ sym (ap (λ o. is_at o s) m.result)
      where
        n : ℕ
        n = length now.stages

        number : Option StageId → Bool
        number o = is_at o s

        apart : (s ≡ n → ⊥) → (n == s) ≡ false
        apart differs = is_not (n == s) (λ e. differs (sym (eqb-true n s e)))

        by : (b : Bool) → is_result making.stage.kind ≡ b → (s ≡ n → ⊥) → is_result_in (slice_get now.stages s) ≡ is_at (cond b (Some (next_number run)) run.result) s
        by true e differs = none_result now.stages s (alone e) ∙ sym (ap (λ k. k == s) count_is ∙ apart differs)
        by false e differs = shows.result s

        new_one : (b : Bool) → is_result making.stage.kind ≡ b → s ≡ n → b ≡ is_at (cond b (Some (next_number run)) run.result) s
        new_one true e same = sym ((λ i. count_is i == same i) ∙ self n)
          where
            self : (k : ℕ) → (k == k) ≡ true
            self k = grind (arith)
        new_one false e same = sym (sym (shows.result s) ∙ ap is_result_in (slice_get_past now.stages s (omega (arith, same))))

        at : (s < n) ⊎ (n ≤ s) → is_result_in (slice_get stages2 s) ≡ is_at (result_with (next_number run) making run.result) s
        at (inl lt) = ap is_result_in (get_more now.stages making.stage s lt) ∙ by (is_result making.stage.kind) refl (λ e. absurd (omega (arith, e, lt)))
        at (inr ge) = elim (cases_eq s n) [
          | inl same ↦ ap is_result_in ((λ i. slice_get stages2 (same i)) ∙ get_last now.stages making.stage) ∙ new_one (is_result making.stage.kind) refl same
          | inr differs ↦ ap is_result_in (slice_get_past stages2 s (omega (arith, long, ge, differs))) ∙ sym (ap is_result_in (slice_get_past now.stages s ge)) ∙ by (is_result making.stage.kind) refl differs
        ]

-- the state behind the first stage that can be made
pub shows_made : (asked : Asked) (first : Plan) (now : State) (making : Making) (rest : List Making) (run new : Run) → Calm asked first now → Shows asked now run → Ready run (making ∷ rest) →
    Makes run making new → Calm asked first (with_stage now making) × Shows asked (with_stage now making) new
shows_made asked first now making rest run new c shows ready m =
    let is : all_makings (listed run.whole) (has_result now.stages) now.plan ≡ making ∷ rest = (λ i. all_makings (listed run.whole) (sym shows.has_result i) (sym shows.plan i)) ∙ ready.ready in
    let d = calm_made asked first now (listed run.whole) making rest c is in
    let now2 = with_stage now making in
    let n = length now.stages in
    let stage_there : slice_get now2.stages n ≡ Some making.stage = get_last now.stages making.stage in
    let few : 1 ≤ part_count making.stage.body = (all_at IsCarriedOut now2.stages n making.stage d.carried stage_there).1 in
    let number = number_is asked first now making c d run new shows m in (
      d,
      record {
        steady = steady_made run making new shows.steady (can_make run making rest ready).body m;
        plan = m.plan ∙ (λ i. plan_after (number i) making (shows.plan i)) ∙ plan_is (number_of n) now.plan making (how (listed run.whole) (has_result now.stages) now.plan making rest is);
        has_result = m.has_result ∙ (λ i. cond (same_result making.stage.kind i) true (shows.has_result i)) ∙ cond_or (is_result making.stage.kind) (has_result now.stages)
            ∙ sym (any_more (λ (stage : Stage). is_result stage.kind) now.stages making.stage);
        adopted = m.stays.adopted ∙ shows.adopted;
        board = subst (λ stages. StandsFor new.board (now.entries ++ Adds (birth_over stages making.stage) ∷ [])) (made_are asked first now making c d run new shows m) (m.stands now.entries shows.board);
        stages = m.stages ∙ (λ i. shows.stages i ++ fresh_note making.stage (length (shows.fates i)) ∷ []) ∙ notes_more asked first now making c d few;
        whole = λ s. ap (λ stages. listed stages s) m.stays.whole ∙ shows.whole s ∙ materialised_whole asked first now c s
            ∙ sym (materialised_whole asked first now2 d s ∙ ap (λ g. whole g s) (behind asked first now making c d) ∙ whole_same asked first now making c d few s);
        result = result_more asked first now making c d run new shows m (λ result. once (listed run.whole) (has_result now.stages) now.plan making rest is result);
        outputs = λ s t. ap (λ outputs. output_at outputs s t) m.stays.outputs ∙ shows.outputs s t ∙ kept_same asked first now making c d s t;
        cells = cells_more asked first now making c d run new shows m;
        fates = m.stays.fates ∙ shows.fates ∙ sym (ap fates (behind asked first now making c d) ∙ fates_quiet (history now) (Added (birth_over now.stages making.stage)) tt);
        runs = m.stays.runs ∙ shows.runs ∙ sym (ap (runs_from 0) (behind asked first now making c d) ∙ runs_added 0 (history now) (birth_over now.stages making.stage));
      },
    )
