-- How often a task runs, and that each event has the fate that it has behind what stands before it.
use Rattle.std.proofs.Common.{◌≡◌, ℕ, zero, suc, ◌+◌, ◌≤◌, Bool, true, false, cond, not, ◌&&◌, ◌||◌, ◌==◌, List, [], ◌∷◌, ◌++◌, refl, ap, ◌∙◌, sym, Option, Some, None, arith, append_assoc}
use Rattle.std.specs.List.{fold, filter_map, list_any}
use Rattle.std.proofs.lemmas.List.{append-nil}
use Rattle.std.proofs.lemmas.List.Sums.{fold-append, sum_by-append}
use Rattle.std.proofs.lemmas.Bool.{eqb-true}
use Rattle.aqe_base.specs.declared.stage_id.StageId.{StageId}
use Rattle.aqe_base.specs.declared.ids.TaskId.{TaskId}
use Rattle.aqe_base.specs.declared.ids.ExecId.{ExecId}
use Rattle.aqe_base.specs.declared.event.Event.TheVariants.{Ended, Failed, Lost, Fetch}
use Rattle.aqe_scheduler.specs.declared.fate.Fate.TheVariants as fate
use Rattle.aqe_scheduler.specs.declared.need.Need.{Need}
use Rattle.aqe_scheduler.specs.History.{Birth, Entry, Adds, Marks, Happens, Step, Added, Marked, Happened}
use Rattle.aqe_scheduler.specs.Looks.{births, born_in, counts, counted, executor_of, takes_away, leaves, available, done, shuffles}
use Rattle.aqe_scheduler.specs.Fates.{task_reads, has_inputs, judged, step_of, noted}
use Rattle.aqe_scheduler.specs.Bounds.{runs, takes, takings}
use Rattle.aqe_scheduler.specs.Laws.{RerunsAreBounded, OthersRunOnce, FatesAreRight}
use Rattle.aqe_scheduler.proofs.Behind.{any_more, births_more, counted_more}
use Rattle.aqe_scheduler.proofs.Taken.{noted_more}

one_more : (p : Step → Bool) (x : Step) → 0 + cond (p x) 1 0 ≡ cond (p x) 1 0
one_more p x = omega arith

runs_more : (h : List Step) (x : Step) (s t : ℕ) → runs (h ++ x ∷ []) s t ≡ runs h s t + cond (counts s t x) 1 0
runs_more h x s t = sum_by-append (λ y. cond (counts s t y) 1 0) h (x ∷ []) ∙ ap (λ n. runs h s t + n) (one_more (counts s t) x)

takings_more : (h : List Step) (x : Step) → takings (h ++ x ∷ []) ≡ takings h + cond (takes x) 1 0
takings_more h x = sum_by-append (λ y. cond (takes y) 1 0) h (x ∷ []) ∙ ap (λ n. takings h + n) (one_more takes x)

-- a step that takes no output away leaves what is available, and adds what it counts
available_more : (h : List Step) (x : Step) (s m : ℕ) → ((on : ℕ) → takes_away s m on x ≡ false) → available (h ++ x ∷ []) s m ≡ (available h s m || counts s m x)
available_more [] x s m still = last (counts s m x)
  where
    last : (c : Bool) → ((c && true) || false) ≡ (false || c)
    last true = refl
    last false = refl
available_more (y ∷ later) x s m still =
    (λ i. (counts s m y && not (gone i)) || available_more later x s m still i)
    ∙ regroup (leaves s m y later) (available later s m) (counts s m x)
  where
    or_none : (a b : Bool) → b ≡ false → (a || b) ≡ a
    or_none a true never = absurd (cc)
    or_none true false none = refl
    or_none false false none = refl

    gone : list_any (takes_away s m (executor_of y).0) (later ++ x ∷ []) ≡ list_any (takes_away s m (executor_of y).0) later
    gone = any_more (takes_away s m (executor_of y).0) later x ∙ or_none (list_any (takes_away s m (executor_of y).0) later) (takes_away s m (executor_of y).0 x) (still (executor_of y).0)

    regroup : (a b c : Bool) → (a || (b || c)) ≡ ((a || b) || c)
    regroup true b c = refl
    regroup false b c = refl

-- a step that is among the takings counts no task, and no other takes an output away
takes_counts : (x : Step) (s t : ℕ) → takes x ≡ true → counts s t x ≡ false
takes_counts (Happened (Lost e) f) s t so = refl
takes_counts (Happened (Fetch a b c d e) f) s t so = refl
takes_counts (Happened (Ended a b c) f) s t so = absurd (cc)
takes_counts (Happened (Failed a b c) f) s t so = absurd (cc)
takes_counts (Added b) s t so = refl
takes_counts (Marked n b) s t so = refl

others_leave : (x : Step) (s t on : ℕ) → takes x ≡ false → takes_away s t on x ≡ false
others_leave (Happened (Lost e) f) s t on so = absurd (cc)
others_leave (Happened (Fetch a b c d e) fate.FetchCounted) s t on so = absurd (cc)
others_leave x s t on so = refl

-- a task that is counted was not done
end_free : (s' : StageId) (t' : TaskId) (e : ExecId) (reads : Option (List Need)) (n d : Bool) (all_done : ℕ → ℕ → Bool) (s t : ℕ) →
    counts s t (Happened (Ended s' t' e) (judged reads n d all_done fate.Counted)) ≡ true → (((s'.0 == s) && (t'.0 == t)) ≡ true) × (d ≡ false)
end_free s' t' e None n d all_done s t so = absurd (cc)
end_free s' t' e (Some needs) false d all_done s t so = absurd (cc)
end_free s' t' e (Some needs) true true all_done s t so = absurd (cc)
end_free s' t' e (Some needs) true false all_done s t so = inputs (has_inputs all_done needs) so
  where
    inputs : (i : Bool) → counts s t (Happened (Ended s' t' e) (cond i fate.Counted fate.Starved)) ≡ true → (((s'.0 == s) && (t'.0 == t)) ≡ true) × (false ≡ false)
    inputs true so = (so, refl)
    inputs false so = absurd (cc)

both : (a b : Bool) → (a && b) ≡ true → (a ≡ true) × (b ≡ true)
both true true so = (refl, refl)
both true false so = absurd (cc)
both false b so = absurd (cc)

counted_free : (h : List Step) (entry : Entry) (s t : ℕ) → counts s t (step_of h entry) ≡ true → done h s t ≡ false
counted_free h (Adds birth) s t so = absurd (cc)
counted_free h (Marks n b) s t so = absurd (cc)
counted_free h (Happens (Ended s' t' e)) s t so =
    let found = end_free s' t' e (task_reads (births h) s'.0 t'.0) _ (done h s'.0 t'.0) (done h) s t so in
    let parts = both (s'.0 == s) (t'.0 == t) found.0 in
    ap (λ i. done h i t) (sym (eqb-true s'.0 s parts.0)) ∙ ap (λ i. done h s'.0 i) (sym (eqb-true t'.0 t parts.1)) ∙ found.1
counted_free h (Happens (Failed s' t' e)) s t so = absurd (cc)
counted_free h (Happens (Lost e)) s t so = absurd (cc)
counted_free h (Happens (Fetch s' t' e p m)) s t so = absurd (cc)

-- what holds of the runs of a task behind every history
record Bounded (s t : ℕ) (h : List Step) : Type 0 where
  again : runs h s t ≤ takings h + cond (available h s t) 1 0
  once : shuffles (births h) s ≡ false → runs h s t ≤ cond (counted h s t) 1 0

-- a stage that is no shuffle was none
was_none : (h : List Step) (x : Step) (s : ℕ) → shuffles (births (h ++ x ∷ [])) s ≡ false → shuffles (births h) s ≡ false
was_none h x s none = front (births h) (filter_map born_in (x ∷ [])) s (ap (λ bs. shuffles bs s) (sym (births_more h x)) ∙ none)
  where
    front : (bs cs : List Birth) (i : ℕ) → shuffles (bs ++ cs) i ≡ false → shuffles bs i ≡ false
    front [] cs i none = refl
    front (b ∷ bs) cs zero none = none
    front (b ∷ bs) cs (suc i) none = front bs cs i none

free_of : (sh a c : Bool) (r n : ℕ) → cond sh a c ≡ false → r ≤ n + cond a 1 0 → (sh ≡ false → r ≤ cond c 1 0) → r ≤ n
free_of true true c r n free again once = absurd (cc)
free_of true false c r n free again once = omega arith
free_of false a true r n free again once = absurd (cc)
free_of false a false r n free again once = let none : r ≤ 0 = once refl in omega arith

again_step : (take count av av' : Bool) (r n : ℕ) → (take ≡ true → count ≡ false) → (take ≡ false → av' ≡ (av || count)) → (count ≡ true → r ≤ n) → r ≤ n + cond av 1 0 →
    r + cond count 1 0 ≤ n + cond take 1 0 + cond av' 1 0
again_step true true av av' r n quiet left free was = let never : true ≡ false = quiet refl in absurd (cc)
again_step true false true av' r n quiet left free was = omega arith
again_step true false false av' r n quiet left free was = omega arith
again_step false true true av' r n quiet left free was = let low : r ≤ n = free refl in let is : av' ≡ true = left refl in rw is (omega arith)
again_step false true false av' r n quiet left free was = let low : r ≤ n = free refl in let is : av' ≡ true = left refl in rw is (omega arith)
again_step false false true av' r n quiet left free was = let is : av' ≡ true = left refl in rw is (omega arith)
again_step false false false av' r n quiet left free was = let is : av' ≡ false = left refl in rw is (omega arith)

once_step : (count cd : Bool) (r : ℕ) → (count ≡ true → cd ≡ false) → r ≤ cond cd 1 0 → r + cond count 1 0 ≤ cond (cd || count) 1 0
once_step true true r free was = let never : true ≡ false = free refl in absurd (cc)
once_step true false r free was = omega arith
once_step false true r free was = omega arith
once_step false false r free was = omega arith

not_counted : (sh a c : Bool) → sh ≡ false → cond sh a c ≡ false → c ≡ false
not_counted true a c none free = absurd (cc)
not_counted false a c none free = free

bounded_at : (s t : ℕ) (h : List Step) (x : Step) → Bounded s t h → (counts s t x ≡ true → done h s t ≡ false) → Bounded s t (h ++ x ∷ [])
bounded_at s t h x was free = record {
  again =
      let step = again_step (takes x) (counts s t x) (available h s t) (available (h ++ x ∷ []) s t) (runs h s t) (takings h) (takes_counts x s t)
      (λ so. available_more h x s t (λ on. others_leave x s t on so))
      (λ so. free_of (shuffles (births h) s) (available h s t) (counted h s t) (runs h s t) (takings h) (free so) was.again was.once) was.again in
      rw (runs_more h x s t, takings_more h x) step;
  once = λ none.
      let before : shuffles (births h) s ≡ false = was_none h x s none in
      let step = once_step (counts s t x) (counted h s t) (runs h s t)
      (λ so. not_counted (shuffles (births h) s) (available h s t) (counted h s t) before (free so)) (was.once before) in
      rw (runs_more h x s t, counted_more h x s t) step;
}

bounded_step : (s t : ℕ) (h : List Step) (entry : Entry) → Bounded s t h → Bounded s t (h ++ step_of h entry ∷ [])
bounded_step s t h entry was = bounded_at s t h (step_of h entry) was (counted_free h entry s t)

bounded_all : (s t : ℕ) (entries : List Entry) (h : List Step) → Bounded s t h → Bounded s t (fold (λ g entry. g ++ step_of g entry ∷ []) h entries)
bounded_all s t [] h was = was
bounded_all s t (entry ∷ entries) h was = bounded_all s t entries (h ++ step_of h entry ∷ []) (bounded_step s t h entry was)

bounded : (s t : ℕ) (entries : List Entry) → Bounded s t (noted entries)
bounded s t entries = bounded_all s t entries [] (record { again = omega arith; once = λ none. omega arith })

at_most : (n r : ℕ) (b : Bool) → r ≤ n + cond b 1 0 → r ≤ n + 1
at_most n r true was = was
at_most n r false was = omega arith

pub reruns_are_bounded : RerunsAreBounded
reruns_are_bounded entries s t = at_most (takings (noted entries)) (runs (noted entries) s t) (available (noted entries) s t) (bounded s t entries).again

pub others_run_once : OthersRunOnce
others_run_once entries s t none = at_most 0 (runs (noted entries) s t) (counted (noted entries) s t) (zero_plus (runs (noted entries) s t) (counted (noted entries) s t) ((bounded s t entries).once none))
  where
    zero_plus : (r : ℕ) (b : Bool) → r ≤ cond b 1 0 → r ≤ 0 + cond b 1 0
    zero_plus r b was = omega arith

-- steps are only added at the end
grows : (entries : List Entry) (h : List Step) → (later : List Step) × (fold (λ g entry. g ++ step_of g entry ∷ []) h entries ≡ h ++ later)
grows [] h = ([], sym (append-nil h))
grows (entry ∷ entries) h =
    let rest = grows entries (h ++ step_of h entry ∷ []) in
    (step_of h entry ∷ rest.0, rest.1 ∙ append_assoc h (step_of h entry ∷ []) rest.0)

pub fates_are_right : FatesAreRight
fates_are_right before event after =
    let rest = grows after (noted (before ++ Happens event ∷ [])) in
    (rest.0, fold-append (λ g entry. g ++ step_of g entry ∷ []) [] (before ++ Happens event ∷ []) after ∙ rest.1 ∙ ap (λ g. g ++ rest.0) (noted_more before (Happens event)))
