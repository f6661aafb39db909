-- The tables follow each event with the fate that it has.
use Rattle.std.proofs.Common.{◌≡◌, ℕ, ◌+◌, Bool, true, false, cond, not, ◌&&◌, ◌||◌, ◌==◌, List, [], ◌∷◌, ◌++◌, map, refl, ap, ◌∙◌, sym, Option, Some, None, is_some, slice_get, filter, option_to_list, unwrap_or, inl, inr}
use Rattle.std.specs.List.{filter_map}
use Rattle.std.specs.Option.{option_map, option_and_then}
use Rattle.std.proofs.lemmas.List.{append-nil}
use Rattle.std.proofs.lemmas.Bool.{eqb-true}
use Rattle.aqe_base.specs.declared.ids.ExecId.{ExecId}
use Rattle.aqe_base.specs.declared.event.Event.{Event}
use Rattle.aqe_base.specs.declared.event.Event.TheVariants.{Ended, Failed, Lost, Fetch}
use Rattle.aqe_scheduler.specs.declared.fate.Fate.{Fate}
use Rattle.aqe_scheduler.specs.declared.fate.Fate.TheVariants as fate
use Rattle.aqe_scheduler.specs.declared.task.Task.{Task}
use Rattle.aqe_scheduler.specs.declared.stage.Stage.{Stage}
use Rattle.aqe_scheduler.specs.History.{Step, Happened}
use Rattle.aqe_scheduler.specs.Looks.{born_in, marked, counts, executor_of, takes_away, fails_counted, fetch_counted, counts_for, stopped}
use Rattle.aqe_scheduler.specs.Fates.{task_reads}
use Rattle.aqe_scheduler.specs.Tables.{edited, fresh, ended, failed, emptied, without, holds_on, births_on, birth_of, needed_on, streak_on, task_on, found_on}
use Rattle.aqe_scheduler.specs.Changes.{ending_of, failure_of, fetch_of, bereft, loss_of, settled}
use Rattle.aqe_scheduler.proofs.Edits.{map_edited, get_edited}
use Rattle.aqe_scheduler.proofs.Tables.{found_edited, task_edited, streak_edited, needed_edited, found_lost, task_lost, streak_lost, needed_lost}
use Rattle.aqe_scheduler.proofs.Follow.{Follows, Followed}

-- what an event that counts says of the board: its task is there and, where it ends, has no output; a stage whose fetch failed is there
abbrev pub Fair : List Stage → Event → Fate → Type 0
Fair board (Ended s t e) fate.Counted = (is_some (found_on board s.0 t.0) ≡ true) × (task_on board s.0 t.0).on ≡ None
Fair board (Failed s t e) fate.FailCounted = is_some (found_on board s.0 t.0) ≡ true
Fair board (Fetch s t e p m) fate.FetchCounted = is_some (slice_get board s.0) ≡ true
Fair board event f = Unit {0}

pub or_false : (b : Bool) → b ≡ (b || false)
or_false true = refl
or_false false = refl

or_true : (b : Bool) → true ≡ (b || true)
or_true true = refl
or_true false = refl

-- an option's own value, kept
pub all_kept : (o : Option ExecId) → filter (λ e. not false) (option_to_list o) ++ [] ≡ option_to_list o
all_kept None = refl
all_kept (Some e) = refl

-- births and room stay behind a change of one stage that keeps its kind and what is read, and its number of tasks
pub same_births : (f : Stage → Stage) (board : List Stage) (s : ℕ) → ((x : Stage) → birth_of (f x) ≡ birth_of x) → births_on (edited s f board) ≡ births_on board ++ []
same_births f board s same = map_edited birth_of f board s same ∙ sym (append-nil (births_on board))

still_there : (g : Task → Task) (b : Bool) (o : Option Task) → is_some (cond b (option_map g o) o) ≡ is_some o
still_there g true None = refl
still_there g true (Some x) = refl
still_there g false o = refl

same_room : (f : Stage → Stage) (g : Task → Task) (board : List Stage) (s t : ℕ) → ((x : Stage) → birth_of (f x) ≡ birth_of x) → ((x : Stage) → (f x).tasks ≡ edited t g x.tasks) →
    ((i j : ℕ) → is_some (found_on board i j) ≡ is_some (task_reads (births_on board) i j)) → (i j : ℕ) → is_some (found_on (edited s f board) i j) ≡ is_some (task_reads (births_on (edited s f board)) i j)
same_room f g board s t same tasks room i j =
    ap (λ o. is_some o) (found_edited f g board s t i j tasks) ∙ still_there g ((s == i) && (t == j)) (found_on board i j) ∙ room i j
    ∙ ap (λ bs. is_some (task_reads bs i j)) (sym (map_edited birth_of f board s same))

-- what becomes of one task
end_task : (b : Bool) (e : ExecId) (y : Task) → (b ≡ true → y.on ≡ None) → filter (λ x. not false) (option_to_list y.on) ++ cond b (e ∷ []) [] ≡ option_to_list (cond b (ended e y) y).on
end_task true e y free = ap (λ o. filter (λ x. not false) (option_to_list o) ++ e ∷ []) (free refl)
end_task false e y free = all_kept y.on

end_counted : (b : Bool) (e : ExecId) (y : Task) → (cond b (ended e y) y).counted ≡ (y.counted || b)
end_counted true e y = or_true y.counted
end_counted false e y = or_false y.counted

end_fails : (b : Bool) (e : ExecId) (y : Task) → (cond b (ended e y) y).fails ≡ y.fails
end_fails true e y = refl
end_fails false e y = refl

fail_on : (b : Bool) (y : Task) → filter (λ x. not false) (option_to_list y.on) ++ [] ≡ option_to_list (cond b (failed y) y).on
fail_on true y = all_kept y.on
fail_on false y = all_kept y.on

fail_counted : (b : Bool) (y : Task) → (cond b (failed y) y).counted ≡ (y.counted || false)
fail_counted true y = or_false y.counted
fail_counted false y = or_false y.counted

fail_fails : (b : Bool) (y : Task) → (cond b (failed y) y).fails ≡ cond b (stopped (y.fails + 1)) y.fails
fail_fails true y = refl
fail_fails false y = refl

fetch_on : (b : Bool) (y : Task) → filter (λ x. not b) (option_to_list y.on) ++ [] ≡ option_to_list (cond b (emptied y) y).on
fetch_on true y = none y.on
  where
    none : (o : Option ExecId) → filter (λ x. not true) (option_to_list o) ++ [] ≡ []
    none None = refl
    none (Some e) = refl
fetch_on false y = all_kept y.on

fetch_task_counted : (b : Bool) (y : Task) → (cond b (emptied y) y).counted ≡ (y.counted || false)
fetch_task_counted true y = or_false y.counted
fetch_task_counted false y = or_false y.counted

fetch_fails : (b : Bool) (y : Task) → (cond b (emptied y) y).fails ≡ y.fails
fetch_fails true y = refl
fetch_fails false y = refl

lost_on : (e : ExecId) (y : Task) → filter (λ x. not (e.0 == x.0)) (option_to_list y.on) ++ [] ≡ option_to_list (without e.0 y).on
lost_on e y = at y.on
  where
    two : (b : Bool) (on : ExecId) → cond (not b) (on ∷ []) [] ++ [] ≡ option_to_list (cond b None (Some on))
    two true on = refl
    two false on = refl

    at : (o : Option ExecId) → filter (λ x. not (e.0 == x.0)) (option_to_list o) ++ [] ≡ option_to_list (without e.0 (record y { on = o })).on
    at None = refl
    at (Some on) = pick (e.0 == on.0) on
      where
        pick : (b : Bool) (x : ExecId) → cond (not b) (x ∷ []) [] ++ [] ≡ option_to_list (cond b (emptied (record y { on = Some x })) (record y { on = Some x })).on
        pick true x = refl
        pick false x = refl

lost_counted : (e : ExecId) (y : Task) → (without e.0 y).counted ≡ (y.counted || false)
lost_counted e y = at (holds_on e.0 y.on)
  where
    at : (b : Bool) → (cond b (emptied y) y).counted ≡ (y.counted || false)
    at b = fetch_task_counted b y

lost_fails : (e : ExecId) (y : Task) → (without e.0 y).fails ≡ y.fails
lost_fails e y = fetch_fails (holds_on e.0 y.on) y

-- a task's record behind an equation
pub with_task : (s t : ℕ) (x : Step) (y z w : Task) → w ≡ z → Follows s t x y z → Follows s t x y w
with_task s t x y z w is follows = record {
  counted = ap (λ v. v.counted) is ∙ follows.counted;
  on = follows.on ∙ ap (λ v. option_to_list v.on) (sym is);
  fails = ap (λ v. v.fails) is ∙ follows.fails;
}

quiet : (board : List Stage) (x : Step) → filter_map born_in (x ∷ []) ≡ [] → ((s : ℕ) (b : Bool) → marked s b x ≡ b) → ((s : ℕ) → fetch_counted s x ≡ false) →
    ((s : ℕ) → counts_for s x ≡ false) → ((s t : ℕ) → counts s t x ≡ false) → ((s t on : ℕ) → takes_away s t on x ≡ false) → ((s t : ℕ) → fails_counted s t x ≡ false) →
    Followed board x board
quiet board x none marks fetches ends counting takes failing = record {
  births = sym (append-nil (births_on board)) ∙ ap (λ bs. births_on board ++ bs) (sym none);
  room = λ room. room;
  needed = λ s. sym (marks s (needed_on board s));
  streaks = λ s. ap (λ c. cond c 0 (streak_on board s)) (sym (ends s)) ∙ ap (λ f. cond f (stopped (cond (counts_for s x) 0 (streak_on board s) + 1)) (cond (counts_for s x) 0 (streak_on board s))) (sym (fetches s));
  tasks = λ s t. record {
    counted = or_false (task_on board s t).counted ∙ ap (λ b. (task_on board s t).counted || b) (sym (counting s t));
    on = (λ i. filter (λ e. not (takes s t e.0 i)) (option_to_list (task_on board s t).on) ++ cond (counting s t i) (executor_of x ∷ []) []) ∙ all_kept (task_on board s t).on;
    fails = ap (λ b. cond b (stopped ((task_on board s t).fails + 1)) (task_on board s t).fails) (sym (failing s t));
  };
}

same_of : {X : Type 0} (b : Bool) (x : X) → cond b x x ≡ x
same_of true x = refl
same_of false x = refl

-- a task at an equal place
at_same : (board : List Stage) (s t i j : ℕ) → ((s == i) && (t == j)) ≡ true → (task_on board s t).on ≡ None → (task_on board i j).on ≡ None
at_same board s t i j hold free =
    let parts = both (s == i) (t == j) hold in
    ap (λ k. (task_on board k j).on) (sym (eqb-true s i parts.0)) ∙ ap (λ k. (task_on board s k).on) (sym (eqb-true t j parts.1)) ∙ free
  where
    both : (a b : Bool) → (a && b) ≡ true → (a ≡ true) × (b ≡ true)
    both true true hold = (refl, refl)
    both true false hold = absurd (cc)
    both false b hold = absurd (cc)

-- a failed fetch changes no task of the stage that reads
pub fetched : (board : List Stage) (s i j : ℕ) → found_on (edited s fetch_of board) i j ≡ found_on board i j
fetched board s i j = ap (λ o. option_and_then (λ stage. slice_get stage.tasks j) o) (get_edited fetch_of board s i) ∙ at (s == i) (slice_get board i)
  where
    at : (b : Bool) (o : Option Stage) → option_and_then (λ stage. slice_get stage.tasks j) (cond b (option_map fetch_of o) o) ≡ option_and_then (λ stage. slice_get stage.tasks j) o
    at false o = refl
    at true None = refl
    at true (Some x) = refl

-- the tables follow an event, where what counts is fair
pub event_followed : (board : List Stage) (event : Event) (f : Fate) → Fair board event f → Followed board (Happened event f) (settled event f board)
event_followed board (Ended s t e) fate.Counted fair = record {
  births = same_births (ending_of t.0 e) board s.0 (λ x. refl);
  room = same_room (ending_of t.0 e) (ended e) board s.0 t.0 (λ x. refl) (λ x. refl);
  needed = λ i. needed_edited (ending_of t.0 e) board s.0 i (λ x. refl);
  streaks = λ i. streak_edited (ending_of t.0 e) (λ n. 0) board s.0 i (λ x. refl) (inl refl);
  tasks = λ i j. with_task i j (Happened (Ended s t e) fate.Counted) (task_on board i j) _ _ (task_edited (ending_of t.0 e) (ended e) board s.0 t.0 i j (λ x. refl) (inr fair.0)) (record {
    counted = end_counted ((s.0 == i) && (t.0 == j)) e (task_on board i j);
    on = end_task ((s.0 == i) && (t.0 == j)) e (task_on board i j) (free i j);
    fails = end_fails ((s.0 == i) && (t.0 == j)) e (task_on board i j);
  });
}
  where
    free : (i j : ℕ) → ((s.0 == i) && (t.0 == j)) ≡ true → (task_on board i j).on ≡ None
    free i j hold = at_same board s.0 t.0 i j hold fair.1
event_followed board (Failed s t e) fate.FailCounted fair = record {
  births = same_births (failure_of t.0) board s.0 (λ x. refl);
  room = same_room (failure_of t.0) failed board s.0 t.0 (λ x. refl) (λ x. refl);
  needed = λ i. needed_edited (failure_of t.0) board s.0 i (λ x. refl);
  streaks = λ i. streak_edited (failure_of t.0) (λ n. n) board s.0 i (λ x. refl) (inl refl) ∙ same_of (s.0 == i) (streak_on board i);
  tasks = λ i j. with_task i j (Happened (Failed s t e) fate.FailCounted) (task_on board i j) _ _ (task_edited (failure_of t.0) failed board s.0 t.0 i j (λ x. refl) (inr fair)) (record {
    counted = fail_counted ((s.0 == i) && (t.0 == j)) (task_on board i j);
    on = fail_on ((s.0 == i) && (t.0 == j)) (task_on board i j);
    fails = fail_fails ((s.0 == i) && (t.0 == j)) (task_on board i j);
  });
}
event_followed board (Lost e) f fair = record {
  births = births_lost board ∙ sym (append-nil (births_on board));
  room = λ room s t. ap (λ o. is_some o) (found_lost e board s t) ∙ mapped (found_on board s t) ∙ room s t ∙ ap (λ bs. is_some (task_reads bs s t)) (sym (births_lost board));
  needed = λ s. needed_lost e board s;
  streaks = λ s. streak_lost e board s;
  tasks = λ s t. with_task s t (Happened (Lost e) f) (task_on board s t) _ _ (task_lost e board s t) (record {
    counted = lost_counted e (task_on board s t);
    on = lost_on e (task_on board s t);
    fails = lost_fails e (task_on board s t);
  });
}
  where
    births_lost : (xs : List Stage) → births_on (map (loss_of e) xs) ≡ births_on xs
    births_lost [] = refl
    births_lost (x ∷ xs) = ap (λ bs. birth_of x ∷ bs) (births_lost xs)

    mapped : (o : Option Task) → is_some (option_map (without e.0) o) ≡ is_some o
    mapped None = refl
    mapped (Some x) = refl
event_followed board (Fetch s t e p m) fate.FetchCounted fair = record {
  births = map_edited birth_of (bereft m.0) (edited s.0 fetch_of board) p.0 (λ x. refl) ∙ same_births fetch_of board s.0 (λ x. refl);
  room = λ room. same_room (bereft m.0) emptied (edited s.0 fetch_of board) p.0 m.0 (λ x. refl) (λ x. refl)
      (λ i j. ap (λ o. is_some o) (fetched board s.0 i j) ∙ room i j ∙ ap (λ bs. is_some (task_reads bs i j)) (sym (map_edited birth_of fetch_of board s.0 (λ x. refl))));
  needed = λ i. needed_edited (bereft m.0) (edited s.0 fetch_of board) p.0 i (λ x. refl) ∙ needed_edited fetch_of board s.0 i (λ x. refl);
  streaks = λ i. streak_edited (bereft m.0) (λ n. n) (edited s.0 fetch_of board) p.0 i (λ x. refl) (inl refl) ∙ same_of (p.0 == i) (streak_on (edited s.0 fetch_of board) i)
      ∙ streak_edited fetch_of (λ n. stopped (n + 1)) board s.0 i (λ x. refl) (inr fair);
  tasks = λ i j. with_task i j (Happened (Fetch s t e p m) fate.FetchCounted) (task_on board i j) _ _
      (task_edited (bereft m.0) emptied (edited s.0 fetch_of board) p.0 m.0 i j (λ x. refl) (inl refl) ∙ ap (λ o. let y = unwrap_or o fresh in cond ((p.0 == i) && (m.0 == j)) (emptied y) y) (fetched board s.0 i j)) (record {
        counted = fetch_task_counted ((p.0 == i) && (m.0 == j)) (task_on board i j);
        on = fetch_on ((p.0 == i) && (m.0 == j)) (task_on board i j);
        fails = fetch_fails ((p.0 == i) && (m.0 == j)) (task_on board i j);
      });
}
event_followed board event f fair = quiet board (Happened event f) refl (λ s b. refl) (λ s. refl) (λ s. refl) (λ s t. refl) (λ s t on. refl) (λ s t. refl)
