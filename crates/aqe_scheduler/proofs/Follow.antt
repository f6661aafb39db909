-- A board that stands for a history still does behind one more step, where each of its tables follows the step.
use Rattle.std.proofs.Common.{◌≡◌, ℕ, ◌+◌, Bool, true, false, cond, not, ◌||◌, List, [], ◌∷◌, ◌++◌, refl, ap, ◌∙◌, sym, is_some, arith, filter, option_to_list}
use Rattle.std.specs.List.{filter_map}
use Rattle.aqe_scheduler.specs.declared.task.Task.{Task}
use Rattle.aqe_scheduler.specs.declared.stage.Stage.{Stage}
use Rattle.aqe_scheduler.specs.History.{Step}
use Rattle.aqe_scheduler.specs.Looks.{born_in, marked, counts, executor_of, takes_away, fails, fails_counted, streak, fetch_counted, counts_for, stopped}
use Rattle.aqe_scheduler.specs.Fates.{task_reads}
use Rattle.aqe_scheduler.specs.Tables.{births_on, needed_on, streak_on, task_on, found_on}
use Rattle.aqe_scheduler.specs.Stands.{StandsAt, Stands}
use Rattle.aqe_scheduler.proofs.Behind.{births_more, needed_more, counted_more, fails_more, streak_more, holders_more}

-- what one step makes of what is kept of a task
pub record Follows (s t : ℕ) (x : Step) (before after : Task) : Type 0 where
  pub counted : after.counted ≡ (before.counted || counts s t x)
  pub on : filter (λ e. not (takes_away s t e.0 x)) (option_to_list before.on) ++ cond (counts s t x) (executor_of x ∷ []) [] ≡ option_to_list after.on
  pub fails : after.fails ≡ cond (fails_counted s t x) (stopped (before.fails + 1)) before.fails

-- and of a board
pub record Followed (before : List Stage) (x : Step) (after : List Stage) : Type 0 where
  pub births : births_on after ≡ births_on before ++ filter_map born_in (x ∷ [])
  pub room : ((s t : ℕ) → is_some (found_on before s t) ≡ is_some (task_reads (births_on before) s t)) → (s t : ℕ) → is_some (found_on after s t) ≡ is_some (task_reads (births_on after) s t)
  pub needed : (s : ℕ) → needed_on after s ≡ marked s (needed_on before s) x
  pub streaks : (s : ℕ) → streak_on after s ≡ cond (fetch_counted s x) (stopped (cond (counts_for s x) 0 (streak_on before s) + 1)) (cond (counts_for s x) 0 (streak_on before s))
  pub tasks : (s t : ℕ) → Follows s t x (task_on before s t) (task_on after s t)

failed_once : (d : Bool) (n : ℕ) → cond d (stopped (stopped n + 1)) (stopped n) ≡ stopped (n + cond d 1 0)
failed_once true n = omega arith
failed_once false n = omega arith

fetched_once : (f c : Bool) (n : ℕ) → cond f (stopped (cond c 0 (stopped n) + 1)) (cond c 0 (stopped n)) ≡ stopped (cond c 0 n + cond f 1 0)
fetched_once true true n = refl
fetched_once true false n = omega arith
fetched_once false true n = refl
fetched_once false false n = omega arith

at_step : (h : List Step) (x : Step) (s t : ℕ) (before after : Task) → StandsAt h s t before → Follows s t x before after → StandsAt (h ++ x ∷ []) s t after
at_step h x s t before after stands follows = record {
  counted = follows.counted ∙ ap (λ b. b || counts s t x) stands.counted ∙ sym (counted_more h x s t);
  on = holders_more h x s t ∙ ap (λ es. filter (λ e. not (takes_away s t e.0 x)) es ++ cond (counts s t x) (executor_of x ∷ []) []) stands.on ∙ follows.on;
  fails = follows.fails ∙ ap (λ n. cond (fails_counted s t x) (stopped (n + 1)) n) stands.fails ∙ failed_once (fails_counted s t x) (fails h s t) ∙ ap stopped (sym (fails_more h x s t));
}

pub stands_behind : (before after : List Stage) (h : List Step) (x : Step) → Stands before h → Followed before x after → Stands after (h ++ x ∷ [])
stands_behind before after h x stands followed = record {
  births = followed.births ∙ ap (λ bs. bs ++ filter_map born_in (x ∷ [])) stands.births ∙ sym (births_more h x);
  room = followed.room stands.room;
  needed = λ s. followed.needed s ∙ ap (λ b. marked s b x) (stands.needed s) ∙ sym (needed_more h x s);
  streaks = λ s. followed.streaks s ∙ ap (λ n. cond (fetch_counted s x) (stopped (cond (counts_for s x) 0 n + 1)) (cond (counts_for s x) 0 n)) (stands.streaks s)
      ∙ fetched_once (fetch_counted s x) (counts_for s x) (streak h s) ∙ ap stopped (sym (streak_more h x s));
  tasks = λ s t. at_step h x s t (task_on before s t) (task_on after s t) (stands.tasks s t) (followed.tasks s t);
}
