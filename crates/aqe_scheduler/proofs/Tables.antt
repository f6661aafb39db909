-- What the tables of the board say behind a change.
use Rattle.std.proofs.Common.{◌≡◌, ℕ, Bool, true, false, cond, ◌&&◌, ◌==◌, List, map, refl, ap, ◌∙◌, sym, Option, Some, None, is_some, slice_get, unwrap_or, ◌⊎◌, inl, inr}
use Rattle.std.specs.Option.{option_map, option_and_then}
use Rattle.std.proofs.lemmas.Bool.{eqb-true}
use Rattle.std.proofs.lemmas.Option.{slice_get-map}
use Rattle.aqe_base.specs.declared.ids.ExecId.{ExecId}
use Rattle.aqe_scheduler.specs.declared.task.Task.{Task}
use Rattle.aqe_scheduler.specs.declared.stage.Stage.{Stage}
use Rattle.aqe_scheduler.specs.Tables.{edited, fresh, without, needed_at, needed_on, streak_at, streak_on, found_on, task_on}
use Rattle.aqe_scheduler.specs.Changes.{loss_of}
use Rattle.aqe_scheduler.proofs.Edits.{get_edited}

-- the task that is kept behind a change of one task
pub found_edited : (f : Stage → Stage) (g : Task → Task) (board : List Stage) (s t j k : ℕ) → ((x : Stage) → (f x).tasks ≡ edited t g x.tasks) →
    found_on (edited s f board) j k ≡ cond ((s == j) && (t == k)) (option_map g (found_on board j k)) (found_on board j k)
found_edited f g board s t j k same = ap (λ o. option_and_then (λ stage. slice_get stage.tasks k) o) (get_edited f board s j) ∙ at (s == j) (slice_get board j)
  where
    at : (b : Bool) (o : Option Stage) → option_and_then (λ stage. slice_get stage.tasks k) (cond b (option_map f o) o) ≡
        cond (b && (t == k)) (option_map g (option_and_then (λ stage. slice_get stage.tasks k) o)) (option_and_then (λ stage. slice_get stage.tasks k) o)
    at false o = refl
    at true None = alike (t == k)
      where
        alike : (b : Bool) → ◌≡◌ {A = Option Task} None (cond b None None)
        alike true = refl
        alike false = refl
    at true (Some x) = ap (λ ts. slice_get ts k) (same x) ∙ get_edited g x.tasks t k

-- what is kept, where the change leaves what is not born or changes what is
pub task_edited : (f : Stage → Stage) (g : Task → Task) (board : List Stage) (s t j k : ℕ) → ((x : Stage) → (f x).tasks ≡ edited t g x.tasks) →
    (g fresh ≡ fresh) ⊎ (is_some (found_on board s t) ≡ true) →
    task_on (edited s f board) j k ≡ cond ((s == j) && (t == k)) (g (task_on board j k)) (task_on board j k)
task_edited f g board s t j k same there =
    ap (λ o. unwrap_or o fresh) (found_edited f g board s t j k same) ∙ at ((s == j) && (t == k)) (λ hold. here hold there) (found_on board j k) refl
  where
    both : (a b : Bool) → (a && b) ≡ true → (a ≡ true) × (b ≡ true)
    both true true hold = (refl, refl)
    both true false hold = absurd (cc)
    both false b hold = absurd (cc)

    here : ((s == j) && (t == k)) ≡ true → (g fresh ≡ fresh) ⊎ (is_some (found_on board s t) ≡ true) → (g fresh ≡ fresh) ⊎ (is_some (found_on board j k) ≡ true)
    here hold (inl still) = inl still
    here hold (inr born) =
        let parts = both (s == j) (t == k) hold in
        let s_is : s ≡ j = eqb-true s j parts.0 in
        let t_is : t ≡ k = eqb-true t k parts.1 in
        inr (ap (λ i. is_some (found_on board i k)) (sym s_is) ∙ ap (λ i. is_some (found_on board s i)) (sym t_is) ∙ born)

    at : (b : Bool) → (b ≡ true → (g fresh ≡ fresh) ⊎ (is_some (found_on board j k) ≡ true)) → (o : Option Task) → found_on board j k ≡ o →
        unwrap_or (cond b (option_map g o) o) fresh ≡ cond b (g (unwrap_or o fresh)) (unwrap_or o fresh)
    at false kept o is = refl
    at true kept (Some x) is = refl
    at true kept None is = elim (kept refl) as (λ w. fresh ≡ g fresh) [ inl still ↦ sym still | inr born ↦ absurd (cc) ]

-- the streak of a stage behind a change
pub streak_edited : (f : Stage → Stage) (g : ℕ → ℕ) (board : List Stage) (s j : ℕ) → ((x : Stage) → (f x).streak ≡ g x.streak) →
    (g 0 ≡ 0) ⊎ (is_some (slice_get board s) ≡ true) →
    streak_on (edited s f board) j ≡ cond (s == j) (g (streak_on board j)) (streak_on board j)
streak_edited f g board s j same there = ap streak_at (get_edited f board s j) ∙ at (s == j) (λ hold. here hold there) (slice_get board j) refl
  where
    here : (s == j) ≡ true → (g 0 ≡ 0) ⊎ (is_some (slice_get board s) ≡ true) → (g 0 ≡ 0) ⊎ (is_some (slice_get board j) ≡ true)
    here hold (inl still) = inl still
    here hold (inr born) = let s_is : s ≡ j = eqb-true s j hold in inr (ap (λ i. is_some (slice_get board i)) (sym s_is) ∙ born)

    at : (b : Bool) → (b ≡ true → (g 0 ≡ 0) ⊎ (is_some (slice_get board j) ≡ true)) → (o : Option Stage) → slice_get board j ≡ o →
        streak_at (cond b (option_map f o) o) ≡ cond b (g (streak_at o)) (streak_at o)
    at false kept o is = refl
    at true kept (Some x) is = same x
    at true kept None is = elim (kept refl) as (λ w. 0 ≡ g 0) [ inl still ↦ sym still | inr born ↦ absurd (cc) ]

-- whether a stage is needed, where the change keeps it
pub needed_edited : (f : Stage → Stage) (board : List Stage) (s j : ℕ) → ((x : Stage) → (f x).needed ≡ x.needed) → needed_on (edited s f board) j ≡ needed_on board j
needed_edited f board s j same = ap needed_at (get_edited f board s j) ∙ at (s == j) (slice_get board j)
  where
    at : (b : Bool) (o : Option Stage) → needed_at (cond b (option_map f o) o) ≡ needed_at o
    at false o = refl
    at true None = refl
    at true (Some x) = same x

-- what is kept behind the loss of an executor
pub found_lost : (e : ExecId) (board : List Stage) (s t : ℕ) → found_on (map (loss_of e) board) s t ≡ option_map (without e.0) (found_on board s t)
found_lost e board s t = ap (λ o. option_and_then (λ stage. slice_get stage.tasks t) o) (slice_get-map (loss_of e) board s) ∙ at (slice_get board s)
  where
    at : (o : Option Stage) → option_and_then (λ stage. slice_get stage.tasks t) (option_map (loss_of e) o) ≡ option_map (without e.0) (option_and_then (λ stage. slice_get stage.tasks t) o)
    at None = refl
    at (Some x) = slice_get-map (without e.0) x.tasks t

pub task_lost : (e : ExecId) (board : List Stage) (s t : ℕ) → task_on (map (loss_of e) board) s t ≡ without e.0 (task_on board s t)
task_lost e board s t = ap (λ o. unwrap_or o fresh) (found_lost e board s t) ∙ at (found_on board s t)
  where
    at : (o : Option Task) → unwrap_or (option_map (without e.0) o) fresh ≡ without e.0 (unwrap_or o fresh)
    at None = refl
    at (Some x) = refl

pub streak_lost : (e : ExecId) (board : List Stage) (s : ℕ) → streak_on (map (loss_of e) board) s ≡ streak_on board s
streak_lost e board s = ap streak_at (slice_get-map (loss_of e) board s) ∙ at (slice_get board s)
  where
    at : (o : Option Stage) → streak_at (option_map (loss_of e) o) ≡ streak_at o
    at None = refl
    at (Some x) = refl

pub needed_lost : (e : ExecId) (board : List Stage) (s : ℕ) → needed_on (map (loss_of e) board) s ≡ needed_on board s
needed_lost e board s = ap needed_at (slice_get-map (loss_of e) board s) ∙ at (slice_get board s)
  where
    at : (o : Option Stage) → needed_at (option_map (loss_of e) o) ≡ needed_at o
    at None = refl
    at (Some x) = refl
