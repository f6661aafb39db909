-- What a history says after one more step.
use Rattle.std.proofs.Common.{◌≡◌, ℕ, ◌+◌, Bool, true, false, cond, not, ◌&&◌, ◌||◌, List, [], ◌∷◌, ◌++◌, refl, ap, ◌∙◌, Option, Some, None, is_some, arith, filter, option_to_list}
use Rattle.std.specs.List.{list_any, filter_map}
use Rattle.std.proofs.lemmas.List.Sums.{fold-append, sum_by-append}
use Rattle.std.proofs.lemmas.List.Folds.{list_any-append}
use Rattle.std.proofs.lemmas.List.Elements.{filter_map-append}
use Rattle.aqe_base.specs.declared.ids.ExecId.{ExecId}
use Rattle.aqe_scheduler.specs.History.{Step}
use Rattle.aqe_scheduler.specs.Looks.{births, born_in, needed, marked, counts, counted, executor_of, takes_away, leaves, available, fails, fails_counted, streak, fetch_counted, counts_for}
use Rattle.aqe_scheduler.specs.Stands.{holders}

-- a test over a list with one item more
pub any_more : {X : Type 0} (p : X → Bool) (xs : List X) (x : X) → list_any p (xs ++ x ∷ []) ≡ (list_any p xs || p x)
any_more p xs x = list_any-append p xs (x ∷ []) ∙ ap (λ b. list_any p xs || b) (or_false (p x))
  where
    or_false : (b : Bool) → (b || false) ≡ b
    or_false true = refl
    or_false false = refl

pub births_more : (h : List Step) (x : Step) → births (h ++ x ∷ []) ≡ births h ++ filter_map born_in (x ∷ [])
births_more h x = filter_map-append born_in h (x ∷ [])

pub needed_more : (h : List Step) (x : Step) (s : ℕ) → needed (h ++ x ∷ []) s ≡ marked s (needed h s) x
needed_more h x s = fold-append (marked s) false h (x ∷ [])

pub counted_more : (h : List Step) (x : Step) (s t : ℕ) → counted (h ++ x ∷ []) s t ≡ (counted h s t || counts s t x)
counted_more h x s t = any_more (counts s t) h x

pub fails_more : (h : List Step) (x : Step) (s t : ℕ) → fails (h ++ x ∷ []) s t ≡ fails h s t + cond (fails_counted s t x) 1 0
fails_more h x s t = sum_by-append (λ y. cond (fails_counted s t y) 1 0) h (x ∷ []) ∙ ap (λ n. fails h s t + n) (grind arith)

pub streak_more : (h : List Step) (x : Step) (s : ℕ) → streak (h ++ x ∷ []) s ≡ cond (counts_for s x) 0 (streak h s) + cond (fetch_counted s x) 1 0
streak_more [] x s = last (fetch_counted s x) (counts_for s x)
  where
    last : (f c : Bool) → cond (f && true) 1 0 + 0 ≡ cond c 0 0 + cond f 1 0
    last true true = refl
    last true false = refl
    last false true = refl
    last false false = refl
streak_more (y ∷ later) x s =
    let any : list_any (counts_for s) (later ++ x ∷ []) ≡ (list_any (counts_for s) later || counts_for s x) = any_more (counts_for s) later x in
    let rest : streak (later ++ x ∷ []) s ≡ cond (counts_for s x) 0 (streak later s) + cond (fetch_counted s x) 1 0 = streak_more later x s in
    rw (any, rest) (first (fetch_counted s y) (list_any (counts_for s) later) (counts_for s x) (cond (fetch_counted s x) 1 0) (streak later s))
  where
    first : (f a c : Bool) (n r : ℕ) → cond (f && not (a || c)) 1 0 + (cond c 0 r + n) ≡ cond c 0 (cond (f && not a) 1 0 + r) + n
    first true true true n r = omega arith
    first true true false n r = omega arith
    first true false true n r = omega arith
    first true false false n r = omega arith
    first false true true n r = omega arith
    first false true false n r = omega arith
    first false false true n r = omega arith
    first false false false n r = omega arith

-- the executors that hold an output behind one more step: those from which it is not taken away, and the one of a counted ending
pub holders_more : (h : List Step) (x : Step) (s m : ℕ) → holders (h ++ x ∷ []) s m ≡ filter (λ e. not (takes_away s m e.0 x)) (holders h s m) ++ cond (counts s m x) (executor_of x ∷ []) []
holders_more [] x s m = only (counts s m x) (executor_of x)
  where
    only : (c : Bool) (e : ExecId) → cond (c && true) (e ∷ []) [] ++ [] ≡ [] ++ cond c (e ∷ []) []
    only true e = refl
    only false e = refl
holders_more (y ∷ later) x s m =
    let any : list_any (takes_away s m (executor_of y).0) (later ++ x ∷ []) ≡ (list_any (takes_away s m (executor_of y).0) later || takes_away s m (executor_of y).0 x) = any_more _ later x in
    let rest : holders (later ++ x ∷ []) s m ≡ filter (λ e. not (takes_away s m e.0 x)) (holders later s m) ++ cond (counts s m x) (executor_of x ∷ []) [] = holders_more later x s m in
    rw (any, rest) (first (counts s m y) (list_any (takes_away s m (executor_of y).0) later) (executor_of y) (λ e. takes_away s m e.0 x) (holders later s m) (cond (counts s m x) (executor_of x ∷ []) []))
  where
    first : (c a : Bool) (e : ExecId) (gone : ExecId → Bool) (es end : List ExecId) →
        cond (c && not (a || gone e)) (e ∷ []) [] ++ (filter (λ f. not (gone f)) es ++ end) ≡ filter (λ f. not (gone f)) (cond (c && not a) (e ∷ []) [] ++ es) ++ end
    first false a e gone es end = refl
    first true true e gone es end = refl
    first true false e gone es end = at (gone e)
      where
        at : (b : Bool) → cond (not b) (e ∷ []) [] ++ (filter (λ f. not (gone f)) es ++ end) ≡ cond (not b) (e ∷ filter (λ f. not (gone f)) es) (filter (λ f. not (gone f)) es) ++ end
        at true = refl
        at false = refl

-- an output is available where an executor holds it
pub held : (h : List Step) (s m : ℕ) (on : Option ExecId) → holders h s m ≡ option_to_list on → available h s m ≡ is_some on
held h s m on is = available_any h s m ∙ ap (λ es. some es) is ∙ of_option on
  where
    some : List ExecId → Bool
    some [] = false
    some (e ∷ es) = true

    of_option : (o : Option ExecId) → some (option_to_list o) ≡ is_some o
    of_option None = refl
    of_option (Some e) = refl

    available_any : (g : List Step) (a b : ℕ) → available g a b ≡ some (holders g a b)
    available_any [] a b = refl
    available_any (y ∷ later) a b = step (leaves a b y later) (available later a b) (holders later a b) (available_any later a b)
      where
        step : (l v : Bool) (es : List ExecId) → v ≡ some es → (l || v) ≡ some (cond l (executor_of y ∷ []) [] ++ es)
        step true v es is = refl
        step false v es is = is

-- a task that was not counted has no holder
pub holders_none : (h : List Step) (s m : ℕ) → counted h s m ≡ false → holders h s m ≡ []
holders_none [] s m none = refl
holders_none (y ∷ later) s m none = step (counts s m y) (counted later s m) none (λ later_none. holders_none later s m later_none)
  where
    step : (c d : Bool) → (c || d) ≡ false → (d ≡ false → holders later s m ≡ []) → cond (c && not (list_any (takes_away s m (executor_of y).0) later)) (executor_of y ∷ []) [] ++ holders later s m ≡ []
    step true d none rest = absurd (cc)
    step false d none rest = rest none
