-- What a history says after one more step, where the step takes nothing away.
use Rattle.std.proofs.Common.{◌≡◌, refl, ap, ◌∙◌, ◌≤◌, ◌<◌, zero, suc, ℕ, Bool, true, false, cond, not, ◌||◌, ◌&&◌, List, [], ◌∷◌, ◌++◌, arith}
use Rattle.std.specs.List.{list_any, filter_map}
use Rattle.aqe_base.specs.declared.event.Event.{Event}
use Rattle.aqe_scheduler.specs.declared.fate.Fate.{Fate}
use Rattle.aqe_scheduler.specs.History.{Step, Added, Marked, Happened}
use Rattle.aqe_scheduler.specs.Looks.{births, born_in, counts, counted, available, leaves, executor_of, takes_away, shuffles, done}
use Rattle.aqe_scheduler.specs.Positions.{upto}
use Rattle.aqe_endings.specs.Peace.{happened}
use Rattle.aqe_scheduler.proofs.Behind.{any_more, births_more, counted_more}
use Rattle.aqe_scheduler.proofs.Ready.{and_true}
use Rattle.std.proofs.lemmas.List.{append-nil}

-- a step that takes no output away, whatever output it is
abbrev pub TakesNothing : Step → Type 0
TakesNothing x = (s m on : ℕ) → takes_away s m on x ≡ false

-- no event
abbrev pub IsQuiet : Step → Type 0
IsQuiet (Added birth) = Unit {0}
IsQuiet (Marked stage is_needed) = Unit {0}
IsQuiet (Happened event f) = ⊥

pub quiet_takes : (x : Step) → IsQuiet x → TakesNothing x
quiet_takes (Added birth) q s m on = refl
quiet_takes (Marked stage is_needed) q s m on = refl
quiet_takes (Happened event f) q s m on = absurd q

pub quiet_counts : (x : Step) → IsQuiet x → (s t : ℕ) → counts s t x ≡ false
quiet_counts (Added birth) q s t = refl
quiet_counts (Marked stage is_needed) q s t = refl
quiet_counts (Happened event f) q s t = absurd q

or_false : (b : Bool) → (b || false) ≡ b
or_false true = refl
or_false false = refl

or_assoc : (a b c : Bool) → (a || (b || c)) ≡ ((a || b) || c)
or_assoc true b c = refl
or_assoc false b c = refl

-- an output is there if it was, or if the step is its counted ending
pub available_more : (h : List Step) (x : Step) → TakesNothing x → (s m : ℕ) → available (h ++ x ∷ []) s m ≡ (available h s m || counts s m x)
available_more [] x none s m = or_false (counts s m x && true) ∙ and_true (counts s m x)
available_more (y ∷ later) x none s m =
    (λ i. leaves_same i || available_more later x none s m i) ∙ or_assoc (leaves s m y later) (available later s m) (counts s m x)
  where
    leaves_same : leaves s m y (later ++ x ∷ []) ≡ leaves s m y later
    leaves_same = ap (λ b. counts s m y && not b) (any_more (takes_away s m (executor_of y).0) later x ∙ ap (λ b. list_any (takes_away s m (executor_of y).0) later || b) (none s m (executor_of y).0) ∙ or_false (list_any (takes_away s m (executor_of y).0) later))

-- a step that bears no stage
abbrev pub BearsNone : Step → Type 0
BearsNone x = filter_map born_in (x ∷ []) ≡ []

pub births_same : (h : List Step) (x : Step) → BearsNone x → births (h ++ x ∷ []) ≡ births h
births_same h x none = births_more h x ∙ ap (λ bs. births h ++ bs) none ∙ append-nil (births h)

cond_or : (b x y c : Bool) → cond b (x || c) (y || c) ≡ (cond b x y || c)
cond_or true x y c = refl
cond_or false x y c = refl

-- a task is done if it was, or if the step is its counted ending
pub done_more : (h : List Step) (x : Step) → TakesNothing x → BearsNone x → (s t : ℕ) → done (h ++ x ∷ []) s t ≡ (done h s t || counts s t x)
done_more h x none bears s t =
    (λ i. cond (shuffles (births_same h x bears i) s) (available_more h x none s t i) (counted_more h x s t i)) ∙ cond_or (shuffles (births h) s) (available h s t) (counted h s t) (counts s t x)

-- what is done was counted
pub done_counted : (h : List Step) (s t : ℕ) → done h s t ≡ true → counted h s t ≡ true
done_counted h s t is = either (shuffles (births h) s) is
  where
    leaves_counts : (c a : Bool) → (c && a) ≡ true → c ≡ true
    leaves_counts true a is = refl
    leaves_counts false a is = is

    or_left : (a b c d : Bool) → (a ≡ true → c ≡ true) → (b ≡ true → d ≡ true) → (a || b) ≡ true → (c || d) ≡ true
    or_left true b c d f g is = ap (λ e. e || d) (f refl)
    or_left false b true d f g is = refl
    or_left false b false d f g is = g is

    all : (g : List Step) → available g s t ≡ true → counted g s t ≡ true
    all [] is = is
    all (y ∷ later) is = or_left (leaves s t y later) (available later s t) (counts s t y) (counted later s t)
        (leaves_counts (counts s t y) (not (list_any (takes_away s t (executor_of y).0) later))) (all later) is

    either : (b : Bool) → cond b (available h s t) (counted h s t) ≡ true → counted h s t ≡ true
    either true is = all h is
    either false is = is

pub upto_all : (h : List Step) → upto (happened h) h ≡ h
upto_all [] = refl
upto_all (Added birth ∷ h) = ap (λ g. Added birth ∷ g) (upto_all h)
upto_all (Marked stage is_needed ∷ h) = ap (λ g. Marked stage is_needed ∷ g) (upto_all h)
upto_all (Happened event f ∷ h) = ap (λ g. Happened event f ∷ g) (upto_all h)

-- the history up to a position is not changed by a later event
pub upto_event : (k : ℕ) (h : List Step) (event : Event) (f : Fate) → k ≤ happened h → upto k (h ++ Happened event f ∷ []) ≡ upto k h
upto_event zero [] event f le = refl
upto_event (suc k) [] event f le = absurd (omega (arith, le))
upto_event k (Added birth ∷ h) event f le = ap (λ g. Added birth ∷ g) (upto_event k h event f le)
upto_event k (Marked stage is_needed ∷ h) event f le = ap (λ g. Marked stage is_needed ∷ g) (upto_event k h event f le)
upto_event zero (Happened e g ∷ h) event f le = refl
upto_event (suc k) (Happened e g ∷ h) event f le = ap (λ rest. Happened e g ∷ rest) (upto_event k h event f (omega (arith, le)))

-- nor, before the last position, by a step that is no event
pub upto_quiet : (k : ℕ) (h : List Step) (x : Step) → k < happened h → upto k (h ++ x ∷ []) ≡ upto k h
upto_quiet k [] x lt = absurd (omega (arith, lt))
upto_quiet k (Added birth ∷ h) x lt = ap (λ g. Added birth ∷ g) (upto_quiet k h x lt)
upto_quiet k (Marked stage is_needed ∷ h) x lt = ap (λ g. Marked stage is_needed ∷ g) (upto_quiet k h x lt)
upto_quiet zero (Happened e f ∷ h) x lt = refl
upto_quiet (suc k) (Happened e f ∷ h) x lt = ap (λ g. Happened e f ∷ g) (upto_quiet k h x (omega (arith, lt)))
