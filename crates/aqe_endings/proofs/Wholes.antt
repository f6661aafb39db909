-- When stages are whole behind one more step, and at which position each was whole first.
use Rattle.std.proofs.Common.{◌≡◌, refl, ap, sym, ◌∙◌, ◌≤◌, ◌<◌, ◌+◌, zero, suc, ℕ, Bool, true, false, cond, ◌||◌, ◌&&◌, List, [], ◌∷◌, ◌++◌, length, arith, Some, None, is_some, slice_get, length-append, inl, inr}
use Rattle.std.specs.Prelude.{All, ◌⊎◌}
use Rattle.std.specs.List.{list_all, range_with_len, find, filter_map}
use Rattle.std.specs.Option.{option_or}
use Rattle.std.proofs.lemmas.Bool.{cases_lt, cases_eq, cases_Bool}
use Rattle.std.proofs.lemmas.Option.{slice_get_past}
use Rattle.std.proofs.lemmas.List.{append-nil}
use Rattle.std.proofs.lemmas.List.Folds.{find-append}
use Rattle.std.proofs.lemmas.List.Elements.{filter_map-append, All-nil, All-cons}
use Rattle.aqe_base.specs.declared.event.Event.{Event}
use Rattle.aqe_scheduler.specs.declared.fate.Fate.{Fate}
use Rattle.aqe_scheduler.specs.History.{Birth, Step, Added, Marked, Happened}
use Rattle.aqe_scheduler.specs.Looks.{births, counted, available, done, whole, task_count, tasks_in, shuffles_in}
use Rattle.aqe_scheduler.specs.Fates.{fates, fate_in}
use Rattle.aqe_scheduler.specs.Positions.{upto}
use Rattle.aqe_scheduler.proofs.Behind.{births_more, counted_more}
use Rattle.aqe_endings.specs.Peace.{happened, first_whole}
use Rattle.aqe_endings.proofs.Histories.{IsQuiet, births_same, available_more, done_more, done_counted, upto_all, upto_event, upto_quiet}

-- tests over ranges
pub range_end : (a n : ℕ) → range_with_len a (suc n) ≡ range_with_len a n ++ (a + n) ∷ []
range_end a zero = let same : a ≡ a + 0 = omega arith in ap (λ k. k ∷ []) same
range_end a (suc n) = let same : a + 1 + n ≡ a + suc n = omega arith in ap (λ ks. a ∷ ks) (range_end (a + 1) n ∙ ap (λ k. range_with_len (a + 1) n ++ k ∷ []) same)

pub range_all : (P : ℕ → Type 0) (a n : ℕ) → ((k : ℕ) → a ≤ k → k < a + n → P k) → All P (range_with_len a n)
range_all P a zero each = All-nil P
range_all P a (suc n) each = All-cons P a (range_with_len (a + 1) n) (each a (omega arith) (omega arith)) (range_all P (a + 1) n (λ k low high. each k (omega (arith, low)) (omega (arith, high))))

find_over_range : {p q : ℕ → Bool} (a n : ℕ) → ((k : ℕ) → a ≤ k → k < a + n → p k ≡ q k) → find p (range_with_len a n) ≡ find q (range_with_len a n)
find_over_range a zero each = refl
find_over_range {p = p} {q = q} a (suc n) each =
    (λ i. cond (each a (omega arith) (omega arith) i) (Some a) (find_over_range {p = p} {q = q} (a + 1) n (λ k low high. each k (omega (arith, low)) (omega (arith, high))) i))

all_over_range : {p q : ℕ → Bool} (a n : ℕ) → ((k : ℕ) → p k ≡ q k) → list_all p (range_with_len a n) ≡ list_all q (range_with_len a n)
all_over_range {p = p} {q = q} a n each = λ i. list_all (λ k. each k i) (range_with_len a n)

pub happened_event : (h : List Step) (event : Event) (f : Fate) → happened (h ++ Happened event f ∷ []) ≡ suc (happened h)
happened_event h event f =
    let long = length-append (fates h) (f ∷ []) in
    ap (λ fs. length fs) (filter_map-append fate_in h (Happened event f ∷ [])) ∙ omega (arith, long)

no_fate : (x : Step) → IsQuiet x → filter_map fate_in (x ∷ []) ≡ []
no_fate (Added birth) q = refl
no_fate (Marked stage is_needed) q = refl
no_fate (Happened event f) q = absurd q

pub fates_quiet : (h : List Step) (x : Step) → IsQuiet x → fates (h ++ x ∷ []) ≡ fates h
fates_quiet h x q = filter_map-append fate_in h (x ∷ []) ∙ ap (λ fs. fates h ++ fs) (no_fate x q) ∙ append-nil (fates h)

pub happened_quiet : (h : List Step) (x : Step) → IsQuiet x → happened (h ++ x ∷ []) ≡ happened h
happened_quiet h x q = ap (λ fs. length fs) (fates_quiet h x q)

-- an event more: a stage that was never whole may be so now
pub first_event : (h : List Step) (event : Event) (f : Fate) (s : ℕ) →
    first_whole (h ++ Happened event f ∷ []) s ≡ option_or (first_whole h s) (cond (whole (h ++ Happened event f ∷ []) s) (Some (suc (happened h))) None)
first_event h event f s =
    let long = h ++ Happened event f ∷ [] in
    let p : ℕ → Bool = λ k. whole (upto k long) s in
    let none : 0 + suc (happened h) ≡ suc (happened h) = omega arith in
    let last : upto (suc (happened h)) long ≡ long = ap (λ k. upto k long) (sym (happened_event h event f)) ∙ upto_all long in
    ap (λ n. find p (range_with_len 0 (suc n))) (happened_event h event f)
    ∙ ap (find p) (range_end 0 (suc (happened h)) ∙ ap (λ k. range_with_len 0 (suc (happened h)) ++ k ∷ []) none)
    ∙ find-append p (range_with_len 0 (suc (happened h))) (suc (happened h) ∷ [])
    ∙ (λ i. option_or (find_over_range {p = p} {q = λ k. whole (upto k h) s} 0 (suc (happened h)) (λ k low high. ap (λ g. whole g s) (upto_event k h event f (omega (arith, high)))) i)
    (cond (whole (last i) s) (Some (suc (happened h))) None))

-- a step that is no event, and after which the stage is whole if it was
pub first_quiet : (h : List Step) (x : Step) (s : ℕ) → IsQuiet x → whole (h ++ x ∷ []) s ≡ whole h s → first_whole (h ++ x ∷ []) s ≡ first_whole h s
first_quiet h x s q same =
    let long = h ++ x ∷ [] in
    let last : upto (happened h) long ≡ long = ap (λ k. upto k long) (sym (happened_quiet h x q)) ∙ upto_all long in
    ap (λ n. find (λ k. whole (upto k long) s) (range_with_len 0 (suc n))) (happened_quiet h x q)
    ∙ find_over_range {p = λ k. whole (upto k long) s} {q = λ k. whole (upto k h) s} 0 (suc (happened h)) (λ k low high. at k (cases_lt k (happened h)) high last)
  where
    at : (k : ℕ) → (k < happened h) ⊎ (happened h ≤ k) → k < 0 + suc (happened h) → upto (happened h) (h ++ x ∷ []) ≡ h ++ x ∷ [] → whole (upto k (h ++ x ∷ [])) s ≡ whole (upto k h) s
    at k (inl lt) high last = ap (λ g. whole g s) (upto_quiet k h x lt)
    at k (inr ge) high last =
        let here : k ≡ happened h = omega (arith, ge, high) in
        ap (λ j. whole (upto j (h ++ x ∷ [])) s) here ∙ ap (λ g. whole g s) last ∙ same ∙ ap (λ g. whole g s) (sym (upto_all h)) ∙ ap (λ j. whole (upto j h) s) (sym here)

-- marks change nothing of what is whole
pub whole_marked : (h : List Step) (stage : ℕ) (is_needed : Bool) (s : ℕ) → whole (h ++ Marked stage is_needed ∷ []) s ≡ whole h s
whole_marked h stage is_needed s =
    let x = Marked stage is_needed in
    let same = births_same h x refl in
    λ i. is_some (slice_get (same i) s) && list_all (λ t. done_same t i) (range_with_len 0 (task_count (same i) s))
  where
    or_false : (b : Bool) → (b || false) ≡ b
    or_false true = refl
    or_false false = refl

    done_same : (t : ℕ) → done (h ++ Marked stage is_needed ∷ []) s t ≡ done h s t
    done_same t = done_more h (Marked stage is_needed) (λ a b c. refl) refl s t ∙ or_false (done h s t)

-- a stage that is not born is not whole
pub unborn_whole : (h : List Step) (s : ℕ) → length (births h) ≤ s → whole h s ≡ false
unborn_whole h s le = ap (λ o. is_some o && list_all (done h s) (range_with_len 0 (task_count (births h) s))) (slice_get_past (births h) s le)

not_done : (h : List Step) (s t : ℕ) → counted h s t ≡ false → done h s t ≡ false
not_done h s t none = elim (cases_Bool (done h s t)) as (λ w. done h s t ≡ false) [
  | inl is ↦ is_false (sym none ∙ done_counted h s t is)
  | inr is ↦ is
]
  where
    is_false : false ≡ true → done h s t ≡ false
    is_false clash = cc (clash)

-- what a list says of an item does not change where another is added behind it
pub get_more : {X : Type 0} (xs : List X) (x : X) (i : ℕ) → i < length xs → slice_get (xs ++ x ∷ []) i ≡ slice_get xs i
get_more [] x i lt = absurd (omega (arith, lt))
get_more (y ∷ ys) x zero lt = refl
get_more (y ∷ ys) x (suc i) lt = get_more ys x i (omega (arith, lt))

pub get_last : {X : Type 0} (xs : List X) (x : X) → slice_get (xs ++ x ∷ []) (length xs) ≡ Some x
get_last [] x = refl
get_last (y ∷ ys) x = get_last ys x

-- a birth makes no stage whole, where its own tasks have not ended
pub whole_added : (h : List Step) (birth : Birth) → ((s t : ℕ) → length (births h) ≤ s → counted h s t ≡ false) → 1 ≤ length birth.reads → (s : ℕ) → whole (h ++ Added birth ∷ []) s ≡ whole h s
whole_added h birth unborn some s = at (cases_lt s (length (births h)))
  where
    x : Step
    x = Added birth

    or_false : (b : Bool) → (b || false) ≡ b
    or_false true = refl
    or_false false = refl

    more : births (h ++ x ∷ []) ≡ births h ++ birth ∷ []
    more = births_more h x

    counted_same : (t : ℕ) → counted (h ++ x ∷ []) s t ≡ counted h s t
    counted_same t = counted_more h x s t ∙ or_false (counted h s t)

    older : s < length (births h) → whole (h ++ x ∷ []) s ≡ whole h s
    older lt =
        let get : slice_get (births (h ++ x ∷ [])) s ≡ slice_get (births h) s = ap (λ bs. slice_get bs s) more ∙ get_more (births h) birth s lt in
        λ i. is_some (get i) && list_all (λ t. cond (shuffles_in (get i)) ((available_more h x (λ a b c. refl) s t ∙ or_false (available h s t)) i) (counted_same t i)) (range_with_len 0 (tasks_in (get i)))

    none_of : (n : ℕ) → 1 ≤ n → list_all (done (h ++ x ∷ []) s) (range_with_len 0 n) ≡ false ⊎ (counted h s 0 ≡ false → ⊥)
    none_of zero le = absurd (omega (arith, le))
    none_of (suc n) le = elim (cases_Bool (counted h s 0)) [
      | inl is ↦ inr (λ none. clash (sym none ∙ is))
      | inr none ↦ inl (ap (λ b. b && list_all (done (h ++ x ∷ []) s) (range_with_len 1 n)) (not_done (h ++ x ∷ []) s 0 (counted_same 0 ∙ none)))
    ]
      where
        clash : false ≡ true → ⊥
        clash c = cc (c)

    newest : s ≡ length (births h) → whole (h ++ x ∷ []) s ≡ false
    newest is =
        let le : length (births h) ≤ s = omega (arith, is) in
        let get : slice_get (births (h ++ x ∷ [])) s ≡ Some birth = (λ i. slice_get (more i) (is i)) ∙ get_last (births h) birth in
        let all : whole (h ++ x ∷ []) s ≡ list_all (done (h ++ x ∷ []) s) (range_with_len 0 (length birth.reads)) = λ i. is_some (get i) && list_all (done (h ++ x ∷ []) s) (range_with_len 0 (tasks_in (get i))) in
        elim (none_of (length birth.reads) some) [
          | inl false_is ↦ all ∙ false_is
          | inr never ↦ absurd (never (unborn s 0 le))
        ]

    later : length (births h) < s → whole (h ++ x ∷ []) s ≡ false
    later lt = let long : length (births (h ++ x ∷ [])) ≡ length (births h) + 1 = ap (λ bs. length bs) more ∙ length-append (births h) (birth ∷ []) in unborn_whole (h ++ x ∷ []) s (omega (arith, long, lt))

    at : (s < length (births h)) ⊎ (length (births h) ≤ s) → whole (h ++ x ∷ []) s ≡ whole h s
    at (inl lt) = older lt
    at (inr le) = elim (cases_eq s (length (births h))) [
      | inl is ↦ newest is ∙ sym (unborn_whole h s le)
      | inr is_not ↦ later (omega (arith, le, is_not)) ∙ sym (unborn_whole h s le)
    ]
