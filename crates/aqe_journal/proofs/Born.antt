-- The board knows as many births as there are stages, and what is not born was never whole.
use Rattle.std.proofs.Common.{◌≡◌, ap, sym, subst, ◌∙◌, ◌+◌, ◌≤◌, zero, suc, ℕ, Bool, false, List, [], ◌∷◌, ◌++◌, length, arith, length-append}
use Rattle.std.specs.Prelude.{All, ◌&&◌}
use Rattle.std.specs.Option.{is_some}
use Rattle.std.specs.List.{list_all, range_with_len}
use Rattle.std.proofs.lemmas.Grind.{fold-append}
use Rattle.std.proofs.lemmas.Option.{slice_get_past}
use Rattle.std.proofs.lemmas.List.{append-nil, append_assoc}
use Rattle.std.proofs.lemmas.List.Elements.{filter_map-append, All-nil, All-cons}
use Rattle.std.proofs.lemmas.List.Folds.{list_any_none}
use Rattle.aqe_base.specs.declared.event.Event.{Event}
use Rattle.aqe_making.specs.Makings.{Making}
use Rattle.aqe_scheduler.specs.History.{Birth, Entry, Adds, Marks, Happens, Step, Added, Marked, Happened}
use Rattle.aqe_scheduler.specs.Looks.{births, born_in, done, task_count, whole}
use Rattle.aqe_scheduler.specs.Fates.{noted, step_of}
use Rattle.aqe_scheduler.specs.Positions.{upto}
use Rattle.aqe_journal.specs.Needed.{birth_over, needed_stages}
use Rattle.aqe_journal.specs.Steady.{AllBorn}
use Rattle.aqe_journal.specs.States.{State, history, positions, is_whole, is_materialised, with_stage, with_event, with_marks, marks_of}

noted_more : (es : List Entry) (e : Entry) → noted (es ++ e ∷ []) ≡ noted es ++ step_of (noted es) e ∷ []
noted_more es e = fold-append (λ h entry. h ++ step_of h entry ∷ []) [] es (e ∷ [])

born_more : (h : List Step) (x : Step) → births (h ++ x ∷ []) ≡ births h ++ births (x ∷ [])
born_more h x = filter_map-append born_in h (x ∷ [])

-- how many births entries have
abbrev count : List Entry → ℕ
count es = length (births (noted es))

count_one : (es : List Entry) (e : Entry) → count (es ++ e ∷ []) ≡ count es + length (births (step_of (noted es) e ∷ []))
count_one es e = ap (λ (h : List Step). length (births h)) (noted_more es e) ∙ (ap (λ (bs : List Birth). length bs) (born_more (noted es) (step_of (noted es) e)) ∙ length-append (births (noted es)) (births (step_of (noted es) e ∷ [])))

plus_none : (n : ℕ) → n + 0 ≡ n
plus_none n = omega arith

count_marks : (n : ℕ) (marks : List Bool) (es : List Entry) → count (es ++ marks_of n marks) ≡ count es
count_marks n [] es = ap count (append-nil es)
count_marks n (mark ∷ marks) es =
    ap count (sym (append_assoc es (Marks n mark ∷ []) (marks_of (suc n) marks))) ∙
    (count_marks (suc n) marks (es ++ Marks n mark ∷ []) ∙ (count_one es (Marks n mark) ∙ plus_none (count es)))

pub stage_born : (now : State) (making : Making) → AllBorn now → AllBorn (with_stage now making)
stage_born now making h =
    let one = count_one now.entries (Adds (birth_over now.stages making.stage)) in
    one ∙ (ap (λ (n : ℕ). n + 1) h ∙ sym (length-append now.stages (making.stage ∷ [])))

pub event_born : (now : State) (event : Event) → AllBorn now → AllBorn (with_event now event)
event_born now event h = count_one now.entries (Happens event) ∙ (plus_none (count now.entries) ∙ h)

pub marks_born : (now : State) → AllBorn now → AllBorn (with_marks now)
marks_born now h = count_marks 0 (needed_stages (is_whole now) now.plan now.stages) now.entries ∙ h

-- a part of a history has no more births
upto_few : (k : ℕ) (h : List Step) → length (births (upto k h)) ≤ length (births h)
upto_few k [] = omega arith
upto_few k (Added birth ∷ h) = let rest = upto_few k h in omega (arith, rest)
upto_few k (Marked stage mark ∷ h) = upto_few k h
upto_few zero (Happened event told ∷ h) = omega arith
upto_few (suc k) (Happened event told ∷ h) = upto_few k h

never_whole : (h : List Step) (s : ℕ) → length (births h) ≤ s → whole h s ≡ false
never_whole h s le = ap (λ o. is_some o && list_all (done h s) (range_with_len 0 (task_count (births h) s))) (slice_get_past (births h) s le)

no_position : (h : List Step) (s : ℕ) → length (births h) ≤ s → (ks : List ℕ) → All (λ k. whole (upto k h) s ≡ false) ks
no_position h s le [] = All-nil (λ k. whole (upto k h) s ≡ false)
no_position h s le (k ∷ ks) =
    let few = upto_few k h in
    All-cons (λ k. whole (upto k h) s ≡ false) k ks (never_whole (upto k h) s (omega (arith, few, le))) (no_position h s le ks)

-- a stage that is not born yet was whole at no position
pub not_materialised : (now : State) → AllBorn now → (s : ℕ) → length now.stages ≤ s → is_materialised now s ≡ false
not_materialised now born s le =
    list_any_none (λ k. whole (upto k (history now)) s) (positions now) (no_position (history now) s (subst (λ (n : ℕ). n ≤ s) (sym born) le) (positions now))
