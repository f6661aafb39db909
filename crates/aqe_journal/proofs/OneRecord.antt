-- At most one record of a query is legal: each step of a run determines the next state, and no step follows an end.
use Rattle.std.proofs.Common.{[], ◌≡◌, refl, ap, sym, subst, ◌∙◌, true, false, Some, None}
use Rattle.std.specs.Option.{unwrap_or}
use Rattle.aqe_base.specs.declared.event.Event.{Event}
use Rattle.aqe_logical.specs.declared.plan.Logical.{Logical}
use Rattle.aqe_physical.specs.declared.plan.Plan.{Plan}
use Rattle.aqe_physical.specs.Counts.{Better}
use Rattle.aqe_fitting.specs.Fits.{Fits}
use Rattle.aqe_journal.specs.declared.record.Finish.{Finish}
use Rattle.aqe_journal.specs.Asked.{Asked}
use Rattle.aqe_journal.specs.Known.{known_sizes}
use Rattle.aqe_journal.specs.States.{State, first_state, with_version, with_event, with_marks}
use Rattle.aqe_journal.specs.LegalRecord.{IsFirst, IsCandidate, PlansAgain, never, keeps, adopts, Takes, goes_on, turns, settled, reached, next_event, SoFar, begun, one_on, Finishes, at_end, stopped, unfinished, record_of}
use Rattle.aqe_journal.specs.Laws.{OneRecordIsLegal}
use Rattle.aqe_fitting.proofs.OnePlan.{one_plan}

-- a run from one state to another, front to back
data Path (asked : Asked) : State → State → Type 0 where
  stop : (now : State) → Path asked now now
  step : (now next end : State) (event : Event) → reached asked now ≡ None → next_event asked now ≡ Some event → Takes asked now event next → Path asked next end → Path asked now end

one_more : (asked : Asked) (a b c : State) (event : Event) → Path asked a b → reached asked b ≡ None → next_event asked b ≡ Some event → Takes asked b event c → Path asked a c
one_more asked a b c event (stop now) r n t = step a c c event r n t (stop c)
one_more asked a b c event (step now next end e r1 n1 t1 p) r n t = step now next c e r1 n1 t1 (one_more asked next b c event p r n t)

record From (asked : Asked) (last : State) : Type 0 where
  plan : Plan
  first : IsFirst asked plan
  path : Path asked (with_marks (settled (first_state asked.query plan))) last

from : (asked : Asked) (last : State) → SoFar asked last → From asked last
from asked last (begun plan first) = record { plan = plan; first = first; path = stop (with_marks (settled (first_state asked.query plan))) }
from asked last (one_on now next event before r n t) =
    let f = from asked now before in
    record { plan = f.plan; first = f.first; path = one_more asked (with_marks (settled (first_state asked.query f.plan))) now next event f.path r n t }

clash : false ≡ true → ⊥
clash h = cc (h)

no_event : {A : Type 0} (x : A) → None ≡ Some x → ⊥
no_event x h = cc (h)

same_candidate : (asked : Asked) (now : State) (x y : Logical) (p q : Plan) → IsCandidate asked now x p → IsCandidate asked now y q → (x ≡ y) × (p ≡ q)
same_candidate asked now x y p q c d =
    let e : x ≡ y = c.emptied ∙ sym d.emptied in (
      e,
      one_plan p q y asked.estimates (known_sizes asked.tables now) asked.settings
          (subst (λ (z : Logical). Fits p z asked.estimates (known_sizes asked.tables now) asked.settings) e c.fits) d.fits,
    )

plans_one : (asked : Asked) (now a b : State) → PlansAgain asked now a → PlansAgain asked now b → a ≡ b
plans_one asked now a b (never n h) (never n2 h2) = refl
plans_one asked now a b (never n h) (keeps n2 x p k c w) = absurd (clash (sym h ∙ k))
plans_one asked now a b (never n h) (adopts n2 x p k c w) = absurd (clash (sym h ∙ k))
plans_one asked now a b (keeps n x p k c w) (never n2 h) = absurd (clash (sym h ∙ k))
plans_one asked now a b (keeps n x p k c w) (keeps n2 y q k2 d v) = refl
plans_one asked now a b (keeps n x p k c w) (adopts n2 y q k2 d v) =
    absurd (w (subst (λ (r : Plan). Better r now.plan) (sym (same_candidate asked now x y p q c d).1) v))
plans_one asked now a b (adopts n x p k c w) (never n2 h) = absurd (clash (sym h ∙ k))
plans_one asked now a b (adopts n x p k c w) (keeps n2 y q k2 d v) =
    absurd (v (subst (λ (r : Plan). Better r now.plan) (same_candidate asked now x y p q c d).1 w))
plans_one asked now a b (adopts n x p k c w) (adopts n2 y q k2 d v) =
    let e = same_candidate asked now x y p q c d in
    λ i. with_version now (e.0 i) (e.1 i)

takes_one : (asked : Asked) (now a b : State) (event : Event) → Takes asked now event a → Takes asked now event b → a ≡ b
takes_one asked now a b event (goes_on n e h) (goes_on n2 e2 h2) = refl
takes_one asked now a b event (goes_on n e h) (turns n2 planned e2 k t) = absurd (clash (sym h ∙ k))
takes_one asked now a b event (turns n planned e k t) (goes_on n2 e2 h) = absurd (clash (sym h ∙ k))
takes_one asked now a b event (turns n planned e k t) (turns n2 planned2 e2 k2 t2) =
    ap (λ (s : State). with_marks (settled s)) (plans_one asked (with_event now event) planned planned2 t t2)

Ends : Asked → State → Type 0
Ends asked now = (end : Finish) × Finishes asked now end

ended : (asked : Asked) (now : State) (event : Event) (end : Finish) → Finishes asked now end → reached asked now ≡ None → next_event asked now ≡ Some event → ⊥
ended asked now event end (at_end e h) r n = no_event e (sym r ∙ h)
ended asked now event end (stopped place h k l) r n = no_event event (sym k ∙ n)

some_one : {A : Type 0} (x y : A) → Some x ≡ Some y → x ≡ y
some_one x y h = ap (λ o. unwrap_or o x) h

finish_one : (asked : Asked) (now : State) (e g : Finish) → Finishes asked now e → Finishes asked now g → e ≡ g
finish_one asked now e g (at_end e1 h) (at_end g1 k) = some_one e1 g1 (sym h ∙ k)
finish_one asked now e g (at_end e1 h) (stopped place k l m) = absurd (no_event e1 (sym k ∙ h))
finish_one asked now e g (stopped place k l m) (at_end g1 h) = absurd (no_event g1 (sym k ∙ h))
finish_one asked now e g (stopped place k l m) (stopped other k2 l2 m2) = ap unfinished (some_one place other (sym m ∙ m2))

path_one : (asked : Asked) (now a b : State) (e g : Finish) → Path asked now a → Path asked now b → Finishes asked a e → Finishes asked b g → a ≡ b
path_one asked now a b e g (stop n) (stop n2) ea eb = refl
path_one asked now a b e g (stop n) (step n2 next end event r k t q) ea eb = absurd (ended asked now event e ea r k)
path_one asked now a b e g (step n next end event r k t p) (stop n2) ea eb = absurd (ended asked now event g eb r k)
path_one asked now a b e g (step n next end event r k t p) (step n2 next2 end2 event2 r2 k2 t2 q) ea eb =
    let same : event2 ≡ event = some_one event2 event (sym k2 ∙ k) in
    let goes : next2 ≡ next = takes_one asked now next2 next event (subst (λ (x : Event). Takes asked now x next2) same t2) t in
    path_one asked next a b e g p (subst (λ (s : State). Path asked s b) goes q) ea eb

last_one : (asked : Asked) (a b : State) (e g : Finish) → SoFar asked a → SoFar asked b → Finishes asked a e → Finishes asked b g → a ≡ b
last_one asked a b e g p q ea eb =
    let f = from asked a p in
    let h = from asked b q in
    let same : h.plan ≡ f.plan = one_plan h.plan f.plan asked.query asked.estimates [] asked.settings h.first f.first in
    path_one asked (with_marks (settled (first_state asked.query f.plan))) a b e g f.path
    (subst (λ (x : Plan). Path asked (with_marks (settled (first_state asked.query x))) b) same h.path) ea eb

pub one_record : OneRecordIsLegal
one_record asked note other query l m =
    let same = last_one asked l.last m.last note.finish other.finish l.runs m.runs l.ends m.ends in
    let ends = finish_one asked m.last note.finish other.finish (subst (λ (s : State). Finishes asked s note.finish) same l.ends) m.ends in
    l.shows ∙ ((λ i. record_of (query i) asked (same i) (ends i)) ∙ sym m.shows)
