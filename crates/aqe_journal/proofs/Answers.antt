-- Each version of a legal record stands for its query, and so do its rows.
use Rattle.std.proofs.Common.{[], ◌∷◌, ◌≡◌, refl, ap, sym, subst, ◌∙◌, true, false, List, fold}
use Rattle.std.specs.Prelude.{All}
use Rattle.std.proofs.lemmas.List.Elements.{All-nil, All-cons}
use Rattle.aqe_base.specs.declared.event.Event.{Event}
use Rattle.aqe_logical.specs.Answers.{AnswerOf}
use Rattle.aqe_physical.specs.declared.plan.Plan.{Plan}
use Rattle.aqe_stages.specs.Stands.{StandsFor}
use Rattle.aqe_making.specs.Makings.{Making, all_makings}
use Rattle.aqe_journal.specs.declared.record.Finish.{Finish}
use Rattle.aqe_journal.specs.declared.record.QueryRecord.{QueryRecord}
use Rattle.aqe_journal.specs.declared.record.VersionNote.{VersionNote}
use Rattle.aqe_journal.specs.Asked.{Asked}
use Rattle.aqe_journal.specs.States.{State, first_state, with_stage, with_event, is_materialised}
use Rattle.aqe_journal.specs.LegalRecord.{IsFirst, PlansAgain, never, keeps, adopts, Takes, goes_on, turns, settled, has_result, SoFar, begun, one_on, rows_of, rows_under}
use Rattle.aqe_journal.specs.Laws.{IsSound, LegalVersionsStand, LegalRowsAreAnAnswer}
use Rattle.aqe_fit_laws.proofs.FittingServes.{fitting_stand}

clash : false ≡ true → ⊥
clash h = cc (h)

-- making stages keeps the versions
all_made : (now : State) (makings : List Making) → (fold with_stage now makings).versions ≡ now.versions
all_made now [] = refl
all_made now (making ∷ makings) = all_made (with_stage now making) makings

settles : (now : State) → (settled now).versions ≡ now.versions
settles now = all_made now (all_makings (is_materialised now) (has_result now.stages) now.plan)

plans : (asked : Asked) (now after : State) → PlansAgain asked now after → after.versions ≡ now.versions
plans asked now after (never n h) = refl
plans asked now after (keeps n x p k c w) = refl
plans asked now after (adopts n x p k c w) = absurd (clash k)

takes : (asked : Asked) (now next : State) (event : Event) → Takes asked now event next → next.versions ≡ now.versions
takes asked now next event (goes_on n e h) = refl
takes asked now next event (turns n planned e h t) = settles planned ∙ plans asked (with_event now event) planned t

-- so the first version is the only one
record OneVersion (asked : Asked) (now : State) : Type 0 where
  plan : Plan
  first : IsFirst asked plan
  is : now.versions ≡ record { position = 0; logical = asked.query; plan = plan } ∷ []

one_version : (asked : Asked) (now : State) → SoFar asked now → OneVersion asked now
one_version asked now (begun plan first) = record { plan = plan; first = first; is = settles (first_state asked.query plan) }
one_version asked now (one_on before next event far r n t) =
    let v = one_version asked before far in
    record { plan = v.plan; first = v.first; is = takes asked before next event t ∙ v.is }

first_stands : (asked : Asked) (now : State) (plan : Plan) → IsSound asked → IsFirst asked plan → StandsFor asked.tables now.stages plan asked.query
first_stands asked now plan sound first =
    (fitting_stand asked.tables now.stages plan asked.query asked.estimates [] asked.settings sound.parts sound.formed sound.closed sound.planned sound.wide sound.files first).0

pub versions_stand : LegalVersionsStand
versions_stand asked note sound legal =
    let v = one_version asked legal.last legal.runs in
    let P : VersionNote → Type 0 = λ version. StandsFor asked.tables legal.last.stages version.plan asked.query in
    subst (All P) (sym (ap (λ (n : QueryRecord). n.versions) legal.shows ∙ v.is))
    (All-cons P (record { position = 0; logical = asked.query; plan = v.plan }) [] (first_stands asked legal.last v.plan sound v.first) (All-nil P))

pub rows_answer : LegalRowsAreAnAnswer
rows_answer asked note sound legal done =
    let v = one_version asked legal.last legal.runs in
    let is : note.rows ≡ rows_of asked legal.last legal.last.versions =
    ap (λ (n : QueryRecord). n.rows) legal.shows ∙ ap (λ (f : Finish). rows_under f asked legal.last) done in
    subst (AnswerOf asked.tables asked.query) (sym (is ∙ ap (rows_of asked legal.last) v.is)) (first_stands asked legal.last v.plan sound v.first)
