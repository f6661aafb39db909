-- What a history says of births, fates and runs behind one more step.
use Rattle.std.proofs.Common.{◌≡◌, refl, ap, ◌∙◌, ◌+◌, suc, ℕ, Bool, List, [], ◌∷◌, ◌++◌, length, arith}
use Rattle.aqe_base.specs.declared.event.Event.{Event}
use Rattle.aqe_base.specs.declared.event.Event.TheVariants.{Ended, Failed, Lost, Fetch}
use Rattle.aqe_base.specs.declared.stage_id.StageId.{StageId}
use Rattle.aqe_base.specs.declared.ids.TaskId.{TaskId}
use Rattle.aqe_base.specs.declared.ids.ExecId.{ExecId}
use Rattle.aqe_scheduler.specs.declared.fate.Fate.{Fate}
use Rattle.aqe_scheduler.specs.declared.fate.Fate.TheVariants as fate
use Rattle.aqe_scheduler.specs.History.{Birth, Step, Added, Marked, Happened}
use Rattle.aqe_scheduler.specs.Looks.{births}
use Rattle.aqe_endings.specs.Peace.{happened}
use Rattle.aqe_journal.specs.declared.record.RunNote.{RunNote}
use Rattle.aqe_journal.specs.LegalRecord.{births_from, runs_from}

pub births_added : (n : ℕ) (h : List Step) (birth : Birth) → births_from n (h ++ Added birth ∷ []) ≡ births_from n h ++ (n + happened h) ∷ []
births_added n [] birth = let same : n ≡ n + 0 = omega arith in ap (λ k. k ∷ []) same
births_added n (Added b ∷ h) birth = ap (λ bs. n ∷ bs) (births_added n h birth)
births_added n (Marked stage is_needed ∷ h) birth = births_added n h birth
births_added n (Happened event f ∷ h) birth = let same : suc n + happened h ≡ n + suc (happened h) = omega arith in births_added (suc n) h birth ∙ ap (λ k. births_from (suc n) h ++ k ∷ []) same

pub births_event : (n : ℕ) (h : List Step) (event : Event) (f : Fate) → births_from n (h ++ Happened event f ∷ []) ≡ births_from n h
births_event n [] event f = refl
births_event n (Added b ∷ h) event f = ap (λ bs. n ∷ bs) (births_event n h event f)
births_event n (Marked stage is_needed ∷ h) event f = births_event n h event f
births_event n (Happened e g ∷ h) event f = births_event (suc n) h event f

pub births_marked : (n : ℕ) (h : List Step) (s : ℕ) (mark : Bool) → births_from n (h ++ Marked s mark ∷ []) ≡ births_from n h
births_marked n [] s mark = refl
births_marked n (Added b ∷ h) s mark = ap (λ bs. n ∷ bs) (births_marked n h s mark)
births_marked n (Marked stage is_needed ∷ h) s mark = births_marked n h s mark
births_marked n (Happened e g ∷ h) s mark = births_marked (suc n) h s mark

pub births_many : (n : ℕ) (h : List Step) → length (births_from n h) ≡ length (births h)
births_many n [] = refl
births_many n (Added b ∷ h) = ap suc (births_many n h)
births_many n (Marked stage is_needed ∷ h) = births_many n h
births_many n (Happened e g ∷ h) = births_many (suc n) h

-- the run of a counted ending
abbrev pub run_at : ℕ → StageId → TaskId → RunNote
run_at position stage task = record { position = position; stage = stage; task = task }

pub runs_counted : (n : ℕ) (h : List Step) (stage : StageId) (task : TaskId) (on : ExecId) →
    runs_from n (h ++ Happened (Ended stage task on) fate.Counted ∷ []) ≡ runs_from n h ++ run_at (n + suc (happened h)) stage task ∷ []
runs_counted n [] stage task on = let same : suc n ≡ n + 1 = omega arith in ap (λ k. run_at k stage task ∷ []) same
runs_counted n (Added b ∷ h) stage task on = runs_counted n h stage task on
runs_counted n (Marked s is_needed ∷ h) stage task on = runs_counted n h stage task on
runs_counted n (Happened event f ∷ h) stage task on = later event f (runs_counted (suc n) h stage task on ∙ ap (λ k. runs_from (suc n) h ++ run_at k stage task ∷ []) same)
  where
    same : suc n + suc (happened h) ≡ n + suc (suc (happened h))
    same = omega arith

    later : (event : Event) (f : Fate) → runs_from (suc n) (h ++ Happened (Ended stage task on) fate.Counted ∷ []) ≡ runs_from (suc n) h ++ run_at (n + suc (suc (happened h))) stage task ∷ [] →
        runs_from n (Happened event f ∷ h ++ Happened (Ended stage task on) fate.Counted ∷ []) ≡ runs_from n (Happened event f ∷ h) ++ run_at (n + suc (suc (happened h))) stage task ∷ []
    later (Ended s t o) fate.Counted e = ap (λ rs. run_at (suc n) s t ∷ rs) e
    later (Ended s t o) fate.Late e = e
    later (Ended s t o) fate.Unknown e = e
    later (Ended s t o) fate.Repeat e = e
    later (Ended s t o) fate.Starved e = e
    later (Ended s t o) fate.FailCounted e = e
    later (Ended s t o) fate.Lost e = e
    later (Ended s t o) fate.FetchCounted e = e
    later (Failed s t o) f e = e
    later (Lost o) f e = e
    later (Fetch s t o p m) f e = e

pub runs_added : (n : ℕ) (h : List Step) (birth : Birth) → runs_from n (h ++ Added birth ∷ []) ≡ runs_from n h
runs_added n [] birth = refl
runs_added n (Added b ∷ h) birth = runs_added n h birth
runs_added n (Marked s is_needed ∷ h) birth = runs_added n h birth
runs_added n (Happened event f ∷ h) birth = later event f (runs_added (suc n) h birth)
  where
    later : (event : Event) (f : Fate) → runs_from (suc n) (h ++ Added birth ∷ []) ≡ runs_from (suc n) h → runs_from n (Happened event f ∷ h ++ Added birth ∷ []) ≡ runs_from n (Happened event f ∷ h)
    later (Ended s t o) fate.Counted e = ap (λ rs. run_at (suc n) s t ∷ rs) e
    later (Ended s t o) fate.Late e = e
    later (Ended s t o) fate.Unknown e = e
    later (Ended s t o) fate.Repeat e = e
    later (Ended s t o) fate.Starved e = e
    later (Ended s t o) fate.FailCounted e = e
    later (Ended s t o) fate.Lost e = e
    later (Ended s t o) fate.FetchCounted e = e
    later (Failed s t o) f e = e
    later (Lost o) f e = e
    later (Fetch s t o p m) f e = e

pub runs_marked : (n : ℕ) (h : List Step) (s : ℕ) (mark : Bool) → runs_from n (h ++ Marked s mark ∷ []) ≡ runs_from n h
runs_marked n [] s mark = refl
runs_marked n (Added b ∷ h) s mark = runs_marked n h s mark
runs_marked n (Marked z is_needed ∷ h) s mark = runs_marked n h s mark
runs_marked n (Happened event f ∷ h) s mark = later event f (runs_marked (suc n) h s mark)
  where
    later : (event : Event) (f : Fate) → runs_from (suc n) (h ++ Marked s mark ∷ []) ≡ runs_from (suc n) h → runs_from n (Happened event f ∷ h ++ Marked s mark ∷ []) ≡ runs_from n (Happened event f ∷ h)
    later (Ended z t o) fate.Counted e = ap (λ rs. run_at (suc n) z t ∷ rs) e
    later (Ended z t o) fate.Late e = e
    later (Ended z t o) fate.Unknown e = e
    later (Ended z t o) fate.Repeat e = e
    later (Ended z t o) fate.Starved e = e
    later (Ended z t o) fate.FailCounted e = e
    later (Ended z t o) fate.Lost e = e
    later (Ended z t o) fate.FetchCounted e = e
    later (Failed z t o) f e = e
    later (Lost o) f e = e
    later (Fetch z t o p m) f e = e
