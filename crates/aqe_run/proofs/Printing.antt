-- A query that is printed behind its tables, which are loaded: where it is not, memory was wanted.
use Rattle.std.proofs.Common.{◌≡◌, inl, inr, ℕ, ◌+◌, List, length, IsTrue, Option, Result, Ok, Err, refl, sym, ap, subst}
use Rattle.std.specs.Prelude.{IfOk, IfErr, OnOk, OnErr}
use Rattle.std.proofs.lemmas.Result.{IfErr-at_err}
use Rattle.aqe_base.specs.declared.status.Status.{Status}
use Rattle.aqe_base.specs.declared.status.Status.TheVariants as status
use Rattle.aqe_store.specs.Files.{Entries}
use Rattle.aqe_logical.specs.declared.plan.Logical.{Logical}
use Rattle.aqe_logical.specs.Nodes.{scans}
use Rattle.aqe_tables.specs.declared.catalog.CatalogTable.{CatalogTable}
use Rattle.aqe_tables.specs.Loaded.{Slots}
use Rattle.aqe_tables.specs.Steps.{IsStep}
use Rattle.aqe_journal.specs.declared.record.QueryRecord.{QueryRecord}
use Rattle.aqe_answer.specs.Answer.{IsPrinted, MayBeRecorded}
use Rattle.aqe_course.specs.Course.{Query, State, query}
use Rattle.aqe_run.specs.Steps.{IsBehind, LoadsAll, RefusesTables, is_step_end}
use Rattle.aqe_run.proofs.Told.{told_all}
use Rattle.aqe_run.proofs.RunFacts.{counted_one}

pub any_ok : {A E : Type 0} (P : A → Type 0) (r : Result A E) → ((x : A) → P x) → IfOk r P
any_ok P (Ok x) h = h x
any_ok P (Err e) h = tt

pub any_err : {A E : Type 0} (P : E → Type 0) (r : Result A E) → ((e : E) → P e) → IfErr r P
any_err P (Ok x) h = tt
any_err P (Err e) h = h e

-- memory was wanted, where there is no text
abbrev pub Wants : Result (List ℕ) Status → Type 0
Wants r = IfErr r (λ end. end ≡ status.Memory)

pub wants_refuses : (told : Option Entries) (catalog : List CatalogTable) (before : Slots) (numbers : List ℕ) (r : Result (List ℕ) Status) → Wants r → IfErr r (RefusesTables told catalog before numbers)
wants_refuses told catalog before numbers (Ok text) w = tt
wants_refuses told catalog before numbers (Err end) w = told_all _ told (λ files. inr (inl w))

pub wants_ends : (r : Result (List ℕ) Status) → Wants r → IfErr r (λ end. IsTrue (is_step_end end))
wants_ends (Ok text) w = tt
wants_ends (Err end) w = subst (λ e. IsTrue (is_step_end e)) (sym w) refl

pub wants_no_read : (A : Type 0) (r : Result (List ℕ) Status) → Wants r → r ≡ Err status.ReadFault → A
wants_no_read A r w e = absurd (let no : status.ReadFault ≡ status.Memory = IfErr-at_err (λ end. end ≡ status.Memory) e w in cc no)

pub wants_ran : (H : Type 0) (r : Result (List ℕ) Status) → Wants r → OnOk r H → (r ≡ Err status.Memory → ⊥) → H
wants_ran H (Ok text) w h n = h
wants_ran H (Err end) w h n = absurd (n (ap Err w))

-- the store is left alone
pub wants_step : {A : Type 0} (told told' : Option Entries) (f f' m m' : ℕ) (r : Result (List ℕ) Status) (before : Result A Status) → Wants r
    → (before ≡ Err status.ReadFault → ⊥) → (before ≡ Err status.Missing → ⊥) → IsStep status.ReadFault status.Missing told told' f f' m m' before → IsStep status.ReadFault status.Missing told told' f f' m m' r
wants_step told told' f f' m m' r before w nr nm s = record {
  keeps = s.keeps;
  faults_stay = s.faults_stay;
  misses_stay = s.misses_stay;
  read_fault = λ e. absurd (let no : status.ReadFault ≡ status.Memory = IfErr-at_err (λ end. end ≡ status.Memory) e w in cc no);
  missing = λ e. absurd (let no : status.Missing ≡ status.Memory = IfErr-at_err (λ end. end ≡ status.Memory) e w in cc no);
  steady = λ n. s.steady nr;
  found = λ n. s.found nm;
}

-- the journal, where memory was wanted behind the tables
pub behind_printed : (told : Option Entries) (now : State) (plan : Logical) (after : Slots) (old new : List QueryRecord) (r : Result (List ℕ) Status) → Wants r
    → LoadsAll told now.catalog now.tables (scans plan) after → OnErr r (MayBeRecorded (query now.answered plan after now.settings) old new) → IfErr r (IsBehind told now plan after old new)
behind_printed told now plan after old new (Ok text) w l h = tt
behind_printed told now plan after old new (Err end) w l (inl same) = inl same
behind_printed told now plan after old new (Err end) w l (inr recorded) = inr (w, l, recorded)

-- a query that was counted is in the journal
pub counted_all : (q : Query) (old new : List QueryRecord) (now next : ℕ) (r : Result (List ℕ) Status) → now ≡ length old → IfOk r (λ text. next ≡ now + 1) → IfOk r (IsPrinted q old new)
    → OnOk r (next ≡ length new)
counted_all q old new now next (Ok text) was one p = counted_one q old new now next text was one p
counted_all q old new now next (Err end) was one p = tt
