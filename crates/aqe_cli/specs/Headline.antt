-- What a run of the program does: the words of the clauses of `run_words`. They speak of the words of the command line, of
-- the files where the store tells them (`told`), and of what the journal and `out` had before and after (`Left`).
use Rattle.std.specs.Prelude.{◌≡◌, ◌⊎◌, ℕ, List, Option}
use Rattle.aqe_base.specs.declared.status.Status.{Status}
use Rattle.aqe_base.specs.declared.status.Status.TheVariants as status
use Rattle.aqe_store.specs.Causes.{Rose}
use Rattle.aqe_store.specs.Files.{Entries}
use Rattle.aqe_store.specs.Told.{Open, WhereTold}
use Rattle.aqe_course.specs.Command.{Command, AreWordsOf}
use Rattle.aqe_course.specs.Course.{Query}
use Rattle.aqe_course.specs.Ending.{Answers, Ends, IsAccepted, IsRefused, Left, RefusesBehind}
use Rattle.aqe_course.specs.Statuses.{is_failure}
use Rattle.std.specs.Prelude.{IsTrue}

-- store, sink, journal and runner are as they were
abbrev pub IsUntouched : {S O J R : Type 0} → S → S → O → O → J → J → R → R → Type 0
IsUntouched store store' out out' journal journal' runner runner' = (store' ≡ store) × (out' ≡ out) × (journal' ≡ journal) × (runner' ≡ runner)

-- the words say a command, and the fact holds of it and of the files
abbrev pub OfCommand : Option Entries → List (List ℕ) → (Entries → Command → Type 0) → Type 0
OfCommand told words fact = (said : Command) → AreWordsOf words said → WhereTold told (λ files. fact files said)

-- What success means: the script is carried out; the journal grew by one record for each of its queries, in order, each legal for
-- its query, with versions that stand for it and rows that are an answer; `out` grew by the printed texts of these rows, in order,
-- and by nothing else.
abbrev pub AnswersAll : Option Entries → List (List ℕ) → Left → Left → Type 0
AnswersAll told words old new = OfCommand told words (λ files said. Answers files said old new)

-- The run is refused so by its course, and journal and `out` grew by the records and texts of the queries before, all of them.
abbrev pub IsRefusedWith : Option Entries → List (List ℕ) → Left → Left → Status → Type 0
IsRefusedWith told words old new end = OfCommand told words (λ files said. RefusesBehind files said old new end)

-- Whatever refusal the course has, it is this end, unless something failed.
abbrev pub IsTheRefusal : Option Entries → List (List ℕ) → Status → Type 0
IsTheRefusal told words end = OfCommand told words
    (λ files said. (queries : List Query) (cause : Status) → IsRefused files said queries cause → (end ≡ cause) ⊎ IsTrue (is_failure end))

-- How the run ended, in all: carried out, refused, or failed, with what stands in the journal and in `out`.
abbrev pub EndsSo : Option Entries → List (List ℕ) → Option Open → Left → Left → Status → Type 0
EndsSo told words opened old new end = OfCommand told words (λ files said. Ends files said opened old new end)

-- a count of a store or a sink rose
abbrev pub Rises : {S : Type 0} → (S → ℕ) → S → S → Type 0
Rises count old new = Rose (count old) (count new)

-- Where the course has no refusal, and neither the faults of the store rise (`reading`) nor those of `out` (`writing`), the run
-- is carried out or memory is wanting.
abbrev pub Completes : Option Entries → List (List ℕ) → Status → Type 0 → Type 0 → Type 0
Completes told words end reading writing = OfCommand told words
    (λ files said. IsAccepted files said → ¬ reading → ¬ writing → (end ≡ status.Done) ⊎ (end ≡ status.Memory))
