-- What the end of a run tells, for the command that the words say.
use Rattle.std.proofs.Common.{◌≡◌, ◌⊎◌, inl, inr, ℕ, List, [], ◌∷◌, Option, refl, sym, ap, subst, ◌∙◌, codes, IsTrue}
use Rattle.aqe_base.specs.declared.status.Status.{Status}
use Rattle.aqe_base.specs.declared.status.Status.TheVariants as status
use Rattle.aqe_store.specs.Causes.{Rose}
use Rattle.aqe_store.specs.Files.{Entries}
use Rattle.aqe_store.specs.Told.{KeepsFiles, Open, WhereTold}
use Rattle.aqe_trees.specs.declared.statement.Stmt.{Stmt}
use Rattle.aqe_course.specs.Command.{Command, AreWordsOf, command}
use Rattle.aqe_course.specs.Course.{Query}
use Rattle.aqe_course.specs.Opening.{IsOpened, IsNotOpened}
use Rattle.aqe_course.specs.Ending.{Answers, Ends, IsAccepted, IsRefused, Left, RefusesBehind, ScriptEnds, StopsAtScript}
use Rattle.aqe_course.specs.Ending.Ends.{not_opened, not_had, carried_out}
use Rattle.aqe_course.specs.Laws.{EndTells}
use Rattle.aqe_course.specs.Statuses.{is_failure, is_refusal}
use Rattle.aqe_course.proofs.Telling.{ends_tell}
use Rattle.aqe_run.proofs.Told.{told_one, told_then}
use Rattle.aqe_run.proofs.Writing.{writes_none}
use Rattle.aqe_cli.specs.Headline.{AnswersAll, Completes, EndsSo, IsRefusedWith, IsTheRefusal, OfCommand}

-- a script that was not opened, and one that was
early : (files : Entries) (said : Command) (opened : Option Open) (old : Left) (end : Status) → IsNotOpened files said end ⊎ StopsAtScript opened said end → Ends files said opened old old end
early files said opened old end (inl h) = not_opened h (writes_none old)
early files said opened old end (inr h) = not_had h (writes_none old)

pub early_told : (told : Option Entries) (said : Command) (opened : Option Open) (old : Left) (end : Status) → WhereTold told (λ files. IsNotOpened files said end ⊎ StopsAtScript opened said end)
    → WhereTold told (λ files. Ends files said opened old old end)
early_told told said opened old end h =
    told_one (λ files. IsNotOpened files said end ⊎ StopsAtScript opened said end) (λ files. Ends files said opened old old end) told (λ files p. early files said opened old end p) h

pub carried_told : (told now : Option Entries) (said : Command) (opened : Option Open) (script : List Stmt) (old new : Left) (end : Status) → KeepsFiles told now
    → WhereTold told (λ files. IsOpened files said script) → WhereTold now (λ files. ScriptEnds files script old new end) → WhereTold told (λ files. Ends files said opened old new end)
carried_told told now said opened script old new end k o h =
    told_then (λ files. IsOpened files said script) (λ files. ScriptEnds files script old new end) (λ files. Ends files said opened old new end) told now k
    (λ files p q. carried_out script p q) o h

-- the words say one command
said_is : (words : List (List ℕ)) (path : List ℕ) (said : Command) → AreWordsOf words (command path) → AreWordsOf words said → said ≡ command path
said_is words path said h k =
    let both : codes "run" ∷ path ∷ [] ≡ codes "run" ∷ said.path ∷ [] = sym h ∙ k in
    let same : said.path ≡ path = cc both in
    ap command same

of_said : (told : Option Entries) (words : List (List ℕ)) (path : List ℕ) (F : Entries → Command → Type 0) → AreWordsOf words (command path) → WhereTold told (λ files. F files (command path))
    → OfCommand told words F
of_said told words path F h f said k = subst (λ c. WhereTold told (λ files. F files c)) (sym (said_is words path said h k)) f

-- what the end of the command's run tells
tell : (told : Option Entries) (words : List (List ℕ)) (path : List ℕ) (opened : Option Open) (old new : Left) (end : Status) (F : Entries → Command → Type 0) → AreWordsOf words (command path)
    → WhereTold told (λ files. Ends files (command path) opened old new end) → ((files : Entries) → EndTells files (command path) old new end → F files (command path)) → OfCommand told words F
tell told words path opened old new end F h e f =
    of_said told words path F h
    (told_one (λ files. Ends files (command path) opened old new end) (λ files. F files (command path)) told (λ files p. f files (ends_tell files (command path) opened old new end p)) e)

pub ends_so : (told : Option Entries) (words : List (List ℕ)) (path : List ℕ) (opened : Option Open) (old new : Left) (end : Status) → AreWordsOf words (command path)
    → WhereTold told (λ files. Ends files (command path) opened old new end) → EndsSo told words opened old new end
ends_so told words path opened old new end h e = of_said told words path (λ files said. Ends files said opened old new end) h e

pub answers_all : (told : Option Entries) (words : List (List ℕ)) (path : List ℕ) (opened : Option Open) (old new : Left) (end : Status) → AreWordsOf words (command path)
    → WhereTold told (λ files. Ends files (command path) opened old new end) → end ≡ status.Done → AnswersAll told words old new
answers_all told words path opened old new end h e d = tell told words path opened old new end (λ files said. Answers files said old new) h e (λ files t. t.done d)

pub refused_with : (told : Option Entries) (words : List (List ℕ)) (path : List ℕ) (opened : Option Open) (old new : Left) (end : Status) → AreWordsOf words (command path)
    → WhereTold told (λ files. Ends files (command path) opened old new end) → IsTrue (is_refusal end) → IsRefusedWith told words old new end
refused_with told words path opened old new end h e r = tell told words path opened old new end (λ files said. RefusesBehind files said old new end) h e (λ files t. t.refused r)

pub the_refusal : (told : Option Entries) (words : List (List ℕ)) (path : List ℕ) (opened : Option Open) (old new : Left) (end : Status) → AreWordsOf words (command path)
    → WhereTold told (λ files. Ends files (command path) opened old new end) → IsTheRefusal told words end
the_refusal told words path opened old new end h e =
    tell told words path opened old new end (λ files said. (queries : List Query) (cause : Status) → IsRefused files said queries cause → (end ≡ cause) ⊎ IsTrue (is_failure end)) h e (λ files t. t.always)

-- a failure that is not of the store and not of the sink
memory_left : (end : Status) → IsTrue (is_failure end) → (end ≡ status.ReadFault → ⊥) → (end ≡ status.WriteFault → ⊥) → end ≡ status.Memory
memory_left status.Memory h r w = refl
memory_left status.ReadFault h r w = absurd (r refl)
memory_left status.WriteFault h r w = absurd (w refl)
memory_left status.Done h r w = cc h
memory_left status.Usage h r w = cc h
memory_left (status.Syntax kind) h r w = cc h
memory_left (status.Analysis kind) h r w = cc h
memory_left (status.Limit kind) h r w = cc h
memory_left status.Missing h r w = cc h
memory_left status.NotBuilt h r w = cc h
memory_left (status.BadTable kind) h r w = cc h
memory_left status.Settings h r w = cc h
memory_left status.Events h r w = cc h
memory_left status.Aborted h r w = cc h
memory_left status.StageAborted h r w = cc h
memory_left status.Unfinished h r w = cc h

finished : (end : Status) (f f' o o' : ℕ) → (end ≡ status.ReadFault → Rose f f') → (end ≡ status.WriteFault → Rose o o') → (Rose f f' → ⊥) → (Rose o o' → ⊥)
    → (end ≡ status.Done) ⊎ IsTrue (is_failure end) → (end ≡ status.Done) ⊎ (end ≡ status.Memory)
finished end f f' o o' r w nr nw (inl d) = inl d
finished end f f' o o' r w nr nw (inr h) = inr (memory_left end h (λ e. nr (r e)) (λ e. nw (w e)))

pub completes : (told : Option Entries) (words : List (List ℕ)) (path : List ℕ) (opened : Option Open) (old new : Left) (end : Status) (f f' o o' : ℕ) → AreWordsOf words (command path)
    → WhereTold told (λ files. Ends files (command path) opened old new end) → (end ≡ status.ReadFault → Rose f f') → (end ≡ status.WriteFault → Rose o o')
    → Completes told words end (Rose f f') (Rose o o')
completes told words path opened old new end f f' o o' h e r w =
    tell told words path opened old new end (λ files said. IsAccepted files said → (Rose f f' → ⊥) → (Rose o o' → ⊥) → (end ≡ status.Done) ⊎ (end ≡ status.Memory)) h e
    (λ files t a nr nw. finished end f f' o o' r w nr nw (t.completes a))

-- words that say no command
pub misused : (told : Option Entries) (words : List (List ℕ)) (F : Entries → Command → Type 0) → ((said : Command) → AreWordsOf words said → ⊥) → OfCommand told words F
misused told words F n said h = absurd (n said h)
