-- What the end of a run tells.
use Rattle.std.proofs.Common.{◌≡◌, inl, inr, ℕ, List, [], Option, Some, Result, Ok, Err, refl, sym, ap, subst, ◌∙◌, IsTrue}
use Rattle.std.specs.Prelude.{IsFalse}
use Rattle.aqe_base.specs.declared.status.Status.{Status}
use Rattle.aqe_base.specs.declared.status.Status.TheVariants as status
use Rattle.aqe_store.specs.Files.{Entries}
use Rattle.aqe_store.specs.Told.{Open}
use Rattle.aqe_lexer.specs.declared.fault.Fault.{Fault}
use Rattle.aqe_lexer.specs.declared.fault.Fault.TheVariants as fault
use Rattle.aqe_lexer.specs.declared.fault.LexFault.{LexFault}
use Rattle.aqe_lexer.specs.Faults.{told_of}
use Rattle.aqe_lexer.specs.TokenList.{FirstFault}
use Rattle.aqe_lexer.specs.TokenList.FirstFault.{in_text, at_end, within, between}
use Rattle.aqe_trees.specs.declared.statement.Stmt.{Stmt}
use Rattle.aqe_trees.specs.declared.statement.Stmt.TheVariants as statement
use Rattle.aqe_tables.specs.declared.catalog.CatalogTable.{CatalogTable}
use Rattle.aqe_tables.specs.declared.catalog.CreateFault.{CreateFault}
use Rattle.aqe_tables.specs.declared.catalog.CreateFault.TheVariants as create
use Rattle.aqe_tables.specs.declared.fault.LoadFault.{LoadFault}
use Rattle.aqe_tables.specs.declared.fault.LoadFault.TheVariants as load
use Rattle.aqe_tables.specs.Load.{is_excuse}
use Rattle.aqe_tables.specs.Loaded.{Slots}
use Rattle.aqe_tables.proofs.NameFacts.{created_or_named}
use Rattle.aqe_rules.specs.Outcomes.{Check, refused as refused_check, too_many_operators, too_many_columns}
use Rattle.aqe_course.specs.Command.{Command}
use Rattle.aqe_course.specs.Course.{State, IsRefusedStatement, of_create, of_check, of_load}
use Rattle.aqe_course.specs.Loading.{IsStopped}
use Rattle.aqe_course.specs.Loading.IsStopped.{here, again, next}
use Rattle.aqe_course.specs.Opening.{IsNotOpened, IsRefusedSource, Needed, of_lex}
use Rattle.aqe_course.specs.Opening.IsRefusedSource.{no_tokens, no_sentence, too_deep, not_built}
use Rattle.aqe_course.specs.Opening.Needed.{there, missing, too_long}
use Rattle.aqe_course.specs.Opening.IsNotOpened.{no_file, refused as refused_source}
use Rattle.aqe_course.specs.Ending.{Left, Answers, Ends, RefusesBehind, ScriptEnds}
use Rattle.aqe_course.specs.Ending.IsRefused.{at_once, on_the_way}
use Rattle.aqe_course.specs.Ending.ScriptEnds.{done, refused, stopped, unwritten}
use Rattle.aqe_course.specs.Ending.Ends.{not_opened, not_had, carried_out}
use Rattle.aqe_course.specs.Laws.{EndTells, EndsTell, RefusalsAreOfTheCourse}
use Rattle.aqe_course.specs.Statuses.{is_failure, is_refusal}
use Rattle.aqe_course.proofs.OneCourse.{one_course, done_not_refused}

-- each refusal of the course is one of `is_refusal`
told_refuses : (f : Fault) (at : ℕ) → IsTrue (is_refusal (of_lex (told_of f at)))
told_refuses fault.BadByte at = refl
told_refuses fault.OpenComment at = refl
told_refuses fault.OpenString at = refl
told_refuses fault.OpenQuote at = refl
told_refuses fault.BadEscape at = refl
told_refuses fault.WideNumber at = refl

lex_refuses : (source : List ℕ) (e : LexFault) → FirstFault source e → IsTrue (is_refusal (of_lex e))
lex_refuses source e (in_text f at h o is) = subst (λ x. IsTrue (is_refusal (of_lex x))) (sym is) (told_refuses f at)
lex_refuses source e (at_end f at u h o is) = subst (λ x. IsTrue (is_refusal (of_lex x))) (sym is) (told_refuses f at)
lex_refuses source e (within f at u h o is) = subst (λ x. IsTrue (is_refusal (of_lex x))) (sym is) refl
lex_refuses source e (between ts u h is) = subst (λ x. IsTrue (is_refusal (of_lex x))) (sym is) refl

is_one : (x y : Status) → x ≡ y → IsTrue (is_refusal y) → IsTrue (is_refusal x)
is_one x y e h = subst (λ s. IsTrue (is_refusal s)) (sym e) h

source_refuses : (source : List ℕ) (end : Status) → IsRefusedSource source end → IsTrue (is_refusal end)
source_refuses source end (no_tokens f h e) = is_one end _ e (lex_refuses source f h)
source_refuses source end (no_sentence ts are nay shallow e) = is_one end _ e refl
source_refuses source end (too_deep ts are deep e) = is_one end _ e refl
source_refuses source end (not_built ts s are taken b e) = is_one end _ e refl

file_refuses : (files : Entries) (path : List ℕ) (end : Status) (r : Result (List ℕ) Status) → r ≡ Err end → Needed files path r → IsTrue (is_refusal end)
file_refuses files path end r is (there c e f i) = absurd (let both : Ok c ≡ Err end = sym i ∙ is in cc both)
file_refuses files path end r is (missing n i) = let both : Err status.Missing ≡ Err end = sym i ∙ is in let same : end ≡ status.Missing = cc both in is_one end _ same refl
file_refuses files path end r is (too_long l i) =
    let both : Err (status.Limit Rattle.aqe_base.specs.declared.status.LimitKind.TheVariants.FileBytes) ≡ Err end = sym i ∙ is in
    let same : end ≡ status.Limit Rattle.aqe_base.specs.declared.status.LimitKind.TheVariants.FileBytes = cc both in
    is_one end _ same refl

opening_refuses : (files : Entries) (said : Command) (end : Status) → IsNotOpened files said end → IsTrue (is_refusal end)
opening_refuses files said end (no_file n) = file_refuses files said.path end (Err end) refl n
opening_refuses files said end (refused_source source has r) = source_refuses source end r

check_refuses : (check : Check) → IsTrue (is_refusal (of_check check))
check_refuses (refused_check kind name) = refl
check_refuses too_many_operators = refl
check_refuses too_many_columns = refl

load_refuses : (why : LoadFault) → IsFalse (is_excuse why) → IsTrue (is_refusal (of_load why))
load_refuses load.Memory h = cc h
load_refuses load.ReadFault h = cc h
load_refuses load.Missing h = refl
load_refuses load.TooManyFiles h = refl
load_refuses (load.TooLong name) h = refl
load_refuses load.TooManyBytes h = refl
load_refuses (load.NotBuilt name) h = refl

stopped_refuses : (files : Entries) (catalog : List CatalogTable) (before : Slots) (ns : List ℕ) (why : LoadFault) → IsStopped files catalog before ns why → IsTrue (is_refusal (of_load why))
stopped_refuses files catalog _ _ _ (here before n more why free r) = load_refuses why r.told
stopped_refuses files catalog _ _ _ (again before n more why l h) = stopped_refuses files catalog before more why h
stopped_refuses files catalog _ _ _ (next before now n more why free added h) = stopped_refuses files catalog now more why h

create_refuses : (why : CreateFault) → (why ≡ create.Memory → ⊥) → IsTrue (is_refusal (of_create why))
create_refuses (create.RepeatedColumn name) n = refl
create_refuses create.TooManyColumns n = refl
create_refuses (create.BadOption key) n = refl
create_refuses create.TableExists n = refl
create_refuses create.Memory n = absurd (n refl)

pub statement_refuses : (files : Entries) (now : State) (one : Stmt) (end : Status) → IsRefusedStatement files now one end → IsTrue (is_refusal end)
statement_refuses files now (statement.CreateTable form) end (why, e, i) = is_one end _ i (create_refuses why (λ m. created_or_named now.catalog form (e ∙ ap Some m)))
statement_refuses files now (statement.Set form) end h = absurd h
statement_refuses files now (statement.Query tree) end (inl (check, e, i)) = is_one end _ i (check_refuses check)
statement_refuses files now (statement.Query tree) end (inr n) = is_one end _ n.is (stopped_refuses files now.catalog now.tables _ n.why n.stopped)

pub refusals_are : RefusalsAreOfTheCourse
refusals_are files said _ _ (at_once end h) = opening_refuses files said end h
refusals_are files said _ _ (on_the_way script rest one queries now end o r h) = statement_refuses files now one end h

-- An end is one of three.

data Way (files : Entries) (said : Command) (old new : Left) (end : Status) : Type 0 where
  well : Answers files said old new → end ≡ status.Done → Way files said old new end
  refuses : RefusesBehind files said old new end → Way files said old new end
  fails : IsTrue (is_failure end) → Way files said old new end

failing : (x y : Status) → x ≡ y → IsTrue (is_failure y) → IsTrue (is_failure x)
failing x y e h = subst (λ s. IsTrue (is_failure s)) (sym e) h

script_way : (files : Entries) (said : Command) (script : List Stmt) (old new : Left) (end : Status) → Rattle.aqe_course.specs.Opening.IsOpened files said script → ScriptEnds files script old new end → Way files said old new end
script_way files said script old new end o (done queries now r w e) = well (queries, record { script = script; opened = o; end = now; runs = r }, w) e
script_way files said script old new end o (refused queries now one rest r h w) = refuses (queries, on_the_way script rest one queries now end o r h, w)
script_way files said script old new end o (stopped queries now one rest r (inl e) mid w at) = fails (failing end _ e refl)
script_way files said script old new end o (stopped queries now one rest r (inr (e, h)) mid w at) = fails (failing end _ e refl)
script_way files said script old new end o (unwritten queries last now left r w e) = fails (failing end _ e refl)

way : (files : Entries) (said : Command) (last : Option Open) (old new : Left) (end : Status) → Ends files said last old new end → Way files said old new end
way files said last old new end (not_opened h w) = refuses ([], at_once end h, w)
way files said last old new end (not_had (inl e) w) = fails (failing end _ e refl)
way files said last old new end (not_had (inr (e, h)) w) = fails (failing end _ e refl)
way files said last old new end (carried_out script o h) = script_way files said script old new end o h

-- a failure is no refusal and no success
failure_refuses : (end : Status) → IsTrue (is_failure end) → IsTrue (is_refusal end) → ⊥
failure_refuses status.ReadFault h k = cc k
failure_refuses status.WriteFault h k = cc k
failure_refuses status.Memory h k = cc k
failure_refuses status.Done h k = cc h
failure_refuses status.Usage h k = cc h
failure_refuses (status.Syntax kind) h k = cc h
failure_refuses (status.Analysis kind) h k = cc h
failure_refuses (status.Limit kind) h k = cc h
failure_refuses status.Missing h k = cc h
failure_refuses status.NotBuilt h k = cc h
failure_refuses (status.BadTable kind) h k = cc h
failure_refuses status.Settings h k = cc h
failure_refuses status.Events h k = cc h
failure_refuses status.Aborted h k = cc h
failure_refuses status.StageAborted h k = cc h
failure_refuses status.Unfinished h k = cc h

tells : (files : Entries) (said : Command) (old new : Left) (end : Status) → Way files said old new end → EndTells files said old new end
tells files said old new end (well (queries, h, w) e) = record {
  done = λ _. (queries, h, w);
  refused = λ r. absurd (let no : IsTrue (is_refusal status.Done) = subst (λ s. IsTrue (is_refusal s)) e r in cc no);
  always = λ rs cause k. absurd (done_not_refused files said queries rs cause h k);
  completes = λ _. inl e;
}
tells files said old new end (refuses (queries, h, w)) = record {
  done = λ e. absurd (let no : IsTrue (is_refusal status.Done) = subst (λ s. IsTrue (is_refusal s)) e (refusals_are files said queries end h) in cc no);
  refused = λ _. (queries, h, w);
  always = λ rs cause k. inl (one_course files said queries rs end cause h k).end;
  completes = λ a. absurd (a queries end h);
}
tells files said old new end (fails f) = record {
  done = λ e. absurd (let no : IsTrue (is_failure status.Done) = subst (λ s. IsTrue (is_failure s)) e f in cc no);
  refused = λ r. absurd (failure_refuses end f r);
  always = λ rs cause k. inr f;
  completes = λ _. inr f;
}

pub ends_tell : EndsTell
ends_tell files said last old new end h = tells files said old new end (way files said last old new end h)
