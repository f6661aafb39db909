-- The statements of a script, over the files that the store tells.
use Rattle.std.proofs.Common.{◌≡◌, ◌⊎◌, inl, inr, ℕ, ◌+◌, ◌≤◌, Bool, true, false, ◌&&◌, IsTrue, List, [], ◌∷◌, length, Option, Some, None, refl, sym, ap, subst, arith, ◌∙◌}
use Rattle.std.specs.List.{count_by}
use Rattle.std.proofs.lemmas.List.Splits.{length-slice_split}
use Rattle.std.proofs.lemmas.List.Sums.{count_by-le-length}
use Rattle.std.specs.Prelude.{All}
use Rattle.std.proofs.lemmas.List.Elements.{All-head, All-tail}
use Rattle.aqe_base.specs.declared.status.Status.{Status}
use Rattle.aqe_base.specs.declared.status.Status.TheVariants as status
use Rattle.aqe_store.specs.Files.{Entries}
use Rattle.aqe_store.specs.Told.{KeepsFiles, WhereTold}
use Rattle.aqe_lexer.specs.declared.token.Token.{Token}
use Rattle.aqe_lexer.specs.Spans.{StandsIn, InOrder}
use Rattle.aqe_lexer.proofs.Stands as stands
use Rattle.aqe_trees.specs.declared.statement.Stmt.{Stmt}
use Rattle.aqe_script.specs.Statements.{AreStatements, is_semicolon, parts_of}
use Rattle.aqe_script.specs.Statements.AreStatements.{finished, nothing as no_statement, statement as a_statement}
use Rattle.aqe_built.specs.Built.{is_script_built, is_statement_built}
use Rattle.aqe_course.specs.Course.{State, nothing, IsRefusedStatement}
use Rattle.aqe_course.specs.Opening.{IsSource}
use Rattle.aqe_course.specs.Ending.{Left, ReadsTables, ScriptEnds, StopsAt}
use Rattle.aqe_run.specs.Steps.{IsWriteExcuse, IsWritten, IsHalfWritten, IsCarriedTo}
use Rattle.aqe_course.specs.Ending.ScriptEnds.{done}
use Rattle.aqe_run.proofs.Told.{told_all, told_one, told_then, told_before}
use Rattle.aqe_run.proofs.CourseFacts.{begun, carried_on, stopped}

pub begun_told : (told : Option Entries) (script : List Stmt) (old : Left) → WhereTold told (λ files. IsCarriedTo files script nothing script old old)
begun_told told script old = told_all (λ files. IsCarriedTo files script nothing script old old) told (λ files. begun files script old)

pub carried_told : (told now : Option Entries) (script left rest : List Stmt) (made next : State) (one : Stmt) (old mid new : Left) → KeepsFiles told now → left ≡ one ∷ rest
    → WhereTold told (λ files. IsCarriedTo files script made left old mid) → WhereTold now (λ files. IsWritten files made one next mid new)
    → WhereTold told (λ files. IsCarriedTo files script next rest old new)
carried_told told now script left rest made next one old mid new k e h w =
    told_then (λ files. IsCarriedTo files script made left old mid) (λ files. IsWritten files made one next mid new) (λ files. IsCarriedTo files script next rest old new) told now k
    (λ files p q. carried_on files script rest made next one old mid new (subst (λ l. IsCarriedTo files script made l old mid) e p) q) h w

-- a status is that of a failed write, or not
is_unwritten : (end : Status) → (end ≡ status.WriteFault) ⊎ (end ≡ status.WriteFault → ⊥)
is_unwritten status.WriteFault = inl refl
is_unwritten status.Done = inr (λ e. cc e)
is_unwritten status.Usage = inr (λ e. cc e)
is_unwritten (status.Syntax kind) = inr (λ e. cc e)
is_unwritten (status.Analysis kind) = inr (λ e. cc e)
is_unwritten (status.BadTable kind) = inr (λ e. cc e)
is_unwritten status.Settings = inr (λ e. cc e)
is_unwritten status.Events = inr (λ e. cc e)
is_unwritten status.ReadFault = inr (λ e. cc e)
is_unwritten status.Missing = inr (λ e. cc e)
is_unwritten (status.Limit kind) = inr (λ e. cc e)
is_unwritten status.Aborted = inr (λ e. cc e)
is_unwritten status.StageAborted = inr (λ e. cc e)
is_unwritten status.Unfinished = inr (λ e. cc e)
is_unwritten status.Memory = inr (λ e. cc e)
is_unwritten status.NotBuilt = inr (λ e. cc e)

pub stopped_told : (told now : Option Entries) (script left rest : List Stmt) (made : State) (one : Stmt) (end : Status) (old mid new : Left) → KeepsFiles told now → left ≡ one ∷ rest
    → WhereTold told (λ files. IsCarriedTo files script made left old mid) → WhereTold now (λ files. IsRefusedStatement files made one end ⊎ IsWriteExcuse end)
    → (end ≡ status.ReadFault → ReadsTables made one) → ((end ≡ status.WriteFault → ⊥) → WhereTold now (λ files. StopsAt files made one end mid new))
    → (end ≡ status.WriteFault → WhereTold now (λ files. IsHalfWritten files made one mid new))
    → WhereTold told (λ files. ScriptEnds files script old new end)
stopped_told None now script left rest made one end old mid new k e h why reads stops half = tt
stopped_told (Some files) now script left rest made one end old mid new k e h why reads stops half =
    stopped files script rest made one end old mid new (subst (λ l. IsCarriedTo files script made l old mid) e h)
    (told_before (λ f. IsRefusedStatement f made one end ⊎ IsWriteExcuse end) (Some files) now k why) reads
    (λ n. told_before (λ f. StopsAt f made one end mid new) (Some files) now k (stops n))
    (λ w. told_before (λ f. IsHalfWritten f made one mid new) (Some files) now k (half w)) (is_unwritten end)

-- the first of some statements that are carried out so far, and the others
pub first_built : (left rest : List Stmt) (one : Stmt) → left ≡ one ∷ rest → IsTrue (is_script_built left) → IsTrue (is_statement_built one)
first_built left rest one e h = by (is_statement_built one) refl (subst (λ l. IsTrue (is_script_built l)) e h)
  where
    by : (b : Bool) → is_statement_built one ≡ b → IsTrue (is_statement_built one && is_script_built rest) → IsTrue (is_statement_built one)
    by true f h = f
    by false f h = absurd (let no : false ≡ true = sym (ap (λ b. b && is_script_built rest) f) ∙ h in cc no)

pub rest_built : (left rest : List Stmt) (one : Stmt) → left ≡ one ∷ rest → IsTrue (is_script_built left) → IsTrue (is_script_built rest)
rest_built left rest one e h = by (is_statement_built one) refl (subst (λ l. IsTrue (is_script_built l)) e h)
  where
    by : (b : Bool) → is_statement_built one ≡ b → IsTrue (is_statement_built one && is_script_built rest) → IsTrue (is_script_built rest)
    by true f h = sym (ap (λ b. b && is_script_built rest) f) ∙ h
    by false f h = absurd (let no : false ≡ true = sym (ap (λ b. b && is_script_built rest) f) ∙ h in cc no)

-- a script has no more statements than its source has bytes, and one
few_parts : (source : List ℕ) (script : List Stmt) (parts : List (List Token)) → AreStatements source script parts → length script ≤ length parts
few_parts source _ _ finished = omega arith
few_parts source script _ (no_statement {parts = parts} h) = let more = few_parts source script parts h in omega (arith, more)
few_parts source _ _ (a_statement {script = script} {parts = parts} s h) = let more = few_parts source script parts h in omega (arith, more)

few_tokens : (source : List ℕ) (at : ℕ) (tokens : List Token) → All (StandsIn source) tokens → InOrder at tokens → at ≤ length source → at + length tokens ≤ length source
few_tokens source at [] all order within = omega (arith, within)
few_tokens source at (t ∷ ts) all order within =
    let stand : StandsIn source t = All-head (StandsIn source) t ts all in
    let more : t.end + length ts ≤ length source = few_tokens source t.end ts (All-tail (StandsIn source) t ts all) order.1 stand.within in
    omega (arith, more, stand.some, order.0)

pub few_statements : (source : List ℕ) (script : List Stmt) → IsSource source script → length script ≤ length source + 1
few_statements source script h =
    let parts : length script ≤ length (parts_of source h.tokens) = few_parts source script (parts_of source h.tokens) h.taken.reads in
    let cuts : length (parts_of source h.tokens) ≡ count_by (is_semicolon source) h.tokens + 1 = length-slice_split (is_semicolon source) h.tokens in
    let some : count_by (is_semicolon source) h.tokens ≤ length h.tokens = count_by-le-length (is_semicolon source) h.tokens in
    let tokens : 0 + length h.tokens ≤ length source = few_tokens source 0 h.tokens (stands.list_stands source h.tokens h.are) (stands.list_in_order source h.tokens h.are) (omega arith) in
    omega (arith, parts, cuts, some, tokens)

-- a script that was carried out to its end
pub script_done : (told : Option Entries) (script : List Stmt) (old new : Left) → WhereTold told (λ files. (end : State) × IsCarriedTo files script end [] old new)
    → WhereTold told (λ files. ScriptEnds files script old new status.Done)
script_done told script old new h =
    told_one (λ files. (end : State) × IsCarriedTo files script end [] old new) (λ files. ScriptEnds files script old new status.Done) told
    (λ files (end, c). done c.queries end c.runs c.writes refl) h
