-- One statement more, and how a script ends early.
use Rattle.std.proofs.Common.{◌≡◌, ◌⊎◌, inl, inr, IsTrue, List, [], ◌∷◌, ◌++◌, sym, subst}
use Rattle.std.proofs.lemmas.List.{append-nil, append_assoc}
use Rattle.aqe_base.specs.declared.status.Status.{Status}
use Rattle.aqe_base.specs.declared.status.Status.TheVariants as status
use Rattle.aqe_store.specs.Files.{Entries}
use Rattle.aqe_trees.specs.declared.statement.Stmt.{Stmt}
use Rattle.aqe_course.specs.Course.{State, nothing, Query, IsCarriedOut, IsRefusedStatement, Runs}
use Rattle.aqe_course.specs.Course.Runs.{none, more}
use Rattle.aqe_course.specs.Ending.{Left, ReadsTables, Records, ScriptEnds, StopsAt}
use Rattle.aqe_course.specs.Ending.ScriptEnds.{refused, stopped as stopped_early, unwritten}
use Rattle.aqe_course.specs.Statuses.{is_refusal}
use Rattle.aqe_course.proofs.Telling.{statement_refuses}
use Rattle.aqe_run.specs.Steps.{IsWriteExcuse, IsWritten, IsHalfWritten, IsCarriedTo}
use Rattle.aqe_run.proofs.Writing.{writes_none, writes_then, front_then}

-- a statement behind those that were carried out
runs_more : (files : Entries) (from now next : State) (all rest : List Stmt) (one : Stmt) (qs answered : List Query) → Runs files from all qs now (one ∷ rest)
    → IsCarriedOut files now one next answered → Runs files from all (qs ++ answered) next rest
runs_more files _ _ next _ rest one _ answered (none now _) s =
    subst (λ a. Runs files now (one ∷ rest) a next rest) (append-nil answered) (more now next next one rest rest answered [] s (none next rest))
runs_more files _ now next _ rest one _ answered (more from mid _ first others _ here later c h) s =
    subst (λ a. Runs files from (first ∷ others) a next rest) (sym (append_assoc here later answered))
    (more from mid next first others rest here (later ++ answered) c (runs_more files mid now next others rest one later answered h s))

pub begun : (files : Entries) (script : List Stmt) (old : Left) → IsCarriedTo files script nothing script old old
begun files script old = record { queries = []; runs = none nothing script; writes = writes_none old }

pub carried_on : (files : Entries) (script rest : List Stmt) (now next : State) (one : Stmt) (old mid new : Left) → IsCarriedTo files script now (one ∷ rest) old mid
    → IsWritten files now one next mid new → IsCarriedTo files script next rest old new
carried_on files script rest now next one old mid new h w = record {
  queries = h.queries ++ w.answered;
  runs = runs_more files nothing now next script rest one h.queries w.answered h.runs w.is;
  writes = writes_then old mid new h.queries w.answered h.writes w.writes;
}

half_written : (files : Entries) (script rest : List Stmt) (now : State) (one : Stmt) (end : Status) (old mid new : Left) → IsCarriedTo files script now (one ∷ rest) old mid
    → IsHalfWritten files now one mid new → end ≡ status.WriteFault → ScriptEnds files script old new end
half_written files script rest now one end old mid new h w e =
    unwritten h.queries w.query w.next rest (runs_more files nothing now w.next script rest one h.queries (w.query ∷ []) h.runs w.is)
    (front_then old mid new h.queries w.query w.text h.writes w.printed w.front) e

-- a refusal leaves all as it was
refused_as_was : (files : Entries) (now : State) (one : Stmt) (end : Status) (mid new : Left) → IsRefusedStatement files now one end → StopsAt files now one end mid new → new ≡ mid
refused_as_was files now one end mid new r s = by s.journal
  where
    by : (new.journal ≡ mid.journal) ⊎ ((end ≡ status.Memory) × Records files now one mid.journal new.journal) → new ≡ mid
    by (inl same) = λ i. record { journal = same i; taken = s.unwritten i }
    by (inr (e, noted)) = absurd (let no : IsTrue (is_refusal status.Memory) = subst (λ x. IsTrue (is_refusal x)) e (statement_refuses files now one end r) in cc no)

-- A statement that is not carried out ends the script.
pub stopped : (files : Entries) (script rest : List Stmt) (now : State) (one : Stmt) (end : Status) (old mid new : Left) → IsCarriedTo files script now (one ∷ rest) old mid
    → IsRefusedStatement files now one end ⊎ IsWriteExcuse end → (end ≡ status.ReadFault → ReadsTables now one) → ((end ≡ status.WriteFault → ⊥) → StopsAt files now one end mid new)
    → (end ≡ status.WriteFault → IsHalfWritten files now one mid new) → ((end ≡ status.WriteFault) ⊎ (end ≡ status.WriteFault → ⊥)) → ScriptEnds files script old new end
stopped files script rest now one end old mid new h why reads stops half (inl w) = half_written files script rest now one end old mid new h (half w) w
stopped files script rest now one end old mid new h (inl r) reads stops half (inr n) =
    let so : IsCarriedTo files script now (one ∷ rest) old new = subst (IsCarriedTo files script now (one ∷ rest) old) (sym (refused_as_was files now one end mid new r (stops n))) h in
    refused so.queries now one rest so.runs r so.writes
stopped files script rest now one end old mid new h (inr (inl (inl e))) reads stops half (inr n) = stopped_early h.queries now one rest h.runs (inl e) mid h.writes (stops n)
stopped files script rest now one end old mid new h (inr (inl (inr e))) reads stops half (inr n) = stopped_early h.queries now one rest h.runs (inr (e, reads e)) mid h.writes (stops n)
stopped files script rest now one end old mid new h (inr (inr w)) reads stops half (inr n) = absurd (n w)
