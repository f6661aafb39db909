-- How a run ends, by its command and the files of its store.
use Rattle.std.specs.Prelude.{◌≡◌, ◌⊎◌, ℕ, List, [], ◌∷◌, ◌++◌, take, All, Option, IfSome}
use Rattle.std.specs.Io.KnownBytes.{Appends}
use Rattle.aqe_base.specs.declared.status.Status.{Status}
use Rattle.aqe_base.specs.declared.status.Status.TheVariants as status
use Rattle.aqe_store.specs.Files.{Entries}
use Rattle.aqe_store.specs.Told.{Open}
use Rattle.aqe_logical.specs.declared.plan.Logical.{Logical}
use Rattle.aqe_logical.specs.Answers.{AnswerOf}
use Rattle.aqe_logical.specs.Columns.{schema_of}
use Rattle.aqe_trees.specs.declared.query.QueryTree.{QueryTree}
use Rattle.aqe_trees.specs.declared.statement.Stmt.{Stmt}
use Rattle.aqe_trees.specs.declared.statement.Stmt.TheVariants as statement
use Rattle.aqe_rules.specs.Analysis.{Analysed}
use Rattle.aqe_sources.specs.Catalogs.{seen}
use Rattle.aqe_tables.specs.Loaded.{IsLoaded}
use Rattle.aqe_logical.specs.Nodes.{scans}
use Rattle.aqe_estimates.specs.LoadedTables.{tables_of}
use Rattle.aqe_journal.specs.declared.record.Finish.TheVariants as finish
use Rattle.aqe_journal.specs.declared.record.QueryRecord.{QueryRecord}
use Rattle.aqe_journal.specs.Asked.{Asked}
use Rattle.aqe_session.specs.declared.query.Rest.TheVariants as rest
use Rattle.aqe_session.specs.Query.{Answers as IsAnswerOf, asked_of}
use Rattle.aqe_texts.specs.ResultText.{result_text}
use Rattle.aqe_course.specs.Command.{Command}
use Rattle.aqe_course.specs.Course.{State, nothing, Query, IsCarriedOut, IsRefusedStatement, Runs}
use Rattle.aqe_course.specs.Opening.{IsOpened, IsNotOpened}

-- The course: a run is carried out or refused.

-- the run is carried out, and has answered these queries
pub record IsDone (files : Entries) (said : Command) (queries : List Query) : Type 0 where
  pub script : List Stmt
  pub opened : IsOpened files said script
  pub end : State
  pub runs : Runs files nothing script queries end []

-- the run is refused with this status, once it has answered these queries
pub data IsRefused (files : Entries) (said : Command) : List Query → Status → Type 0 where
  at_once : (end : Status) → IsNotOpened files said end → IsRefused files said [] end
  on_the_way : (script rest : List Stmt) (one : Stmt) (queries : List Query) (now : State) (end : Status)
      → IsOpened files said script → Runs files nothing script queries now (one ∷ rest)
      → IsRefusedStatement files now one end → IsRefused files said queries end

-- nothing that the command and the files tell is in the way of the run
abbrev pub IsAccepted : Entries → Command → Type 0
IsAccepted files said = (queries : List Query) (end : Status) → IsRefused files said queries end → ⊥

-- What is left: records in the journal, and texts in the sink.

-- the records of the journal, and what the sink took, where the sink tells that
pub record Left : Type 0 where
  pub journal : List QueryRecord
  pub taken : Option (List ℕ)

abbrev pub left : List QueryRecord → Option (List ℕ) → Left
left journal taken = record { journal = journal; taken = taken }

-- a query as a session is asked it: its estimates are read off its tables, and the rest of its tasks is run
abbrev pub asked : Query → Asked
asked query = asked_of query.plan query.tables query.settings query.events rest.Run

-- The record of a query has the number of the query, which is done. It is legal for the query, each of its versions stands for
-- the query, and its rows are an answer of the query's plan over the tables.
pub record IsRecordOf (query : Query) (note : QueryRecord) : Type 0 where
  pub number : note.query ≡ query.number
  pub finish : note.finish ≡ finish.Done
  pub answers : IsAnswerOf (asked query) note
  pub rows : AnswerOf (tables_of query.tables) query.plan note.rows

-- the text of a query is that of the rows of its record, under the columns of its plan
abbrev pub IsTextOf : Query → QueryRecord → List ℕ → Type 0
IsTextOf query note text = text ≡ result_text (schema_of query.plan) note.rows

-- the records of queries, and their texts, one after the other
pub data Leave : List Query → List QueryRecord → List ℕ → Type 0 where
  none : Leave [] [] []
  more : (query : Query) (queries : List Query) (note : QueryRecord) (notes : List QueryRecord) (text texts : List ℕ)
      → IsRecordOf query note → IsTextOf query note text → Leave queries notes texts
      → Leave (query ∷ queries) (note ∷ notes) (text ++ texts)

-- the journal grew by the records of these queries, and the sink by their texts
pub record Writes (old new : Left) (queries : List Query) : Type 0 where
  pub notes : List QueryRecord
  pub texts : List ℕ
  pub leave : Leave queries notes texts
  pub recorded : new.journal ≡ old.journal ++ notes
  pub written : Appends old.taken new.taken texts

-- the same, and the journal grew by the record of one query more, and the sink by a front of its text
pub record WritesFront (old new : Left) (queries : List Query) (last : Query) : Type 0 where
  pub notes : List QueryRecord
  pub texts : List ℕ
  pub leave : Leave queries notes texts
  pub note : QueryRecord
  pub text : List ℕ
  pub n : ℕ
  pub is : IsRecordOf last note
  pub has : IsTextOf last note text
  pub recorded : new.journal ≡ old.journal ++ (notes ++ note ∷ [])
  pub written : Appends old.taken new.taken (texts ++ take n text)

-- Failures: of the store, of the sink, or for want of memory.

-- the statement is a query, and not all of the tables that its plan scans are loaded
pub record ReadsTables (now : State) (one : Stmt) : Type 0 where
  pub tree : QueryTree
  pub is : one ≡ statement.Query tree
  pub plan : Logical
  pub analysed : Analysed tree (seen now.catalog) plan
  pub some : All (λ n. IsLoaded now.tables n) (scans plan) → ⊥

-- the statement stops the run: memory is wanting, or the store fails while it reads a table
abbrev pub Stops : State → Stmt → Status → Type 0
Stops now one end = (end ≡ status.Memory) ⊎ ((end ≡ status.ReadFault) × ReadsTables now one)

-- the script's file is not had: memory is wanting, or the store fails, and has no other file opened
abbrev pub StopsAtScript : Option Open → Command → Status → Type 0
StopsAtScript opened said end =
    (end ≡ status.Memory) ⊎ ((end ≡ status.ReadFault) × IfSome opened (λ file. file.0 ≡ said.path))

-- the journal has one record more, that of the statement's query
pub record Records (files : Entries) (now : State) (one : Stmt) (old new : List QueryRecord) : Type 0 where
  pub next : State
  pub query : Query
  pub is : IsCarriedOut files now one next (query ∷ [])
  pub note : QueryRecord
  pub has : IsRecordOf query note
  pub grown : new ≡ old ++ note ∷ []

-- A statement that stops the run writes nothing. Where memory is wanting for the text of its query, the record is there already.
pub record StopsAt (files : Entries) (now : State) (one : Stmt) (end : Status) (old new : Left) : Type 0 where
  pub unwritten : new.taken ≡ old.taken
  pub journal : (new.journal ≡ old.journal) ⊎ ((end ≡ status.Memory) × Records files now one old.journal new.journal)

-- How the statements of a script end, while journal and sink grow from `old` to `new`: all are carried out; one is refused, or
-- stops the run, behind the records and texts of those before it, all of them; or the text of one is written in part.
pub data ScriptEnds (files : Entries) (script : List Stmt) (old new : Left) (end : Status) : Type 0 where
  done : (queries : List Query) (now : State) → Runs files nothing script queries now [] → Writes old new queries
      → end ≡ status.Done → ScriptEnds files script old new end
  refused : (queries : List Query) (now : State) (one : Stmt) (rest : List Stmt) → Runs files nothing script queries now (one ∷ rest)
      → IsRefusedStatement files now one end → Writes old new queries → ScriptEnds files script old new end
  stopped : (queries : List Query) (now : State) (one : Stmt) (rest : List Stmt) → Runs files nothing script queries now (one ∷ rest)
      → Stops now one end → (mid : Left) → Writes old mid queries → StopsAt files now one end mid new → ScriptEnds files script old new end
  unwritten : (queries : List Query) (last : Query) (now : State) (left : List Stmt) → Runs files nothing script (queries ++ last ∷ []) now left
      → WritesFront old new queries last → end ≡ status.WriteFault → ScriptEnds files script old new end

-- How a run ends. `opened` is the file that the store has opened at the end.
pub data Ends (files : Entries) (said : Command) (opened : Option Open) (old new : Left) (end : Status) : Type 0 where
  not_opened : IsNotOpened files said end → Writes old new [] → Ends files said opened old new end
  not_had : StopsAtScript opened said end → Writes old new [] → Ends files said opened old new end
  carried_out : (script : List Stmt) → IsOpened files said script → ScriptEnds files script old new end → Ends files said opened old new end

-- What follows of it.

-- the run is carried out, and the records and texts of all its queries are there
abbrev pub Answers : Entries → Command → Left → Left → Type 0
Answers files said old new = (queries : List Query) × IsDone files said queries × Writes old new queries

-- the run is refused with this status, and the records and texts of the queries that it answered before are there
abbrev pub RefusesBehind : Entries → Command → Left → Left → Status → Type 0
RefusesBehind files said old new end = (queries : List Query) × IsRefused files said queries end × Writes old new queries
