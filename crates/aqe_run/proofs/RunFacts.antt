-- The steps of a run put together, over the files that its store tells.
use Rattle.std.proofs.Common.{◌≡◌, ◌⊎◌, inl, inr, ℕ, ◌+◌, ◌≤◌, ◌<◌, List, [], ◌∷◌, ◌++◌, length, length-append, Option, Some, None, Result, Ok, Err, refl, sym, ap, subst, arith, ◌∙◌}
use Rattle.std.specs.Prelude.{All, IfOk, IfErr, IfSome, OnOk, flat_map}
use Rattle.std.proofs.lemmas.List.{append-nil, append_assoc}
use Rattle.std.proofs.lemmas.Grind.{flat_map-append}
use Rattle.aqe_base.specs.declared.stage_id.StageId.{StageId}
use Rattle.aqe_base.specs.declared.ids.TaskId.{TaskId}
use Rattle.std.specs.Io.KnownBytes.{Appends}
use Rattle.std.proofs.lemmas.Result.{IfErr-at_err}
use Rattle.aqe_base.specs.declared.status.Status.{Status}
use Rattle.aqe_base.specs.declared.status.Status.TheVariants as status
use Rattle.aqe_values.specs.Bounds.{text_limit}
use Rattle.aqe_store.specs.Files.{Entries, content_of}
use Rattle.aqe_store.specs.Told.{Open, WhereTold}
use Rattle.aqe_store.specs.Sink.{AppendsFront}
use Rattle.aqe_logical.specs.declared.plan.Logical.{Logical}
use Rattle.aqe_trees.specs.declared.query.QueryTree.{QueryTree}
use Rattle.aqe_trees.specs.declared.statement.Stmt.{Stmt}
use Rattle.aqe_trees.specs.declared.statement.Stmt.TheVariants as statement
use Rattle.aqe_trees.specs.declared.statement.TableForm.{TableForm}
use Rattle.aqe_tables.specs.declared.catalog.CatalogTable.{CatalogTable}
use Rattle.aqe_rules.specs.Analysis.{Analysed}
use Rattle.aqe_laws.proofs.QueryTrees.{well_formed}
use Rattle.aqe_sources.specs.Catalogs.{seen}
use Rattle.aqe_logical.specs.Nodes.{scans}
use Rattle.aqe_logical.specs.WellFormed.{WellFormed}
use Rattle.aqe_laws.specs.Scans.{ScansHaveTheirColumns}
use Rattle.aqe_laws.proofs.Scans.{of_the_catalog}
use Rattle.aqe_planner.specs.Built.{IsBuilt}
use Rattle.aqe_planned.proofs.Planned.{planned}
use Rattle.aqe_tables.specs.Loaded.{Slots}
use Rattle.aqe_journal.specs.declared.record.QueryRecord.{QueryRecord}
use Rattle.aqe_answer.specs.Answer.{HasRun, IsPrinted, runs_of}
use Rattle.aqe_course.specs.Command.{command}
use Rattle.aqe_course.specs.Course.{State, Query, query, state, IsCreated, IsCarriedOut, IsNotAnalysed, IsRefusedStatement}
use Rattle.aqe_course.specs.Loading.{AreLoaded}
use Rattle.aqe_course.specs.Opening.{IsSource, IsRefusedSource, IsOpened, IsNotOpened}
use Rattle.aqe_course.specs.Opening.Needed.{there, missing, too_long}
use Rattle.aqe_course.specs.Opening.IsNotOpened.{no_file, refused}
use Rattle.aqe_course.specs.Ending.{Left, ReadsTables, StopsAt, StopsAtScript}
use Rattle.aqe_run.specs.Steps.{AreMissing, AreRefused, IsBehind, IsExcuse, IsNotRead, IsQueried, IsUnanswered, IsWritten, IsHalfWritten}
use Rattle.aqe_run.proofs.Told.{told_all, told_one}
use Rattle.aqe_run.proofs.Writing.{writes_none, writes_one}
use Rattle.aqe_course.proofs.ScanFacts.{scans_within}
use Rattle.aqe_run.proofs.ScriptFacts.{few_statements}

-- a script's file that was not read
not_read : (files : Entries) (path : List ℕ) (opened : Option Open) (end : Status) → (end ≡ status.ReadFault → IfSome opened (λ file. file.0 ≡ path))
    → IsNotRead files path end ⊎ IsExcuse end → IsNotOpened files (command path) end ⊎ StopsAtScript opened (command path) end
not_read files path opened end at (inl (inl (n, e))) = inl (no_file (missing n (ap Err e)))
not_read files path opened end at (inl (inr (l, e))) = inl (no_file (too_long l (ap Err e)))
not_read files path opened end at (inr (inl e)) = inr (inl e)
not_read files path opened end at (inr (inr e)) = inr (inr (e, at e))

pub source_not_read : (told : Option Entries) (path : List ℕ) (opened : Option Open) (end : Status) → (end ≡ status.ReadFault → IfSome opened (λ file. file.0 ≡ path))
    → WhereTold told (λ files. IsNotRead files path end ⊎ IsExcuse end) → WhereTold told (λ files. IsNotOpened files (command path) end ⊎ StopsAtScript opened (command path) end)
source_not_read told path opened end at h =
    told_one (λ files. IsNotRead files path end ⊎ IsExcuse end) (λ files. IsNotOpened files (command path) end ⊎ StopsAtScript opened (command path) end) told
    (λ files p. not_read files path opened end at p) h

-- a script's file that was read
pub script_opened : (told : Option Entries) (path source : List ℕ) (r : Result (List Stmt) Status)
    → WhereTold told (λ files. content_of files path ≡ Some source) → length source ≤ text_limit → IfOk r (λ s. IsSource source s)
    → IfOk r (λ s. WhereTold told (λ files. IsOpened files (command path) s))
script_opened told path source (Ok s) held fits h =
    told_one (λ files. content_of files path ≡ Some source) (λ files. IsOpened files (command path) s) told
    (λ files e. record { source = source; has = there source e fits refl; is = h }) held
script_opened told path source (Err e) held fits h = tt

pub few_opened : (source : List ℕ) (r : Result (List Stmt) Status) → length source ≤ text_limit → IfOk r (λ s. IsSource source s) → IfOk r (λ s. length s ≤ 67108865)
few_opened source (Ok s) fits h = let few = few_statements source s h in omega (arith, few, fits)
few_opened source (Err e) fits h = tt

source_refuses : (files : Entries) (path source : List ℕ) (opened : Option Open) (end : Status) → length source ≤ text_limit
    → IsRefusedSource source end ⊎ (end ≡ status.Memory) → content_of files path ≡ Some source → IsNotOpened files (command path) end ⊎ StopsAtScript opened (command path) end
source_refuses files path source opened end fits (inl r) e = inl (refused source (there source e fits refl) r)
source_refuses files path source opened end fits (inr m) e = inr (inl m)

pub source_refused : (told : Option Entries) (path source : List ℕ) (opened : Option Open) (r : Result (List Stmt) Status)
    → WhereTold told (λ files. content_of files path ≡ Some source) → length source ≤ text_limit → IfErr r (λ end. IsRefusedSource source end ⊎ (end ≡ status.Memory))
    → IfErr r (λ end. WhereTold told (λ files. IsNotOpened files (command path) end ⊎ StopsAtScript opened (command path) end))
source_refused told path source opened (Ok s) held fits h = tt
source_refused told path source opened (Err end) held fits h =
    told_one (λ files. content_of files path ≡ Some source) (λ files. IsNotOpened files (command path) end ⊎ StopsAtScript opened (command path) end) told
    (λ files e. source_refuses files path source opened end fits h e) held

-- the store may have a file open: its path
pub path_open : (opened : Option Open) (path : List ℕ) (most : ℕ) → IfSome opened (λ file. (file.0 ≡ path) × (file.1 ≤ most)) → IfSome opened (λ file. file.0 ≡ path)
path_open None path most h = tt
path_open (Some file) path most h = h.0

-- what the analysis says of a plan
pub plan_built : (tree : QueryTree) (catalog : List CatalogTable) (plan : Logical) → Analysed tree (seen catalog) plan → IsBuilt plan
plan_built tree catalog plan h = planned tree (seen catalog) plan h

pub plan_formed : (tree : QueryTree) (catalog : List CatalogTable) (plan : Logical) → Analysed tree (seen catalog) plan → WellFormed plan
plan_formed tree catalog plan h = well_formed tree (seen catalog) plan h

pub plan_columns : (tree : QueryTree) (catalog : List CatalogTable) (plan : Logical) → Analysed tree (seen catalog) plan → ScansHaveTheirColumns (seen catalog) plan
plan_columns tree catalog plan h = of_the_catalog tree (seen catalog) plan h

pub plan_within : (tree : QueryTree) (catalog : List CatalogTable) (plan : Logical) → Analysed tree (seen catalog) plan → All (λ n. n < length catalog) (scans plan)
plan_within tree catalog plan h = scans_within tree catalog plan h

-- a query that is analysed, and whose tables are loaded
pub queried : (told : Option Entries) (now next : State) (tree : QueryTree) (plan : Logical) (old new : List QueryRecord) (r : Result (List ℕ) Status) → Analysed tree (seen now.catalog) plan
    → IfOk r (λ text. WhereTold told (λ files. AreLoaded files now.catalog now.tables (scans plan) next.tables)) → IfOk r (IsPrinted (query now.answered plan next.tables now.settings) old new)
    → next.catalog ≡ now.catalog → next.settings ≡ now.settings → IfOk r (λ text. next.answered ≡ now.answered + 1) → IfOk r (λ text. WhereTold told (λ files. IsQueried files now tree next old new text))
queried told now next tree plan old new (Ok text) a l t k s n =
    told_one (λ files. AreLoaded files now.catalog now.tables (scans plan) next.tables) (λ files. IsQueried files now tree next old new text) told
    (λ files p. record { query = query now.answered plan next.tables now.settings; is = record { plan = plan; analysed = a; loaded = p; kept = k; in_force = s; counted = n; is = refl }; printed = t }) l
queried told now next tree plan old new (Err end) a l t k s n = tt

-- a query that was not answered
pub unanswered : (told : Option Entries) (now : State) (tree : QueryTree) (plan : Logical) (after : Slots) (old new : List QueryRecord) (r : Result (List ℕ) Status) → Analysed tree (seen now.catalog) plan
    → IfErr r (IsBehind told now plan after old new) → IfErr r (λ end. WhereTold told (λ files. IsUnanswered files now tree end old new))
unanswered told now tree plan after old new (Ok text) a h = tt
unanswered told now tree plan after old new (Err end) a (inl same) = told_all (λ files. IsUnanswered files now tree end old new) told (λ files. inl same)
unanswered told now tree plan after old new (Err end) a (inr (memory, loaded, recorded)) =
    told_one (λ files. AreLoaded files now.catalog now.tables (scans plan) after) (λ files. IsUnanswered files now tree end old new) told
    (λ files p. inr (record {
      memory = memory;
      next = state now.catalog after now.settings (now.answered + 1);
      query = query now.answered plan after now.settings;
      is = record { plan = plan; analysed = a; loaded = p; kept = refl; in_force = refl; counted = refl; is = refl };
      recorded = recorded;
    })) loaded

pub unanswered_same : (told : Option Entries) (now : State) (tree : QueryTree) (end : Status) (old : List QueryRecord) → WhereTold told (λ files. IsUnanswered files now tree end old old)
unanswered_same told now tree end old = told_all (λ files. IsUnanswered files now tree end old old) told (λ files. inl refl)

-- a query that reads tables
pub reads_query : (now : State) (tree : QueryTree) (plan : Logical) → Analysed tree (seen now.catalog) plan → AreMissing now.tables (scans plan) → ReadsTables now (statement.Query tree)
reads_query now tree plan a m = record { tree = tree; is = refl; plan = plan; analysed = a; some = m }

not_loads : (files : Entries) (now : State) (tree : QueryTree) (plan : Logical) (end : Status) → Analysed tree (seen now.catalog) plan
    → AreRefused files now.catalog now.tables (scans plan) end ⊎ IsExcuse end → IsRefusedStatement files now (statement.Query tree) end ⊎ IsExcuse end
not_loads files now tree plan end a (inl (why, s, e)) = inl (inr (record { plan = plan; analysed = a; why = why; stopped = s; is = e }))
not_loads files now tree plan end a (inr x) = inr x

pub not_queried : (told : Option Entries) (now : State) (tree : QueryTree) (plan : Logical) (r : Result (List ℕ) Status) → Analysed tree (seen now.catalog) plan
    → IfErr r (λ end. WhereTold told (λ files. AreRefused files now.catalog now.tables (scans plan) end ⊎ IsExcuse end))
    → IfErr r (λ end. WhereTold told (λ files. IsRefusedStatement files now (statement.Query tree) end ⊎ IsExcuse end))
not_queried told now tree plan (Ok text) a h = tt
not_queried told now tree plan (Err end) a h =
    told_one (λ files. AreRefused files now.catalog now.tables (scans plan) end ⊎ IsExcuse end) (λ files. IsRefusedStatement files now (statement.Query tree) end ⊎ IsExcuse end) told
    (λ files p. not_loads files now tree plan end a p) h

not_planned : (files : Entries) (now : State) (tree : QueryTree) (end : Status) → IsNotAnalysed now tree end ⊎ (end ≡ status.Memory) → IsRefusedStatement files now (statement.Query tree) end ⊎ IsExcuse end
not_planned files now tree end (inl h) = inl (inl h)
not_planned files now tree end (inr e) = inr (inl e)

pub not_analysed : (told : Option Entries) (now : State) (tree : QueryTree) (end : Status) → IsNotAnalysed now tree end ⊎ (end ≡ status.Memory)
    → WhereTold told (λ files. IsRefusedStatement files now (statement.Query tree) end ⊎ IsExcuse end)
not_analysed None now tree end h = tt
not_analysed (Some files) now tree end h = not_planned files now tree end h

-- a query whose text is written, and one whose text is written in part
pub query_written : (told : Option Entries) (now next : State) (tree : QueryTree) (text : List ℕ) (a b : Left) → WhereTold told (λ files. IsQueried files now tree next a.journal b.journal text) → Appends a.taken b.taken text
    → WhereTold told (λ files. IsWritten files now (statement.Query tree) next a b)
query_written told now next tree text a b h s =
    told_one (λ files. IsQueried files now tree next a.journal b.journal text) (λ files. IsWritten files now (statement.Query tree) next a b) told
    (λ files q. record { answered = q.query ∷ []; is = q.is; writes = writes_one a b q.query text q.printed s }) h

pub query_half : (told : Option Entries) (now next : State) (tree : QueryTree) (text : List ℕ) (a b : Left) → WhereTold told (λ files. IsQueried files now tree next a.journal b.journal text) → AppendsFront a.taken b.taken text
    → WhereTold told (λ files. IsHalfWritten files now (statement.Query tree) a b)
query_half told now next tree text a b h s =
    told_one (λ files. IsQueried files now tree next a.journal b.journal text) (λ files. IsHalfWritten files now (statement.Query tree) a b) told
    (λ files q. record { next = next; query = q.query; is = q.is; text = text; printed = q.printed; front = s }) h

-- a query that stops the run
stops_query : (files : Entries) (now : State) (tree : QueryTree) (end : Status) (a b : Left) → b.taken ≡ a.taken → IsUnanswered files now tree end a.journal b.journal → StopsAt files now (statement.Query tree) end a b
stops_query files now tree end a b same (inl stays) = record { unwritten = same; journal = inl stays }
stops_query files now tree end a b same (inr r) = record {
  unwritten = same;
  journal = inr (r.memory, record { next = r.next; query = r.query; is = r.is; note = r.recorded.note; has = r.recorded.is; grown = r.recorded.grown });
}

pub query_stops : (told : Option Entries) (now : State) (tree : QueryTree) (end : Status) (a b : Left) → b.taken ≡ a.taken → WhereTold told (λ files. IsUnanswered files now tree end a.journal b.journal)
    → WhereTold told (λ files. StopsAt files now (statement.Query tree) end a b)
query_stops told now tree end a b same h =
    told_one (λ files. IsUnanswered files now tree end a.journal b.journal) (λ files. StopsAt files now (statement.Query tree) end a b) told (λ files u. stops_query files now tree end a b same u) h

pub create_stops : (told : Option Entries) (now : State) (one : Stmt) (end : Status) (a : Left) → WhereTold told (λ files. StopsAt files now one end a a)
create_stops told now one end a = told_all (λ files. StopsAt files now one end a a) told (λ files. record { unwritten = refl; journal = inl refl })

pub create_written : (told : Option Entries) (now next : State) (one : Stmt) (form : TableForm) (a : Left) (r : Result (Unit {0}) Status) → one ≡ statement.CreateTable form
    → OnOk r (IsCreated now form next []) → OnOk r (WhereTold told (λ files. IsWritten files now one next a a))
create_written None now next one form a (Ok u) e h = tt
create_written (Some files) now next one form a (Ok u) e h =
    record { answered = []; is = subst (λ o. IsCarriedOut files now o next []) (sym e) h; writes = writes_none a }
create_written told now next one form a (Err end) e h = tt

-- what a runner ran
pub has_run_none : (notes : List QueryRecord) (ran : List (StageId × TaskId)) → HasRun notes notes ran ran
has_run_none notes ran = record { notes = []; grown = sym (append-nil notes); ran = sym (append-nil ran) }

pub has_run_then : (a b c : List QueryRecord) (x y z : List (StageId × TaskId)) → HasRun a b x y → HasRun b c y z → HasRun a c x z
has_run_then a b c x y z h k = record {
  notes = h.notes ++ k.notes;
  grown = k.grown ∙ ap (λ l. l ++ k.notes) h.grown ∙ append_assoc a h.notes k.notes;
  ran = k.ran ∙ ap (λ l. l ++ flat_map runs_of k.notes) h.ran ∙ append_assoc x (flat_map runs_of h.notes) (flat_map runs_of k.notes)
      ∙ ap (λ l. x ++ l) (sym (flat_map-append runs_of h.notes k.notes));
}

-- a query that was counted is in the journal
pub counted_one : (q : Query) (old new : List QueryRecord) (now next : ℕ) (text : List ℕ) → now ≡ length old → next ≡ now + 1 → IsPrinted q old new text → next ≡ length new
counted_one q old new now next text was one p =
    let long = length-append old (p.note ∷ []) in let same : length new ≡ length (old ++ p.note ∷ []) = ap (λ ns. length ns) p.grown in omega (arith, was, one, long, same)

-- an error is the same error in a result of another type
pub err_of : {A B E : Type 0} {x y : E} → ◌≡◌ {A = Result A E} (Err x) (Err y) → ◌≡◌ {A = Result B E} (Err x) (Err y)
err_of {y = y} e = ap Err (IfErr-at_err (λ z. z ≡ y) (sym e) refl)
