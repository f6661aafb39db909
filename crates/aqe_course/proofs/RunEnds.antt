-- A run is carried out, or is refused.
use Rattle.std.proofs.Common.{◌≡◌, ◌⊎◌, inl, inr, ℕ, zero, suc, ◌+◌, ◌<◌, Bool, true, false, List, [], ◌∷◌, ◌++◌, Option, Some, None, Ok, Err, length, refl, sym, ap, subst, ◌&&◌, arith, replicate, set, slice_get, length-append}
use Rattle.std.specs.Prelude.{All, IsSome}
use Rattle.std.specs.List.{list_all}
use Rattle.std.proofs.lemmas.List.Elements.{All-head, All-tail}
use Rattle.aqe_base.specs.declared.status.Status.{Status}
use Rattle.aqe_store.specs.Files.{Entries}
use Rattle.aqe_logical.specs.declared.plan.Logical.{Logical}
use Rattle.aqe_trees.specs.declared.query.QueryTree.{QueryTree}
use Rattle.aqe_trees.specs.declared.statement.Stmt.{Stmt}
use Rattle.aqe_trees.specs.declared.statement.Stmt.TheVariants as statement
use Rattle.aqe_trees.specs.declared.statement.TableForm.{TableForm}
use Rattle.aqe_tables.specs.declared.catalog.CatalogTable.{CatalogTable}
use Rattle.aqe_tables.specs.declared.catalog.CreateFault.{CreateFault}
use Rattle.aqe_tables.specs.declared.fault.LoadFault.{LoadFault}
use Rattle.aqe_tables.specs.declared.loaded.Table.{Table}
use Rattle.aqe_tables.specs.Catalog.{catalog_table, create_fault}
use Rattle.aqe_tables.specs.Loaded.{IsLoaded, Loads, Pads, Slots, all_bytes, table_at}
use Rattle.aqe_tables.proofs.LoadedFacts.{put_loads}
use Rattle.aqe_rules.specs.Outcomes.{Outcome}
use Rattle.aqe_rules.specs.Analysis.{Analysed, walk}
use Rattle.aqe_sources.specs.Catalogs.{seen}
use Rattle.aqe_built.specs.Built.{is_script_built, is_statement_built}
use Rattle.aqe_logical.specs.Nodes.{scans}
use Rattle.aqe_course.specs.Loading.{AreLoaded, IsAdded, IsStopped}
use Rattle.aqe_course.specs.Loading.AreLoaded.{all, again, next}
use Rattle.aqe_course.specs.Loading.IsStopped.{here, again as again_stops, next as next_stops}
use Rattle.aqe_course.specs.Course.{IsCarriedOut, IsRefusedStatement, Query, Runs, State, nothing, of_check, of_create, of_load, query, state}
use Rattle.aqe_course.specs.Course.Runs.{none, more}
use Rattle.aqe_course.specs.Ending.IsRefused.{at_once, on_the_way}
use Rattle.aqe_course.specs.Laws.{EachRunEnds}
use Rattle.aqe_course.proofs.ScanFacts.{scans_within}
use Rattle.aqe_course.proofs.SourceEnds.{Opened, opened}
use Rattle.aqe_course.proofs.Surely.{Surely, sure, onwards}
use Rattle.aqe_course.proofs.TableEnds.{TableEnds, table_ends}

-- Tables are loaded, or one is refused.

abbrev Loading : Entries → List CatalogTable → Slots → List ℕ → Type 0
Loading files catalog before numbers = ((after : Slots) × AreLoaded files catalog before numbers after) ⊎ ((why : LoadFault) × IsStopped files catalog before numbers why)

placed : (before : Slots) (n : ℕ) (table : Table) → (after : Slots) × Loads before after n table
placed before n table =
    let gaps : Slots = replicate (suc n) None in
    let pads : Pads before (before ++ gaps) = (suc n, refl) in
    let long : n < length (before ++ gaps) = omega (arith, length-append before gaps, replicated (suc n)) in
    (set (before ++ gaps) n (Some table), put_loads before (before ++ gaps) n table pads long)
  where
    nothing_there : Option Table
    nothing_there = None

    replicated : (k : ℕ) → length (replicate k nothing_there) ≡ k
    replicated zero = refl
    replicated (suc k) = ap suc (replicated k)

again_loading : (files : Entries) (catalog : List CatalogTable) (before : Slots) (n : ℕ) (numbers : List ℕ) → IsLoaded before n → Loading files catalog before numbers → Loading files catalog before (n ∷ numbers)
again_loading files catalog before n numbers there (inl (after, h)) = inl (after, again before after n numbers there h)
again_loading files catalog before n numbers there (inr (why, h)) = inr (why, again_stops before n numbers why there h)

next_loading : (files : Entries) (catalog : List CatalogTable) (before now : Slots) (n : ℕ) (numbers : List ℕ) → table_at before n ≡ None → IsAdded files catalog before n now → Loading files catalog now numbers → Loading files catalog before (n ∷ numbers)
next_loading files catalog before now n numbers free added (inl (after, h)) = inl (after, next before now after n numbers free added h)
next_loading files catalog before now n numbers free added (inr (why, h)) = inr (why, next_stops before now n numbers why free added h)

created : (catalog : List CatalogTable) (n : ℕ) → n < length catalog → (form : CatalogTable) × (slice_get catalog n ≡ Some form)
created [] n h = absurd (omega (arith, h))
created (form ∷ catalog) zero h = (form, refl)
created (form ∷ catalog) (suc n) h = created catalog n (omega (arith, h))

loading : (files : Entries) (catalog : List CatalogTable) (numbers : List ℕ) → All (λ n. n < length catalog) numbers → (before : Slots) → Surely (Loading files catalog before numbers)
loading files catalog [] within before = sure (inl (before, all before))
loading files catalog (n ∷ numbers) within before =
    by (table_at before n) refl (loading files catalog numbers (All-tail (λ n. n < length catalog) n numbers within))
  where
    one : (form : CatalogTable) × (slice_get catalog n ≡ Some form)
    one = created catalog n (All-head (λ n. n < length catalog) n numbers within)

    ends : table_at before n ≡ None → ((now : Slots) → Surely (Loading files catalog now numbers)) → TableEnds files one.0 (all_bytes before) → Surely (Loading files catalog before (n ∷ numbers))
    ends free later (inl (table, is)) =
        let put = placed before n table in
        onwards (later put.0) (λ rest. sure (next_loading files catalog before put.0 n numbers free (record { form = one.0; created = one.1; table = table; is = is; put = put.1 }) rest))
    ends free later (inr (why, told, cause)) = sure (inr (why, here before n numbers why free (record { form = one.0; created = one.1; told = told; cause = cause })))

    by : (o : Option Table) → table_at before n ≡ o → ((now : Slots) → Surely (Loading files catalog now numbers)) → Surely (Loading files catalog before (n ∷ numbers))
    by None e later = onwards (table_ends files one.0 (all_bytes before)) (ends e later)
    by (Some table) e later = onwards (later before) (λ rest. sure (again_loading files catalog before n numbers (subst IsSome (sym e) refl) rest))

-- A statement is carried out, or is refused.

abbrev Carrying : Entries → State → Stmt → Type 0
Carrying files now one = ((next : State) × (answered : List Query) × IsCarriedOut files now one next answered) ⊎ ((end : Status) × IsRefusedStatement files now one end)

creating : (files : Entries) (now : State) (form : TableForm) → Carrying files now (statement.CreateTable form)
creating files now form = by (create_fault now.catalog form) refl
  where
    by : (o : Option CreateFault) → create_fault now.catalog form ≡ o → Carrying files now (statement.CreateTable form)
    by None e = inl (state (now.catalog ++ catalog_table form ∷ []) now.tables now.settings now.answered, [], (e, refl, refl))
    by (Some why) e = inr (of_create why, (why, e, refl))

answering : (files : Entries) (now : State) (tree : QueryTree) → Surely (Carrying files now (statement.Query tree))
answering files now tree = by (walk tree (seen now.catalog)) refl
  where
    loaded : (plan : Logical) → Analysed tree (seen now.catalog) plan → Loading files now.catalog now.tables (scans plan) → Carrying files now (statement.Query tree)
    loaded plan e (inl (after, h)) = inl (state now.catalog after now.settings (now.answered + 1), query now.answered plan after now.settings ∷ [], record { plan = plan; analysed = e; loaded = h; kept = refl; in_force = refl; counted = refl; is = refl })
    loaded plan e (inr (why, h)) = inr (of_load why, inr (record { plan = plan; analysed = e; why = why; stopped = h; is = refl }))

    by : (o : Outcome Logical) → walk tree (seen now.catalog) ≡ o → Surely (Carrying files now (statement.Query tree))
    by (Ok plan) e = onwards (loading files now.catalog (scans plan) (scans_within tree now.catalog plan e) now.tables) (λ h. sure (loaded plan e h))
    by (Err check) e = sure (inr (of_check check, inl (check, e, refl)))

carrying : (files : Entries) (now : State) (one : Stmt) → is_statement_built one ≡ true → Surely (Carrying files now one)
carrying files now (statement.CreateTable form) built = sure (creating files now form)
carrying files now (statement.Set form) built = absurd (let no : false ≡ true = built in cc no)
carrying files now (statement.Query tree) built = answering files now tree

-- The statements of a script are carried out, or one is refused.

abbrev Running : Entries → State → List Stmt → Type 0
Running files now script = ((queries : List Query) × (end : State) × Runs files now script queries end [])
    ⊎ ((queries : List Query) × (there : State) × (one : Stmt) × (rest : List Stmt) × (end : Status) × Runs files now script queries there (one ∷ rest) × IsRefusedStatement files there one end)

running_on : (files : Entries) (now after : State) (one : Stmt) (rest : List Stmt) (answered : List Query) → IsCarriedOut files now one after answered → Running files after rest → Running files now (one ∷ rest)
running_on files now after one rest answered h (inl (queries, end, runs)) = inl (answered ++ queries, end, more now after end one rest [] answered queries h runs)
running_on files now after one rest answered h (inr (queries, there, stuck, left, end, runs, refused)) =
    inr (answered ++ queries, there, stuck, left, end, more now after there one rest (stuck ∷ left) answered queries h runs, refused)

first_built : (a b : Bool) → (a && b) ≡ true → a ≡ true
first_built true b h = refl
first_built false b h = h

rest_built : (a b : Bool) → (a && b) ≡ true → b ≡ true
rest_built true b h = h
rest_built false b h = cc h

running : (files : Entries) (script : List Stmt) → is_script_built script ≡ true → (now : State) → Surely (Running files now script)
running files [] built now = sure (inl ([], now, none now []))
running files (one ∷ rest) built now =
    onwards (carrying files now one (first_built (is_statement_built one) (list_all is_statement_built rest) built))
    (by (running files rest (rest_built (is_statement_built one) (list_all is_statement_built rest) built)))
  where
    by : ((after : State) → Surely (Running files after rest)) → Carrying files now one → Surely (Running files now (one ∷ rest))
    by later (inl (after, answered, h)) = onwards (later after) (λ r. sure (running_on files now after one rest answered h r))
    by later (inr (end, h)) = sure (inr ([], now, one, rest, end, none now (one ∷ rest), h))

-- A run is done, or refused.

pub each_run_ends : EachRunEnds
each_run_ends files said undone accepted = opened files said by
  where
    ran : (script : List Stmt) → Rattle.aqe_course.specs.Opening.IsOpened files said script → Running files nothing script → ⊥
    ran script o (inl (queries, end, runs)) = undone queries (record { script = script; opened = o; end = end; runs = runs })
    ran script o (inr (queries, there, one, rest, end, runs, refused)) = accepted queries end (on_the_way script rest one queries there end o runs refused)

    by : Opened files said → ⊥
    by (inl (script, o)) = running files script o.is.built nothing (ran script o)
    by (inr (end, h)) = accepted [] end (at_once end h)
