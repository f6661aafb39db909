-- A run has one course.
use Rattle.std.proofs.Common.{Result, ◌++◌, ◌+◌, ◌≡◌, inl, inr, ℕ, true, false, List, [], ◌∷◌, Option, Some, None, Ok, Err, refl, sym, ap, subst, ◌∙◌, arith, ◌<◌, ◌≤◌}
use Rattle.std.specs.Prelude.{IsFalse, IsSome, IsSomeAnd, length}
use Rattle.aqe_base.specs.declared.status.Status.{Status}
use Rattle.aqe_values.specs.Bounds.{text_limit}
use Rattle.aqe_store.specs.Files.{Entries, IsHeld, content_of}
use Rattle.aqe_store.specs.Reading.{IsLonger}
use Rattle.aqe_lexer.specs.declared.token.Token.{Token}
use Rattle.aqe_lexer.proofs.Once.{one_list, no_list, one_fault}
use Rattle.aqe_logical.specs.declared.plan.Logical.{Logical}
use Rattle.aqe_trees.specs.declared.query.QueryTree.{QueryTree}
use Rattle.aqe_trees.specs.declared.statement.Stmt.{Stmt}
use Rattle.aqe_trees.specs.declared.statement.Stmt.TheVariants as statement
use Rattle.aqe_script.specs.Statements.{IsScript}
use Rattle.aqe_script.proofs.Once.{one_script}
use Rattle.aqe_syntax.specs.Causes.{IsTaken, IsTooDeep, IsTooNested}
use Rattle.aqe_tables.specs.declared.catalog.CatalogTable.{CatalogTable}
use Rattle.aqe_tables.specs.declared.catalog.CreateFault.{CreateFault}
use Rattle.aqe_tables.specs.declared.fault.LoadFault.{LoadFault}
use Rattle.aqe_tables.specs.Loaded.{Slots}
use Rattle.aqe_rules.specs.Outcomes.{Check}
use Rattle.aqe_rules.specs.Analysis.{Analysed, walk}
use Rattle.aqe_sources.specs.Catalogs.{seen}
use Rattle.aqe_built.specs.Built.{is_script_built}
use Rattle.aqe_logical.specs.Nodes.{scans}
use Rattle.aqe_course.specs.Command.{Command}
use Rattle.aqe_course.specs.Loading.{AreLoaded, IsStopped}
use Rattle.aqe_course.specs.Course.{State, nothing, Query, IsCarriedOut, IsRefusedStatement, Runs, of_create, of_check, of_load}
use Rattle.aqe_course.specs.Course.Runs.{none, more}
use Rattle.aqe_course.specs.Opening.{IsSource, IsRefusedSource, Needed, IsOpened, IsNotOpened, of_lex}
use Rattle.aqe_course.specs.Opening.IsRefusedSource.{no_tokens, no_sentence, too_deep, not_built}
use Rattle.aqe_course.specs.Opening.Needed.{there, missing, too_long}
use Rattle.aqe_course.specs.Opening.IsNotOpened.{no_file, refused}
use Rattle.aqe_course.specs.Ending.{IsDone, IsRefused}
use Rattle.aqe_course.specs.Ending.IsRefused.{at_once, on_the_way}
use Rattle.aqe_course.specs.Laws.{AreAllAlike, OneRefusal}
use Rattle.aqe_course.proofs.OneLoading.{Alike, alike_back, loaded_alike, stopped_not_loaded, stopped_once}

-- two runs stand alike
abbrev Same : State → State → Type 0
Same a b = (a.catalog ≡ b.catalog) × Alike a.tables b.tables × (a.answered ≡ b.answered) × (a.settings ≡ b.settings)

same_back : (a b : State) → Same a b → Same b a
same_back a b h = (sym h.0, alike_back a.tables b.tables h.1, sym h.2, sym h.3)

plan_once : (tree : QueryTree) (c d : List CatalogTable) (p q : Logical) → c ≡ d → Analysed tree (seen c) p → Analysed tree (seen d) q → p ≡ q
plan_once tree c d p q e h k = let both : Ok p ≡ Ok q = sym h ∙ ap (λ x. walk tree (seen x)) e ∙ k in cc both

no_plan : (tree : QueryTree) (c d : List CatalogTable) (p : Logical) (check : Check) → c ≡ d → Analysed tree (seen c) p → walk tree (seen d) ≡ Err check → ⊥
no_plan tree c d p check e h k = let both : Ok p ≡ Err check = sym h ∙ ap (λ x. walk tree (seen x)) e ∙ k in cc both

-- the loads of the first run, as those of the catalog of the second
loads_there : (files : Entries) (c d : List CatalogTable) (s t : Slots) (p q : Logical) → c ≡ d → p ≡ q → AreLoaded files c s (scans p) t → AreLoaded files d s (scans q) t
loads_there files c d s t p q e f h = subst (λ x. AreLoaded files d s (scans x) t) f (subst (λ x. AreLoaded files x s (scans p) t) e h)

stops_there : (files : Entries) (c d : List CatalogTable) (s : Slots) (p q : Logical) (why : LoadFault) → c ≡ d → p ≡ q → IsStopped files c s (scans p) why → IsStopped files d s (scans q) why
stops_there files c d s p q why e f h = subst (λ x. IsStopped files d s (scans x) why) f (subst (λ x. IsStopped files x s (scans p) why) e h)

carried_same : (files : Entries) (a b a' b' : State) (one : Stmt) (qs rs : List Query) → Same a b → IsCarriedOut files a one a' qs → IsCarriedOut files b one b' rs → Same a' b'
carried_same files a b a' b' (statement.CreateTable form) qs rs h (x, e, y) (z, f, w) = rw (e, f, h.0) (refl, h.1, h.2, h.3)
carried_same files a b a' b' (statement.Set form) qs rs h x y = absurd x
carried_same files a b a' b' (statement.Query tree) qs rs h x y =
    let plan : x.plan ≡ y.plan = plan_once tree a.catalog b.catalog x.plan y.plan h.0 x.analysed y.analysed in (
      x.kept ∙ h.0 ∙ sym y.kept,
      loaded_alike files b.catalog a.tables b.tables a'.tables b'.tables (scans y.plan) h.1
          (loads_there files a.catalog b.catalog a.tables a'.tables x.plan y.plan h.0 plan x.loaded) y.loaded,
      x.counted ∙ ap (λ n. n + 1) h.2 ∙ sym y.counted,
      x.in_force ∙ h.3 ∙ sym y.in_force,
    )

refused_not_carried : (files : Entries) (a b b' : State) (one : Stmt) (end : Status) (rs : List Query) → Same a b → IsRefusedStatement files a one end → IsCarriedOut files b one b' rs → ⊥
refused_not_carried files a b b' (statement.CreateTable form) end rs h (why, e, x) (f, y, z) =
    let both : Some why ≡ None = sym e ∙ ap (λ c. create_of c) h.0 ∙ f in cc both
  where
    create_of : List CatalogTable → Option CreateFault
    create_of c = Rattle.aqe_tables.specs.Catalog.create_fault c form
refused_not_carried files a b b' (statement.Set form) end rs h x y = x
refused_not_carried files a b b' (statement.Query tree) end rs h (inl (check, e, x)) y = no_plan tree b.catalog a.catalog y.plan check (sym h.0) y.analysed e
refused_not_carried files a b b' (statement.Query tree) end rs h (inr x) y =
    let plan : x.plan ≡ y.plan = plan_once tree a.catalog b.catalog x.plan y.plan h.0 x.analysed y.analysed in
    stopped_not_loaded files b.catalog a.tables b.tables b'.tables (scans y.plan) x.why h.1 (stops_there files a.catalog b.catalog a.tables x.plan y.plan x.why h.0 plan x.stopped) y.loaded

refused_same : (files : Entries) (a b : State) (one : Stmt) (x y : Status) → Same a b → IsRefusedStatement files a one x → IsRefusedStatement files b one y → x ≡ y
refused_same files a b (statement.CreateTable form) x y h (why, e, i) (how, f, j) =
    let both : Some why ≡ Some how = sym e ∙ ap (λ c. Rattle.aqe_tables.specs.Catalog.create_fault c form) h.0 ∙ f in
    let same : why ≡ how = cc both in
    i ∙ ap of_create same ∙ sym j
refused_same files a b (statement.Set form) x y h i j = absurd i
refused_same files a b (statement.Query tree) x y h (inl (check, e, i)) (inl (other, f, j)) =
    let both : Err check ≡ Err other = sym e ∙ ap (λ c. walk tree (seen c)) h.0 ∙ f in
    let same : check ≡ other = cc both in
    i ∙ ap of_check same ∙ sym j
refused_same files a b (statement.Query tree) x y h (inl (check, e, i)) (inr j) = absurd (no_plan tree b.catalog a.catalog j.plan check (sym h.0) j.analysed e)
refused_same files a b (statement.Query tree) x y h (inr i) (inl (check, e, j)) = absurd (no_plan tree a.catalog b.catalog i.plan check h.0 i.analysed e)
refused_same files a b (statement.Query tree) x y h (inr i) (inr j) =
    let plan : i.plan ≡ j.plan = plan_once tree a.catalog b.catalog i.plan j.plan h.0 i.analysed j.analysed in
    let why : i.why ≡ j.why = stopped_once files b.catalog a.tables b.tables (scans j.plan) i.why j.why h.1 (stops_there files a.catalog b.catalog a.tables i.plan j.plan i.why h.0 plan i.stopped) j.stopped in
    i.is ∙ ap of_load why ∙ sym j.is

-- queries that are answered by the same statement
alike_then : (qs rs first second : List Query) → AreAllAlike qs rs → AreAllAlike first second → AreAllAlike (qs ++ first) (rs ++ second)
alike_then [] [] first second h k = k
alike_then [] (r ∷ rs) first second h k = absurd h
alike_then (q ∷ qs) [] first second h k = absurd h
alike_then (q ∷ qs) (r ∷ rs) first second h k = (h.0, alike_then qs rs first second h.1 k)

answers_same : (files : Entries) (a b a' b' : State) (one : Stmt) (qs rs : List Query) → Same a b → IsCarriedOut files a one a' qs → IsCarriedOut files b one b' rs → AreAllAlike qs rs
answers_same files a b a' b' (statement.CreateTable form) qs rs h (x, e, y) (z, f, w) = rw (y, w) tt
answers_same files a b a' b' (statement.Set form) qs rs h x y = absurd x
answers_same files a b a' b' (statement.Query tree) qs rs h x y =
    let plan : x.plan ≡ y.plan = plan_once tree a.catalog b.catalog x.plan y.plan h.0 x.analysed y.analysed in
    let tables : Alike a'.tables b'.tables = loaded_alike files b.catalog a.tables b.tables a'.tables b'.tables (scans y.plan) h.1
    (loads_there files a.catalog b.catalog a.tables a'.tables x.plan y.plan h.0 plan x.loaded) y.loaded in
    rw (x.is, y.is) (record { number = h.2; plan = plan; tables = tables; settings = h.3; events = refl }, tt)

-- runs of the same statements that are both refused are refused alike
runs_refused : (files : Entries) (a b m n : State) (st r s : List Stmt) (one two : Stmt) (qs rs : List Query) (x y : Status) → Same a b → Runs files a st qs m (one ∷ r) → IsRefusedStatement files m one x
    → Runs files b st rs n (two ∷ s) → IsRefusedStatement files n two y → OneRefusal qs rs x y
runs_refused files _ _ _ _ _ r s one _ _ _ x y h (none a _) i (none b _) j = record { end = refused_same files a b one x y h i j; queries = tt }
runs_refused files _ _ _ n _ r s one two _ _ x y h (none a _) i (more b b' _ _ _ _ q rs c d) j = absurd (refused_not_carried files a b b' one x q h i c)
runs_refused files _ _ m _ _ r s one two _ _ x y h (more a a' _ _ _ _ q qs c d) i (none b _) j = absurd (refused_not_carried files b a a' two y q (same_back a b h) j c)
runs_refused files _ _ m n _ r s one two _ _ x y h (more a a' _ first rest _ q qs c d) i (more b b' _ _ _ _ q' rs c' d') j =
    let others : OneRefusal qs rs x y = runs_refused files a' b' m n rest r s one two qs rs x y (carried_same files a b a' b' first q q' h c c') d i d' j in
    record { end = others.end; queries = alike_then q q' qs rs (answers_same files a b a' b' first q q' h c c') others.queries }

-- runs of the same statements to their end answer alike
runs_alike : (files : Entries) (a b m n : State) (st : List Stmt) (qs rs : List Query) → Same a b → Runs files a st qs m [] → Runs files b st rs n [] → AreAllAlike qs rs
runs_alike files _ _ _ _ _ _ _ h (none a _) (none b _) = tt
runs_alike files _ _ m n _ _ _ h (more a a' _ first rest _ q qs c d) (more b b' _ _ _ _ q' rs c' d') =
    alike_then q q' qs rs (answers_same files a b a' b' first q q' h c c') (runs_alike files a' b' m n rest qs rs (carried_same files a b a' b' first q q' h c c') d d')

-- a run to the end is not refused
runs_done : (files : Entries) (a b m n : State) (st s : List Stmt) (two : Stmt) (qs rs : List Query) (y : Status) → Same a b → Runs files a st qs m []
    → Runs files b st rs n (two ∷ s) → IsRefusedStatement files n two y → ⊥
runs_done files _ b _ n _ s two _ rs y h (none now _) k j = elim k [ ]
runs_done files _ _ m _ _ s two _ _ y h (more a a' _ _ _ _ q qs c d) (none b _) j = refused_not_carried files b a a' two y q (same_back a b h) j c
runs_done files _ _ m n _ s two _ _ y h (more a a' _ first rest _ q qs c d) (more b b' _ _ _ _ q' rs c' d') j =
    runs_done files a' b' m n rest s two qs rs y (carried_same files a b a' b' first q q' h c c') d d' j

-- a file that the run needs comes to one thing
longer_held : (files : Entries) (path : List ℕ) (most : ℕ) → IsLonger files path most → IsHeld files path
longer_held files path most h = by (content_of files path) h
  where
    by : (o : Option (List ℕ)) → IsSomeAnd o (λ content. most < length content) → IsSome o
    by None h = absurd h
    by (Some bytes) h = refl

there_not_missing : (files : Entries) (path content : List ℕ) → content_of files path ≡ Some content → (IsHeld files path → ⊥) → ⊥
there_not_missing files path content e nay = nay (subst IsSome (sym e) refl)

there_not_long : (files : Entries) (path content : List ℕ) → content_of files path ≡ Some content → length content ≤ text_limit → IsLonger files path text_limit → ⊥
there_not_long files path content e fits long =
    let more = subst (λ o. IsSomeAnd o (λ c. text_limit < length c)) e long in
    omega (arith, more, fits)

needed_once : (files : Entries) (path : List ℕ) (x y : Result (List ℕ) Status) → Needed files path x → Needed files path y → x ≡ y
needed_once files path x y (there c e f i) (there d g h j) =
    let both : Some c ≡ Some d = sym e ∙ g in
    let same : c ≡ d = cc both in
    i ∙ ap Ok same ∙ sym j
needed_once files path x y (there c e f i) (missing n j) = absurd (there_not_missing files path c e n)
needed_once files path x y (there c e f i) (too_long l j) = absurd (there_not_long files path c e f l)
needed_once files path x y (missing n i) (there d g h j) = absurd (there_not_missing files path d g n)
needed_once files path x y (missing n i) (missing m j) = i ∙ sym j
needed_once files path x y (missing n i) (too_long l j) = absurd (n (longer_held files path text_limit l))
needed_once files path x y (too_long l i) (there d g h j) = absurd (there_not_long files path d g h l)
needed_once files path x y (too_long l i) (missing n j) = absurd (n (longer_held files path text_limit l))
needed_once files path x y (too_long l i) (too_long m j) = i ∙ sym j

source_once : (files : Entries) (path s t : List ℕ) → Needed files path (Ok s) → Needed files path (Ok t) → s ≡ t
source_once files path s t h k = let both : Ok s ≡ Ok t = needed_once files path (Ok s) (Ok t) h k in cc both

no_file_once : (files : Entries) (path : List ℕ) (x y : Status) → Needed files path (Err x) → Needed files path (Err y) → x ≡ y
no_file_once files path x y h k = let both : Err x ≡ Err y = needed_once files path (Err x) (Err y) h k in cc both

file_or_not : (files : Entries) (path s : List ℕ) (x : Status) → Needed files path (Ok s) → Needed files path (Err x) → ⊥
file_or_not files path s x h k = let both : Ok s ≡ Err x = needed_once files path (Ok s) (Err x) h k in cc both

script_once : (source : List ℕ) (s t : List Stmt) → IsSource source s → IsSource source t → s ≡ t
script_once source s t h k =
    let same : h.tokens ≡ k.tokens = one_list source h.tokens k.tokens h.are k.are in
    one_script source k.tokens s t (subst (λ x. IsScript source x s) same h.taken.reads) k.taken.reads

opened_once : (files : Entries) (said : Command) (s t : List Stmt) → IsOpened files said s → IsOpened files said t → s ≡ t
opened_once files said s t h k =
    let same : h.source ≡ k.source = source_once files said.path h.source k.source h.has k.has in
    script_once k.source s t (subst (λ x. IsSource x s) same h.is) k.is

taken_not_deep : (source : List ℕ) (tokens us : List Token) (script : List Stmt) → tokens ≡ us → IsTaken source tokens script → IsTooDeep source us → ⊥
taken_not_deep source tokens us script e h (inl wide) = h.shallow (subst (λ x. Rattle.aqe_script.specs.Depth.IsTooOpen source x) (sym e) wide)
taken_not_deep source tokens us script e h (inr (other, reads, nested)) =
    let same : other ≡ script = one_script source tokens other script (subst (λ x. IsScript source x other) (sym e) reads) h.reads in
    h.flat (subst (λ s. Rattle.std.specs.Prelude.Any IsTooNested s) same nested)

source_refused_once : (source : List ℕ) (x y : Status) → IsRefusedSource source x → IsRefusedSource source y → x ≡ y
source_refused_once source x y (no_tokens f h e) (no_tokens g k i) = e ∙ ap of_lex (one_fault source f g h k) ∙ sym i
source_refused_once source x y (no_tokens f h e) (no_sentence us are nay shallow i) = absurd (no_list source us f h are)
source_refused_once source x y (no_tokens f h e) (too_deep us are deep i) = absurd (no_list source us f h are)
source_refused_once source x y (no_tokens f h e) (not_built us s are taken b i) = absurd (no_list source us f h are)
source_refused_once source x y (no_sentence ts are nay shallow e) (no_tokens g k i) = absurd (no_list source ts g k are)
source_refused_once source x y (no_sentence ts are nay shallow e) (no_sentence us be _ _ i) = e ∙ sym i
source_refused_once source x y (no_sentence ts are nay shallow e) (too_deep us be deep i) = absurd (not_deep (one_list source us ts be are) deep)
  where
    not_deep : us ≡ ts → IsTooDeep source us → ⊥
    not_deep same (inl wide) = shallow (subst (λ t. Rattle.aqe_script.specs.Depth.IsTooOpen source t) same wide)
    not_deep same (inr (other, reads, nested)) = nay other (subst (λ t. IsScript source t other) same reads)
source_refused_once source x y (no_sentence ts are nay shallow e) (not_built us s be taken b i) =
    absurd (nay s (subst (λ t. IsScript source t s) (one_list source us ts be are) taken.reads))
source_refused_once source x y (too_deep ts are deep e) (no_tokens g k i) = absurd (no_list source ts g k are)
source_refused_once source x y (too_deep ts are deep e) (no_sentence us be nay shallow i) = absurd (not_deep (one_list source ts us are be) deep)
  where
    not_deep : ts ≡ us → IsTooDeep source ts → ⊥
    not_deep same (inl wide) = shallow (subst (λ t. Rattle.aqe_script.specs.Depth.IsTooOpen source t) same wide)
    not_deep same (inr (other, reads, nested)) = nay other (subst (λ t. IsScript source t other) same reads)
source_refused_once source x y (too_deep ts are deep e) (too_deep us be dark i) = e ∙ sym i
source_refused_once source x y (too_deep ts are deep e) (not_built us s be taken b i) = absurd (taken_not_deep source us ts s (one_list source us ts be are) taken deep)
source_refused_once source x y (not_built ts s are taken b e) (no_tokens g k i) = absurd (no_list source ts g k are)
source_refused_once source x y (not_built ts s are taken b e) (no_sentence us be nay shallow i) =
    absurd (nay s (subst (λ t. IsScript source t s) (one_list source ts us are be) taken.reads))
source_refused_once source x y (not_built ts s are taken b e) (too_deep us be deep i) = absurd (taken_not_deep source ts us s (one_list source ts us are be) taken deep)
source_refused_once source x y (not_built ts s are taken b e) (not_built us t be taken' b' i) = e ∙ sym i

source_not_refused : (source : List ℕ) (script : List Stmt) (x : Status) → IsSource source script → IsRefusedSource source x → ⊥
source_not_refused source script x h (no_tokens g k i) = no_list source h.tokens g k h.are
source_not_refused source script x h (no_sentence us be nay shallow i) = nay script (subst (λ t. IsScript source t script) (one_list source h.tokens us h.are be) h.taken.reads)
source_not_refused source script x h (too_deep us be deep i) = taken_not_deep source h.tokens us script (one_list source h.tokens us h.are be) h.taken deep
source_not_refused source script x h (not_built us s be taken b i) =
    let tokens : us ≡ h.tokens = one_list source us h.tokens be h.are in
    let same : s ≡ script = one_script source h.tokens s script (subst (λ t. IsScript source t s) tokens taken.reads) h.taken.reads in
    let nay : true ≡ false = sym h.built ∙ ap is_script_built (sym same) ∙ b in cc nay

opened_not_refused : (files : Entries) (said : Command) (script : List Stmt) (x : Status) → IsOpened files said script → IsNotOpened files said x → ⊥
opened_not_refused files said script x h (no_file n) = file_or_not files said.path h.source x h.has n
opened_not_refused files said script x h (refused source has r) =
    source_not_refused source script x (subst (λ s. IsSource s script) (source_once files said.path h.source source h.has has) h.is) r

not_opened_once : (files : Entries) (said : Command) (x y : Status) → IsNotOpened files said x → IsNotOpened files said y → x ≡ y
not_opened_once files said x y (no_file h) (no_file k) = no_file_once files said.path x y h k
not_opened_once files said x y (no_file h) (refused source has r) = absurd (file_or_not files said.path source x has h)
not_opened_once files said x y (refused source has r) (no_file k) = absurd (file_or_not files said.path source y has k)
not_opened_once files said x y (refused source has r) (refused source' has' r') =
    source_refused_once source' x y (subst (λ s. IsRefusedSource s x) (source_once files said.path source source' has has') r) r'

start_same : Same nothing nothing
start_same = (refl, λ n. refl, refl, refl)

-- a run is refused with one status, behind the same queries
pub one_course : (files : Entries) (said : Command) (qs rs : List Query) (x y : Status) → IsRefused files said qs x → IsRefused files said rs y → OneRefusal qs rs x y
one_course files said _ _ _ _ (at_once x h) (at_once y k) = record { end = not_opened_once files said x y h k; queries = tt }
one_course files said _ _ _ _ (at_once x h) (on_the_way script _ _ _ _ y o _ _) = absurd (opened_not_refused files said script x o h)
one_course files said _ _ _ _ (on_the_way script _ _ _ _ x o _ _) (at_once y k) = absurd (opened_not_refused files said script y o k)
one_course files said _ _ _ _ (on_the_way script rest one qs m x o h i) (on_the_way script' rest' one' rs n y o' k j) =
    let same : script ≡ script' = opened_once files said script script' o o' in
    runs_refused files nothing nothing m n script' rest rest' one one' qs rs x y start_same (subst (λ s. Runs files nothing s qs m (one ∷ rest)) same h) i k j

-- a run that is carried out is not refused
pub done_not_refused : (files : Entries) (said : Command) (qs rs : List Query) (y : Status) → IsDone files said qs → IsRefused files said rs y → ⊥
done_not_refused files said qs _ _ h (at_once y k) = opened_not_refused files said h.script y h.opened k
done_not_refused files said qs _ _ h (on_the_way script rest one rs n y o k j) =
    let same : h.script ≡ script = opened_once files said h.script script h.opened o in
    runs_done files nothing nothing h.end n script rest one qs rs y start_same (subst (λ s. Runs files nothing s qs h.end []) same h.runs) k j

-- a run that is carried out answers the same queries
pub same_answers : (files : Entries) (said : Command) (qs rs : List Query) → IsDone files said qs → IsDone files said rs → AreAllAlike qs rs
same_answers files said qs rs h k =
    let same : h.script ≡ k.script = opened_once files said h.script k.script h.opened k.opened in
    runs_alike files nothing nothing h.end k.end k.script qs rs start_same (subst (λ s. Runs files nothing s qs h.end []) same h.runs) k.runs
