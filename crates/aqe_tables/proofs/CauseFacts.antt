-- The load of a table is refused for one cause at most.
use Rattle.std.proofs.Common.{◌≡◌, ◌⊎◌, inl, inr, ℕ, Contains, ◌+◌, ◌<◌, ◌≤◌, List, [], ◌∷◌, ◌++◌, length, refl, ap, sym, arith, ◌∙◌, Bool, true, false, IsTrue, Option, Some, None}
use Rattle.std.specs.Prelude.{IsFalse, nat_lt, if◌then◌else◌}
use Rattle.std.proofs.lemmas.Bool.{le-ltb, lt-ltb}
use Rattle.aqe_values.specs.Bounds.{text_limit}
use Rattle.aqe_values.specs.declared.value.Value.{Value}
use Rattle.aqe_store.specs.Files.{Entries, IsFolder}
use Rattle.aqe_store.specs.Told.{WhereTold}
use Rattle.aqe_tables.specs.declared.catalog.CatalogTable.{CatalogTable}
use Rattle.aqe_tables.specs.declared.fault.LoadFault.{LoadFault}
use Rattle.aqe_tables.specs.declared.fault.LoadFault.TheVariants as fault
use Rattle.aqe_tables.specs.declared.loaded.Table.{Table}
use Rattle.aqe_tables.specs.Folder.{AreDataFiles, AreDataNames, DataFile, bytes_of, names_of}
use Rattle.aqe_tables.specs.Load.{AreGood, FileCause, HasBadFile, HasManyFiles, HasNoCause, HasNoOtherCause, IsGood, IsTableOf, LoadCause, StopsAt, bytes_limit, files_limit, is_excuse, table_rows}
use Rattle.aqe_tables.specs.Laws.{FilesMakeOneTable}
use Rattle.aqe_tables.proofs.FolderFacts.{names_once, parts_once}
use Rattle.aqe_tables.proofs.LoadFacts.{before_later, names_length}

-- the cause that a file has, if it has one
cause_of_file : ℕ → DataFile → LoadFault
cause_of_file before file =
    if nat_lt text_limit (length file.1) then fault.TooLong file.0
    else if nat_lt bytes_limit (before + length file.1) then fault.TooManyBytes
    else fault.NotBuilt file.0

one_of_file : (sep before : ℕ) (file : DataFile) (why : LoadFault) → FileCause sep before file why → why ≡ cause_of_file before file
unfolding cause_of_file
one_of_file sep before file (fault.TooLong name) h = let long = lt-ltb text_limit (length file.1) h.1 in rw (long, h.0) refl
one_of_file sep before file fault.TooManyBytes h =
    let short = le-ltb text_limit (length file.1) h.0 in
    let many = lt-ltb bytes_limit (before + length file.1) h.1 in
    rw (short, many) refl
one_of_file sep before file (fault.NotBuilt name) h =
    let short = le-ltb text_limit (length file.1) h.1 in
    let few = le-ltb bytes_limit (before + length file.1) h.2 in
    rw (short, few, h.0) refl
one_of_file sep before file fault.ReadFault h = absurd h
one_of_file sep before file fault.Missing h = absurd h
one_of_file sep before file fault.TooManyFiles h = absurd h
one_of_file sep before file fault.Memory h = absurd h

-- a file that passes is not refused
good_no_cause : (sep before : ℕ) (file : DataFile) (why : LoadFault) → IsGood sep before file.1 → FileCause sep before file why → ⊥
good_no_cause sep before file (fault.TooLong name) g h = omega (arith, g.fits, h.1)
good_no_cause sep before file fault.TooManyBytes g h = omega (arith, g.room, h.1)
good_no_cause sep before file (fault.NotBuilt name) g h = g.read h.3
good_no_cause sep before file fault.ReadFault g h = h
good_no_cause sep before file fault.Missing g h = h
good_no_cause sep before file fault.TooManyFiles g h = h
good_no_cause sep before file fault.Memory g h = h

nothing_before : (before : ℕ) → before + bytes_of [] ≡ before
nothing_before before = omega arith

-- files that all pass stop nowhere
good_no_stop : (sep before : ℕ) (front : List DataFile) (file : DataFile) (others : List DataFile) (why : LoadFault)
    → AreGood sep before (front ++ file ∷ others) → FileCause sep (before + bytes_of front) file why → ⊥
good_no_stop sep before [] file others why g h = good_no_cause sep before file why g.0 (rw (nothing_before before) at h)
good_no_stop sep before (x ∷ xs) file others why g h = good_no_stop sep (before + length x.1) xs file others why g.1 (rw (before_later before x xs) at h)

-- files stop at one place, for one cause
stop_once : (sep before : ℕ) (f : List DataFile) (x : DataFile) (o : List DataFile) (g : List DataFile) (y : DataFile) (p : List DataFile) (a b : LoadFault)
    → f ++ x ∷ o ≡ g ++ y ∷ p → AreGood sep before f → AreGood sep before g
    → FileCause sep (before + bytes_of f) x a → FileCause sep (before + bytes_of g) y b → a ≡ b
stop_once sep before [] x o [] y p a b e h k s t =
    let same : y ≡ x = cc e in
    let t2 = rw (nothing_before before, same) at t in
    one_of_file sep before x a (rw (nothing_before before) at s) ∙ sym (one_of_file sep before x b t2)
stop_once sep before [] x o (y ∷ ys) z p a b e h k s t =
    let same : x ≡ y = cc e in
    absurd (good_no_cause sep before y a k.0 (rw (nothing_before before, same) at s))
stop_once sep before (x ∷ xs) z o [] y p a b e h k s t =
    let same : y ≡ x = cc e in
    absurd (good_no_cause sep before x b h.0 (rw (nothing_before before, same) at t))
stop_once sep before (x ∷ xs) u o (y ∷ ys) v p a b e h k s t =
    let same : y ≡ x = cc e in
    let rest : xs ++ u ∷ o ≡ ys ++ v ∷ p = cc e in
    stop_once sep (before + length x.1) xs u o ys v p a b rest h.1 (rw same at k.1) (rw (before_later before x xs) at s) (rw (before_later before y ys, same) at t)

stops_once : (sep before : ℕ) (parts : List DataFile) (a b : LoadFault) → StopsAt sep before parts a → StopsAt sep before parts b → a ≡ b
stops_once sep before parts a b h k =
    stop_once sep before h.front h.file h.others k.front k.file k.others a b (sym h.are ∙ k.are) h.good k.good h.cause k.cause

-- a folder has one list of data names, and of data files
names_same : (files : Entries) (folder : List ℕ) (a b : List (List ℕ)) → AreDataNames files folder a → AreDataNames files folder b → a ≡ b
names_same files folder a b h k = names_once a b h.rising k.rising (λ n. (there n, back n))
  where
    there : (n : List ℕ) → Contains a n → Contains b n
    there n c = (k.each n).1 ((h.each n).0 c)

    back : (n : List ℕ) → Contains b n → Contains a n
    back n c = (h.each n).1 ((k.each n).0 c)

pub files_same : (files : Entries) (folder : List ℕ) (a b : List DataFile) → AreDataFiles files folder a → AreDataFiles files folder b → a ≡ b
files_same files folder a b h k =
    parts_once files folder (names_of b) a b (record { named = names_same files folder (names_of a) (names_of b) h.names k.names; held = h.held }) (record { named = refl; held = k.held })

-- a folder with a data file is there
folder_there : (files : Entries) (folder : List ℕ) (names : List (List ℕ)) → AreDataNames files folder names → 0 < length names → IsFolder files folder
folder_there files folder [] are some = absurd (omega (arith, some))
folder_there files folder (n ∷ ns) are some = (n, ((are.each n).0 (0, omega arith, refl)).held.0)

-- the three kinds of causes
data Kind (files : Entries) (table : CatalogTable) (before : ℕ) (why : LoadFault) : Type 0 where
  no_folder : why ≡ fault.Missing → ¬ (IsFolder files table.location) → Kind files table before why
  many : why ≡ fault.TooManyFiles → HasManyFiles files table.location → Kind files table before why
  bad : HasBadFile files table before why → Kind files table before why

kind_of : (files : Entries) (table : CatalogTable) (before : ℕ) (why : LoadFault) → IsFalse (is_excuse why) → LoadCause files table before why → Kind files table before why
kind_of files table before fault.Memory x h = cc x
kind_of files table before fault.ReadFault x h = cc x
kind_of files table before fault.Missing x h = no_folder refl h
kind_of files table before fault.TooManyFiles x h = many refl h
kind_of files table before (fault.TooLong name) x h = bad h
kind_of files table before fault.TooManyBytes x h = bad h
kind_of files table before (fault.NotBuilt name) x h = bad h

many_there : (files : Entries) (folder : List ℕ) → HasManyFiles files folder → IsFolder files folder
many_there files folder m = folder_there files folder m.0 m.1 (omega (arith, m.2))

bad_there : (files : Entries) (table : CatalogTable) (before : ℕ) (why : LoadFault) → HasBadFile files table before why → IsFolder files table.location
bad_there files table before why h = folder_there files table.location (names_of h.parts) h.are.names (some h.stops.front h.stops.are)
  where
    some : (front : List DataFile) → h.parts ≡ front ++ h.stops.file ∷ h.stops.others → 0 < length (names_of h.parts)
    some [] e = rw e (omega arith)
    some (x ∷ xs) e = rw e (omega arith)

many_not_few : (files : Entries) (folder : List ℕ) (parts : List DataFile) → HasManyFiles files folder → AreDataFiles files folder parts → length parts ≤ files_limit → ⊥
many_not_few files folder parts m are few =
    let same = ap length (names_same files folder m.0 (names_of parts) m.1 are.names) ∙ names_length parts in
    omega (arith, same, few, m.2)

one_kind : (files : Entries) (table : CatalogTable) (before : ℕ) (a b : LoadFault) → Kind files table before a → Kind files table before b → a ≡ b
one_kind files table before a b (no_folder e h) (no_folder f k) = e ∙ sym f
one_kind files table before a b (no_folder e h) (many f k) = absurd (h (many_there files table.location k))
one_kind files table before a b (no_folder e h) (bad k) = absurd (h (bad_there files table before b k))
one_kind files table before a b (many e h) (no_folder f k) = absurd (k (many_there files table.location h))
one_kind files table before a b (many e h) (many f k) = e ∙ sym f
one_kind files table before a b (many e h) (bad k) = absurd (many_not_few files table.location k.parts h k.are k.few)
one_kind files table before a b (bad h) (no_folder f k) = absurd (k (bad_there files table before a h))
one_kind files table before a b (bad h) (many f k) = absurd (many_not_few files table.location h.parts k h.are h.few)
one_kind files table before a b (bad h) (bad k) =
    let same = files_same files table.location k.parts h.parts k.are h.are in
    stops_once table.form.separator before h.parts a b h.stops (rw same at k.stops)

-- a table that is loaded has no cause
no_kind : (files : Entries) (table : CatalogTable) (before : ℕ) (loaded : Table) (why : LoadFault) → IsTableOf files table before loaded → Kind files table before why → ⊥
no_kind files table before loaded why t (no_folder e h) = h t.there
no_kind files table before loaded why t (many e h) = many_not_few files table.location t.parts h t.are t.few
no_kind files table before loaded why t (bad h) =
    let same = files_same files table.location t.parts h.parts t.are h.are in
    let good = rw (same, h.stops.are) at t.good in
    good_no_stop table.form.separator before h.stops.front h.stops.file h.stops.others why good h.stops.cause

pub never_told : (told : Option Entries) (table : CatalogTable) (before : ℕ) (loaded : Table) → WhereTold told (λ files. IsTableOf files table before loaded)
    → WhereTold told (λ files. HasNoCause files table before)
never_told None table before loaded h = tt
never_told (Some files) table before loaded h = λ why excuse cause. no_kind files table before loaded why h (kind_of files table before why excuse cause)

pub only_told : (told : Option Entries) (table : CatalogTable) (before : ℕ) (given : LoadFault) → WhereTold told (λ files. LoadCause files table before given)
    → WhereTold told (λ files. HasNoOtherCause files table before given)
only_told None table before given h = tt
only_told (Some files) table before given h = λ why excuse cause. by why excuse cause (is_excuse given) refl
  where
    by : (why : LoadFault) → IsFalse (is_excuse why) → LoadCause files table before why → (b : Bool) → is_excuse given ≡ b → (given ≡ why) ⊎ IsTrue (is_excuse given)
    by why excuse cause true e = inr e
    by why excuse cause false e = inl (one_kind files table before given why (kind_of files table before given e h) (kind_of files table before why excuse cause))

-- a table is its files and its bytes
made : List (List (List Value)) → ℕ → Table
made rows n = record { files = rows; bytes = n }

pub one_table : FilesMakeOneTable
unfolding made
one_table files table m n a b h k =
    let same = files_same files table.location h.parts k.parts h.are k.are in
    let rows : a.files ≡ b.files = h.rows ∙ ap (table_rows table.form) same ∙ sym k.rows in
    let bytes : a.bytes ≡ b.bytes = h.bytes ∙ ap bytes_of same ∙ sym k.bytes in
    ap (λ (r : List (List (List Value))). made r a.bytes) rows ∙ ap (λ (i : ℕ). made b.files i) bytes
