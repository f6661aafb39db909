-- Files read one after the other.
use Rattle.std.proofs.Common.{◌≡◌, ℕ, zero, suc, ◌+◌, ◌<◌, ◌≤◌, List, [], ◌∷◌, ◌++◌, length, take, drop, get_or, refl, ap, sym, arith, ◌∙◌, Bool, true, false, Option, Some, None, drop-cons, zero-add}
use Rattle.std.specs.Prelude.{All, map}
use Rattle.std.proofs.Common.{subst}
use Rattle.std.proofs.lemmas.List.Sums.{sum_by-append, sum_by-cons}
use Rattle.std.proofs.lemmas.List.{map-append, take-append-drop, take_more}
use Rattle.aqe_values.specs.declared.schema.Field.{Field}
use Rattle.aqe_values.specs.declared.value.Value.{Value}
use Rattle.aqe_store.specs.Files.{Entries, IsFolder, content_of}
use Rattle.aqe_store.specs.Told.{KeepsFiles, WhereTold}
use Rattle.aqe_tables.specs.declared.catalog.CatalogTable.{CatalogTable}
use Rattle.aqe_tables.specs.declared.fault.LoadFault.{LoadFault}
use Rattle.aqe_tables.specs.declared.fault.LoadFault.TheVariants as fault
use Rattle.aqe_tables.specs.declared.load.LoadedFile.{LoadedFile}
use Rattle.aqe_tables.specs.declared.loaded.Table.{Table}
use Rattle.aqe_records.specs.FileRows.{file_rows, row_of}
use Rattle.aqe_tables.specs.Folder.{AreDataNames, DataFile, bytes_of, names_of, path_of}
use Rattle.aqe_tables.specs.Load.{AreGood, AreWide, FileCause, HasBadFile, IsGood, IsShaped, IsTableOf, LoadCause, StopsAt, files_limit, is_excuse, or_one_empty}
use Rattle.aqe_tables.specs.Reading.{AreRead, HaveNames, IsRead, NotAllRead, NotListed, NotRead, ReadUpTo, Unless}
use Rattle.aqe_tables.proofs.FolderFacts.{contents}
use Rattle.aqe_records.proofs.RowFacts.{length-row_of}

-- each row has a value for each column
pub rows_wide : (columns : List Field) (read : List (List (List ℕ))) → AreWide (length columns) (map (row_of columns) read)
rows_wide columns [] k d l = absurd (omega (arith, l))
rows_wide columns (f ∷ fs) zero d l = length-row_of columns f
rows_wide columns (f ∷ fs) (suc k) d l = rows_wide columns fs k d (omega (arith, l))

pub bytes-append : (xs ys : List DataFile) → bytes_of (xs ++ ys) ≡ bytes_of xs + bytes_of ys
bytes-append xs ys = sum_by-append (λ (file : DataFile). length file.1) xs ys

bytes-push : (xs : List DataFile) (x : DataFile) → bytes_of (xs ++ x ∷ []) ≡ bytes_of xs + length x.1
bytes-push xs x = bytes-append xs (x ∷ []) ∙ ap (λ (n : ℕ). bytes_of xs + n) (zero-add (length x.1))

pub bytes-cons : (x : DataFile) (xs : List DataFile) → bytes_of (x ∷ xs) ≡ length x.1 + bytes_of xs
bytes-cons x xs = sum_by-cons (λ (file : DataFile). length file.1) x xs

-- the bytes before a later file
pub before_later : (before : ℕ) (x : DataFile) (xs : List DataFile) → before + bytes_of (x ∷ xs) ≡ (before + length x.1) + bytes_of xs
before_later before x xs = let first = bytes-cons x xs in omega (arith, first)

-- one good file more
good_more : (sep before : ℕ) (xs : List DataFile) (x : DataFile) → AreGood sep before xs → IsGood sep (before + bytes_of xs) x.1 → AreGood sep before (xs ++ x ∷ [])
good_more sep before [] x h g = let none : before + bytes_of [] ≡ before = omega arith in (rw none at g, tt)
good_more sep before (y ∷ ys) x h g = (h.0, good_more sep (before + length y.1) ys x h.1 (rw (before_later before y ys) at g))

-- a part of the files, by its place
part_held : (files : Entries) (folder : List ℕ) (names : List (List ℕ)) (parts : List DataFile) (i : ℕ) (name : List ℕ) → HaveNames files folder names parts
    → i < length names → name ≡ get_or names i name
    → (i < length parts) × ((get_or parts i (name, [])).0 ≡ name) × (content_of files (path_of folder name) ≡ Some (get_or parts i (name, [])).1)
part_held files folder [] parts i name h l e = absurd (omega (arith, l))
part_held files folder (n ∷ ns) [] i name h l e = let no = h.named in cc no
part_held files folder (n ∷ ns) (x ∷ xs) zero name h l e =
    let named = h.named in
    let same : x.0 ≡ n = cc named in
    let held = rw (same ∙ sym e) at h.held.0 in
    (omega arith, same ∙ sym e, held)
part_held files folder (n ∷ ns) (x ∷ xs) (suc i) name h l e =
    let named = h.named in
    let rest : names_of xs ≡ ns = cc named in
    let more = part_held files folder ns xs i name (record { named = rest; held = h.held.1 }) (omega (arith, l)) e in
    (omega (arith, more.0), more.1, more.2)

-- the files that are read, with one more
read_more : (files : Entries) (table : CatalogTable) (names : List (List ℕ)) (before i : ℕ) (rows : List (List (List Value))) (total : ℕ) (name : List ℕ) (file : LoadedFile)
    → ReadUpTo files table names before i rows total → IsRead files table name total file → i < length names → name ≡ get_or names i name
    → ReadUpTo files table names before (i + 1) (rows ++ file.rows ∷ []) (total + file.bytes)
read_more files table names before i rows total name file prior read l e parts have =
    let r = prior parts have in
    let at = part_held files table.location names parts i name have l e in
    let x : DataFile = get_or parts i (name, []) in
    let content : read.bytes ≡ x.1 = let a = read.held in let b = at.2 in cc (a, b) in
    let front = take_more parts i (name, []) at.0 in
    let sum : total ≡ before + bytes_of (take i parts) = r.sum in
    let good : IsGood table.form.separator (before + bytes_of (take i parts)) x.1 = rw (sum, content) at read.good in
    let grown = bytes-push (take i parts) x in
    let size : file.bytes ≡ length x.1 = read.size ∙ ap length content in
    record {
      good = rw front (good_more table.form.separator before (take i parts) x r.good good);
      made = rw (front, map-append (λ (part : DataFile). file_rows table.form part.1) (take i parts) (x ∷ []), ← r.made, ← content, ← read.rows) refl;
      sum = rw front (omega (arith, sum, size, grown));
    }

-- nothing is read yet
pub none_read : (files : Entries) (table : CatalogTable) (names : List (List ℕ)) (before : ℕ) → ReadUpTo files table names before 0 [] before
none_read files table names before parts have = record { good = tt; made = refl; sum = omega arith }

-- a fact of the files as they are told later
pub told_before : (files : Entries) (now : Option Entries) (P : Entries → Type 0) → now ≡ Some files → WhereTold now P → P files
told_before files None P e h = cc e
told_before files (Some others) P e h = let same : others ≡ files = cc e in subst P same h

pub none_read_told : (told : Option Entries) (table : CatalogTable) (names : List (List ℕ)) (before : ℕ) → WhereTold told (λ files. ReadUpTo files table names before 0 [] before)
none_read_told None table names before = tt
none_read_told (Some files) table names before = none_read files table names before

pub read_more_told : (told now : Option Entries) (table : CatalogTable) (names : List (List ℕ)) (before i : ℕ) (rows : List (List (List Value))) (total : ℕ) (name : List ℕ) (file : LoadedFile)
    → KeepsFiles told now → WhereTold told (λ files. ReadUpTo files table names before i rows total) → WhereTold now (λ files. IsRead files table name total file)
    → i < length names → name ≡ get_or names i name
    → WhereTold told (λ files. ReadUpTo files table names before (i + 1) (rows ++ file.rows ∷ []) (total + file.bytes))
read_more_told None now table names before i rows total name file k prior read l e = tt
read_more_told (Some files) now table names before i rows total name file k prior read l e =
    read_more files table names before i rows total name file prior (told_before files now (λ f. IsRead f table name total file) k read) l e

-- what follows from a fact does so unless there is an excuse
unless : {P Q : Type 0} (excused : Bool) → (P → Q) → Unless excused P → Unless excused Q
unless true so h = tt
unless false so h = so h

-- a file that is not read stops the others
stop : (files : Entries) (table : CatalogTable) (names : List (List ℕ)) (before i : ℕ) (rows : List (List (List Value))) (total : ℕ) (name : List ℕ) (why : LoadFault)
    → ReadUpTo files table names before i rows total → NotRead files table name total why → i < length names → name ≡ get_or names i name
    → NotAllRead files table names before why
stop files table names before i rows total name why prior wrong l e parts have = unless (is_excuse why) stops (wrong x.1 at.2)
  where
    r : AreRead table before parts i rows total
    r = prior parts have

    at : (i < length parts) × ((get_or parts i (name, [])).0 ≡ name) × (content_of files (path_of table.location name) ≡ Some (get_or parts i (name, [])).1)
    at = part_held files table.location names parts i name have l e

    x : DataFile
    x = get_or parts i (name, [])

    stops : FileCause table.form.separator total (name, x.1) why → StopsAt table.form.separator before parts why
    stops cause = record {
      front = take i parts;
      file = (name, x.1);
      others = drop (suc i) parts;
      are = sym (take-append-drop i parts) ∙ ap (λ (ys : List DataFile). take i parts ++ ys) (drop-cons parts i (name, []) at.0)
          ∙ ap (λ (n : List ℕ). take i parts ++ (n, x.1) ∷ drop (suc i) parts) at.1;
      good = r.good;
      cause = rw r.sum at cause;
    }

pub stop_told : (told now : Option Entries) (table : CatalogTable) (names : List (List ℕ)) (before i : ℕ) (rows : List (List (List Value))) (total : ℕ) (name : List ℕ) (why : LoadFault)
    → KeepsFiles told now → WhereTold told (λ files. ReadUpTo files table names before i rows total) → WhereTold now (λ files. NotRead files table name total why)
    → i < length names → name ≡ get_or names i name → WhereTold told (λ files. NotAllRead files table names before why)
stop_told None now table names before i rows total name why k prior wrong l e = tt
stop_told (Some files) now table names before i rows total name why k prior wrong l e =
    stop files table names before i rows total name why prior (told_before files now (λ f. NotRead f table name total why) k wrong) l e

-- want of memory tells nothing of the files
pub no_memory_stops : (told : Option Entries) (table : CatalogTable) (names : List (List ℕ)) (before : ℕ) (why : LoadFault) → why ≡ fault.Memory
    → WhereTold told (λ files. NotAllRead files table names before why)
no_memory_stops None table names before why e = tt
no_memory_stops (Some files) table names before why e = λ parts have. rw e tt

-- one wide file more
pub wide_more : (width : ℕ) (rows : List (List (List Value))) (file : List (List Value)) → All (AreWide width) rows → AreWide width file → All (AreWide width) (rows ++ file ∷ [])
wide_more width [] file h w zero d l = w
wide_more width [] file h w (suc k) d l = absurd (omega (arith, l))
wide_more width (r ∷ rs) file h w zero d l = h 0 d (omega arith)
wide_more width (r ∷ rs) file h w (suc k) d l = wide_more width rs file (λ j e m. h (suc j) e (omega (arith, m))) w k d (omega (arith, l))

-- the names of data files are held
held_names : (files : Entries) (folder : List ℕ) (names : List (List ℕ)) → AreDataNames files folder names
    → (parts : List DataFile) × HaveNames files folder names parts
held_names files folder names are = contents files folder names (λ name k. ((are.each name).0 k).held.0)

take_all : {X : Type 0} (xs : List X) (n : ℕ) → n ≡ length xs → take n xs ≡ xs
take_all xs n e = rw e (take_length xs)
  where
    take_length : {Y : Type 0} (ys : List Y) → take (length ys) ys ≡ ys
    take_length [] = refl
    take_length (y ∷ ys) = ap (λ zs. y ∷ zs) (take_length ys)

pub names_length : (parts : List DataFile) → length (names_of parts) ≡ length parts
names_length [] = refl
names_length (x ∷ xs) = ap suc (names_length xs)

-- all files are read, and so is the table
table_of : (files : Entries) (table : CatalogTable) (names : List (List ℕ)) (before bytes : ℕ) (rows : List (List (List Value))) (loaded : Table)
    → IsFolder files table.location → AreDataNames files table.location names → length names ≤ files_limit
    → ReadUpTo files table names before (length names) rows (before + bytes)
    → loaded.files ≡ or_one_empty rows → loaded.bytes ≡ bytes → IsTableOf files table before loaded
table_of files table names before bytes rows loaded there are few read is size = by (held_names files table.location names are)
  where
    by : ((parts : List DataFile) × HaveNames files table.location names parts) → IsTableOf files table before loaded
    by (parts, have) =
        let r = read parts have in
        let count : length names ≡ length parts = ap length (sym have.named) ∙ names_length parts in
        let all = take_all parts (length names) count in
        let made = rw all at r.made in
        let sum : before + bytes ≡ before + bytes_of parts = rw all at r.sum in
        record {
          there = there;
          parts = parts;
          are = record { names = rw have.named are; held = have.held };
          few = omega (arith, count, few);
          good = rw all at r.good;
          rows = is ∙ ap or_one_empty made;
          bytes = omega (arith, sum, size);
        }

pub table_told : (told now : Option Entries) (table : CatalogTable) (names : List (List ℕ)) (before bytes : ℕ) (rows : List (List (List Value))) (loaded : Table)
    → KeepsFiles told now → WhereTold told (λ files. IsFolder files table.location) → WhereTold told (λ files. AreDataNames files table.location names)
    → length names ≤ files_limit → WhereTold now (λ files. ReadUpTo files table names before (length names) rows (before + bytes))
    → loaded.files ≡ or_one_empty rows → loaded.bytes ≡ bytes → WhereTold told (λ files. IsTableOf files table before loaded)
table_told None now table names before bytes rows loaded k there are few read is size = tt
table_told (Some files) now table names before bytes rows loaded k there are few read is size =
    table_of files table names before bytes rows loaded there are few
    (told_before files now (λ f. ReadUpTo f table names before (length names) rows (before + bytes)) k read) is size

-- a file that stops the others refuses the table
cause_of : (files : Entries) (table : CatalogTable) (names : List (List ℕ)) (before : ℕ) (why : LoadFault) → AreDataNames files table.location names → length names ≤ files_limit
    → NotAllRead files table names before why → LoadCause files table before why
cause_of files table names before why are few stops = by (held_names files table.location names are)
  where
    by : ((parts : List DataFile) × HaveNames files table.location names parts) → LoadCause files table before why
    by (parts, have) = each why (stops parts have)
      where
        bad : (w : LoadFault) → StopsAt table.form.separator before parts w → HasBadFile files table before w
        bad w s =
            let count : length names ≡ length parts = ap length (sym have.named) ∙ names_length parts in
            record { parts = parts; are = record { names = rw have.named are; held = have.held }; few = omega (arith, count, few); stops = s }

        each : (w : LoadFault) → Unless (is_excuse w) (StopsAt table.form.separator before parts w) → LoadCause files table before w
        each fault.Memory h = tt
        each fault.ReadFault h = tt
        each fault.Missing h = absurd h.cause
        each fault.TooManyFiles h = absurd h.cause
        each (fault.TooLong file) h = bad (fault.TooLong file) h
        each fault.TooManyBytes h = bad fault.TooManyBytes h
        each (fault.NotBuilt file) h = bad (fault.NotBuilt file) h

pub cause_told : (told now : Option Entries) (table : CatalogTable) (names : List (List ℕ)) (before : ℕ) (why : LoadFault)
    → KeepsFiles told now → WhereTold told (λ files. AreDataNames files table.location names) → length names ≤ files_limit
    → WhereTold now (λ files. NotAllRead files table names before why) → WhereTold told (λ files. LoadCause files table before why)
cause_told None now table names before why k are few stops = tt
cause_told (Some files) now table names before why k are few stops =
    cause_of files table names before why are few (told_before files now (λ f. NotAllRead f table names before why) k stops)

pub listing_told : (told : Option Entries) (table : CatalogTable) (before : ℕ) (why : LoadFault) → WhereTold told (λ files. NotListed files table why)
    → WhereTold told (λ files. LoadCause files table before why)
listing_told None table before why h = tt
listing_told (Some files) table before why h = h before

pub no_memory_told : (told : Option Entries) (table : CatalogTable) (before : ℕ) (why : LoadFault) → why ≡ fault.Memory → WhereTold told (λ files. LoadCause files table before why)
no_memory_told None table before why e = tt
no_memory_told (Some files) table before why e = rw e tt

-- a table has one file at least, and all are wide
pub shaped : (width : ℕ) (rows : List (List (List Value))) (loaded : Table) → loaded.files ≡ or_one_empty rows → length rows ≤ files_limit → All (AreWide width) rows → IsShaped width loaded
shaped width [] loaded is few wide = record {
  some = rw is (omega arith);
  few = rw is (omega arith);
  wide = rw is one;
}
  where
    one : All (AreWide width) ([] ∷ [])
    one zero d l = λ k e m. absurd (omega (arith, m))
    one (suc k) d l = absurd (omega (arith, l))
shaped width (r ∷ rs) loaded is few wide = record { some = rw is (omega arith); few = rw is few; wide = rw is wide }

-- files that stay over two steps stay
pub keeps_through : (a b c : Option Entries) → KeepsFiles a b → KeepsFiles b c → KeepsFiles a c
keeps_through None b c h k = tt
keeps_through (Some files) b c h k = rw h at k
