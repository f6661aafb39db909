-- A table of the catalog is that of the files, or is refused.
use Rattle.std.proofs.Common.{◌≡◌, ◌⊎◌, inl, inr, ℕ, zero, suc, ◌+◌, ◌≤◌, Bool, true, false, List, [], ◌∷◌, ◌++◌, Option, Some, None, length, refl, sym, ap, subst, ◌∙◌, arith, append_assoc, Contains, cond, option_map, find}
use Rattle.std.specs.Prelude.{All, AllPairs, IsFalse, IsSome}
use Rattle.std.specs.Cmp.Lexicographic.{slice_cmp}
use Rattle.std.specs.Ordering.{nat_cmp}
use Rattle.std.specs.Str.{bytes_eq}
use Rattle.std.specs.declared.cmp.Ordering.{Ordering}
use Rattle.std.specs.declared.cmp.Ordering.TheVariants.{Less, Equal, Greater}
use Rattle.std.proofs.lemmas.Cmp.{nat_list_cmp_total}
use Rattle.std.proofs.lemmas.List.Elements.{All-nil, All-cons}
use Rattle.std.proofs.lemmas.List.Kept.{AllPairs-cons}
use Rattle.std.proofs.lemmas.List.Sums.{sum_by-cons}
use Rattle.std.proofs.lemmas.Map.Text.{is_eq-slice_cmp}
use Rattle.std.proofs.lemmas.Slice.Eq.{bytes_eq-Decides}
use Rattle.aqe_values.specs.Bounds.{text_limit}
use Rattle.aqe_store.specs.Files.{Entries, IsFolder, IsHeld, content_of}
use Rattle.aqe_tables.specs.declared.catalog.CatalogTable.{CatalogTable}
use Rattle.aqe_tables.specs.declared.fault.LoadFault.{LoadFault}
use Rattle.aqe_tables.specs.declared.fault.LoadFault.TheVariants as fault
use Rattle.aqe_tables.specs.declared.loaded.Table.{Table}
use Rattle.aqe_tables.specs.Folder.{AreDataFiles, AreHeld, AreDataNames, DataFile, IsBefore, IsDataFile, bytes_of, names_of, path_of}
use Rattle.aqe_tables.specs.Load.{AreGood, FileCause, HasBadFile, IsGood, IsTableOf, IsUnread, LoadCause, StopsAt, bytes_limit, files_limit, is_excuse, table_rows}
use Rattle.aqe_course.proofs.Surely.{Surely, sure, onwards, holds_or_not}

-- a name in a list, by recursion
In : List ℕ → List (List ℕ) → Type 0
In x [] = ⊥
In x (y ∷ ys) = (x ≡ y) ⊎ In x ys

contained : (x : List ℕ) (xs : List (List ℕ)) → In x xs → Contains xs x
unfolding In
contained x [] h = absurd h
contained x (y ∷ ys) (inl e) = (0, omega arith, sym e)
contained x (y ∷ ys) (inr h) = let more = contained x ys h in (suc more.0, omega (arith, more.1), more.2)

found : (x : List ℕ) (xs : List (List ℕ)) → Contains xs x → In x xs
unfolding In
found x [] h = absurd (omega (arith, h.1))
found x (y ∷ ys) (zero, l, e) = inl (sym e)
found x (y ∷ ys) (suc k, l, e) = inr (found x ys (k, omega (arith, l), e))

-- names that rise
Rising : List (List ℕ) → Type 0
Rising [] = Unit {0}
Rising (x ∷ xs) = ((y : List ℕ) → In y xs → IsBefore x y) × Rising xs

each : (P : List ℕ → Type 0) (xs : List (List ℕ)) → ((y : List ℕ) → In y xs → P y) → All P xs
unfolding In
each P [] h = All-nil P
each P (x ∷ xs) h = All-cons P x xs (h x (inl refl)) (each P xs (λ y k. h y (inr k)))

rising_pairs : (xs : List (List ℕ)) → Rising xs → AllPairs IsBefore xs
unfolding Rising
rising_pairs [] h = λ i j d lt within. absurd (omega (arith, within))
rising_pairs (x ∷ xs) h = AllPairs-cons IsBefore x xs (each (IsBefore x) xs h.0) (rising_pairs xs h.1)

-- a name is put among names that rise
record Put (x : List ℕ) (xs : List (List ℕ)) : Type 0 where
  all : List (List ℕ)
  rise : Rising all
  only : (y : List ℕ) → In y all → (y ≡ x) ⊎ In y xs
  there : In x all
  kept : (y : List ℕ) → In y xs → In y all

put : (x : List ℕ) (xs : List (List ℕ)) → Rising xs → Put x xs
unfolding In Rising
put x [] h = record {
  all = x ∷ [];
  rise = (λ y k. absurd k, tt);
  only = λ y k. k;
  there = inl refl;
  kept = λ y k. absurd k;
}
put x (y ∷ ys) h = by (slice_cmp nat_cmp x y) refl (put x ys h.1)
  where
    by : (o : Ordering) → slice_cmp nat_cmp x y ≡ o → Put x ys → Put x (y ∷ ys)
    by Less e more = record {
      all = x ∷ y ∷ ys;
      rise = (behind, h);
      only = λ z k. k;
      there = inl refl;
      kept = λ z k. inr k;
    }
      where
        behind : (z : List ℕ) → In z (y ∷ ys) → IsBefore x z
        behind z (inl s) = subst (IsBefore x) (sym s) e
        behind z (inr k) = nat_list_cmp_total.trans x y z e (h.0 z k)
    by Equal e more =
        let test : bytes_eq x y ≡ true = sym (is_eq-slice_cmp x y) ∙ rw e refl in
        let same : x ≡ y = (bytes_eq-Decides x y).0 test in
        record {
          all = y ∷ ys;
          rise = h;
          only = λ z k. inr k;
          there = inl same;
          kept = λ z k. k;
        }
    by Greater e more = record {
      all = y ∷ more.all;
      rise = (λ z k. behind z (more.only z k), more.rise);
      only = only;
      there = inr more.there;
      kept = kept;
    }
      where
        before : IsBefore y x
        before = nat_list_cmp_total.antisymm y x ∙ rw e refl

        behind : (z : List ℕ) → (z ≡ x) ⊎ In z ys → IsBefore y z
        behind z (inl s) = subst (IsBefore y) (sym s) before
        behind z (inr k) = h.0 z k

        only : (z : List ℕ) → In z (y ∷ more.all) → (z ≡ x) ⊎ In z (y ∷ ys)
        only z (inl s) = inr (inl s)
        only z (inr k) = past (more.only z k)
          where
            past : (z ≡ x) ⊎ In z ys → (z ≡ x) ⊎ In z (y ∷ ys)
            past (inl s) = inl s
            past (inr k) = inr (inr k)

        kept : (z : List ℕ) → In z (y ∷ ys) → In z (y ∷ more.all)
        kept z (inl s) = inl s
        kept z (inr k) = inr (more.kept z k)

-- those of some names for which P holds, rising
record Chosen (P : List ℕ → Type 0) (xs : List (List ℕ)) : Type 0 where
  all : List (List ℕ)
  rise : Rising all
  are : (y : List ℕ) → In y all → P y
  each_one : (y : List ℕ) → In y xs → P y → In y all

more_chosen : (P : List ℕ → Type 0) (x : List ℕ) (xs : List (List ℕ)) → P x ⊎ (P x → ⊥) → Chosen P xs → Chosen P (x ∷ xs)
unfolding In
more_chosen P x xs (inl p) c =
    let with = put x c.all c.rise in
    record { all = with.all; rise = with.rise; are = λ y k. are y (with.only y k); each_one = each_one }
  where
    are : (y : List ℕ) → (y ≡ x) ⊎ In y c.all → P y
    are y (inl s) = subst P (sym s) p
    are y (inr k) = c.are y k

    each_one : (y : List ℕ) → In y (x ∷ xs) → P y → In y (put x c.all c.rise).all
    each_one y (inl s) q = subst (λ z. In z (put x c.all c.rise).all) (sym s) (put x c.all c.rise).there
    each_one y (inr k) q = (put x c.all c.rise).kept y (c.each_one y k q)
more_chosen P x xs (inr n) c = record { all = c.all; rise = c.rise; are = c.are; each_one = each_one }
  where
    each_one : (y : List ℕ) → In y (x ∷ xs) → P y → In y c.all
    each_one y (inl s) q = absurd (n (subst P s q))
    each_one y (inr k) q = c.each_one y k q

chosen : (P : List ℕ → Type 0) (xs : List (List ℕ)) → Surely (Chosen P xs)
unfolding In Rising
chosen P [] = sure (record { all = []; rise = tt; are = λ y k. absurd k; each_one = λ y k. absurd k })
chosen P (x ∷ xs) = onwards (holds_or_not (P x)) (λ way. onwards (chosen P xs) (λ c. sure (more_chosen P x xs way c)))

-- the names that a folder may have: what paths end in
tails : List ℕ → List (List ℕ)
tails [] = [] ∷ []
tails (c ∷ cs) = (c ∷ cs) ∷ tails cs

tail_in : (front name : List ℕ) → In name (tails (front ++ name))
unfolding In tails
tail_in [] [] = inl refl
tail_in [] (c ∷ cs) = inl refl
tail_in (c ∷ cs) name = inr (tail_in cs name)

in_first : (x : List ℕ) (xs ys : List (List ℕ)) → In x xs → In x (xs ++ ys)
unfolding In
in_first x [] ys h = absurd h
in_first x (y ∷ xs) ys (inl e) = inl e
in_first x (y ∷ xs) ys (inr h) = inr (in_first x xs ys h)

in_second : (x : List ℕ) (xs ys : List (List ℕ)) → In x ys → In x (xs ++ ys)
unfolding In
in_second x [] ys h = h
in_second x (y ∷ xs) ys h = inr (in_second x xs ys h)

all_tails : Entries → List (List ℕ)
all_tails [] = []
all_tails (entry ∷ files) = tails entry.0 ++ all_tails files

held_tail : (files : Entries) (front name : List ℕ) → IsHeld files (front ++ name) → In name (all_tails files)
unfolding In all_tails
held_tail [] front name h = cc h
held_tail (entry ∷ files) front name h = by (bytes_eq entry.0 (front ++ name)) refl h (held_tail files front name)
  where
    by : (b : Bool) → bytes_eq entry.0 (front ++ name) ≡ b → IsSome (option_map (λ e. e.1) (cond b (Some entry) (find (λ e. bytes_eq e.0 (front ++ name)) files)))
        → (IsHeld files (front ++ name) → In name (all_tails files)) → In name (tails entry.0 ++ all_tails files)
    by true e some more =
        let same : entry.0 ≡ front ++ name = (bytes_eq-Decides entry.0 (front ++ name)).0 e in
        in_first name (tails entry.0) (all_tails files) (subst (λ p. In name (tails p)) (sym same) (tail_in front name))
    by false e some more = in_second name (tails entry.0) (all_tails files) (more some)

-- a folder has data names
data_names : (files : Entries) (folder : List ℕ) → Surely ((names : List (List ℕ)) × AreDataNames files folder names)
data_names files folder = onwards (chosen (IsDataFile files folder) (all_tails files)) (λ c. sure (c.all, named c))
  where
    named : (c : Chosen (IsDataFile files folder) (all_tails files)) → AreDataNames files folder c.all
    named c = record {
      each = λ name. (λ h. c.are name (found name c.all h), λ file. contained name c.all (c.each_one name (tail name file) file));
      rising = rising_pairs c.all c.rise;
    }
      where
        tail : (name : List ℕ) → IsDataFile files folder name → In name (all_tails files)
        tail name file = held_tail files (folder ++ 47 ∷ []) name (subst (IsHeld files) (sym (append_assoc folder (47 ∷ []) name)) file.held.0)

-- the files of these names, which are held
parts_of : (files : Entries) (folder : List ℕ) (names : List (List ℕ)) → ((name : List ℕ) → In name names → IsHeld files (path_of folder name))
    → (parts : List DataFile) × (names_of parts ≡ names) × AreHeld files folder parts
unfolding In
parts_of files folder [] h = ([], refl, tt)
parts_of files folder (name ∷ names) h = by (content_of files (path_of folder name)) refl (h name (inl refl)) (parts_of files folder names (λ n k. h n (inr k)))
  where
    by : (o : Option (List ℕ)) → content_of files (path_of folder name) ≡ o → IsSome (content_of files (path_of folder name))
        → ((parts : List DataFile) × (names_of parts ≡ names) × AreHeld files folder parts) → (parts : List DataFile) × (names_of parts ≡ name ∷ names) × AreHeld files folder parts
    by None e some more = let no = rw e at some in cc no
    by (Some bytes) e some (parts, named, held) = ((name, bytes) ∷ parts, ap (λ (ns : List (List ℕ)). name ∷ ns) named, (e, held))

names_count : (parts : List DataFile) → length (names_of parts) ≡ length parts
names_count [] = refl
names_count (part ∷ parts) = ap suc (names_count parts)

before_later : (before : ℕ) (file : DataFile) (others : List DataFile) → before + bytes_of (file ∷ others) ≡ (before + length file.1) + bytes_of others
before_later before file others = let first = sum_by-cons (λ (one : DataFile). length one.1) file others in omega (arith, first)

-- Data files each pass their checks, or one is the first that does not.

abbrev Checked : ℕ → ℕ → List DataFile → Type 0
Checked separator before parts = AreGood separator before parts ⊎ ((why : LoadFault) × IsFalse (is_excuse why) × StopsAt separator before parts why)

stops_first : (separator before : ℕ) (file : DataFile) (others : List DataFile) (why : LoadFault) → FileCause separator before file why → StopsAt separator before (file ∷ others) why
stops_first separator before file others why cause = record {
  front = [];
  file = file;
  others = others;
  are = refl;
  good = tt;
  cause = subst (λ n. FileCause separator n file why) (from before) cause;
}
  where
    from : (n : ℕ) → n ≡ n + bytes_of []
    from n = omega arith

stops_later : (separator before : ℕ) (file : DataFile) (others : List DataFile) (why : LoadFault) → IsGood separator before file.1 → StopsAt separator (before + length file.1) others why
    → StopsAt separator before (file ∷ others) why
stops_later separator before file others why good s = record {
  front = file ∷ s.front;
  file = s.file;
  others = s.others;
  are = ap (λ (fs : List DataFile). file ∷ fs) s.are;
  good = (good, s.good);
  cause = subst (λ n. FileCause separator n s.file why) (sym (before_later before file s.front)) s.cause;
}

checked_later : (separator before : ℕ) (file : DataFile) (others : List DataFile) → IsGood separator before file.1 → Checked separator (before + length file.1) others → Checked separator before (file ∷ others)
checked_later separator before file others good (inl all) = inl (good, all)
checked_later separator before file others good (inr (why, told, s)) = inr (why, told, stops_later separator before file others why good s)

-- a file by itself
OneChecked : ℕ → ℕ → DataFile → Type 0
OneChecked separator before file = IsGood separator before file.1 ⊎ ((why : LoadFault) × IsFalse (is_excuse why) × FileCause separator before file why)

one_checked : (separator before : ℕ) (file : DataFile) → Surely (OneChecked separator before file)
unfolding OneChecked
one_checked separator before file =
    onwards (holds_or_not (length file.1 ≤ text_limit)) (λ fits.
    onwards (holds_or_not (before + length file.1 ≤ bytes_limit)) (λ room.
    onwards (holds_or_not (IsUnread separator file.1)) (λ read. sure (by fits room read))))
  where
    by : (length file.1 ≤ text_limit) ⊎ ((length file.1 ≤ text_limit) → ⊥) → (before + length file.1 ≤ bytes_limit) ⊎ ((before + length file.1 ≤ bytes_limit) → ⊥)
        → IsUnread separator file.1 ⊎ (IsUnread separator file.1 → ⊥) → OneChecked separator before file
    by (inr long) room read = inr (fault.TooLong file.0, refl, (refl, omega (arith, long)))
    by (inl fits) (inr full) read = inr (fault.TooManyBytes, refl, (fits, omega (arith, full)))
    by (inl fits) (inl room) (inl unread) = inr (fault.NotBuilt file.0, refl, (refl, fits, room, unread))
    by (inl fits) (inl room) (inr read) = inl (record { fits = fits; room = room; read = read })

checked : (separator before : ℕ) (parts : List DataFile) → Surely (Checked separator before parts)
unfolding OneChecked
checked separator before [] = sure (inl tt)
checked separator before (file ∷ others) = onwards (one_checked separator before file) (by (checked separator (before + length file.1) others))
  where
    by : Surely (Checked separator (before + length file.1) others) → OneChecked separator before file → Surely (Checked separator before (file ∷ others))
    by more (inl good) = onwards more (λ c. sure (checked_later separator before file others good c))
    by more (inr (why, told, cause)) = sure (inr (why, told, stops_first separator before file others why cause))

-- A table of the files, or the cause why it is none.

abbrev pub TableEnds : Entries → CatalogTable → ℕ → Type 0
TableEnds files table before = ((loaded : Table) × IsTableOf files table before loaded) ⊎ ((why : LoadFault) × IsFalse (is_excuse why) × LoadCause files table before why)

bad_cause : (files : Entries) (table : CatalogTable) (before : ℕ) (why : LoadFault) → IsFalse (is_excuse why) → HasBadFile files table before why → LoadCause files table before why
bad_cause files table before fault.Memory told h = cc
bad_cause files table before fault.ReadFault told h = cc
bad_cause files table before fault.Missing told h = absurd h.stops.cause
bad_cause files table before fault.TooManyFiles told h = absurd h.stops.cause
bad_cause files table before (fault.TooLong name) told h = h
bad_cause files table before fault.TooManyBytes told h = h
bad_cause files table before (fault.NotBuilt name) told h = h

files_end : (files : Entries) (table : CatalogTable) (before : ℕ) (parts : List DataFile) → IsFolder files table.location → AreDataFiles files table.location parts → length parts ≤ files_limit
    → Checked table.form.separator before parts → TableEnds files table before
files_end files table before parts there are few (inl good) = inl (
  record { files = table_rows table.form parts; bytes = bytes_of parts },
  record {
    there = there;
    parts = parts;
    are = are;
    few = few;
    good = good;
    rows = refl;
    bytes = refl;
  },
)
files_end files table before parts there are few (inr (why, told, s)) = inr (why, told, bad_cause files table before why told (record { parts = parts; are = are; few = few; stops = s }))

names_end : (files : Entries) (table : CatalogTable) (before : ℕ) (names : List (List ℕ)) → IsFolder files table.location → AreDataNames files table.location names → Surely (TableEnds files table before)
names_end files table before names there are = onwards (holds_or_not (length names ≤ files_limit)) by
  where
    have : (parts : List DataFile) × (names_of parts ≡ names) × AreHeld files table.location parts
    have = parts_of files table.location names (λ name h. ((are.each name).0 (contained name names h)).held.0)

    by : (length names ≤ files_limit) ⊎ ((length names ≤ files_limit) → ⊥) → Surely (TableEnds files table before)
    by (inr many) = sure (inr (fault.TooManyFiles, refl, (names, are, omega (arith, many))))
    by (inl few) =
        let data_files : AreDataFiles files table.location have.0 = record { names = subst (AreDataNames files table.location) (sym have.1) are; held = have.2 } in
        let some : length have.0 ≤ files_limit = omega (arith, few, names_count have.0, ap length have.1) in
        onwards (checked table.form.separator before have.0) (λ c. sure (files_end files table before have.0 there data_files some c))

pub table_ends : (files : Entries) (table : CatalogTable) (before : ℕ) → Surely (TableEnds files table before)
table_ends files table before = onwards (holds_or_not (IsFolder files table.location)) by
  where
    by : IsFolder files table.location ⊎ (IsFolder files table.location → ⊥) → Surely (TableEnds files table before)
    by (inr gone) = sure (inr (fault.Missing, refl, gone))
    by (inl there) = onwards (data_names files table.location) (λ named. names_end files table before named.0 there named.1)
