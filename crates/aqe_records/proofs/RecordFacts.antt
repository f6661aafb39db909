-- The records that a reader took, one by one, are the records of the text.
use Rattle.std.proofs.Common.{◌≡◌, ℕ, zero, suc, ◌+◌, ◌≤◌, ◌<◌, List, [], ◌∷◌, ◌++◌, length, Bool, true, false, Option, Some, None, refl, sym, ap, arith, ◌∙◌, ◌==◌, ◌&&◌, length-append}
use Rattle.std.specs.Prelude.{if◌then◌else◌, ⊤}
use Rattle.csv.specs.Machine.{Read, step, in_field, start_field, start_record, ends_with, after_end, is_byte, ends_at_end, is_end, fields_after, field_after, next_record}
use Rattle.csv.specs.Reading.{ExplainsRead, Reached, NextIs, ReadsNext, pending_of, records, records_from, source_of, strip_bom, is_bom}
use Rattle.csv.specs.Records.{AllText}
use Rattle.csv.specs.declared.error.ErrorKind.{ErrorKind}
use Rattle.csv.specs.declared.error.ErrorKind.TheVariants as kind
use Rattle.csv.specs.declared.reader.Reader.{Reader}
use Rattle.csv.proofs.ReadFacts.{reached-more}
use Rattle.aqe_values.specs.Bounds.{text_limit}
use Rattle.aqe_records.specs.declared.records.FileFail.TheVariants as fail
use Rattle.std.specs.Prelude.{map}
use Rattle.std.proofs.lemmas.List.{map-append}
use Rattle.aqe_values.specs.declared.schema.Field.{Field}
use Rattle.aqe_values.specs.declared.value.Value.{Value}
use Rattle.aqe_records.specs.FileRows.{IsRefused, data_records, file_config, row_of}
use Rattle.aqe_records.specs.Records.{AreShort, AreTexts, awaits_header, fail_of}
use Rattle.csv.specs.declared.parser.Config.{Config}
use Rattle.csv.specs.declared.parser.Terminator.{Terminator}
use Rattle.csv.specs.declared.parser.Terminator.TheVariants as term
use Rattle.csv.specs.declared.parser.State.{State}
use Rattle.csv.specs.declared.parser.State.TheVariants as st
use Rattle.csv.specs.declared.parser.Action.{Action}
use Rattle.csv.specs.declared.parser.Action.TheVariants as act

-- a step that ends a record leaves a state in which the text may end
abbrev Stops : State × Action → Type 0
Stops p = is_end p.1 ≡ true → ends_at_end p.0 ≡ false

choose : (b : Bool) (p q : State × Action) → Stops p → Stops q → Stops (if b then p else q)
choose true p q f g = f
choose false p q f g = g

no_end : (s : State) → Stops (s, act.Skip)
no_end s e = cc e

copies : (s : State) → Stops (s, act.Copy)
copies s e = cc e

ends : (t : Terminator) (c : ℕ) → Stops (after_end t c, act.EndRecord)
ends (term.Any t) c e = refl
ends term.CRLF c e = by (c == 13)
  where
    by : (b : Bool) → ends_at_end (if b then st.AfterCr else st.StartRecord) ≡ false
    by true = refl
    by false = refl

in_field-stops : (cfg : Config) (c : ℕ) → Stops (in_field cfg c)
in_field-stops cfg c =
    choose (c == cfg.delimiter) (st.StartField, act.EndField) _ (λ e. cc e)
    (choose (ends_with cfg.terminator c) (after_end cfg.terminator c, act.EndRecord) (st.InField, act.Copy) (ends cfg.terminator c) (copies st.InField))

start_field-stops : (cfg : Config) (c : ℕ) → Stops (start_field cfg c)
start_field-stops cfg c = choose (cfg.quoting && (c == cfg.quote)) (st.InQuoted, act.Skip) (in_field cfg c) (no_end st.InQuoted) (in_field-stops cfg c)

start_record-stops : (cfg : Config) (c : ℕ) → Stops (start_record cfg c)
start_record-stops cfg c =
    choose (ends_with cfg.terminator c) (st.StartRecord, act.Skip) _ (no_end st.StartRecord)
    (choose (is_byte cfg.comment c) (st.InComment, act.Skip) (start_field cfg c) (no_end st.InComment) (start_field-stops cfg c))

step-stops : (cfg : Config) (s : State) (c : ℕ) → Stops (step cfg s c)
step-stops cfg st.StartRecord c = start_record-stops cfg c
step-stops cfg st.StartField c = start_field-stops cfg c
step-stops cfg st.InField c = in_field-stops cfg c
step-stops cfg st.InQuoted c =
    choose (cfg.quoting && (c == cfg.quote)) (st.AfterQuote, act.Skip) _ (no_end st.AfterQuote)
    (choose (cfg.quoting && is_byte cfg.escape c) (st.InEscape, act.Skip) (st.InQuoted, act.Copy) (no_end st.InEscape) (copies st.InQuoted))
step-stops cfg st.InEscape c = copies st.InQuoted
step-stops cfg st.AfterQuote c =
    choose (cfg.quoting && cfg.double_quote && (c == cfg.quote)) (st.InQuoted, act.Copy) (in_field cfg c) (copies st.InQuoted) (in_field-stops cfg c)
step-stops cfg st.InComment c = choose (c == 10) (st.StartRecord, act.Skip) (st.InComment, act.Skip) (no_end st.StartRecord) (no_end st.InComment)
step-stops cfg st.AfterCr c = choose (c == 10) (st.StartRecord, act.Skip) (start_record cfg c) (no_end st.StartRecord) (start_record-stops cfg c)

-- each text of a list is at most so long
unfoldable pub Fit : ℕ → List (List ℕ) → Type 0
Fit n [] = ⊤
Fit n (f ∷ fs) = (length f ≤ n) × Fit n fs

fit-none : (n : ℕ) → Fit n []
unfolding Fit
fit-none n = tt

Fit-push : (n : ℕ) (fs : List (List ℕ)) (f : List ℕ) → Fit n fs → length f ≤ n → Fit n (fs ++ f ∷ [])
unfolding Fit
Fit-push n [] f h k = (k, tt)
Fit-push n (g ∷ gs) f h k = (h.0, Fit-push n gs f h.1 k)

fit-after : (n : ℕ) (a : Action) (fs : List (List ℕ)) (f : List ℕ) → Fit n fs → length f ≤ n → Fit n (fields_after a fs f)
fit-after n act.EndField fs f h k = Fit-push n fs f h k
fit-after n act.Skip fs f h k = h
fit-after n act.Copy fs f h k = h
fit-after n act.EndRecord fs f h k = Fit-push n fs f h k

field-grows : (a : Action) (c : ℕ) (f : List ℕ) → length (field_after a c f) ≤ length f + 1
field-grows act.Copy c f = omega (arith, length-append f (c ∷ []))
field-grows act.EndField c f = omega arith
field-grows act.Skip c f = omega arith
field-grows act.EndRecord c f = omega arith

-- what a record that was read tells: it leaves a state in which the text may end, its fields are no longer than the text, and it took a byte unless the text was at its end
record Taken (n : ℕ) (s : State) (xs : List ℕ) (p : Read) : Type 0 where
  stops : ends_at_end p.1 ≡ false
  fit : Fit n p.0
  shorter : length p.2 ≤ length xs
  moved : ends_at_end s ≡ false → length p.2 < length xs

taken : (cfg : Config) (n : ℕ) (s : State) (fields : List (List ℕ)) (field xs : List ℕ) (p : Read)
    → next_record cfg s fields field xs ≡ Some p → Fit n fields → length field + length xs ≤ n → Taken n s xs p
unfolding next_record
taken cfg n s fields field [] p e h k = by (ends_at_end s) refl e
  where
    by : (b : Bool) → ends_at_end s ≡ b → (if b then Some (fields ++ (field ∷ []), st.StartRecord, []) else None) ≡ Some p → Taken n s [] p
    by true same e =
        let is : p ≡ (fields ++ (field ∷ []), st.StartRecord, []) = cc e in
        rw is (record { stops = refl; fit = Fit-push n fields field h (omega arith); shorter = omega arith; moved = λ no. cc (no, same) })
    by false same e = cc e
taken cfg n s fields field (c ∷ rest) p e h k =
    by (is_end (step cfg s c).1) refl e
    (λ next. taken cfg n (step cfg s c).0 (fields_after (step cfg s c).1 fields field) (field_after (step cfg s c).1 c field) rest p next
    (fit-after n (step cfg s c).1 fields field h (omega arith)) (omega (arith, field-grows (step cfg s c).1 c field)))
  where
    by : (b : Bool) → is_end (step cfg s c).1 ≡ b
        → (if b then Some (fields_after (step cfg s c).1 fields field, (step cfg s c).0, rest)
        else next_record cfg (step cfg s c).0 (fields_after (step cfg s c).1 fields field) (field_after (step cfg s c).1 c field) rest) ≡ Some p
        → (next_record cfg (step cfg s c).0 (fields_after (step cfg s c).1 fields field) (field_after (step cfg s c).1 c field) rest ≡ Some p
        → Taken n (step cfg s c).0 rest p)
        → Taken n s (c ∷ rest) p
    by true same e more =
        let is : p ≡ (fields_after (step cfg s c).1 fields field, (step cfg s c).0, rest) = cc e in
        rw is (record { stops = step-stops cfg s c same; fit = fit-after n (step cfg s c).1 fields field h (omega arith); shorter = omega arith; moved = λ _. omega arith })
    by false same e more =
        let next = more e in
        record { stops = next.stops; fit = next.fit; shorter = omega (arith, next.shorter); moved = λ _. omega (arith, next.shorter) }

-- no byte is added where a mark is taken off
pub strip_bom-shorter : (xs : List ℕ) → length (strip_bom xs) ≤ length xs
unfolding strip_bom
strip_bom-shorter [] = omega arith
strip_bom-shorter (a ∷ []) = omega arith
strip_bom-shorter (a ∷ b ∷ []) = omega arith
strip_bom-shorter (a ∷ b ∷ c ∷ rest) = by (is_bom a b c)
  where
    by : (m : Bool) → length (if m then rest else a ∷ b ∷ c ∷ rest) ≤ length (a ∷ b ∷ c ∷ rest)
    by true = omega arith
    by false = omega arith

-- the records reached are the records of the text, once there is no further one
records-from_reached : (cfg : Config) (n : ℕ) (s : State) (xs : List ℕ) (rows : List (List (List ℕ))) (s2 : State) (ys : List ℕ)
    → ends_at_end s ≡ false → length xs < n → Reached cfg s xs rows s2 ys → next_record cfg s2 [] [] ys ≡ None → records_from cfg n s xs ≡ rows
unfolding Reached records_from
records-from_reached cfg zero s xs rows s2 ys q l h e = absurd (omega arith)
records-from_reached cfg (suc n) s xs [] s2 ys q l h e = rw (h.0, h.1, e) refl
records-from_reached cfg (suc n) s xs (r ∷ rs) s2 ys q l (p, found, is, h) e =
    let t = taken cfg (length xs) s [] [] xs p found (fit-none (length xs)) (omega arith) in
    rw (found, is) (ap (λ more. p.0 ∷ more) (records-from_reached cfg n p.1 p.2 rs s2 ys t.stops (omega (arith, t.moved q)) h e))

pub records_reached : (cfg : Config) (xs : List ℕ) (rows : List (List (List ℕ))) (s2 : State) (ys : List ℕ)
    → Reached cfg st.StartRecord xs rows s2 ys → next_record cfg s2 [] [] ys ≡ None → records cfg xs ≡ rows
records_reached cfg xs rows s2 ys h e = records-from_reached cfg (length xs + 1) st.StartRecord xs rows s2 ys refl (omega arith) h e

-- each field of the records reached is no longer than the text, and so is what is left
pub reached_shorter : (cfg : Config) (n : ℕ) (s : State) (xs : List ℕ) (rows : List (List (List ℕ))) (s2 : State) (ys : List ℕ)
    → length xs ≤ n → Reached cfg s xs rows s2 ys → length ys ≤ n
unfolding Reached
reached_shorter cfg n s xs [] s2 ys l h = rw (← h.1) l
reached_shorter cfg n s xs (r ∷ rs) s2 ys l (p, found, is, h) =
    let t = taken cfg (length xs) s [] [] xs p found (fit-none (length xs)) (omega arith) in
    reached_shorter cfg n p.1 p.2 rs s2 ys (omega (arith, t.shorter)) h

-- a read that found a record, at bytes that are known
record Found (cfg : Config) (a : State) (y : List ℕ) (k : Option (List ℕ)) (f : List (List ℕ)) (b : State) : Type 0 where
  read : Read
  next : next_record cfg a [] [] y ≡ Some read
  fields : f ≡ read.0
  state : b ≡ read.1
  left : k ≡ Some read.2

next_found : (o : Option Read) (f : List (List ℕ)) (b : State) (z : List ℕ) → NextIs o true f b z → (p : Read) × (o ≡ Some p) × (f ≡ p.0) × (b ≡ p.1) × (z ≡ p.2)
next_found None f b z n = cc n
next_found (Some p) f b z n = (p, refl, n.1, n.2, n.3)

found : (cfg : Config) (a : State) (y : List ℕ) (k : Option (List ℕ)) (f : List (List ℕ)) (b : State) → ReadsNext cfg a (Some y) k true f b → Found cfg a y k f b
found cfg a y None f b r = absurd r
found cfg a y (Some z) f b r =
    let n = next_found _ f b z r in
    record { read = n.0; next = n.1; fields = n.2; state = n.3; left = ap Some n.4 }

short : (n : ℕ) (fs : List (List ℕ)) → n ≤ text_limit → Fit n fs → AreShort fs
unfolding Fit AreShort
short n [] l h = tt
short n (f ∷ fs) l h = (omega (arith, h.0), short n fs l h.1)

-- the fields of the next record of a file are no longer than a text may be
pub fields_short : (sep : ℕ) (bytes : List ℕ) (read : List (List (List ℕ))) (a : State) (y : List ℕ) (k : Option (List ℕ)) (f : List (List ℕ)) (b : State)
    → length bytes ≤ text_limit → Reached (file_config sep) st.StartRecord (strip_bom bytes) read a y → ReadsNext (file_config sep) a (Some y) k true f b → AreShort f
fields_short sep bytes read a y k f b l h r =
    let n = found (file_config sep) a y k f b r in
    let t = taken (file_config sep) (length y) a [] [] y n.read n.next (fit-none (length y)) (omega arith) in
    let room : length y ≤ text_limit = reached_shorter (file_config sep) text_limit st.StartRecord (strip_bom bytes) read a y (omega (arith, strip_bom-shorter bytes)) h in
    rw n.fields (short (length y) n.read.0 room t.fit)

-- a record that is no text refuses the file
pub refused_at : (sep : ℕ) (bytes : List ℕ) (read : List (List (List ℕ))) (a : State) (y : List ℕ) (k : Option (List ℕ)) (f : List (List ℕ)) (b : State)
    → Reached (file_config sep) st.StartRecord (strip_bom bytes) read a y → ReadsNext (file_config sep) a (Some y) k true f b → ¬ (AllText f) → IsRefused sep bytes
refused_at sep bytes read a y k f b h r wrong =
    let n = found (file_config sep) a y k f b r in
    let more = reached-more (file_config sep) st.StartRecord a (strip_bom bytes) y read n.read h n.next in
    record { before = read; fields = n.read.0; state = n.read.1; rest = n.read.2; reached = more; no_text = rw n.fields at wrong }

-- an error that refuses the file has its cause in the file
pub refused_cause : {R : Type 0} (rem : R → Option (List ℕ)) (old new : Reader R) (sep : ℕ) (bytes : List ℕ) (read : List (List (List ℕ))) (left : List ℕ) (why : ErrorKind)
    → old.config ≡ file_config sep → old.flexible ≡ true → source_of rem old ≡ Some left
    → Reached (file_config sep) st.StartRecord (strip_bom bytes) read old.state left
    → ExplainsRead rem old new true why → fail_of why ≡ fail.Refused → IsRefused sep bytes
refused_cause rem old new sep bytes read left (kind.Io e) ec ef es h w r = cc r
refused_cause rem old new sep bytes read left kind.OutOfMemory ec ef es h w r = cc r
refused_cause rem old new sep bytes read left (kind.UnequalLengths p x n) ec ef es h w r = let no = w.0 in cc (no, ef)
refused_cause rem old new sep bytes read left (kind.Utf8 p e) ec ef es h w r =
    refused_at sep bytes read old.state left (pending_of (rem new.rdr) new) w.1 new.state h (rw (ec, es) at w.2) w.3
refused_cause rem old new sep bytes read left (kind.Serialize t) ec ef es h w r = absurd w
refused_cause rem old new sep bytes read left (kind.Deserialize p e) ec ef es h w r = absurd w

-- one text record more
pub texts_more : (read : List (List (List ℕ))) (f : List (List ℕ)) → AreTexts read → AllText f → AreTexts (read ++ f ∷ [])
unfolding AreTexts
texts_more [] f h k = (k, tt)
texts_more (r ∷ rs) f h k = (h.0, texts_more rs f h.1 k)

-- a record that is reached is among all records of the text
reached_text : (cfg : Config) (s : State) (xs : List ℕ) (before : List (List (List ℕ))) (f : List (List ℕ)) (s3 : State) (zs : List ℕ)
    (read : List (List (List ℕ))) (s2 : State) (ys : List ℕ)
    → Reached cfg s xs (before ++ f ∷ []) s3 zs → Reached cfg s xs read s2 ys → next_record cfg s2 [] [] ys ≡ None → AreTexts read → AllText f
unfolding Reached AreTexts
reached_text cfg s xs [] f s3 zs [] s2 ys (p, e, is, h) k none t = let some = rw (k.0, k.1) at e in cc (some, none)
reached_text cfg s xs [] f s3 zs (r ∷ rs) s2 ys (p, e, is, h) (q, g, at, k) none t =
    let same : p ≡ q = cc (e, g) in
    let one : f ≡ r = is ∙ ap (λ (x : Read). x.0) same ∙ sym at in
    rw one t.0
reached_text cfg s xs (b ∷ bs) f s3 zs [] s2 ys (p, e, is, h) k none t = let some = rw (k.0, k.1) at e in cc (some, none)
reached_text cfg s xs (b ∷ bs) f s3 zs (r ∷ rs) s2 ys (p, e, is, h) (q, g, at, k) none t =
    let same : p ≡ q = cc (e, g) in
    reached_text cfg q.1 q.2 bs f s3 zs rs s2 ys (rw same at h) k none t.1

-- where all records are text, the file is not refused
pub all_taken : (sep : ℕ) (bytes : List ℕ) (read : List (List (List ℕ))) (s2 : State) (ys : List ℕ)
    → Reached (file_config sep) st.StartRecord (strip_bom bytes) read s2 ys → next_record (file_config sep) s2 [] [] ys ≡ None → AreTexts read → ¬ (IsRefused sep bytes)
all_taken sep bytes read s2 ys h none t r =
    r.no_text (reached_text (file_config sep) st.StartRecord (strip_bom bytes) r.before r.fields r.state r.rest read s2 ys r.reached h none t)

-- one record more behind those that were read
pub data_more : (header : Bool) (read : List (List (List ℕ))) (f : List (List ℕ))
    → data_records header (read ++ f ∷ []) ≡ (if awaits_header header read then data_records header read else data_records header read ++ f ∷ [])
data_more false [] f = refl
data_more false (r ∷ rs) f = refl
data_more true [] f = refl
data_more true (r ∷ rs) f = refl

-- and none is awaited any more
pub awaited_more : (header : Bool) (read : List (List (List ℕ))) (f : List (List ℕ)) → awaits_header header (read ++ f ∷ []) ≡ false
awaited_more header [] f = refl
awaited_more header (r ∷ rs) f = refl

-- the rows of one record more
pub rows_added : (columns : List Field) (header awaited : Bool) (read : List (List (List ℕ))) (f : List (List ℕ)) (old new : List (List Value))
    → old ≡ map (row_of columns) (data_records header read) → awaited ≡ awaits_header header read
    → new ≡ (if awaited then old else old ++ row_of columns f ∷ []) → new ≡ map (row_of columns) (data_records header (read ++ f ∷ []))
rows_added columns header true read f old new e a n = rw (data_more header read f, ← a) (n ∙ e)
rows_added columns header false read f old new e a n =
    rw (data_more header read f, ← a) (n ∙ ap (λ (xs : List (List Value)). xs ++ row_of columns f ∷ []) e ∙ sym (map-append (row_of columns) (data_records header read) (f ∷ [])))

-- no record gives no row
pub no_rows : (f : List (List ℕ) → List Value) (header : Bool) → [] ≡ map f (data_records header [])
no_rows f false = refl
no_rows f true = refl
