-- A piece has at least one byte and stands within the bytes that it begins, and so does a fault.
use Rattle.std.proofs.Common.{ℕ, zero, suc, ◌≡◌, ◌<◌, ◌≤◌, ◌+◌, ◌-◌, ◌==◌, Bool, true, false, Option, Some, None, List, [], ◌∷◌, length, drop, take, get_or, refl, sym, subst, ap, ◌∙◌, arith}
use Rattle.std.specs.Prelude.{if◌then◌else◌, slice_index, nat_le}
use Rattle.std.specs.List.{prefix_len}
use Rattle.std.proofs.Math.ListN.{get_or-eq_default}
use Rattle.std.proofs.lemmas.Bool.Decides.{nat_tests}
use Rattle.std.proofs.lemmas.List.{length-drop, length-take-le, drop-drop}
use Rattle.std.proofs.lemmas.List.Sums.{prefix_len-le-length}
use Rattle.aqe_lexer.specs.declared.front.Front.{Front}
use Rattle.aqe_lexer.specs.declared.front.Front.TheVariants as front
use Rattle.aqe_lexer.specs.declared.piece.Piece.{Piece}
use Rattle.aqe_lexer.specs.declared.piece.Piece.TheVariants as piece
use Rattle.aqe_lexer.specs.Bytes.{front_of, is_in_line, is_word_byte, is_pair}
use Rattle.aqe_lexer.specs.Numbers.{run_of, is_number, number_value, number_limit}
use Rattle.aqe_lexer.specs.Parts.{Passes, step_by, string_end, name_end, comment_step, comment_end}
use Rattle.aqe_lexer.specs.Parts.Passes.{here, next}
use Rattle.aqe_lexer.specs.Pieces.{Begins, Fits, symbol_of}
use Rattle.aqe_lexer.specs.Symbols.{symbol_len, is_three, is_two, is_one}

-- the piece has at least one byte and is within n bytes, or its fault is
abbrev pub IsWithin : ℕ → Piece → Type 0
IsWithin n (piece.Gap len) = (0 < len) × (len ≤ n)
IsWithin n (piece.Cut kind len) = (0 < len) × (len ≤ n)
IsWithin n (piece.Bad fault far) = far ≤ n

-- a choice of two values has what each has where it is chosen
pub if_has : {X : Type 0} (P : X → Type 0) (b : Bool) (x left right : X) → x ≡ (if b then left else right)
    → (b ≡ true → P left) → (b ≡ false → P right) → P x
if_has P true x left right e on off = subst P (sym e) (on refl)
if_has P false x left right e on off = subst P (sym e) (off refl)

-- a byte that is not 0 is one of the bytes
pub stands : (bytes : List ℕ) (i : ℕ) → 0 < slice_index bytes i → i < length bytes
stands bytes i some =
    let past : length bytes ≤ i → get_or bytes i 0 ≡ 0 = λ h. get_or-eq_default bytes 0 h in
    grind (arith, past, some)

-- what is left behind one part
part_tail : (part : List ℕ → ℕ) (s t : List ℕ) → step_by part s ≡ Some t → t ≡ drop (part s) s
part_tail part s t e =
    let P : Option (List ℕ) → Type 0 = λ o. o ≡ Some t → t ≡ drop (part s) s in
    if_has P (part s == 0) (step_by part s) None (Some (drop (part s) s)) refl (λ _ h. cc) (λ _ h. cc) e

-- what is left behind parts is a tail
pub tail_of : (part : List ℕ → ℕ) (s t : List ℕ) → Passes (step_by part) s t
    → (n : ℕ) × (t ≡ drop n s)
tail_of part _ _ (here s) = (0, refl)
tail_of part _ _ (next s t u e p) =
    let more = tail_of part t u p in
    let left : t ≡ drop (part s) s = part_tail part s t e in
    (part s + more.0, more.1 ∙ (ap (drop more.0) left ∙ drop-drop more.0 (part s) s))

pub tail_shorter : (part : List ℕ → ℕ) (s t : List ℕ) → Passes (step_by part) s t → length t ≤ length s
tail_shorter part s t p =
    let tail = tail_of part s t p in
    rw tail.1 (omega (arith, length-drop tail.0 s))

-- a step in a comment leaves no more than it was given
comment_step_shorter : (s t : ℕ × List ℕ) → comment_step s ≡ Some t → length t.1 ≤ length s.1
comment_step_shorter s t e =
    let P : Option (ℕ × List ℕ) → Type 0 = λ o. o ≡ Some t → length t.1 ≤ length s.1 in
    let gone : (d n : ℕ) → Some (d, drop n s.1) ≡ Some t → length t.1 ≤ length s.1 =
    λ d n h. let is : t ≡ (d, drop n s.1) = cc in rw is (omega (arith, length-drop n s.1)) in
    if_has P (length s.1 == 0) (comment_step s) None _ refl (λ _ h. absurd cc)
    (λ _. if_has P (is_pair 42 47 s.1) _ _ _ refl
    (λ _. if_has P (s.0 == 1) _ None _ refl (λ _ h. absurd cc) (λ _ h. gone _ 2 h))
    (λ _. if_has P (is_pair 47 42 s.1) _ _ _ refl (λ _ h. gone _ 2 h) (λ _ h. gone _ 1 h))) e

pub comment_shorter : (s t : ℕ × List ℕ) → Passes comment_step s t → length t.1 ≤ length s.1
comment_shorter _ _ (here s) = omega arith
comment_shorter _ _ (next s t u e p) =
    omega (arith, comment_step_shorter s t e, comment_shorter t u p)

-- where a comment stops, there is nothing, or `*/`
comment_stop : (s : ℕ × List ℕ) → comment_step s ≡ None → (length s.1 == 0) ≡ false → 2 ≤ length s.1
comment_stop s e some =
    let P : Option (ℕ × List ℕ) → Type 0 = λ o. o ≡ None → 2 ≤ length s.1 in
    if_has P (length s.1 == 0) (comment_step s) None _ refl (λ h _. absurd (cc (h, some)))
    (λ _. if_has P (is_pair 42 47 s.1) _ _ _ refl
    (λ pair _. let second : 0 < slice_index s.1 1 = grind (arith, nat_tests, pair) in
    omega (arith, stands s.1 1 second))
    (λ _. if_has P (is_pair 47 42 s.1) _ _ _ refl (λ _ h. absurd cc) (λ _ h. absurd cc))) e

starts_line : (bytes : List ℕ) → front_of bytes ≡ front.Line → is_in_line (slice_index bytes 0) ≡ true
starts_line bytes e = grind (arith, nat_tests)

pub starts_word : (bytes : List ℕ) → front_of bytes ≡ front.Word → is_word_byte (slice_index bytes 0) ≡ true
starts_word bytes e = grind (arith, nat_tests)

pub starts_run : (bytes : List ℕ) → front_of bytes ≡ front.Run → is_word_byte (slice_index bytes 0) ≡ true
starts_run bytes e = grind (arith, nat_tests)

starts_comment : (bytes : List ℕ) → front_of bytes ≡ front.Comment → 0 < slice_index bytes 1
starts_comment bytes e = grind (arith, nat_tests)

pub some_pass : (p : ℕ → Bool) (bytes : List ℕ) → 0 < length bytes → p (slice_index bytes 0) ≡ true
    → 0 < prefix_len p bytes
some_pass p [] h e = absurd (omega arith)
some_pass p (b ∷ bytes) h e = rw e (omega arith)

symbol_within : (bytes : List ℕ) → 0 < length bytes → symbol_len bytes ≤ length bytes
symbol_within bytes some =
    let P : ℕ → Type 0 = λ n. n ≤ length bytes in
    if_has P (is_three bytes) _ 3 _ refl
    (λ e. let third : 0 < slice_index bytes 2 = grind (arith, nat_tests, e) in
    omega (arith, stands bytes 2 third))
    (λ _. if_has P (is_two bytes) _ 2 _ refl
    (λ e. let second : 0 < slice_index bytes 1 = grind (arith, nat_tests, e) in
    omega (arith, stands bytes 1 second))
    (λ _. if_has P (is_one (slice_index bytes 0)) _ 1 0 refl (λ _. omega arith) (λ _. omega arith)))

symbol_of_within : (k n : ℕ) → k ≤ n → IsWithin n (symbol_of k)
symbol_of_within zero n h = omega arith
symbol_of_within (suc k) n h = (omega arith, h)

run_within : (run : List ℕ) (x : Piece) → 0 < length run → x ≡ run_of run → IsWithin (length run) x
run_within run x some e =
    let P : Piece → Type 0 = λ p. IsWithin (length run) p in
    if_has P (is_number run) x _ _ e
    (λ _. if_has P (nat_le (number_value run) number_limit) _ _ _ refl
    (λ _. (some, omega arith)) (λ _. omega arith))
    (λ _. (some, omega arith))

-- the same of longer bytes
wider : (m n : ℕ) (x : Piece) → m ≤ n → IsWithin m x → IsWithin n x
wider m n (piece.Gap len) h w = (w.0, omega arith)
wider m n (piece.Cut kind len) h w = (w.0, omega arith)
wider m n (piece.Bad fault far) h w = omega arith

string_within : (quote : ℕ) (bytes rest : List ℕ) (x : Piece) → length rest ≤ length bytes
    → x ≡ string_end quote bytes rest → IsWithin (length bytes + 1) x
string_within quote bytes rest x h e =
    let P : Piece → Type 0 = λ p. IsWithin (length bytes + 1) p in
    if_has P (length rest == 0) x _ _ e (λ _. omega arith)
    (λ some. let least : 0 < length rest = grind (arith, nat_tests, some) in
    if_has P (slice_index rest 0 == quote) _ _ _ refl (λ _. (omega arith, omega arith))
    (λ _. if_has P (length rest == 1) _ _ _ refl (λ _. omega arith) (λ _. omega arith)))

name_within : (bytes rest : List ℕ) (x : Piece) → length rest ≤ length bytes
    → x ≡ name_end bytes rest → IsWithin (length bytes + 1) x
name_within bytes rest x h e =
    let P : Piece → Type 0 = λ p. IsWithin (length bytes + 1) p in
    if_has P (length rest == 0) x _ _ e (λ _. omega arith)
    (λ some. let least : 0 < length rest = grind (arith, nat_tests, some) in
    if_has P (length bytes - length rest == 0) _ _ _ refl (λ _. omega arith) (λ _. (omega arith, omega arith)))

comment_within : (bytes : List ℕ) (stop : ℕ × List ℕ) (x : Piece) → length stop.1 ≤ length bytes
    → comment_step stop ≡ None → x ≡ comment_end bytes stop → IsWithin (length bytes + 2) x
comment_within bytes stop x h stuck e =
    let P : Piece → Type 0 = λ p. IsWithin (length bytes + 2) p in
    if_has P (length stop.1 == 0) x _ _ e (λ _. omega arith)
    (λ some. let least : 2 ≤ length stop.1 = comment_stop stop stuck some in (omega arith, omega arith))

fits_within : (f : Front) (bytes : List ℕ) (x : Piece) → 0 < length bytes → front_of bytes ≡ f
    → Fits f bytes x → IsWithin (length bytes) x
fits_within front.Blank bytes x some e fits =
    let P : Piece → Type 0 = λ p. IsWithin (length bytes) p in subst P (sym fits) (omega arith, some)
fits_within front.Line bytes x some e fits =
    let P : Piece → Type 0 = λ p. IsWithin (length bytes) p in
    subst P (sym fits) (some_pass is_in_line bytes some (starts_line bytes e), prefix_len-le-length is_in_line bytes)
fits_within front.Comment bytes x some e fits =
    let two : 1 < length bytes = stands bytes 1 (starts_comment bytes e) in
    wider (length (drop 2 bytes) + 2) (length bytes) x (omega (arith, length-drop 2 bytes))
    (comment_within (drop 2 bytes) fits.stop x (comment_shorter _ _ fits.stops.passes) fits.stops.stuck fits.value)
fits_within front.Word bytes x some e fits =
    let P : Piece → Type 0 = λ p. IsWithin (length bytes) p in
    subst P (sym fits) (some_pass is_word_byte bytes some (starts_word bytes e), prefix_len-le-length is_word_byte bytes)
fits_within front.Run bytes x some e fits =
    let len : ℕ = prefix_len is_word_byte bytes in
    let run : List ℕ = take len bytes in
    let bound : len ≤ length bytes = prefix_len-le-length is_word_byte bytes in
    let is : length run ≡ len = length-take-le len bytes bound in
    let least : 0 < len = some_pass is_word_byte bytes some (starts_run bytes e) in
    wider (length run) (length bytes) x (omega arith) (run_within run x (omega arith) fits)
fits_within front.String bytes x some e fits =
    wider (length (drop 1 bytes) + 1) (length bytes) x (omega (arith, length-drop 1 bytes))
    (string_within _ (drop 1 bytes) fits.stop x (tail_shorter _ _ _ fits.stops.passes) fits.value)
fits_within front.Name bytes x some e fits =
    wider (length (drop 1 bytes) + 1) (length bytes) x (omega (arith, length-drop 1 bytes))
    (name_within (drop 1 bytes) fits.stop x (tail_shorter _ _ _ fits.stops.passes) fits.value)
fits_within front.Symbol bytes x some e fits =
    let P : Piece → Type 0 = λ p. IsWithin (length bytes) p in
    subst P (sym fits) (symbol_of_within (symbol_len bytes) (length bytes) (symbol_within bytes some))

pub begins_within : (bytes : List ℕ) (x : Piece) → Begins bytes x → IsWithin (length bytes) x
begins_within bytes x b = fits_within (front_of bytes) bytes x b.some refl b.fits
