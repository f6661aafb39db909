-- What is known of a token, by the bytes with which it begins.
use Rattle.std.proofs.Common.{ℕ, ◌≡◌, ◌<◌, ◌≤◌, ◌+◌, ◌-◌, ◌==◌, Bool, true, false, Option, Some, None, List, length, drop, take, get_or, refl, sym, subst, ap, ◌∙◌, arith}
use Rattle.std.specs.Prelude.{slice_index, nat_le}
use Rattle.std.specs.List.{prefix_len, AllPass}
use Rattle.std.proofs.lemmas.Bool.Decides.{nat_tests}
use Rattle.std.proofs.lemmas.List.{length-drop, length-take, length-take-le, get_or-drop, get_or-take}
use Rattle.std.proofs.lemmas.List.Sums.{prefix_len-le-length, prefix_len_passes}
use Rattle.aqe_lexer.specs.declared.front.Front.{Front}
use Rattle.aqe_lexer.specs.declared.front.Front.TheVariants as front
use Rattle.aqe_lexer.specs.declared.piece.Piece.{Piece}
use Rattle.aqe_lexer.specs.declared.piece.Piece.TheVariants as piece
use Rattle.aqe_lexer.specs.declared.token.TokenKind.{TokenKind}
use Rattle.aqe_lexer.specs.declared.token.TokenKind.TheVariants as kind
use Rattle.aqe_lexer.specs.Bytes.{front_of, is_word_byte}
use Rattle.aqe_lexer.specs.Numbers.{run_of, is_number, number_value, number_limit}
use Rattle.aqe_lexer.specs.Parts.{Passes, step_by, string_part, string_end, name_part, name_end}
use Rattle.aqe_lexer.specs.Pieces.{Begins, Fits, symbol_of}
use Rattle.aqe_lexer.specs.Symbols.{symbol_len, is_three, is_two, is_one}
use Rattle.aqe_lexer.proofs.Within.{if_has, tail_of, tail_shorter, starts_word, starts_run, some_pass}

-- what is known of a token's text alone
abbrev pub IsKnownText : TokenKind → List ℕ → Type 0
IsKnownText kind.Word text = AllPass is_word_byte text
IsKnownText kind.Quoted text = 2 < length text
IsKnownText kind.Literal text = 1 < length text
IsKnownText kind.Number text = (is_number text ≡ true) × (number_value text ≤ number_limit)
IsKnownText kind.Mixed text = is_number text ≡ false
IsKnownText kind.Symbol text = length text ≤ 3

-- a token begins and ends with an ASCII byte, and its text is known
pub record IsSound (bytes : List ℕ) (kind : TokenKind) (len : ℕ) : Type 0 where
  pub first : get_or bytes 0 0 < 128
  pub last : get_or bytes (len - 1) 0 < 128
  pub text : IsKnownText kind (take len bytes)

abbrev pub Sound : List ℕ → Piece → Type 0
Sound bytes (piece.Gap len) = Unit {0}
Sound bytes (piece.Cut kind len) = IsSound bytes kind len
Sound bytes (piece.Bad fault far) = Unit {0}

prefix_passes : (p : ℕ → Bool) (bytes : List ℕ) → AllPass p (take (prefix_len p bytes) bytes)
prefix_passes p bytes k d below =
    let len : length (take (prefix_len p bytes) bytes) ≡ prefix_len p bytes =
    length-take-le (prefix_len p bytes) bytes (prefix_len-le-length p bytes) in
    let inside : k < prefix_len p bytes = omega arith in
    rw (get_or-take (prefix_len p bytes) bytes k d inside) (prefix_len_passes p bytes k d inside)

word_ascii : (b : ℕ) → is_word_byte b ≡ true → b < 128
word_ascii b e = grind (arith, nat_tests)

-- a run that is not empty is made of ASCII bytes
run_ends : (bytes : List ℕ) (len : ℕ) → 0 < len → len ≤ prefix_len is_word_byte bytes
    → (get_or bytes 0 0 < 128) × (get_or bytes (len - 1) 0 < 128)
run_ends bytes len some h = (
  word_ascii _ (prefix_len_passes is_word_byte bytes 0 0 (omega arith)),
  word_ascii _ (prefix_len_passes is_word_byte bytes (len - 1) 0 (omega arith)),
)

string_front : (bytes : List ℕ) → front_of bytes ≡ front.String → slice_index bytes 0 < 128
string_front bytes e = grind (arith, nat_tests)

name_front : (bytes : List ℕ) → front_of bytes ≡ front.Name → slice_index bytes 0 < 128
name_front bytes e = grind (arith, nat_tests)

-- no part stands where there is no step
part_stops : (part : List ℕ → ℕ) (s : List ℕ) → step_by part s ≡ None → part s ≡ 0
part_stops part s stuck =
    let P : Option (List ℕ) → Type 0 = λ o. o ≡ None → part s ≡ 0 in
    if_has P (part s == 0) (step_by part s) None (Some (drop (part s) s)) refl
    (λ t _. grind (arith, nat_tests, t)) (λ _ h. absurd cc) stuck

name_closes : (rest : List ℕ) → name_part rest ≡ 0 → 0 < length rest → slice_index rest 0 ≡ 96
name_closes rest e some = grind (arith, nat_tests)

-- what is left behind parts begins with the byte behind those that were read
closing : (part : List ℕ → ℕ) (bytes inner rest : List ℕ) → inner ≡ drop 1 bytes
    → Passes (step_by part) inner rest → 0 < length rest
    → get_or bytes (length inner - length rest + 2 - 1) 0 ≡ get_or rest 0 0
closing part bytes inner rest is passes some =
    let tail = tail_of part inner rest passes in
    let read : length inner - length rest ≡ tail.0 = omega (arith, ap length tail.1, length-drop tail.0 inner) in
    let place : length inner - length rest + 2 - 1 ≡ 1 + tail.0 = omega arith in
    let left : rest ≡ drop tail.0 (drop 1 bytes) = tail.1 ∙ ap (drop tail.0) is in
    let here : get_or (drop tail.0 (drop 1 bytes)) 0 0 ≡ get_or bytes (1 + tail.0) 0 =
    get_or-drop tail.0 (drop 1 bytes) 0 0 ∙ (get_or-drop 1 bytes (tail.0 + 0) 0
    ∙ ap (λ i. get_or bytes i 0) (omega arith)) in
    ap (λ i. get_or bytes i 0) place ∙ (sym here ∙ ap (λ l. get_or l 0 0) (sym left))

-- the text of a token has as many bytes as the token
text_len : (bytes : List ℕ) (read : ℕ) (inner rest : List ℕ) → inner ≡ drop 1 bytes → 0 < length bytes
    → read ≡ length inner - length rest → 0 < length rest → length rest ≤ length inner
    → length (take (read + 2) bytes) ≡ read + 2
text_len bytes read inner rest is some e more shorter =
    length-take-le (read + 2) bytes (omega (arith, e, ap length is, length-drop 1 bytes))

symbol_sound : (bytes : List ℕ) → 0 < length bytes → Sound bytes (symbol_of (symbol_len bytes))
symbol_sound bytes some =
    let P : ℕ → Type 0 = λ n. Sound bytes (symbol_of n) in
    if_has P (is_three bytes) (symbol_len bytes) 3 _ refl
    (λ e. record {
      first = grind (arith, nat_tests, e);
      last = grind (arith, nat_tests, e);
      text = omega (arith, length-take 3 bytes);
    })
    (λ _. if_has P (is_two bytes) _ 2 _ refl
    (λ e. record {
      first = grind (arith, nat_tests, e);
      last = grind (arith, nat_tests, e);
      text = omega (arith, length-take 2 bytes);
    })
    (λ _. if_has P (is_one (slice_index bytes 0)) _ 1 0 refl
    (λ e. record {
      first = grind (arith, nat_tests, e);
      last = grind (arith, nat_tests, e);
      text = omega (arith, length-take 1 bytes);
    })
    (λ _. tt)))

run_sound : (bytes : List ℕ) (n : ℕ) (run : List ℕ) (x : Piece) → n ≡ prefix_len is_word_byte bytes
    → run ≡ take n bytes → 0 < n → x ≡ run_of run → Sound bytes x
run_sound bytes n run x count is some e =
    let P : Piece → Type 0 = λ p. Sound bytes p in
    let len : length run ≡ n = ap length is
    ∙ length-take-le n bytes (omega (arith, prefix_len-le-length is_word_byte bytes)) in
    let whole : take (length run) bytes ≡ run = ap (λ k. take k bytes) len ∙ sym is in
    let ends = run_ends bytes (length run) (omega arith) (omega arith) in
    if_has P (is_number run) x _ _ e
    (λ number. if_has P (nat_le (number_value run) number_limit) _ _ _ refl
    (λ fits. let bound : number_value run ≤ number_limit = grind (arith, nat_tests, fits) in
    let Q : List ℕ → Type 0 = λ t. (is_number t ≡ true) × (number_value t ≤ number_limit) in
    record { first = ends.0; last = ends.1; text = subst Q (sym whole) (number, bound) })
    (λ _. tt))
    (λ mixed. let Q : List ℕ → Type 0 = λ t. is_number t ≡ false in
    record { first = ends.0; last = ends.1; text = subst Q (sym whole) mixed })

string_sound : (bytes rest : List ℕ) (x : Piece) → 0 < length bytes → slice_index bytes 0 < 128
    → Passes (step_by (string_part (slice_index bytes 0))) (drop 1 bytes) rest
    → x ≡ string_end (slice_index bytes 0) (drop 1 bytes) rest → Sound bytes x
string_sound bytes rest x some small passes e =
    let P : Piece → Type 0 = λ p. Sound bytes p in
    let quote : ℕ = slice_index bytes 0 in
    let inner : List ℕ = drop 1 bytes in
    if_has P (length rest == 0) x _ _ e (λ _. tt)
    (λ left. let more : 0 < length rest = grind (arith, nat_tests, left) in
    if_has P (slice_index rest 0 == quote) _ _ _ refl
    (λ closes. let end : slice_index rest 0 ≡ quote = grind (arith, nat_tests, closes) in
    record {
      first = small;
      last = omega (arith, closing (string_part quote) bytes inner rest refl passes more, end);
      text = omega (
        arith,
        text_len bytes (length inner - length rest) inner rest refl some refl more
            (tail_shorter _ inner rest passes),
      );
    })
    (λ _. if_has P (length rest == 1) _ _ _ refl (λ _. tt) (λ _. tt)))

name_sound : (bytes rest : List ℕ) (x : Piece) → 0 < length bytes → slice_index bytes 0 < 128
    → Passes (step_by name_part) (drop 1 bytes) rest → step_by name_part rest ≡ None
    → x ≡ name_end (drop 1 bytes) rest → Sound bytes x
name_sound bytes rest x some small passes stuck e =
    let P : Piece → Type 0 = λ p. Sound bytes p in
    let inner : List ℕ = drop 1 bytes in
    if_has P (length rest == 0) x _ _ e (λ _. tt)
    (λ left. let more : 0 < length rest = grind (arith, nat_tests, left) in
    if_has P (length inner - length rest == 0) _ _ _ refl (λ _. tt)
    (λ content. let least : 0 < length inner - length rest = grind (arith, nat_tests, content) in
    let end : slice_index rest 0 ≡ 96 = name_closes rest (part_stops name_part rest stuck) more in
    record {
      first = small;
      last = omega (arith, closing name_part bytes inner rest refl passes more, end);
      text = omega (
        arith,
        text_len bytes (length inner - length rest) inner rest refl some refl more
            (tail_shorter _ inner rest passes),
      );
    }))

fits_sound : (f : Front) (bytes : List ℕ) (x : Piece) → 0 < length bytes → front_of bytes ≡ f
    → Fits f bytes x → Sound bytes x
fits_sound front.Blank bytes x some e fits = let P : Piece → Type 0 = λ p. Sound bytes p in subst P (sym fits) tt
fits_sound front.Line bytes x some e fits = let P : Piece → Type 0 = λ p. Sound bytes p in subst P (sym fits) tt
fits_sound front.Comment bytes x some e fits =
    let P : Piece → Type 0 = λ p. Sound bytes p in
    if_has P (length fits.stop.1 == 0) x _ _ fits.value (λ _. tt) (λ _. tt)
fits_sound front.Word bytes x some e fits =
    let P : Piece → Type 0 = λ p. Sound bytes p in
    let ends = run_ends bytes (prefix_len is_word_byte bytes)
    (some_pass is_word_byte bytes some (starts_word bytes e)) (omega arith) in
    subst P (sym fits) (record { first = ends.0; last = ends.1; text = prefix_passes is_word_byte bytes })
fits_sound front.Run bytes x some e fits =
    run_sound bytes (prefix_len is_word_byte bytes) _ x refl refl
    (some_pass is_word_byte bytes some (starts_run bytes e)) fits
fits_sound front.String bytes x some e fits =
    string_sound bytes fits.stop x some (string_front bytes e) fits.stops.passes fits.value
fits_sound front.Name bytes x some e fits =
    name_sound bytes fits.stop x some (name_front bytes e) fits.stops.passes fits.stops.stuck fits.value
fits_sound front.Symbol bytes x some e fits =
    let P : Piece → Type 0 = λ p. Sound bytes p in subst P (sym fits) (symbol_sound bytes some)

pub begins_sound : (bytes : List ℕ) (x : Piece) → Begins bytes x → Sound bytes x
begins_sound bytes x b = fits_sound (front_of bytes) bytes x b.some refl b.fits
