-- The tokens of numbers.
use Rattle.std.proofs.Common.{ℕ, ◌≡◌, ◌<◌, ◌≤◌, ◌+◌, ◌==◌, ◌||◌, Bool, true, false, List, [], ◌∷◌, ◌++◌, length, take, refl, sym, subst, ap, ◌∙◌, length-append, arith}
use Rattle.std.specs.Prelude.{if◌then◌else◌, slice_index, nat_le}
use Rattle.std.specs.Char.{is_ascii_digit}
use Rattle.std.specs.Fmt.{decimal}
use Rattle.std.specs.Int.{IsInRange}
use Rattle.std.specs.List.{prefix_len, list_all}
use Rattle.std.specs.Str.Parse.{AllDigits, digits_value}
use Rattle.std.proofs.lemmas.Bool.{and_parts}
use Rattle.std.proofs.lemmas.Bool.Decides.{nat_tests}
use Rattle.std.proofs.lemmas.Fmt.{decimal_is_IsNumeral}
use Rattle.std.proofs.lemmas.List.{take_at}
use Rattle.std.proofs.lemmas.Str.Parse.{tells_digits}
use Rattle.aqe_lexer.specs.declared.front.Front.TheVariants as front
use Rattle.aqe_lexer.specs.declared.piece.Piece.TheVariants as piece
use Rattle.aqe_lexer.specs.declared.token.TokenKind.TheVariants as kind
use Rattle.aqe_lexer.specs.Bytes.{front_of, is_word_byte}
use Rattle.aqe_lexer.specs.Numbers.{digits_len, number_value, is_long, is_number, number_limit, run_of}
use Rattle.aqe_lexer.specs.Pieces.{Begins, Fits}
use Rattle.aqe_lexer.specs.TokenList.{token_at}
use Rattle.aqe_trees.specs.declared.terminal.Terminal.TheVariants.{Number}
use Rattle.aqe_phrases.specs.Texts.{long_text}
use Rattle.aqe_spell.specs.Tokens.{Gives}
use Rattle.aqe_spell.proofs.Cuts.{text_at, prefix_all}
use Rattle.aqe_spell.proofs.WordTokens.{IsOne, spaced_cut, spaced_at}

digit_passes : (b : ℕ) → IsInRange 48 57 b → (is_ascii_digit b ≡ true) × (is_word_byte b ≡ true)
digit_passes b r = (grind (arith, nat_tests), grind (arith, nat_tests))

digits_pass : (ds : List ℕ) → AllDigits 10 ds → (list_all is_ascii_digit ds ≡ true) × (list_all is_word_byte ds ≡ true)
digits_pass [] a = (refl, refl)
digits_pass (b ∷ ds) a =
    let first = tells_digits.parts b ds a in
    let here = digit_passes b first.0 in let more = digits_pass ds first.1 in
    (rw (here.0, more.0) refl, rw (here.1, more.1) refl)

prefix_of : (p : ℕ → Bool) (xs ys : List ℕ) → list_all p xs ≡ true → prefix_len p (xs ++ ys) ≡ length xs + prefix_len p ys
prefix_of p [] ys e = omega arith
prefix_of p (x ∷ xs) ys e =
    let both = and_parts (p x) (list_all p xs) e in
    rw (both.0, prefix_of p xs ys both.1) (omega arith)

index_at : (xs ys : List ℕ) → slice_index (xs ++ ys) (length xs) ≡ slice_index ys 0
index_at [] ys = refl
index_at (x ∷ xs) ys = index_at xs ys

all_append : (p : ℕ → Bool) (xs ys : List ℕ) → list_all p xs ≡ true → list_all p ys ≡ true → list_all p (xs ++ ys) ≡ true
all_append p [] ys e f = f
all_append p (x ∷ xs) ys e f =
    let both = and_parts (p x) (list_all p xs) e in rw (both.0, all_append p xs ys both.1 f) refl

long_passes : (long : Bool) → (list_all is_word_byte (long_text long) ≡ true) × (prefix_len is_ascii_digit (long_text long) ≡ 0)
long_passes true = (refl, refl)
long_passes false = (refl, refl)

long_size : (long : Bool) → length (long_text long) ≡ (if long then 1 else 0)
long_size true = refl
long_size false = refl

within : (m n : ℕ) → m ≤ n → nat_le m n ≡ true
within m n h = grind (arith, nat_tests)

front_run : (b : ℕ) (bytes : List ℕ) → is_ascii_digit b ≡ true → front_of (b ∷ bytes) ≡ front.Run
front_run b bytes e = grind (arith, nat_tests)

-- digits alone, or with the letter behind them
number_is : (text : List ℕ) (n : ℕ) (long : Bool) → digits_len text ≡ n → is_long text ≡ long
    → length text ≡ n + (if long then 1 else 0) → is_number text ≡ true
number_is text n true e f g =
    let a : (length text == digits_len text) ≡ false = grind (arith, nat_tests) in
    let b : (length text == digits_len text + 1) ≡ true = grind (arith, nat_tests) in
    rw (a, f, b) refl
number_is text n false e f g =
    let a : (length text == digits_len text) ≡ true = grind (arith, nat_tests) in rw a refl

-- what is known of a number's text
record IsNumberText (text : List ℕ) (value : ℕ) (long : Bool) : Type 0 where
  is : is_number text ≡ true
  worth : number_value text ≡ value
  letter : is_long text ≡ long
  word : list_all is_word_byte text ≡ true
  some : 0 < length text
  first : is_ascii_digit (slice_index text 0) ≡ true

first_digit : (ds l : List ℕ) → AllDigits 10 ds → 0 < length ds → is_ascii_digit (slice_index (ds ++ l) 0) ≡ true
first_digit [] l a some = absurd (omega (arith, some))
first_digit (b ∷ ds) l a some = (digit_passes b (tells_digits.parts b ds a).0).0

digits_number : (ds : List ℕ) (value : ℕ) (long : Bool) → AllDigits 10 ds → 0 < length ds → digits_value 10 ds ≡ value
    → IsNumberText (ds ++ long_text long) value long
digits_number ds value long a some e =
    let l : List ℕ = long_text long in let pass = digits_pass ds a in
    let len : digits_len (ds ++ l) ≡ length ds =
    prefix_of is_ascii_digit ds l pass.0 ∙ (ap (λ n. length ds + n) (long_passes long).1 ∙ omega arith) in
    let at : slice_index (ds ++ l) (digits_len (ds ++ l)) ≡ slice_index l 0 = ap (slice_index (ds ++ l)) len ∙ index_at ds l in
    let letter : is_long (ds ++ l) ≡ long =
    ap (λ b. b == 76 || b == 108) at ∙ (elim long as (λ t. (slice_index (long_text t) 0 == 76 || slice_index (long_text t) 0 == 108) ≡ t) [
      | true ↦ refl
      | false ↦ refl
    ]) in
    let size : length (ds ++ l) ≡ length ds + length l = length-append ds l in
    record {
      is = number_is (ds ++ l) (length ds) long len letter (size ∙ ap (λ n. length ds + n) (long_size long));
      worth = ap (λ n. digits_value 10 (take n (ds ++ l))) len ∙ (ap (digits_value 10) (take_at ds l (length ds) refl) ∙ e);
      letter = letter;
      word = all_append is_word_byte ds l pass.1 (long_passes long).0;
      some = omega arith;
      first = first_digit ds l a some;
    }

-- a number begins a text, where a blank ends it
number_begins : (text rest : List ℕ) (value : ℕ) (long : Bool) → IsNumberText text value long → value ≤ number_limit
    → Begins (text ++ 32 ∷ rest) (piece.Cut kind.Number (length text))
number_begins [] rest value long t b = absurd (omega (arith, t.some))
number_begins (x ∷ word) rest value long t b =
    let text : List ℕ = x ∷ word in let bytes : List ℕ = text ++ 32 ∷ rest in
    let run : take (prefix_len is_word_byte bytes) bytes ≡ text =
    ap (λ n. take n bytes) (prefix_all is_word_byte text 32 rest t.word refl) ∙ take_at text (32 ∷ rest) (length text) refl in
    let low : nat_le (number_value text) number_limit ≡ true = within (number_value text) number_limit (omega (arith, t.worth, b)) in
    let made : run_of text ≡ piece.Cut kind.Number (length text) = rw (t.is, low) refl in
    record {
      some = omega arith;
      fits = subst (λ g. Fits g bytes (piece.Cut kind.Number (length text))) (sym (front_run x (word ++ 32 ∷ rest) t.first))
          (sym (ap run_of run ∙ made));
    }

pub number_gives : (value : ℕ) (long : Bool) → value ≤ 9223372036854775808
    → Gives ((decimal value ++ long_text long) ++ 32 ∷ []) (IsOne (Number value long))
number_gives value long b source at rest d =
    let text : List ℕ = decimal value ++ long_text long in
    let numeral = decimal_is_IsNumeral value (omega arith) in
    let t : IsNumberText text value long = digits_number (decimal value) value long numeral.0.1 numeral.0.0 numeral.1 in
    let token = token_at kind.Number at (length text) in
    let is = text_at source text (32 ∷ rest) kind.Number at (spaced_at source text rest at d) in
    record {
      tokens = token ∷ [];
      wanted = record {
        token = token;
        alone = refl;
        is = ap (λ l. Number (number_value l) (is_long l)) is ∙ rw (t.worth, t.letter) refl;
        joins = refl;
      };
      cut = λ more h. spaced_cut kind.Number text rest at more (number_begins text rest value long t b) h;
    }
