-- What is written is UTF-8.
use Rattle.std.proofs.Common.{ℕ, suc, ◌≡◌, ◌<◌, ◌≤◌, ◌==◌, ◌||◌, Bool, true, false, List, [], ◌∷◌, ◌++◌, length, get_or, IsUtf8, inl, inr, refl, sym, subst, append-nil, arith}
use Rattle.std.specs.Prelude.{nat_lt}
use Rattle.std.specs.List.{flat_map, list_all}
use Rattle.std.proofs.lemmas.Bool.{and_parts, cases_lt}
use Rattle.std.proofs.lemmas.Bool.Decides.{nat_tests}
use Rattle.std.proofs.lemmas.Fmt.{IsAscii-decimal}
use Rattle.std.proofs.lemmas.Str.{IsUtf8-append, IsUtf8-nil, IsUtf8-encode, IsUtf8-from_ascii, encode_ascii, inside_one}
use lib.Utf8.{scalar, scalars, encode, encodes, low_scalar}
use Rattle.aqe_lexer.proofs.Within.{if_has}
use Rattle.aqe_trees.specs.declared.terminal.Key.{Key}
use Rattle.aqe_trees.specs.declared.terminal.Key.TheVariants as k
use Rattle.aqe_trees.specs.declared.terminal.Terminal.{Terminal}
use Rattle.aqe_trees.specs.declared.terminal.Terminal.TheVariants.{Fixed, Name, Literal, Number, Mixed}
use Rattle.aqe_trees.specs.Keywords.{key_text}
use Rattle.aqe_phrases.specs.Texts.{doubled, escaped, name_text, literal_text, long_text, word_of, spaced, text_of_all}
use Rattle.aqe_phrases.specs.Written.{Sound, AllSound}

pub one_ascii : (b : ℕ) → b < 128 → IsUtf8 (b ∷ [])
one_ascii b small = subst IsUtf8 (encode_ascii b small) (IsUtf8-encode b (low_scalar b (omega arith)))

-- bytes outside ASCII stand for themselves, and what stands for another is text
record Keeps (gives : ℕ → List ℕ) : Type 0 where
  high : (b : ℕ) → 128 ≤ b → gives b ≡ b ∷ []
  low : (b : ℕ) → b < 128 → IsUtf8 (gives b)

map_high : (gives : ℕ → List ℕ) → Keeps gives → (xs ys : List ℕ) → ((k : ℕ) → k < length xs → 128 ≤ get_or xs k 0)
    → flat_map gives (xs ++ ys) ≡ xs ++ flat_map gives ys
map_high gives keeps [] ys high = refl
map_high gives keeps (x ∷ xs) ys high =
    rw (keeps.high x (high 0 (omega arith)), map_high gives keeps xs ys (λ k below. high (suc k) (omega arith))) refl

map_chars : (gives : ℕ → List ℕ) → Keeps gives → (cs : List ℕ) → scalars cs ≡ true → IsUtf8 (flat_map gives (encodes cs))
map_chars gives keeps [] e = IsUtf8-nil
map_chars gives keeps (c ∷ cs) e =
    let ok : (scalar c ≡ true) × (scalars cs ≡ true) = and_parts (scalar c) (scalars cs) e in
    let P : List ℕ → Type 0 = λ l. IsUtf8 (flat_map gives (l ++ encodes cs)) in
    elim (cases_lt c 128) [
      | inl small ↦ subst P (sym (encode_ascii c small))
          (IsUtf8-append (gives c) _ (keeps.low c small) (map_chars gives keeps cs ok.1))
      | inr big ↦
          let high : (k : ℕ) → k < length (encode c) → 128 ≤ get_or (encode c) k 0 = λ k below.
          elim (cases_lt (get_or (encode c) k 0) 128) [
            | inl low ↦ absurd (omega (arith, inside_one c [] (encode c) k (sym (append-nil _)) below low))
            | inr h ↦ h
          ] in
          subst IsUtf8 (sym (map_high gives keeps (encode c) (encodes cs) high))
          (IsUtf8-append (encode c) _ (IsUtf8-encode c ok.0) (map_chars gives keeps cs ok.1))
    ]

map_utf8 : (gives : ℕ → List ℕ) → Keeps gives → (bytes : List ℕ) → IsUtf8 bytes → IsUtf8 (flat_map gives bytes)
map_utf8 gives keeps bytes u = subst (λ l. IsUtf8 (flat_map gives l)) u.1.1 (map_chars gives keeps u.0 u.1.0)

doubled_high : (b : ℕ) → 128 ≤ b → doubled b ≡ b ∷ []
doubled_high b high =
    let P : List ℕ → Type 0 = λ l. l ≡ b ∷ [] in
    if_has P (b == 96) (doubled b) _ _ refl (λ e. absurd (grind (arith, nat_tests, e))) (λ _. refl)

doubled_low : (b : ℕ) → b < 128 → IsUtf8 (doubled b)
doubled_low b low =
    if_has IsUtf8 (b == 96) (doubled b) _ _ refl
    (λ _. IsUtf8-append (96 ∷ []) (96 ∷ []) (one_ascii 96 (omega arith)) (one_ascii 96 (omega arith))) (λ _. one_ascii b low)

escaped_high : (b : ℕ) → 128 ≤ b → escaped b ≡ b ∷ []
escaped_high b high =
    let P : List ℕ → Type 0 = λ l. l ≡ b ∷ [] in
    if_has P (b == 92 || b == 39) (escaped b) _ _ refl (λ e. absurd (grind (arith, nat_tests, e))) (λ _. refl)

escaped_low : (b : ℕ) → b < 128 → IsUtf8 (escaped b)
escaped_low b low =
    if_has IsUtf8 (b == 92 || b == 39) (escaped b) _ _ refl
    (λ _. IsUtf8-append (92 ∷ []) (b ∷ []) (one_ascii 92 (omega arith)) (one_ascii b low)) (λ _. one_ascii b low)

-- a text with one ASCII byte before it and one behind it
between_utf8 : (q : ℕ) (inner : List ℕ) → q < 128 → IsUtf8 inner → IsUtf8 (q ∷ inner ++ q ∷ [])
between_utf8 q inner low u =
    IsUtf8-append (q ∷ []) (inner ++ q ∷ []) (one_ascii q low) (IsUtf8-append inner (q ∷ []) u (one_ascii q low))

pub name_utf8 : (text : List ℕ) (quoted : Bool) → IsUtf8 text → IsUtf8 (name_text text quoted)
name_utf8 text false u = u
name_utf8 text true u =
    between_utf8 96 (flat_map doubled text) (omega arith) (map_utf8 doubled (record { high = doubled_high; low = doubled_low }) text u)

pub literal_utf8 : (text : List ℕ) → IsUtf8 text → IsUtf8 (literal_text text)
literal_utf8 text u =
    between_utf8 39 (flat_map escaped text) (omega arith) (map_utf8 escaped (record { high = escaped_high; low = escaped_low }) text u)

long_utf8 : (long : Bool) → IsUtf8 (long_text long)
long_utf8 true = one_ascii 76 (omega arith)
long_utf8 false = IsUtf8-nil

pub number_utf8 : (value : ℕ) (long : Bool) → value ≤ 9223372036854775808 → IsUtf8 (word_of (Number value long))
number_utf8 value long b =
    IsUtf8-append _ (long_text long) (IsUtf8-from_ascii _ (IsAscii-decimal value (omega arith))) (long_utf8 long)

-- a text of ASCII bytes
pub low_utf8 : (bytes : List ℕ) → list_all (λ b. nat_lt b 128) bytes ≡ true → IsUtf8 bytes
low_utf8 [] e = IsUtf8-nil
low_utf8 (b ∷ bytes) e =
    let both = and_parts (nat_lt b 128) (list_all (λ b. nat_lt b 128) bytes) e in
    let low : b < 128 = grind (arith, nat_tests, both.0) in
    IsUtf8-append (b ∷ []) bytes (one_ascii b low) (low_utf8 bytes both.1)

key_low : (key : Key) → list_all (λ b. nat_lt b 128) (key_text key) ≡ true
key_low k.All = refl
key_low k.And = refl
key_low k.Anti = refl
key_low k.As = refl
key_low k.Asc = refl
key_low k.Between = refl
key_low k.By = refl
key_low k.Case = refl
key_low k.Cast = refl
key_low k.Create = refl
key_low k.Cross = refl
key_low k.Desc = refl
key_low k.Distinct = refl
key_low k.Div = refl
key_low k.Else = refl
key_low k.End = refl
key_low k.False = refl
key_low k.From = refl
key_low k.Full = refl
key_low k.Group = refl
key_low k.Having = refl
key_low k.In = refl
key_low k.Inner = refl
key_low k.Is = refl
key_low k.Join = refl
key_low k.Left = refl
key_low k.Like = refl
key_low k.Limit = refl
key_low k.Not = refl
key_low k.Null = refl
key_low k.Nulls = refl
key_low k.Offset = refl
key_low k.On = refl
key_low k.Or = refl
key_low k.Order = refl
key_low k.Outer = refl
key_low k.Right = refl
key_low k.Select = refl
key_low k.Semi = refl
key_low k.Set = refl
key_low k.Then = refl
key_low k.True = refl
key_low k.Union = refl
key_low k.Using = refl
key_low k.When = refl
key_low k.Where = refl
key_low k.Open = refl
key_low k.Close = refl
key_low k.Comma = refl
key_low k.Dot = refl
key_low k.Semicolon = refl
key_low k.Star = refl
key_low k.Plus = refl
key_low k.Minus = refl
key_low k.Percent = refl
key_low k.Equal = refl
key_low k.DoubleEqual = refl
key_low k.Same = refl
key_low k.NotEqual = refl
key_low k.Less = refl
key_low k.AtMost = refl
key_low k.Greater = refl
key_low k.AtLeast = refl

pub key_utf8 : (key : Key) → IsUtf8 (key_text key)
key_utf8 key = low_utf8 (key_text key) (key_low key)

word_utf8 : (t : Terminal) → Sound t → IsUtf8 (word_of t)
word_utf8 (Fixed key) s = key_utf8 key
word_utf8 (Name text quoted) s = name_utf8 text quoted s.1
word_utf8 (Literal text) s = literal_utf8 text s
word_utf8 (Number value long) s = number_utf8 value long s
word_utf8 Mixed s = absurd s

pub words_utf8 : (words : List Terminal) → AllSound words → IsUtf8 (text_of_all words)
words_utf8 [] s = IsUtf8-nil
words_utf8 (t ∷ words) s =
    IsUtf8-append (spaced t) (text_of_all words) (IsUtf8-append (word_of t) (32 ∷ []) (word_utf8 t s.0) (one_ascii 32 (omega arith))) (words_utf8 words s.1)
