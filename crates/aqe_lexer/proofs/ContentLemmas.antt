-- Facts on what the content of a token stands for.
use Rattle.std.proofs.Common.{ℕ, suc, ◌≡◌, ◌≤◌, ◌<◌, ◌+◌, ◌==◌, ◌||◌, Bool, true, false, List, [], ◌∷◌, ◌++◌, length, drop, get_or, IsUtf8, inl, inr, refl, sym, subst, ap, ◌∙◌, append_assoc, append-nil, add-one, drop-cons, length-append, arith}
use Rattle.std.specs.Prelude.{if◌then◌else◌}
use Rattle.std.proofs.lemmas.Bool.{and_parts, cases_lt}
use Rattle.std.proofs.lemmas.Bool.Decides.{nat_tests}
use Rattle.std.proofs.lemmas.List.{drop_all}
use Rattle.std.proofs.lemmas.Str.{
  IsUtf8-append,
  IsUtf8-nil,
  IsUtf8-encode,
  encode_ascii,
  inside_one,
  length-encode,
  len_utf8_bounds,
}
use lib.Utf8.{scalar, scalars, encode, encodes, low_scalar}
use Rattle.aqe_lexer.specs.Content.{
  decoded,
  escape_of,
  string_gives,
  string_marks,
  unescape,
  name_gives,
  name_marks,
  undouble,
}
use Rattle.aqe_lexer.proofs.Within.{if_has}

-- one more byte of the content
pub decoded_more : (gives : Bool → ℕ → List ℕ) (marks : Bool → ℕ → Bool) (marked : Bool)
    (bytes done more all : List ℕ) (i : ℕ) → i < length bytes
    → done ++ decoded gives marks marked (drop i bytes) ≡ all
    → more ≡ done ++ gives marked (get_or bytes i 0)
    → more ++ decoded gives marks (marks marked (get_or bytes i 0)) (drop (i + 1) bytes) ≡ all
decoded_more gives marks marked bytes done more all i below so_far step =
    let cons : drop i bytes ≡ get_or bytes i 0 ∷ drop (i + 1) bytes = rw (add-one, drop-cons bytes i 0) refl in
    let split : done ++ (gives marked (get_or bytes i 0)
    ++ decoded gives marks (marks marked (get_or bytes i 0)) (drop (i + 1) bytes)) ≡ all =
    ap (λ l. done ++ decoded gives marks marked l) (sym cons) ∙ so_far in
    rw (step, append_assoc) split

-- What a byte gives is text: a byte outside ASCII gives itself and is no mark, and another gives text.
record Keeps (gives : Bool → ℕ → List ℕ) (marks : Bool → ℕ → Bool) : Type 0 where
  high : (marked : Bool) (b : ℕ) → 128 ≤ b → (gives marked b ≡ b ∷ []) × (marks marked b ≡ false)
  low : (marked : Bool) (b : ℕ) → b < 128 → IsUtf8 (gives marked b)

-- bytes outside ASCII stand for themselves
decoded_high : (gives : Bool → ℕ → List ℕ) (marks : Bool → ℕ → Bool) → Keeps gives marks
    → (marked : Bool) (xs ys : List ℕ) → 0 < length xs
    → ((k : ℕ) → k < length xs → 128 ≤ get_or xs k 0)
    → decoded gives marks marked (xs ++ ys) ≡ xs ++ decoded gives marks false ys
decoded_high gives marks keeps marked [] ys some high = absurd (omega arith)
decoded_high gives marks keeps marked (x ∷ []) ys some high =
    let plain = keeps.high marked x (high 0 (omega arith)) in rw (plain.0, plain.1) refl
decoded_high gives marks keeps marked (x ∷ y ∷ xs) ys some high =
    let plain = keeps.high marked x (high 0 (omega arith)) in
    rw (plain.0, plain.1)
    (ap (λ l. x ∷ l) (decoded_high gives marks keeps false (y ∷ xs) ys (omega arith)
    (λ k below. high (suc k) (omega arith))))

decoded_chars : (gives : Bool → ℕ → List ℕ) (marks : Bool → ℕ → Bool) → Keeps gives marks
    → (marked : Bool) (cs : List ℕ) → scalars cs ≡ true → IsUtf8 (decoded gives marks marked (encodes cs))
decoded_chars gives marks keeps marked [] e = IsUtf8-nil
decoded_chars gives marks keeps marked (c ∷ cs) e =
    let ok : (scalar c ≡ true) × (scalars cs ≡ true) = and_parts (scalar c) (scalars cs) e in
    let P : List ℕ → Type 0 = λ l. IsUtf8 (decoded gives marks marked (l ++ encodes cs)) in
    elim (cases_lt c 128) [
      | inl small ↦ subst P (sym (encode_ascii c small))
          (IsUtf8-append (gives marked c) _ (keeps.low marked c small)
          (decoded_chars gives marks keeps (marks marked c) cs ok.1))
      | inr big ↦
          let some : 0 < length (encode c) = omega (arith, length-encode c, len_utf8_bounds c) in
          let high : (k : ℕ) → k < length (encode c) → 128 ≤ get_or (encode c) k 0 = λ k below.
          elim (cases_lt (get_or (encode c) k 0) 128) [
            | inl low ↦ absurd (omega (arith, inside_one c [] (encode c) k (sym (append-nil _)) below low))
            | inr h ↦ h
          ] in
          subst IsUtf8 (sym (decoded_high gives marks keeps marked (encode c) (encodes cs) some high))
          (IsUtf8-append (encode c) _ (IsUtf8-encode c ok.0)
          (decoded_chars gives marks keeps false cs ok.1))
    ]

decoded_utf8 : (gives : Bool → ℕ → List ℕ) (marks : Bool → ℕ → Bool) → Keeps gives marks
    → (bytes : List ℕ) → IsUtf8 bytes → IsUtf8 (decoded gives marks false bytes)
decoded_utf8 gives marks keeps bytes u =
    let P : List ℕ → Type 0 = λ l. IsUtf8 (decoded gives marks false l) in
    subst P u.1.1 (decoded_chars gives marks keeps false u.0 u.1.0)

one_ascii : (b : ℕ) → b < 128 → IsUtf8 (b ∷ [])
one_ascii b small = subst IsUtf8 (encode_ascii b small) (IsUtf8-encode b (low_scalar b (omega arith)))

escape_high : (b : ℕ) → 128 ≤ b → escape_of b ≡ b
escape_high b high = grind (arith, nat_tests)

escape_low : (b : ℕ) → b < 128 → escape_of b < 128
escape_low b low = grind (arith, nat_tests)

string_high : (marked : Bool) (b : ℕ) → 128 ≤ b
    → (string_gives marked b ≡ b ∷ []) × (string_marks marked b ≡ false)
string_high true b high =
    let P : List ℕ → Type 0 = λ l. l ≡ b ∷ [] in (
      if_has P (b == 37 || b == 95) (string_gives true b) _ _ refl
          (λ e. absurd (grind (arith, nat_tests, e))) (λ _. ap (λ x. x ∷ []) (escape_high b high)),
      refl,
    )
string_high false b high =
    let P : List ℕ → Type 0 = λ l. l ≡ b ∷ [] in
    let other : (b == 92) ≡ false = grind (arith, nat_tests) in
    (if_has P (b == 92) (string_gives false b) _ _ refl (λ e. absurd (grind (arith, nat_tests, e))) (λ _. refl), other)

string_low : (marked : Bool) (b : ℕ) → b < 128 → IsUtf8 (string_gives marked b)
string_low true b low =
    if_has IsUtf8 (b == 37 || b == 95) (string_gives true b) _ _ refl
    (λ _. IsUtf8-append (92 ∷ []) (b ∷ []) (one_ascii 92 (omega arith)) (one_ascii b low))
    (λ _. one_ascii (escape_of b) (escape_low b low))
string_low false b low =
    if_has IsUtf8 (b == 92) (string_gives false b) _ _ refl (λ _. IsUtf8-nil) (λ _. one_ascii b low)

name_high : (marked : Bool) (b : ℕ) → 128 ≤ b
    → (name_gives marked b ≡ b ∷ []) × (name_marks marked b ≡ false)
name_high true b high =
    let P : List ℕ → Type 0 = λ l. l ≡ b ∷ [] in
    (if_has P (b == 96) (name_gives true b) _ _ refl (λ e. absurd (grind (arith, nat_tests, e))) (λ _. refl), refl)
name_high false b high = (refl, grind (arith, nat_tests))

name_low : (marked : Bool) (b : ℕ) → b < 128 → IsUtf8 (name_gives marked b)
name_low true b low =
    if_has IsUtf8 (b == 96) (name_gives true b) _ _ refl (λ _. IsUtf8-nil) (λ _. one_ascii b low)
name_low false b low = one_ascii b low

-- what a string and a quoted name stand for is text
pub unescape_utf8 : (content : List ℕ) → IsUtf8 content → IsUtf8 (unescape content)
unescape_utf8 content u = decoded_utf8 string_gives string_marks (record { high = string_high; low = string_low }) content u

pub undouble_utf8 : (content : List ℕ) → IsUtf8 content → IsUtf8 (undouble content)
undouble_utf8 content u = decoded_utf8 name_gives name_marks (record { high = name_high; low = name_low }) content u

-- a byte and the mark before it give no more bytes than they are, where a mark weighs `weight`
decoded_short : (gives : Bool → ℕ → List ℕ) (marks : Bool → ℕ → Bool) (weight : Bool → ℕ)
    → ((marked : Bool) (b : ℕ) → length (gives marked b) + weight (marks marked b) ≤ 1 + weight marked)
    → (marked : Bool) (bytes : List ℕ) → length (decoded gives marks marked bytes) ≤ length bytes + weight marked
decoded_short gives marks weight short marked [] = omega arith
decoded_short gives marks weight short marked (b ∷ bytes) =
    omega (
      arith,
      length-append (gives marked b) (decoded gives marks (marks marked b) bytes),
      short marked b,
      decoded_short gives marks weight short (marks marked b) bytes,
    )

one_mark : Bool → ℕ
one_mark true = 1
one_mark false = 0

no_mark : Bool → ℕ
no_mark _ = 0

string_short : (marked : Bool) (b : ℕ) → length (string_gives marked b) + one_mark (string_marks marked b) ≤ 1 + one_mark marked
unfolding one_mark
string_short true b =
    let P : List ℕ → Type 0 = λ l. length l + 0 ≤ 1 + 1 in
    if_has P (b == 37 || b == 95) (string_gives true b) _ _ refl (λ _. omega arith) (λ _. omega arith)
string_short false b =
    elim (b == 92) as (λ t. length (if t then [] else b ∷ []) + one_mark t ≤ 1 + 0) [
      | true ↦ omega arith
      | false ↦ omega arith
    ]

name_short : (marked : Bool) (b : ℕ) → length (name_gives marked b) + no_mark (name_marks marked b) ≤ 1 + no_mark marked
unfolding no_mark
name_short true b =
    elim (b == 96) as (λ t. length (if t then [] else b ∷ []) + 0 ≤ 1 + 0) [
      | true ↦ omega arith
      | false ↦ omega arith
    ]
name_short false b = omega arith

pub unescape_short : (content : List ℕ) → length (unescape content) ≤ length content
unfolding one_mark
unescape_short content = omega (arith, decoded_short string_gives string_marks one_mark string_short false content)

pub undouble_short : (content : List ℕ) → length (undouble content) ≤ length content
unfolding no_mark
undouble_short content = omega (arith, decoded_short name_gives name_marks no_mark name_short false content)

-- at the end all of the content is decoded
pub decoded_end : (gives : Bool → ℕ → List ℕ) (marks : Bool → ℕ → Bool) (marked : Bool)
    (bytes done all : List ℕ) (i : ℕ) → length bytes ≤ i
    → done ++ decoded gives marks marked (drop i bytes) ≡ all → done ≡ all
decoded_end gives marks marked bytes done all i past so_far =
    let none : done ++ decoded gives marks marked [] ≡ all =
    ap (λ l. done ++ decoded gives marks marked l) (sym (drop_all i bytes past)) ∙ so_far in
    sym (append-nil done) ∙ none

pub ruleset decoding = (decoded_more)
