-- A token that a text begins with, and words.
use Rattle.std.proofs.Common.{ℕ, ◌≡◌, ◌+◌, ◌-◌, Bool, true, false, List, [], ◌∷◌, ◌++◌, length, drop, take, refl, sym, subst, ap, ◌∙◌, arith}
use Rattle.std.specs.Prelude.{slice_index}
use Rattle.std.specs.List.{prefix_len, list_all}
use Rattle.std.proofs.lemmas.Bool.{and_parts}
use Rattle.std.proofs.lemmas.Bool.Decides.{nat_tests}
use Rattle.std.proofs.lemmas.List.{take_at, drop_at, drop-drop}
use Rattle.aqe_lexer.specs.declared.front.Front.TheVariants as front
use Rattle.aqe_lexer.specs.declared.piece.Piece.TheVariants as piece
use Rattle.aqe_lexer.specs.declared.token.Token.{Token}
use Rattle.aqe_lexer.specs.declared.token.TokenKind.{TokenKind}
use Rattle.aqe_lexer.specs.declared.token.TokenKind.TheVariants as kind
use Rattle.aqe_lexer.specs.Bytes.{front_of, is_word_byte, is_word_start}
use Rattle.aqe_lexer.specs.Content.{text_of, content_of}
use Rattle.aqe_lexer.specs.Pieces.{Begins, Fits}
use Rattle.aqe_lexer.specs.TokenList.{HasTokens, token_at}
use Rattle.aqe_lexer.specs.TokenList.HasTokens.{gap, cut}

-- a token in front of what has tokens
pub token_cut : (kind : TokenKind) (word rest : List ℕ) (at : ℕ) (more : List Token) → Begins (word ++ rest) (piece.Cut kind (length word))
    → HasTokens (at + length word) rest more → HasTokens at (word ++ rest) (token_at kind at (length word) ∷ more)
token_cut kind word rest at more b h =
    cut at (length word) kind (word ++ rest) more b
    (subst (λ l. HasTokens (at + length word) l more) (sym (drop_at word rest (length word) refl)) h)

-- a blank in front of what has tokens
pub blank_cut : (b : ℕ) (rest : List ℕ) (at : ℕ) (more : List Token) → front_of (b ∷ rest) ≡ front.Blank
    → HasTokens (at + 1) rest more → HasTokens at (b ∷ rest) more
blank_cut b rest at more e h =
    gap at 1 (b ∷ rest) more (record { some = omega arith; fits = subst (λ f. Fits f (b ∷ rest) (piece.Gap 1)) (sym e) refl }) h

-- the text of a token that stands at an offset
pub text_at : (source word rest : List ℕ) (kind : TokenKind) (at : ℕ) → drop at source ≡ word ++ rest
    → text_of source (token_at kind at (length word)) ≡ word
text_at source word rest kind at e =
    let length_is : at + length word - at ≡ length word = omega arith in
    ap (λ n. take n (drop at source)) length_is ∙ (ap (take (length word)) e ∙ take_at word rest (length word) refl)

-- what stands between the first and the last byte of such a token
pub content_at : (source inner rest : List ℕ) (q r : ℕ) (kind : TokenKind) (at : ℕ) → drop at source ≡ q ∷ (inner ++ r ∷ rest)
    → content_of source (token_at kind at (length inner + 2)) ≡ inner
content_at source inner rest q r kind at e =
    let behind : drop (at + 1) source ≡ inner ++ r ∷ rest = sym (drop-drop 1 at source) ∙ ap (drop 1) e in
    let length_is : at + (length inner + 2) - 1 - (at + 1) ≡ length inner = omega arith in
    ap (λ n. take n (drop (at + 1) source)) length_is ∙ (ap (take (length inner)) behind ∙ take_at inner (r ∷ rest) (length inner) refl)

-- what is left behind a front of what stands at an offset
pub past : (source word rest : List ℕ) (at : ℕ) → drop at source ≡ word ++ rest → drop (at + length word) source ≡ rest
past source word rest at e = sym (drop-drop (length word) at source) ∙ (ap (drop (length word)) e ∙ drop_at word rest (length word) refl)

-- a front whose bytes pass, before one that does not
pub prefix_all : (p : ℕ → Bool) (word : List ℕ) (b : ℕ) (rest : List ℕ) → list_all p word ≡ true → p b ≡ false
    → prefix_len p (word ++ b ∷ rest) ≡ length word
prefix_all p [] b rest e f = rw f refl
prefix_all p (x ∷ word) b rest e f =
    let both : (p x ≡ true) × (list_all p word ≡ true) = and_parts (p x) (list_all p word) e in
    rw (both.0, prefix_all p word b rest both.1 f) (omega arith)

front_word : (b : ℕ) (bytes : List ℕ) → is_word_start b ≡ true → front_of (b ∷ bytes) ≡ front.Word
front_word b bytes e = grind (arith, nat_tests)

-- a word begins a text, where a byte behind it ends it
pub word_begins : (word : List ℕ) (b : ℕ) (rest : List ℕ) → is_word_start (slice_index word 0) ≡ true → list_all is_word_byte word ≡ true
    → is_word_byte b ≡ false → Begins (word ++ b ∷ rest) (piece.Cut kind.Word (length word))
word_begins [] b rest s e f = absurd cc
word_begins (x ∷ word) b rest s e f =
    let bytes : List ℕ = (x ∷ word) ++ b ∷ rest in
    record {
      some = omega arith;
      fits = subst (λ g. Fits g bytes (piece.Cut kind.Word (length (x ∷ word)))) (sym (front_word x (word ++ b ∷ rest) s))
          (ap (piece.Cut kind.Word) (sym (prefix_all is_word_byte (x ∷ word) b rest e f)));
    }
