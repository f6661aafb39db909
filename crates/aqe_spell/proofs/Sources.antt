-- What holds of the tokens of a source.
use Rattle.std.proofs.Common.{ℕ, zero, suc, ◌≡◌, ◌<◌, ◌≤◌, ◌+◌, ◌-◌, ◌==◌, true, false, Option, Some, None, List, [], ◌∷◌, length, drop, take, refl, sym, subst, ap, ◌∙◌, arith}
use Rattle.std.specs.Prelude.{slice_index, nat_le, cond}
use Rattle.std.specs.List.{prefix_len, onto_first}
use Rattle.std.proofs.lemmas.Bool.Decides.{nat_tests}
use Rattle.std.proofs.lemmas.List.{length-drop, length-take, drop-drop}
use Rattle.std.proofs.lemmas.List.Sums.{list_all-from_AllPass}
use Rattle.aqe_lexer.specs.declared.front.Front.{Front}
use Rattle.aqe_lexer.specs.declared.front.Front.TheVariants as front
use Rattle.aqe_lexer.specs.declared.piece.Piece.{Piece}
use Rattle.aqe_lexer.specs.declared.piece.Piece.TheVariants as piece
use Rattle.aqe_lexer.specs.declared.token.Token.{Token}
use Rattle.aqe_lexer.specs.declared.token.TokenKind.{TokenKind}
use Rattle.aqe_lexer.specs.declared.token.TokenKind.TheVariants as kind
use Rattle.aqe_lexer.specs.Bytes.{front_of, is_word_byte, is_word_start}
use Rattle.aqe_lexer.specs.Content.{text_of, content_of, undouble}
use Rattle.aqe_lexer.specs.Numbers.{run_of, is_number, number_value, number_limit}
use Rattle.aqe_lexer.specs.Parts.{string_end, name_end, comment_end}
use Rattle.aqe_lexer.specs.Pieces.{Begins, Fits, symbol_of}
use Rattle.aqe_lexer.specs.Symbols.{symbol_len}
use Rattle.aqe_lexer.specs.TokenList.{HasTokens, IsTokenList, token_at}
use Rattle.aqe_lexer.specs.TokenList.HasTokens.{none, gap, cut}
use Rattle.aqe_lexer.proofs.Within.{if_has, begins_within}
use Rattle.aqe_lexer.proofs.Known.{IsSound, begins_sound}
use Rattle.aqe_trees.specs.declared.statement.Stmt.{Stmt}
use Rattle.aqe_trees.specs.declared.terminal.Key.{Key}
use Rattle.aqe_trees.specs.declared.terminal.Terminal.{Terminal}
use Rattle.aqe_script.specs.Terminals.{terminals_of, key_of_text, fixed_or, content_terminal}
use Rattle.aqe_script.specs.Statements.{AreStatements, finished, nothing, statement, is_semicolon, parts_of}
use Rattle.aqe_phrases.specs.Written.{Stands, AllStand}
use Rattle.aqe_spell.specs.Tokens.{IsFine, AllFine, AllWritable}

symbol_no_word : (n len : ℕ) → piece.Cut kind.Word len ≡ symbol_of n → ⊥
symbol_no_word zero len e = absurd cc
symbol_no_word (suc n) len e = absurd cc

-- a word is read where a letter or `_` stands
fits_word : (f : Front) (bytes : List ℕ) (len : ℕ) → Fits f bytes (piece.Cut kind.Word len) → f ≡ front.Word
fits_word front.Blank bytes len fits = absurd cc
fits_word front.Line bytes len fits = absurd cc
fits_word front.Comment bytes len fits =
    let P : Piece → Type 0 = λ p. piece.Cut kind.Word len ≡ p → ⊥ in
    absurd (if_has P (length fits.stop.1 == 0) (comment_end (drop 2 bytes) fits.stop) _ _ refl (λ _ h. absurd cc) (λ _ h. absurd cc) fits.value)
fits_word front.Word bytes len fits = refl
fits_word front.Run bytes len fits =
    let P : Piece → Type 0 = λ p. piece.Cut kind.Word len ≡ p → ⊥ in
    let run : List ℕ = take (prefix_len is_word_byte bytes) bytes in
    absurd (if_has P (is_number run) (run_of run) _ _ refl
    (λ _. if_has P (nat_le (number_value run) number_limit) _ _ _ refl (λ _ h. absurd cc) (λ _ h. absurd cc)) (λ _ h. absurd cc) fits)
fits_word front.String bytes len fits =
    let P : Piece → Type 0 = λ p. piece.Cut kind.Word len ≡ p → ⊥ in
    let quote : ℕ = slice_index bytes 0 in
    absurd (if_has P (length fits.stop == 0) (string_end quote (drop 1 bytes) fits.stop) _ _ refl (λ _ h. absurd cc)
    (λ _. if_has P (slice_index fits.stop 0 == quote) _ _ _ refl (λ _ h. absurd cc)
    (λ _. if_has P (length fits.stop == 1) _ _ _ refl (λ _ h. absurd cc) (λ _ h. absurd cc))) fits.value)
fits_word front.Name bytes len fits =
    let P : Piece → Type 0 = λ p. piece.Cut kind.Word len ≡ p → ⊥ in
    absurd (if_has P (length fits.stop == 0) (name_end (drop 1 bytes) fits.stop) _ _ refl (λ _ h. absurd cc)
    (λ _. if_has P (length (drop 1 bytes) - length fits.stop == 0) _ _ _ refl (λ _ h. absurd cc) (λ _ h. absurd cc)) fits.value)
fits_word front.Symbol bytes len fits = absurd (symbol_no_word (symbol_len bytes) len fits)

word_starts : (bytes : List ℕ) → front_of bytes ≡ front.Word → is_word_start (slice_index bytes 0) ≡ true
word_starts bytes e = grind (arith, nat_tests)

first_taken : (bytes : List ℕ) (len : ℕ) → 0 < len → slice_index (take len bytes) 0 ≡ slice_index bytes 0
first_taken [] (suc n) h = refl
first_taken (b ∷ bytes) (suc n) h = refl
first_taken bytes zero h = absurd (omega (arith, h))

-- a token is fine where its text is known
fine_token : (kind : TokenKind) (bytes : List ℕ) (len : ℕ) (content : List ℕ) → Begins bytes (piece.Cut kind len)
    → (2 < len → 0 < length content) → IsFine kind (take len bytes) content
fine_token kind.Word bytes len content b more =
    let sound : IsSound bytes kind.Word len = begins_sound _ _ b in
    let bounds : (0 < len) × (len ≤ length bytes) = begins_within _ _ b in (
      ap is_word_start (first_taken bytes len bounds.0) ∙ word_starts bytes (fits_word (front_of bytes) bytes len b.fits),
      list_all-from_AllPass is_word_byte (take len bytes) sound.text,
    )
fine_token kind.Quoted bytes len content b more =
    let sound : IsSound bytes kind.Quoted len = begins_sound _ _ b in
    let text : 2 < length (take len bytes) = sound.text in
    more (omega (arith, length-take len bytes, text))
fine_token kind.Literal bytes len content b more = tt
fine_token kind.Number bytes len content b more =
    let sound : IsSound bytes kind.Number len = begins_sound _ _ b in sound.text.1
fine_token kind.Mixed bytes len content b more = tt
fine_token kind.Symbol bytes len content b more = tt

fine_from : (source : List ℕ) (at : ℕ) (bytes : List ℕ) (tokens : List Token) → bytes ≡ drop at source → HasTokens at bytes tokens
    → AllFine source tokens
fine_from source _ _ _ is (none at) = tt
fine_from source _ _ _ is (gap at len bytes tokens b h) =
    fine_from source (at + len) (drop len bytes) tokens (ap (drop len) is ∙ drop-drop len at source) h
fine_from source _ _ _ is (cut at len kind bytes tokens b h) =
    let bounds : (0 < len) × (len ≤ length bytes) = begins_within _ _ b in
    let room : length bytes ≡ length source - at = ap length is ∙ length-drop at source in
    let token = token_at kind at len in
    let text : text_of source token ≡ take len bytes = ap (λ n. take n (drop at source)) (omega arith) ∙ ap (take len) (sym is) in
    let content : 2 < len → 0 < length (content_of source token) = λ big.
    omega (arith, length-take (at + len - 1 - (at + 1)) (drop (at + 1) source), length-drop (at + 1) source) in (
      subst (λ t. IsFine kind t (content_of source token)) (sym text) (fine_token kind bytes len (content_of source token) b content),
      fine_from source (at + len) (drop len bytes) tokens (ap (drop len) is ∙ drop-drop len at source) h,
    )

pub fine_tokens : (source : List ℕ) (tokens : List Token) → IsTokenList source tokens → AllFine source tokens
fine_tokens source tokens list = fine_from source 0 source tokens refl list.cut

-- a terminal of a source has what terminals of a source have
word_some : (text : List ℕ) → is_word_start (slice_index text 0) ≡ true → 0 < length text
word_some [] e = absurd cc
word_some (b ∷ text) e = omega arith

undoubled_some : (content : List ℕ) → 0 < length content → 0 < length (undouble content)
undoubled_some [] h = absurd (omega (arith, h))
undoubled_some (b ∷ content) h = omega arith

fixed_stands : (key : Option Key) (t : Terminal) → Stands t → Stands (fixed_or key t)
fixed_stands (Some key) t s = tt
fixed_stands None t s = s

content_stands : (kind : TokenKind) (text content : List ℕ) → IsFine kind text content → Stands (content_terminal kind text content)
content_stands kind.Word text content f = word_some text f.0
content_stands kind.Quoted text content f = undoubled_some content f
content_stands kind.Literal text content f = tt
content_stands kind.Number text content f = f
content_stands kind.Mixed text content f = tt
content_stands kind.Symbol text content f = tt

pub terminals_stand : (source : List ℕ) (tokens : List Token) → AllFine source tokens → AllStand (terminals_of source tokens)
terminals_stand source [] f = tt
terminals_stand source (t ∷ ts) f = (
  fixed_stands (key_of_text t.kind (text_of source t)) (content_terminal t.kind (text_of source t) (content_of source t))
      (content_stands t.kind (text_of source t) (content_of source t) f.0),
  terminals_stand source ts f.1,
)

-- each part of fine tokens is fine
abbrev PartsFine : List ℕ → List (List Token) → Type 0
PartsFine source [] = Unit {0}
PartsFine source (part ∷ parts) = AllFine source part × PartsFine source parts

onto_fine : (source : List ℕ) (t : Token) (parts : List (List Token)) → IsFine t.kind (text_of source t) (content_of source t)
    → PartsFine source parts → PartsFine source (onto_first t parts)
onto_fine source t [] f p = ((f, tt), tt)
onto_fine source t (part ∷ parts) f p = ((f, p.0), p.1)

parts_fine : (source : List ℕ) (tokens : List Token) → AllFine source tokens → PartsFine source (parts_of source tokens)
parts_fine source [] f = (tt, tt)
parts_fine source (t ∷ ts) f =
    let more = parts_fine source ts f.1 in
    elim (is_semicolon source t) as (λ b. PartsFine source (cond b ([] ∷ parts_of source ts) (onto_first t (parts_of source ts)))) [
      | true ↦ (tt, more)
      | false ↦ onto_fine source t (parts_of source ts) f.0 more
    ]

are_writable : {source : List ℕ} {script : List Stmt} {parts : List (List Token)} → AreStatements source script parts
    → PartsFine source parts → AllWritable script
are_writable finished p = tt
are_writable (nothing d) p = are_writable d p.1
are_writable {source = source} (statement {t = t} {ts = ts} s d) p =
    (record { source = source; tokens = t ∷ ts; is_statement = s; fine = p.0 }, are_writable d p.1)

-- each statement of a source's script is one of a source
pub script_writable : (source : List ℕ) (tokens : List Token) (script : List Stmt) → IsTokenList source tokens
    → AreStatements source script (parts_of source tokens) → AllWritable script
script_writable source tokens script list d = are_writable d (parts_fine source tokens (fine_tokens source tokens list))
