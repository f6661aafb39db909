-- Each token of a source stands in it, and they stand in order.
use Rattle.std.proofs.Common.{ℕ, ◌≡◌, ◌<◌, ◌≤◌, ◌+◌, ◌-◌, List, [], ◌∷◌, length, drop, take, get_or, IsUtf8, refl, sym, subst, ap, ◌∙◌, add-zero, arith}
use Rattle.std.specs.Prelude.{All}
use Rattle.std.specs.Str.{IsCharBoundary}
use Rattle.std.proofs.lemmas.List.{length-drop, get_or-drop, drop-drop, length-take-le}
use Rattle.std.proofs.lemmas.List.Elements.{All-cons, All-nil}
use Rattle.std.proofs.lemmas.Str.{IsCharBoundary-before_ascii, IsCharBoundary-after_ascii, IsUtf8-between}
use Rattle.aqe_lexer.specs.declared.piece.Piece.TheVariants as piece
use Rattle.aqe_lexer.specs.declared.token.Token.{Token}
use Rattle.aqe_lexer.specs.declared.token.TokenKind.{TokenKind}
use Rattle.aqe_lexer.specs.declared.token.TokenKind.TheVariants as kind
use Rattle.aqe_lexer.specs.Content.{text_of}
use Rattle.aqe_lexer.specs.Pieces.{Begins}
use Rattle.aqe_lexer.specs.Spans.{IsKnown, StandsIn, InOrder}
use Rattle.aqe_lexer.specs.TokenList.{HasTokens, IsTokenList, token_at}
use Rattle.aqe_lexer.specs.TokenList.HasTokens.{none, gap, cut}
use Rattle.aqe_lexer.proofs.Known.{IsKnownText, IsSound, begins_sound}
use Rattle.aqe_lexer.proofs.Within.{begins_within}

in_order_from : (at from : ℕ) (tokens : List Token) → at ≤ from → InOrder from tokens → InOrder at tokens
in_order_from at from [] h order = tt
in_order_from at from (token ∷ tokens) h order = (omega arith, order.1)

in_order : (at : ℕ) (bytes : List ℕ) (tokens : List Token) → HasTokens at bytes tokens → InOrder at tokens
in_order _ _ _ (none at) = tt
in_order _ _ _ (gap at len bytes tokens b h) =
    in_order_from at (at + len) tokens (omega arith) (in_order (at + len) (drop len bytes) tokens h)
in_order _ _ _ (cut at len kind bytes tokens b h) =
    (omega arith, in_order (at + len) (drop len bytes) tokens h)

-- the content is known beside the text
with_content : (kind : TokenKind) (text content : List ℕ) → IsKnownText kind text
    → (1 < length text → IsUtf8 content) → IsKnown kind text content
with_content kind.Word text content known utf8 = known
with_content kind.Quoted text content known utf8 = (known, utf8 (omega arith))
with_content kind.Literal text content known utf8 = (known, utf8 known)
with_content kind.Number text content known utf8 = known
with_content kind.Mixed text content known utf8 = known
with_content kind.Symbol text content known utf8 = known

token_stands : (source : List ℕ) (at len : ℕ) (kind : TokenKind) → IsUtf8 source
    → Begins (drop at source) (piece.Cut kind len) → StandsIn source (token_at kind at len)
token_stands source at len kind utf8 b =
    let sound : IsSound (drop at source) kind len = begins_sound _ _ b in
    let bounds : (0 < len) × (len ≤ length (drop at source)) = begins_within _ _ b in
    let room : at + len ≤ length source = omega (arith, length-drop at source) in
    let first : get_or source at 0 < 128 = omega (
      arith,
      sound.first,
      get_or-drop at source 0 0,
      ap (λ i. get_or source i 0) (add-zero at),
    ) in
    let place : at + (len - 1) ≡ at + len - 1 = omega arith in
    let last : get_or source (at + len - 1) 0 < 128 = omega (
      arith,
      sound.last,
      get_or-drop at source (len - 1) 0,
      ap (λ i. get_or source i 0) place,
    ) in
    let text : text_of source (token_at kind at len) ≡ take len (drop at source) =
    ap (λ n. take n (drop at source)) (omega arith) in
    let text_len : length (text_of source (token_at kind at len)) ≡ len =
    ap length text ∙ length-take-le len (drop at source) bounds.1 in
    let P : List ℕ → Type 0 = λ t. IsKnownText kind t in
    record {
      some = omega arith;
      within = room;
      starts = IsCharBoundary-before_ascii source at (omega arith) first;
      ends = let Q : ℕ → Type 0 = λ i. IsCharBoundary source i in
          let same : at + len - 1 + 1 ≡ at + len = omega arith in
          subst Q same (IsCharBoundary-after_ascii source (at + len - 1) utf8 (omega arith) last);
      known = with_content kind _ _ (subst P (sym text) sound.text)
          (λ more. IsUtf8-between source (at + 1) (at + len - 1) utf8 (omega arith)
          (IsCharBoundary-after_ascii source at utf8 (omega arith) first)
          (IsCharBoundary-before_ascii source (at + len - 1) (omega arith) last));
    }

-- by its index, each token stands in the source
stand : (source : List ℕ) (at : ℕ) (bytes : List ℕ) (tokens : List Token) → IsUtf8 source
    → bytes ≡ drop at source → HasTokens at bytes tokens → All (StandsIn source) tokens
stand source _ _ _ utf8 is (none at) = All-nil (StandsIn source)
stand source _ _ _ utf8 is (gap at len bytes tokens b h) =
    stand source (at + len) (drop len bytes) tokens utf8 (ap (drop len) is ∙ drop-drop len at source) h
stand source _ _ _ utf8 is (cut at len kind bytes tokens b h) =
    let P : List ℕ → Type 0 = λ l. Begins l (piece.Cut kind len) in
    let this = token_stands source at len kind utf8 (subst P is b) in
    let rest = stand source (at + len) (drop len bytes) tokens utf8 (ap (drop len) is ∙ drop-drop len at source) h in
    All-cons (StandsIn source) (token_at kind at len) tokens this rest

pub list_in_order : (source : List ℕ) (tokens : List Token) → IsTokenList source tokens → InOrder 0 tokens
list_in_order source tokens list = in_order 0 source tokens list.cut

pub list_stands : (source : List ℕ) (tokens : List Token) → IsTokenList source tokens → All (StandsIn source) tokens
list_stands source tokens list = stand source 0 source tokens list.is_text refl list.cut
