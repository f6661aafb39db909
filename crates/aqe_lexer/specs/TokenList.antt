-- The tokens of a source, and the first place where there are none.
use Rattle.std.specs.Prelude.{ℕ, ◌+◌, List, [], ◌∷◌, ◌≡◌, drop, take, false, true, IsUtf8, ◌⊎◌}
use Rattle.std.specs.Str.Lossy.{utf8_valid_len}
use Rattle.aqe_lexer.specs.declared.fault.Fault.{Fault}
use Rattle.aqe_lexer.specs.declared.fault.LexFault.{LexFault}
use Rattle.aqe_lexer.specs.declared.fault.LexFault.TheVariants as lex
use Rattle.aqe_lexer.specs.declared.piece.Piece.TheVariants as piece
use Rattle.aqe_lexer.specs.declared.reading.Reading.{Reading}
use Rattle.aqe_lexer.specs.declared.reading.Reading.TheVariants as reading
use Rattle.aqe_lexer.specs.declared.token.Token.{Token}
use Rattle.aqe_lexer.specs.declared.token.TokenKind.{TokenKind}
use Rattle.aqe_lexer.specs.Faults.{is_open, told_of}
use Rattle.aqe_lexer.specs.Pieces.{Begins}

-- a token of so many bytes at a place
abbrev pub token_at : TokenKind → ℕ → ℕ → Token
token_at kind at len = record { kind = kind; start = at; end = at + len }

-- The bytes, of which the first stands at the offset `at`, have these tokens: at the end there is
-- none; a gap adds none; a token stands before those of the bytes behind it.
pub data HasTokens : ℕ → List ℕ → List Token → Type 0 where
  none : (at : ℕ) → HasTokens at [] []
  gap : (at len : ℕ) (bytes : List ℕ) (tokens : List Token) → Begins bytes (piece.Gap len)
      → HasTokens (at + len) (drop len bytes) tokens → HasTokens at bytes tokens
  cut : (at len : ℕ) (kind : TokenKind) (bytes : List ℕ) (tokens : List Token)
      → Begins bytes (piece.Cut kind len)
      → HasTokens (at + len) (drop len bytes) tokens
      → HasTokens at bytes (token_at kind at len ∷ tokens)

-- The bytes have this fault at this offset, behind gaps and tokens alone.
pub data HasFault : ℕ → List ℕ → Fault → ℕ → Type 0 where
  here : (at far : ℕ) (fault : Fault) (bytes : List ℕ) → Begins bytes (piece.Bad fault far)
      → HasFault at bytes fault (at + far)
  behind_gap : (at len place : ℕ) (fault : Fault) (bytes : List ℕ) → Begins bytes (piece.Gap len)
      → HasFault (at + len) (drop len bytes) fault place → HasFault at bytes fault place
  behind_cut : (at len place : ℕ) (kind : TokenKind) (fault : Fault) (bytes : List ℕ)
      → Begins bytes (piece.Cut kind len)
      → HasFault (at + len) (drop len bytes) fault place → HasFault at bytes fault place

-- the tokens of a source, which is UTF-8
pub record IsTokenList (source : List ℕ) (tokens : List Token) : Type 0 where
  pub is_text : IsUtf8 source
  pub cut : HasTokens 0 source tokens

-- the longest front of a source that is UTF-8
abbrev pub utf8_front : List ℕ → List ℕ
utf8_front source = take (utf8_valid_len source) source

-- The first place where a source has no token, read from the left: in the front that is UTF-8 the
-- first fault, unless it is that something has no end; such a fault where all of the source is UTF-8;
-- and else the byte where UTF-8 stops, if before it there are tokens alone or something without an end.
pub data FirstFault (source : List ℕ) (e : LexFault) : Type 0 where
  in_text : (fault : Fault) (at : ℕ) → HasFault 0 (utf8_front source) fault at
      → is_open fault ≡ false → e ≡ told_of fault at → FirstFault source e
  at_end : (fault : Fault) (at : ℕ) → IsUtf8 source → HasFault 0 source fault at
      → is_open fault ≡ true → e ≡ told_of fault at → FirstFault source e
  within : (fault : Fault) (at : ℕ) → ¬ (IsUtf8 source) → HasFault 0 (utf8_front source) fault at
      → is_open fault ≡ true → e ≡ lex.BadByte (utf8_valid_len source) → FirstFault source e
  between : (tokens : List Token) → ¬ (IsUtf8 source) → HasTokens 0 (utf8_front source) tokens
      → e ≡ lex.BadByte (utf8_valid_len source) → FirstFault source e

-- the cause of a refusal: want of memory, or the first place where the source has no token
abbrev pub IsCause : List ℕ → LexFault → Type 0
IsCause source e = (e ≡ lex.Memory) ⊎ FirstFault source e

-- what a text is read as: all its tokens, or its first fault
abbrev pub Reads : List ℕ → Reading → Type 0
Reads text (reading.Whole tokens) = HasTokens 0 text tokens
Reads text (reading.Broken fault at) = HasFault 0 text fault at
