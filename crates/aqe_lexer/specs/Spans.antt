-- Where the tokens of a source stand, and what is known of each.
use Rattle.std.specs.Prelude.{ℕ, true, false, List, [], ◌∷◌, ◌≡◌, ◌<◌, ◌≤◌, length, IsUtf8}
use Rattle.std.specs.List.{AllPass}
use Rattle.std.specs.Str.{IsCharBoundary}
use Rattle.aqe_lexer.specs.declared.token.Token.{Token}
use Rattle.aqe_lexer.specs.declared.token.TokenKind.{TokenKind}
use Rattle.aqe_lexer.specs.declared.token.TokenKind.TheVariants as kind
use Rattle.aqe_lexer.specs.Bytes.{is_word_byte}
use Rattle.aqe_lexer.specs.Content.{text_of, content_of}
use Rattle.aqe_lexer.specs.Numbers.{is_number, number_value, number_limit}

-- What is known of a token's text and of the content between its quotes, by its kind: a word is made
-- of letters, digits and `_`; a quoted name has content, and it and that of a string are UTF-8; a
-- number is one and within its limit; a mixed token is no number.
abbrev pub IsKnown : TokenKind → List ℕ → List ℕ → Type 0
IsKnown kind.Word text content = AllPass is_word_byte text
IsKnown kind.Quoted text content = (2 < length text) × IsUtf8 content
IsKnown kind.Literal text content = (1 < length text) × IsUtf8 content
IsKnown kind.Number text content = (is_number text ≡ true) × (number_value text ≤ number_limit)
IsKnown kind.Mixed text content = is_number text ≡ false
IsKnown kind.Symbol text content = length text ≤ 3

-- a token stands in the source: it has bytes, within the source, cuts no character, and is known
pub record StandsIn (source : List ℕ) (token : Token) : Type 0 where
  pub some : token.start < token.end
  pub within : token.end ≤ length source
  pub starts : IsCharBoundary source token.start
  pub ends : IsCharBoundary source token.end
  pub known : IsKnown token.kind (text_of source token) (content_of source token)

-- each token begins behind the one before it, the first at `at` or behind it
abbrev pub InOrder : ℕ → List Token → Type 0
InOrder at [] = Unit {0}
InOrder at (token ∷ tokens) = (at ≤ token.start) × InOrder token.end tokens
