-- Tokens with something between quotes.
use Rattle.std.specs.Prelude.{Bool, true, false, ◌≡◌}
use Rattle.aqe_lexer.specs.declared.token.TokenKind.{TokenKind}
use Rattle.aqe_lexer.specs.declared.token.TokenKind.TheVariants as kind

-- a quoted name or a string
abbrev pub is_quoted : TokenKind → Bool
is_quoted kind.Quoted = true
is_quoted kind.Literal = true
is_quoted _ = false

abbrev pub IsQuotedToken : TokenKind → Type 0
IsQuotedToken kind = is_quoted kind ≡ true
