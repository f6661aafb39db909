-- The terminals of the grammar that the tokens of a source are.
use Rattle.std.specs.Prelude.{ℕ, true, false, List, Option, Some, None, map}
use Rattle.aqe_lexer.specs.declared.token.Token.{Token}
use Rattle.aqe_lexer.specs.declared.token.TokenKind.{TokenKind}
use Rattle.aqe_lexer.specs.declared.token.TokenKind.TheVariants as kind
use Rattle.aqe_lexer.specs.Content.{text_of, content_of, unescape, undouble}
use Rattle.aqe_lexer.specs.Numbers.{number_value, is_long}
use Rattle.aqe_trees.specs.Keywords.{word_key, symbol_key}
use Rattle.aqe_trees.specs.declared.terminal.Key.{Key}
use Rattle.aqe_trees.specs.declared.terminal.Terminal.{Terminal}
use Rattle.aqe_trees.specs.declared.terminal.Terminal.TheVariants.{Fixed, Name, Number, Literal, Mixed}

-- the key of a text, by the kind of its token: of the other kinds, none is one
abbrev pub key_of_text : TokenKind → List ℕ → Option Key
key_of_text kind.Word text = word_key text
key_of_text kind.Symbol text = symbol_key text
key_of_text _ text = None

-- the reserved word or symbol that a token is
abbrev pub key_of : List ℕ → Token → Option Key
key_of source token = key_of_text token.kind (text_of source token)

-- a token that is no reserved word and no symbol, by its text and by what stands between its quotes
abbrev pub content_terminal : TokenKind → List ℕ → List ℕ → Terminal
content_terminal kind.Word text content = Name text false
content_terminal kind.Quoted text content = Name (undouble content) true
content_terminal kind.Literal text content = Literal (unescape content)
content_terminal kind.Number text content = Number (number_value text) (is_long text)
content_terminal kind.Mixed text content = Mixed
content_terminal kind.Symbol text content = Mixed

-- a reserved word or symbol, where the token is one, and else what it stands for
abbrev pub fixed_or : Option Key → Terminal → Terminal
fixed_or (Some key) terminal = Fixed key
fixed_or None terminal = terminal

-- the terminal that a token is: a reserved word or symbol, a name, a string, a number or none of these
abbrev pub terminal_of : List ℕ → Token → Terminal
terminal_of source token =
    fixed_or (key_of source token) (content_terminal token.kind (text_of source token) (content_of source token))

-- the terminals of tokens, in order
abbrev pub terminals_of : List ℕ → List Token → List Terminal
terminals_of source tokens = map (terminal_of source) tokens
