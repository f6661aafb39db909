-- Small known answers of the definitions.
use Rattle.std.proofs.Common.{◌≡◌, Some, None, [], ◌∷◌, refl}
use Rattle.std.specs.Prelude.{codes}
use Rattle.aqe_lexer.specs.declared.fault.Fault.TheVariants as fault
use Rattle.aqe_lexer.specs.declared.front.Front.TheVariants as front
use Rattle.aqe_lexer.specs.declared.piece.Piece.TheVariants as piece
use Rattle.aqe_lexer.specs.declared.token.TokenKind.TheVariants as kind
use Rattle.aqe_lexer.specs.Bytes.{front_of}
use Rattle.aqe_lexer.specs.Content.{unescape, undouble}
use Rattle.aqe_lexer.specs.Numbers.{run_of}
use Rattle.aqe_lexer.specs.Parts.{comment_step, string_part}
use Rattle.aqe_lexer.specs.Symbols.{symbol_len}

-- `--` and `/*` begin comments, and one mark alone is a symbol or nothing
minus_pair : front_of (codes "--1") ≡ front.Line
minus_pair = refl

minus_alone : front_of (codes "-1") ≡ front.Symbol
minus_alone = refl

opening : front_of (codes "/*") ≡ front.Comment
opening = refl

-- the longest symbol
three : symbol_len (codes "<=>=") ≡ 3
three = refl

two : symbol_len (codes "<>=") ≡ 2
two = refl

slash : symbol_len (codes "/") ≡ 0
slash = refl

-- runs that begin with a digit
number : run_of (codes "12L") ≡ piece.Cut kind.Number 3
number = refl

mixed : run_of (codes "64MB") ≡ piece.Cut kind.Mixed 4
mixed = refl

widest : run_of (codes "9223372036854775808") ≡ piece.Cut kind.Number 19
widest = refl

too_wide : run_of (codes "9223372036854775809") ≡ piece.Bad fault.WideNumber 0
too_wide = refl

-- a comment within a comment opens one more, and its end closes that one
nested : comment_step (1, codes "/*a") ≡ Some (2, codes "a")
nested = refl

closed : comment_step (2, codes "*/a") ≡ Some (1, codes "a")
closed = refl

outermost : comment_step (1, codes "*/a") ≡ None
outermost = refl

-- escapes: `\n` is a line feed, `\%` stands for both characters, `\x` for `x`
line_feed : unescape (97 ∷ 92 ∷ 110 ∷ []) ≡ 97 ∷ 10 ∷ []
line_feed = refl

percent : unescape (92 ∷ 37 ∷ []) ≡ 92 ∷ 37 ∷ []
percent = refl

itself : unescape (92 ∷ 120 ∷ 92 ∷ 92 ∷ []) ≡ 120 ∷ 92 ∷ []
itself = refl

-- `\u` and a `\0` before a digit are no parts of a string
unicode : string_part 39 (92 ∷ 117 ∷ []) ≡ 0
unicode = refl

octal : string_part 39 (92 ∷ 48 ∷ 55 ∷ []) ≡ 0
octal = refl

nul : string_part 39 (92 ∷ 48 ∷ 97 ∷ []) ≡ 2
nul = refl

-- a doubled backquote is one
doubled : undouble (96 ∷ 96 ∷ 97 ∷ 96 ∷ 96 ∷ []) ≡ 96 ∷ 97 ∷ 96 ∷ []
doubled = refl
