-- The classes of bytes, and what the bytes of a source begin with.
use Rattle.std.specs.Prelude.{ℕ, Bool, not, List, ◌==◌, ◌&&◌, ◌||◌, slice_index, if◌then◌else◌}
use Rattle.std.specs.Char.{is_ascii_alphabetic, is_ascii_alphanumeric, is_ascii_digit}
use Rattle.aqe_lexer.specs.declared.front.Front.{Front}
use Rattle.aqe_lexer.specs.declared.front.Front.TheVariants as front

-- space, tab, line feed and carriage return
abbrev pub is_blank : ℕ → Bool
is_blank b = b == 32 || b == 9 || b == 10 || b == 13

-- a letter or `_`, with which a word begins
abbrev pub is_word_start : ℕ → Bool
is_word_start b = is_ascii_alphabetic b || b == 95

-- a letter, a digit or `_`, of which a word goes on
abbrev pub is_word_byte : ℕ → Bool
is_word_byte b = is_ascii_alphanumeric b || b == 95

-- any byte but a line feed, of which a comment to the end of its line is made
abbrev pub is_in_line : ℕ → Bool
is_in_line b = not (b == 10)

-- a quote that begins and ends a string: `'` or `"`
abbrev pub is_quote : ℕ → Bool
is_quote b = b == 39 || b == 34

-- the bytes begin with these two
abbrev pub is_pair : ℕ → ℕ → List ℕ → Bool
is_pair a b bytes = slice_index bytes 0 == a && slice_index bytes 1 == b

-- what begins here: a blank, a comment by `--` or `/*`, a word, a run by its digit, a string by its
-- quote, a name by its backquote, and else a symbol
abbrev pub front_of : List ℕ → Front
front_of bytes = let b = slice_index bytes 0 in
    if is_blank b then front.Blank
    else if is_pair 45 45 bytes then front.Line
    else if is_pair 47 42 bytes then front.Comment
    else if is_word_start b then front.Word
    else if is_ascii_digit b then front.Run
    else if is_quote b then front.String
    else if b == 96 then front.Name
    else front.Symbol
