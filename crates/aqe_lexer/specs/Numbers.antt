-- Numbers: digits, with or without an `L` behind them.
use Rattle.std.specs.Prelude.{
  ℕ,
  Bool,
  List,
  ◌==◌,
  ◌&&◌,
  ◌||◌,
  ◌+◌,
  length,
  nat_le,
  take,
  slice_index,
  if◌then◌else◌,
}
use Rattle.std.specs.Char.{is_ascii_digit}
use Rattle.std.specs.List.{prefix_len}
use Rattle.std.specs.Str.Parse.{digits_value}
use Rattle.aqe_lexer.specs.declared.fault.Fault.TheVariants as fault
use Rattle.aqe_lexer.specs.declared.piece.Piece.{Piece}
use Rattle.aqe_lexer.specs.declared.piece.Piece.TheVariants as piece
use Rattle.aqe_lexer.specs.declared.token.TokenKind.TheVariants as kind

-- how many digits a text begins with
abbrev pub digits_len : List ℕ → ℕ
digits_len text = prefix_len is_ascii_digit text

-- the number that the digits of a number's text write
abbrev pub number_value : List ℕ → ℕ
number_value text = digits_value 10 (take (digits_len text) text)

-- behind the digits stands an `L` or `l`, which makes the number a BIGINT
abbrev pub is_long : List ℕ → Bool
is_long text = let b = slice_index text (digits_len text) in b == 76 || b == 108

-- digits alone, or digits and one `L` or `l`
abbrev pub is_number : List ℕ → Bool
is_number run = length run == digits_len run || is_long run && length run == digits_len run + 1

-- the greatest number that a token may write
abbrev pub number_limit : ℕ
number_limit = 9223372036854775808

-- what a run of letters, digits and `_` is that begins with a digit
abbrev pub run_of : List ℕ → Piece
run_of run =
    if is_number run
    then (if nat_le (number_value run) number_limit
    then piece.Cut kind.Number (length run)
    else piece.Bad fault.WideNumber 0)
    else piece.Cut kind.Mixed (length run)
