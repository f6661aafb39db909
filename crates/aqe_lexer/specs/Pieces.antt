-- The piece of a source that begins at a place: a gap, a token or a fault.
use Rattle.std.specs.Prelude.{ℕ, zero, suc, List, ◌≡◌, ◌<◌, length, drop, take, slice_index}
use Rattle.std.specs.List.{prefix_len}
use Rattle.aqe_lexer.specs.declared.fault.Fault.TheVariants as fault
use Rattle.aqe_lexer.specs.declared.front.Front.{Front}
use Rattle.aqe_lexer.specs.declared.front.Front.TheVariants as front
use Rattle.aqe_lexer.specs.declared.piece.Piece.{Piece}
use Rattle.aqe_lexer.specs.declared.piece.Piece.TheVariants as piece
use Rattle.aqe_lexer.specs.declared.token.TokenKind.TheVariants as kind
use Rattle.aqe_lexer.specs.Bytes.{is_in_line, is_word_byte, front_of}
use Rattle.aqe_lexer.specs.Parts.{
  EndsIn,
  step_by,
  string_part,
  string_end,
  name_part,
  name_end,
  comment_step,
  comment_end,
}
use Rattle.aqe_lexer.specs.Numbers.{run_of}
use Rattle.aqe_lexer.specs.Symbols.{symbol_len}

-- a symbol with its length, where 0 is none
abbrev pub symbol_of : ℕ → Piece
symbol_of zero = piece.Bad fault.BadByte 0
symbol_of (suc n) = piece.Cut kind.Symbol (suc n)

-- The piece, by what begins here: a blank is one byte; a comment by `--` goes to the line feed; a
-- word and a run take each byte that goes on; a string, a quoted name and a comment by `/*` go on
-- from behind their first mark as far as their parts do; a symbol is the longest.
abbrev pub Fits : Front → List ℕ → Piece → Type 0
Fits front.Blank bytes x = x ≡ piece.Gap 1
Fits front.Line bytes x = x ≡ piece.Gap (prefix_len is_in_line bytes)
Fits front.Comment bytes x = let inner = drop 2 bytes in
    EndsIn comment_step (1, inner) (comment_end inner) x
Fits front.Word bytes x = x ≡ piece.Cut kind.Word (prefix_len is_word_byte bytes)
Fits front.Run bytes x = x ≡ run_of (take (prefix_len is_word_byte bytes) bytes)
Fits front.String bytes x = let quote = slice_index bytes 0 in let inner = drop 1 bytes in
    EndsIn (step_by (string_part quote)) inner (string_end quote inner) x
Fits front.Name bytes x = let inner = drop 1 bytes in
    EndsIn (step_by name_part) inner (name_end inner) x
Fits front.Symbol bytes x = x ≡ symbol_of (symbol_len bytes)

-- the piece that begins here; none does at the end
pub record Begins (bytes : List ℕ) (x : Piece) : Type 0 where
  pub some : 0 < length bytes
  pub fits : Fits (front_of bytes) bytes x
