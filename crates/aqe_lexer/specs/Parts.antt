-- What is read in parts: strings, quoted names and comments.
--
-- A part is one to three bytes that belong together. A string, a name or a comment goes on as far
-- as its parts go, and the bytes where they stop say whether it ends there or what is wrong.
use Rattle.std.specs.Prelude.{ℕ, Bool, List, Option, Some, None, ◌≡◌, ◌==◌, ◌&&◌, ◌||◌, ◌+◌, ◌-◌, length, drop, nat_lt, slice_index, if◌then◌else◌}
use Rattle.std.specs.Char.{is_ascii_digit}
use Rattle.std.specs.Int.{is_in_range}
use Rattle.aqe_lexer.specs.declared.fault.Fault.TheVariants as fault
use Rattle.aqe_lexer.specs.declared.piece.Piece.{Piece}
use Rattle.aqe_lexer.specs.declared.piece.Piece.TheVariants as piece
use Rattle.aqe_lexer.specs.declared.token.TokenKind.TheVariants as kind
use Rattle.aqe_lexer.specs.Bytes.{is_pair}

-- from one state to another by any number of steps
pub data Passes {S : Type 0} (step : S → Option S) : S → S → Type 0 where
  here : (s : S) → Passes step s s
  next : (s t u : S) → step s ≡ Some t → Passes step t u → Passes step s u

-- by steps from one state to another that has no step
pub record Stops {S : Type 0} (step : S → Option S) (start stop : S) : Type 0 where
  pub passes : Passes step start stop
  pub stuck : step stop ≡ None

-- where the steps from `start` stop, `end` gives this value
pub record EndsIn {S X : Type 0} (step : S → Option S) (start : S) (end : S → X) (x : X) : Type 0 where
  pub stop : S
  pub stops : Stops step start stop
  pub value : x ≡ end stop

-- what is left behind the part that these bytes begin with; a part of 0 bytes is none
abbrev pub step_by : (List ℕ → ℕ) → List ℕ → Option (List ℕ)
step_by part bytes = if part bytes == 0 then None else Some (drop (part bytes) bytes)

-- the bytes behind a `\` that are refused: `1` to `9`, `u` and `U`, and a `0` before a digit
abbrev pub is_refused : List ℕ → Bool
is_refused bytes = let b = slice_index bytes 0 in
    is_in_range 49 57 b || b == 117 || b == 85
    || b == 48 && is_ascii_digit (slice_index bytes 1)

-- A part of a string is a byte that stands for itself, or a `\` with the byte behind it. No part
-- stands at the quote that ends the string, at an escape that is refused, and at the end.
abbrev pub string_part : ℕ → List ℕ → ℕ
string_part quote bytes = let b = slice_index bytes 0 in
    if length bytes == 0 || b == quote then 0
    else if b == 92 then (if nat_lt (length bytes) 2 || is_refused (drop 1 bytes) then 0 else 2)
    else 1

-- from one place in a string to the next, over the part between them
abbrev pub string_step : ℕ → List ℕ → Option (List ℕ)
string_step quote bytes = step_by (string_part quote) bytes

-- what a string is, from the bytes behind its first quote and what is left where its parts stop
abbrev pub string_end : ℕ → List ℕ → List ℕ → Piece
string_end quote bytes rest = let read = length bytes - length rest in
    if length rest == 0 then piece.Bad fault.OpenString 0
    else if slice_index rest 0 == quote then piece.Cut kind.Literal (read + 2)
    else if length rest == 1 then piece.Bad fault.OpenString 0
    else piece.Bad fault.BadEscape (read + 1)

-- A part of a quoted name is a doubled backquote, or another byte. No part stands at the backquote
-- that ends the name, and at the end.
abbrev pub name_part : List ℕ → ℕ
name_part bytes =
    if length bytes == 0 then 0
    else if slice_index bytes 0 == 96 then (if slice_index bytes 1 == 96 then 2 else 0)
    else 1

-- what a quoted name is, likewise: it has content
abbrev pub name_end : List ℕ → List ℕ → Piece
name_end bytes rest = let read = length bytes - length rest in
    if length rest == 0 then piece.Bad fault.OpenQuote 0
    else if read == 0 then piece.Bad fault.BadByte 0
    else piece.Cut kind.Quoted (read + 2)

-- A part of a comment is a `/*`, which opens one more comment, a `*/`, which closes one, or another
-- byte. Beside the bytes stands how many are open. No part stands at the `*/` of the outermost, and
-- at the end.
abbrev pub comment_step : ℕ × List ℕ → Option (ℕ × List ℕ)
comment_step place = let depth = place.0 in let bytes = place.1 in
    if length bytes == 0 then None
    else if is_pair 42 47 bytes then (if depth == 1 then None else Some (depth - 1, drop 2 bytes))
    else if is_pair 47 42 bytes then Some (depth + 1, drop 2 bytes)
    else Some (depth, drop 1 bytes)

-- what a comment is, from the bytes behind its first `/*` and what is left where its parts stop
abbrev pub comment_end : List ℕ → ℕ × List ℕ → Piece
comment_end bytes place =
    if length place.1 == 0 then piece.Bad fault.OpenComment 0
    else piece.Gap (length bytes - length place.1 + 4)
