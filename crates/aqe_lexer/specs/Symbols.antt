-- Symbols: ( ) , . ; * + - % = == <=> <> != < <= > >=
use Rattle.std.specs.Prelude.{ℕ, Bool, List, ◌==◌, ◌&&◌, ◌||◌, slice_index, if◌then◌else◌}
use Rattle.aqe_lexer.specs.Bytes.{is_pair}

-- `<=>`
abbrev pub is_three : List ℕ → Bool
is_three bytes = is_pair 60 61 bytes && slice_index bytes 2 == 62

-- `==`, `<>`, `!=`, `<=` and `>=`
abbrev pub is_two : List ℕ → Bool
is_two bytes = is_pair 61 61 bytes || is_pair 60 62 bytes || is_pair 33 61 bytes
    || is_pair 60 61 bytes || is_pair 62 61 bytes

-- `(`, `)`, `,`, `.`, `;`, `*`, `+`, `-`, `%`, `=`, `<` and `>`
abbrev pub is_one : ℕ → Bool
is_one b = b == 40 || b == 41 || b == 44 || b == 46 || b == 59 || b == 42 || b == 43
    || b == 45 || b == 37 || b == 61 || b == 60 || b == 62

-- the number of bytes of the longest symbol that begins here, or 0
abbrev pub symbol_len : List ℕ → ℕ
symbol_len bytes =
    if is_three bytes then 3
    else if is_two bytes then 2
    else if is_one (slice_index bytes 0) then 1
    else 0
