-- How long a text and how wide a row may be.
use Rattle.std.specs.Prelude.{ℕ}

-- a text has at most as many bytes as a file may have: 64 MiB
abbrev pub text_limit : ℕ
text_limit = 67108864

-- a row has at most this many values
abbrev pub row_limit : ℕ
row_limit = 1024
