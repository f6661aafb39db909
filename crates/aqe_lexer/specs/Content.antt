-- The text of a token, and what the bytes between its quotes stand for.
use Rattle.std.specs.Prelude.{
  ℕ,
  Bool,
  true,
  false,
  List,
  [],
  ◌∷◌,
  ◌++◌,
  ◌+◌,
  ◌-◌,
  ◌==◌,
  ◌||◌,
  slice_range,
  if◌then◌else◌,
}
use Rattle.aqe_lexer.specs.declared.token.Token.{Token}

-- the bytes of a token
abbrev pub text_of : List ℕ → Token → List ℕ
text_of source token = slice_range source token.start token.end

-- the bytes between the quotes of a string or of a quoted name
abbrev pub content_of : List ℕ → Token → List ℕ
content_of source token = slice_range source (token.start + 1) (token.end - 1)

-- Bytes are read from the left, and a mark may change what the byte behind it gives: `gives` says
-- what a byte gives, behind such a mark or not, and `marks` whether it is itself such a mark.
abbrev pub decoded : (Bool → ℕ → List ℕ) → (Bool → ℕ → Bool) → Bool → List ℕ → List ℕ
decoded gives marks marked [] = []
decoded gives marks marked (b ∷ bytes) =
    gives marked b ++ decoded gives marks (marks marked b) bytes

-- the byte for which `\` and a byte stand: `\n`, `\t`, `\r`, `\b`, `\0` and `\Z` are control
-- characters, and another byte stands for itself
abbrev pub escape_of : ℕ → ℕ
escape_of b =
    if b == 110 then 10
    else if b == 116 then 9
    else if b == 114 then 13
    else if b == 98 then 8
    else if b == 48 then 0
    else if b == 90 then 26
    else b

-- a byte of a string: a `\` gives nothing by itself, and `\%` and `\_` give both bytes
abbrev pub string_gives : Bool → ℕ → List ℕ
string_gives true b = if b == 37 || b == 95 then 92 ∷ b ∷ [] else escape_of b ∷ []
string_gives false b = if b == 92 then [] else b ∷ []

-- a `\` that is not itself behind a `\`
abbrev pub string_marks : Bool → ℕ → Bool
string_marks true b = false
string_marks false b = b == 92

-- the bytes for which the content of a string stands
abbrev pub unescape : List ℕ → List ℕ
unescape content = decoded string_gives string_marks false content

-- a byte of a quoted name: a backquote gives itself, and the one that doubles it nothing
abbrev pub name_gives : Bool → ℕ → List ℕ
name_gives true b = if b == 96 then [] else b ∷ []
name_gives false b = b ∷ []

-- a backquote that is not itself behind a backquote
abbrev pub name_marks : Bool → ℕ → Bool
name_marks true b = false
name_marks false b = b == 96

-- the bytes for which the content of a quoted name stands
abbrev pub undouble : List ℕ → List ℕ
undouble content = decoded name_gives name_marks false content
