-- The text that is written for terminals: a word for each, with a blank behind it.
use Rattle.std.specs.Prelude.{ℕ, Bool, true, false, not, List, [], ◌∷◌, ◌++◌, ◌==◌, ◌&&◌, ◌||◌, codes, slice_index, if◌then◌else◌}
use Rattle.std.specs.Fmt.{decimal}
use Rattle.std.specs.List.{flat_map, list_all}
use Rattle.aqe_lexer.specs.Bytes.{is_word_byte, is_word_start}
use Rattle.aqe_trees.specs.Keywords.{key_text, is_reserved}
use Rattle.aqe_trees.specs.declared.terminal.Terminal.{Terminal}
use Rattle.aqe_trees.specs.declared.terminal.Terminal.TheVariants.{Fixed, Name, Literal, Number, Mixed}

-- a name that stands as it is: letters, digits and `_`, no digit first, and no reserved word
abbrev pub is_bare : List ℕ → Bool
is_bare text = is_word_start (slice_index text 0) && list_all is_word_byte text && not (is_reserved text)

-- a backquote within a name is doubled
abbrev pub doubled : ℕ → List ℕ
doubled b = if b == 96 then 96 ∷ 96 ∷ [] else b ∷ []

-- a name as it is, or between backquotes
abbrev pub name_text : List ℕ → Bool → List ℕ
name_text text false = text
name_text text true = 96 ∷ flat_map doubled text ++ 96 ∷ []

-- a `\` or `'` within a string stands behind a `\`
abbrev pub escaped : ℕ → List ℕ
escaped b = if b == 92 || b == 39 then 92 ∷ b ∷ [] else b ∷ []

-- a string between `'`
abbrev pub literal_text : List ℕ → List ℕ
literal_text text = 39 ∷ flat_map escaped text ++ 39 ∷ []

-- the letter of BIGINT
abbrev pub long_text : Bool → List ℕ
long_text false = []
long_text true = codes "L"

-- what is written for a terminal; no tree has a mixed one
abbrev pub word_of : Terminal → List ℕ
word_of (Fixed key) = key_text key
word_of (Name text quoted) = name_text text quoted
word_of (Literal text) = literal_text text
word_of (Number value long) = decimal value ++ long_text long
word_of Mixed = []

-- a word with its blank
abbrev pub spaced : Terminal → List ℕ
spaced t = word_of t ++ 32 ∷ []

-- all of them, in their order
abbrev pub text_of_all : List Terminal → List ℕ
text_of_all words = flat_map spaced words
