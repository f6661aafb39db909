-- SET key = value, over the tokens of a source.
use Rattle.std.specs.Prelude.{ℕ, List, [], ◌∷◌, ◌++◌, ◌≡◌, Some, slice_range}
use Rattle.aqe_lexer.specs.declared.token.Token.{Token}
use Rattle.aqe_lexer.specs.declared.token.TokenKind.{TokenKind}
use Rattle.aqe_lexer.specs.declared.token.TokenKind.TheVariants as kind
use Rattle.aqe_lexer.specs.Content.{text_of, content_of, unescape}
use Rattle.aqe_trees.specs.declared.statement.SetForm.{SetForm}
use Rattle.aqe_trees.specs.declared.terminal.Key.TheVariants as k
use Rattle.aqe_trees.specs.Shapes.{set_form}
use Rattle.aqe_script.specs.Terminals.{key_of}

-- key = word {. word}: the words with a point between each two. Each word counts, a reserved one too.
pub data IsSettingKey (source : List ℕ) : List ℕ → List Token → List Token → Type 0 where
  word : {t : Token} {us : List Token} → t.kind ≡ kind.Word → IsSettingKey source (text_of source t) (t ∷ us) us
  pointed : {rest : List ℕ} {t point : Token} {ts us : List Token} →
      t.kind ≡ kind.Word → key_of source point ≡ Some k.Dot → IsSettingKey source rest ts us →
      IsSettingKey source (text_of source t ++ (46 ∷ rest)) (t ∷ point ∷ ts) us

-- the last of some tokens
abbrev pub last_of : Token → List Token → Token
last_of first [] = first
last_of first (next ∷ more) = last_of next more

-- the content of a string
abbrev pub string_value : TokenKind → List ℕ → List ℕ → List ℕ
string_value kind.Literal text content = unescape content
string_value _ text content = text

-- the value: what one string stands for, and else the source's text from the first token to the last
abbrev pub value_of : List ℕ → Token → List Token → List ℕ
value_of source first [] = string_value first.kind (text_of source first) (content_of source first)
value_of source first (next ∷ more) = slice_range source first.start (last_of next more).end

-- set = SET key = token {token}
pub data IsSet (source : List ℕ) : SetForm → List Token → Type 0 where
  set : {key : List ℕ} {t equal first : Token} {ts more : List Token} →
      key_of source t ≡ Some k.Set → IsSettingKey source key ts (equal ∷ first ∷ more) →
      key_of source equal ≡ Some k.Equal →
      IsSet source (set_form key (value_of source first more)) (t ∷ ts)
