-- What tokens a text gives, wherever it stands in a source.
use Rattle.std.specs.Prelude.{ℕ, List, [], ◌∷◌, ◌++◌, ◌+◌, ◌<◌, ◌≤◌, ◌≡◌, false, true, length, drop, slice_index, IsUtf8}
use Rattle.std.specs.List.{list_all}
use Rattle.aqe_lexer.specs.declared.token.Token.{Token}
use Rattle.aqe_lexer.specs.declared.token.TokenKind.{TokenKind}
use Rattle.aqe_lexer.specs.declared.token.TokenKind.TheVariants as kind
use Rattle.aqe_lexer.specs.Bytes.{is_word_byte, is_word_start}
use Rattle.aqe_lexer.specs.Content.{text_of, content_of}
use Rattle.aqe_lexer.specs.Numbers.{number_value, number_limit}
use Rattle.aqe_lexer.specs.TokenList.{HasTokens, IsTokenList}
use Rattle.aqe_trees.specs.declared.statement.Stmt.{Stmt}
use Rattle.aqe_script.specs.Statements.{IsStatement, IsScript, is_semicolon, parts_of, AreStatements}

-- the text has tokens, and with them it has all the tokens that what follows has
pub record Given (bytes : List ℕ) (Wanted : List ℕ → List Token → Type 0) (source : List ℕ) (at : ℕ) (rest : List ℕ) : Type 0 where
  pub tokens : List Token
  pub wanted : Wanted source tokens
  pub cut : (more : List Token) → HasTokens (at + length bytes) rest more → HasTokens at (bytes ++ rest) (tokens ++ more)

-- so it is wherever the text stands
abbrev pub Gives : List ℕ → (List ℕ → List Token → Type 0) → Type 0
Gives bytes Wanted = (source : List ℕ) (at : ℕ) (rest : List ℕ) → drop at source ≡ bytes ++ rest → Given bytes Wanted source at rest

-- no statement ends at one of the tokens
abbrev pub NoneEnds : List ℕ → List Token → Type 0
NoneEnds source [] = Unit {0}
NoneEnds source (t ∷ ts) = (is_semicolon source t ≡ false) × NoneEnds source ts

-- What holds of each token of a source: a word begins with a letter or `_`, a quoted name has content, and a
-- number is within its limit.
abbrev pub IsFine : TokenKind → List ℕ → List ℕ → Type 0
IsFine kind.Word text content = (is_word_start (slice_index text 0) ≡ true) × (list_all is_word_byte text ≡ true)
IsFine kind.Quoted text content = 0 < length content
IsFine kind.Number text content = number_value text ≤ number_limit
IsFine _ text content = Unit {0}

abbrev pub AllFine : List ℕ → List Token → Type 0
AllFine source [] = Unit {0}
AllFine source (t ∷ ts) = IsFine t.kind (text_of source t) (content_of source t) × AllFine source ts

-- tokens of a source are the statement
pub record Writable (statement : Stmt) : Type 0 where
  pub source : List ℕ
  pub tokens : List Token
  pub is_statement : IsStatement source statement tokens
  pub fine : AllFine source tokens

-- so it is of each statement
abbrev pub AllWritable : List Stmt → Type 0
AllWritable [] = Unit {0}
AllWritable (first ∷ rest) = Writable first × AllWritable rest

-- tokens that are the statement, of which there is one, and at none of which a statement ends
pub record IsWhole (statement : Stmt) (source : List ℕ) (tokens : List Token) : Type 0 where
  pub is_statement : IsStatement source statement tokens
  pub some : 0 < length tokens
  pub none_ends : NoneEnds source tokens

-- the text grew by a text of the statement
pub record StatementText (statement : Stmt) (old new : List ℕ) : Type 0 where
  pub text : List ℕ
  pub added : new ≡ old ++ text
  pub is_text : IsUtf8 text
  pub gives : Gives text (IsWhole statement)

-- tokens with which statements that follow are the whole script
abbrev pub Leads : List Stmt → List Stmt → List ℕ → List Token → Type 0
Leads script left source tokens = (more : List Token) → AreStatements source left (parts_of source more)
    → AreStatements source script (parts_of source (tokens ++ more))

-- a text of all the statements of the script but those that are left
pub record ScriptText (script left : List Stmt) (bytes : List ℕ) : Type 0 where
  pub is_text : IsUtf8 bytes
  pub gives : Gives bytes (Leads script left)

-- a text that has the script: it has a token list, and these tokens are the script
pub record HasScript (text : List ℕ) (script : List Stmt) : Type 0 where
  pub tokens : List Token
  pub is_list : IsTokenList text tokens
  pub is_script : IsScript text tokens script

-- where some source has the script, the text has it
abbrev pub IsSpelling : List Stmt → List ℕ → Type 0
IsSpelling script text = (source : List ℕ) (tokens : List Token) → IsTokenList source tokens → IsScript source tokens script
    → HasScript text script
