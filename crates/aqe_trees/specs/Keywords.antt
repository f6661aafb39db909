-- The reserved words and the symbols: one table of keys and texts, from which the rest comes.
use Rattle.std.specs.Prelude.{ℕ, List, [], ◌∷◌, Bool, Option, Some, codes, find, if◌then◌else◌}
use Rattle.std.specs.Option.{is_some}
use Rattle.std.specs.Str.{str_eq_ignore_ascii_case}
use Rattle.aqe_trees.specs.declared.terminal.Key.{Key}
use Rattle.aqe_trees.specs.declared.terminal.Key.TheVariants as k

-- the table: a reserved word in capitals, or a symbol
abbrev pub key_text : Key → List ℕ
key_text k.All = codes "ALL"
key_text k.And = codes "AND"
key_text k.Anti = codes "ANTI"
key_text k.As = codes "AS"
key_text k.Asc = codes "ASC"
key_text k.Between = codes "BETWEEN"
key_text k.By = codes "BY"
key_text k.Case = codes "CASE"
key_text k.Cast = codes "CAST"
key_text k.Create = codes "CREATE"
key_text k.Cross = codes "CROSS"
key_text k.Desc = codes "DESC"
key_text k.Distinct = codes "DISTINCT"
key_text k.Div = codes "DIV"
key_text k.Else = codes "ELSE"
key_text k.End = codes "END"
key_text k.False = codes "FALSE"
key_text k.From = codes "FROM"
key_text k.Full = codes "FULL"
key_text k.Group = codes "GROUP"
key_text k.Having = codes "HAVING"
key_text k.In = codes "IN"
key_text k.Inner = codes "INNER"
key_text k.Is = codes "IS"
key_text k.Join = codes "JOIN"
key_text k.Left = codes "LEFT"
key_text k.Like = codes "LIKE"
key_text k.Limit = codes "LIMIT"
key_text k.Not = codes "NOT"
key_text k.Null = codes "NULL"
key_text k.Nulls = codes "NULLS"
key_text k.Offset = codes "OFFSET"
key_text k.On = codes "ON"
key_text k.Or = codes "OR"
key_text k.Order = codes "ORDER"
key_text k.Outer = codes "OUTER"
key_text k.Right = codes "RIGHT"
key_text k.Select = codes "SELECT"
key_text k.Semi = codes "SEMI"
key_text k.Set = codes "SET"
key_text k.Then = codes "THEN"
key_text k.True = codes "TRUE"
key_text k.Union = codes "UNION"
key_text k.Using = codes "USING"
key_text k.When = codes "WHEN"
key_text k.Where = codes "WHERE"
key_text k.Open = codes "("
key_text k.Close = codes ")"
key_text k.Comma = codes ","
key_text k.Dot = codes "."
key_text k.Semicolon = codes ";"
key_text k.Star = codes "*"
key_text k.Plus = codes "+"
key_text k.Minus = codes "-"
key_text k.Percent = codes "%"
key_text k.Equal = codes "="
key_text k.DoubleEqual = codes "=="
key_text k.Same = codes "<=>"
key_text k.NotEqual = codes "<>"
key_text k.Less = codes "<"
key_text k.AtMost = codes "<="
key_text k.Greater = codes ">"
key_text k.AtLeast = codes ">="

-- the keys that are words
abbrev pub word_keys : List Key
word_keys =
    k.All ∷ k.And ∷ k.Anti ∷ k.As ∷ k.Asc ∷ k.Between ∷ k.By ∷ k.Case ∷ k.Cast ∷ k.Create ∷ k.Cross ∷
    k.Desc ∷ k.Distinct ∷ k.Div ∷ k.Else ∷ k.End ∷ k.False ∷ k.From ∷ k.Full ∷ k.Group ∷ k.Having ∷ k.In ∷
    k.Inner ∷ k.Is ∷ k.Join ∷ k.Left ∷ k.Like ∷ k.Limit ∷ k.Not ∷ k.Null ∷ k.Nulls ∷ k.Offset ∷ k.On ∷ k.Or ∷
    k.Order ∷ k.Outer ∷ k.Right ∷ k.Select ∷ k.Semi ∷ k.Set ∷ k.Then ∷ k.True ∷ k.Union ∷ k.Using ∷ k.When ∷
    k.Where ∷ []

-- the keys that are symbols
abbrev pub symbol_keys : List Key
symbol_keys =
    k.Open ∷ k.Close ∷ k.Comma ∷ k.Dot ∷ k.Semicolon ∷ k.Star ∷ k.Plus ∷ k.Minus ∷ k.Percent ∷ k.Equal ∷
    k.DoubleEqual ∷ k.Same ∷ k.NotEqual ∷ k.Less ∷ k.AtMost ∷ k.Greater ∷ k.AtLeast ∷ []

-- the text spells the key, where ASCII case does not count
abbrev pub spells : List ℕ → Key → Bool
spells text key = str_eq_ignore_ascii_case text (key_text key)

-- the reserved word that a text is
abbrev pub word_key : List ℕ → Option Key
word_key text = find (λ key. spells text key) word_keys

-- a reserved word names nothing unless it is quoted
abbrev pub is_reserved : List ℕ → Bool
is_reserved text = is_some (word_key text)

-- the symbol that a text is; `!=` is a second spelling of `<>`
abbrev pub symbol_key : List ℕ → Option Key
symbol_key text =
    if str_eq_ignore_ascii_case text (codes "!=") then Some k.NotEqual else find (λ key. spells text key) symbol_keys

-- the reserved word or symbol that a text is
abbrev pub text_key : List ℕ → Option Key
text_key text = if is_reserved text then word_key text else symbol_key text
