-- Operators, types and other words, by the terminals that spell them.
use Rattle.std.specs.Prelude.{ℕ, List, ◌∷◌, Bool, true, false, Option, Some, None, if◌then◌else◌, codes}
use Rattle.std.specs.Str.{str_eq_ignore_ascii_case}
use Rattle.aqe_values.specs.declared.sql_type.SqlType.{SqlType}
use Rattle.aqe_values.specs.declared.sql_type.SqlType.TheVariants as kind
use Rattle.aqe_trees.specs.declared.terminal.Key.TheVariants as k
use Rattle.aqe_trees.specs.declared.terminal.Terminal.{Terminal}
use Rattle.aqe_trees.specs.declared.terminal.Terminal.TheVariants.{Fixed, Name, Number, Literal}
use Rattle.aqe_trees.specs.declared.expression.CompareOp.{CompareOp}
use Rattle.aqe_trees.specs.declared.expression.CompareOp.TheVariants as compare
use Rattle.aqe_trees.specs.declared.expression.Sign.{Sign}
use Rattle.aqe_trees.specs.declared.expression.Sign.TheVariants as sign
use Rattle.aqe_trees.specs.declared.expression.ProductOp.{ProductOp}
use Rattle.aqe_trees.specs.declared.expression.ProductOp.TheVariants as product
use Rattle.aqe_trees.specs.declared.expression.Truth.{Truth}
use Rattle.aqe_trees.specs.declared.expression.Truth.TheVariants as truth

-- the comparison that a terminal spells
abbrev pub compare_of : Terminal → Option CompareOp
compare_of (Fixed k.Equal) = Some compare.Equal
compare_of (Fixed k.DoubleEqual) = Some compare.Equal
compare_of (Fixed k.Same) = Some compare.Same
compare_of (Fixed k.NotEqual) = Some compare.NotEqual
compare_of (Fixed k.Less) = Some compare.Less
compare_of (Fixed k.AtMost) = Some compare.AtMost
compare_of (Fixed k.Greater) = Some compare.Greater
compare_of (Fixed k.AtLeast) = Some compare.AtLeast
compare_of _ = None

-- plus or minus
abbrev pub sum_of : Terminal → Option Sign
sum_of (Fixed k.Plus) = Some sign.Plus
sum_of (Fixed k.Minus) = Some sign.Minus
sum_of _ = None

-- `*`, `%` or DIV
abbrev pub product_of : Terminal → Option ProductOp
product_of (Fixed k.Star) = Some product.Times
product_of (Fixed k.Percent) = Some product.Remainder
product_of (Fixed k.Div) = Some product.Divide
product_of _ = None

-- what IS may ask for
abbrev pub truth_of : Terminal → Option Truth
truth_of (Fixed k.Null) = Some truth.Null
truth_of (Fixed k.True) = Some truth.True
truth_of (Fixed k.False) = Some truth.False
truth_of _ = None

-- a sign before an operand; a `-` directly before a number is none, since it is a part of that number
abbrev pub sign_at : List Terminal → Option Sign
sign_at (Fixed k.Plus ∷ ts) = Some sign.Plus
sign_at (Fixed k.Minus ∷ Number value long ∷ ts) = None
sign_at (Fixed k.Minus ∷ ts) = Some sign.Minus
sign_at _ = None

-- a text is a word, where ASCII case does not count
abbrev pub is_word : List ℕ → List ℕ → Bool
is_word word text = str_eq_ignore_ascii_case text word

-- count
abbrev pub count_word : List ℕ
count_word = codes "count"

-- int, integer, bigint, long, string, boolean
abbrev pub type_named : List ℕ → Option SqlType
type_named text =
    if is_word (codes "int") text then Some kind.Int
    else if is_word (codes "integer") text then Some kind.Int
    else if is_word (codes "bigint") text then Some kind.BigInt
    else if is_word (codes "long") text then Some kind.BigInt
    else if is_word (codes "string") text then Some kind.Text
    else if is_word (codes "boolean") text then Some kind.Boolean
    else None

-- the type that a word names; between backquotes it names none
abbrev pub type_of : Terminal → Option SqlType
type_of (Name text false) = type_named text
type_of _ = None

-- FIRST (NULLs do not stand last) or LAST
abbrev pub nulls_of : Terminal → Option Bool
nulls_of (Name text false) =
    if is_word (codes "first") text then Some false else if is_word (codes "last") text then Some true else None
nulls_of _ = None

-- the key of a table option: a name or a string
abbrev pub option_key_of : Terminal → Option (List ℕ)
option_key_of (Name text quoted) = Some text
option_key_of (Literal text) = Some text
option_key_of _ = None

-- the value of a table option: a string, TRUE or FALSE
abbrev pub option_value_of : Terminal → Option (List ℕ)
option_value_of (Literal text) = Some text
option_value_of (Fixed k.True) = Some (codes "true")
option_value_of (Fixed k.False) = Some (codes "false")
option_value_of _ = None
