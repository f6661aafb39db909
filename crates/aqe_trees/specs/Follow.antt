-- Which terminals go on with what stands before them.
use Rattle.std.specs.Prelude.{ℕ, List, [], ◌∷◌, ◌<◌}
use Rattle.aqe_trees.specs.declared.terminal.Key.{Key}
use Rattle.aqe_trees.specs.declared.terminal.Key.TheVariants as k
use Rattle.aqe_trees.specs.declared.terminal.Terminal.{Terminal}
use Rattle.aqe_trees.specs.declared.terminal.Terminal.TheVariants.{Fixed, Name}

-- how tightly a word or symbol binds that goes on with what stands before it; one with 0 ends all that stands before it
abbrev pub key_binds : Key → ℕ
key_binds k.Offset = 1
key_binds k.Limit = 2
key_binds k.Order = 3
key_binds k.Union = 4
key_binds k.Having = 5
key_binds k.Group = 6
key_binds k.Where = 7
key_binds k.From = 8
key_binds k.Comma = 9
key_binds k.Join = 10
key_binds k.Inner = 10
key_binds k.Cross = 10
key_binds k.Left = 10
key_binds k.Right = 10
key_binds k.Full = 10
key_binds k.Semi = 10
key_binds k.Anti = 10
key_binds k.On = 11
key_binds k.As = 12
key_binds k.Nulls = 12
key_binds k.Asc = 13
key_binds k.Desc = 13
key_binds k.Or = 14
key_binds k.And = 15
key_binds k.Not = 16
key_binds k.Between = 16
key_binds k.In = 16
key_binds k.Like = 16
key_binds k.Is = 16
key_binds k.Equal = 17
key_binds k.DoubleEqual = 17
key_binds k.Same = 17
key_binds k.NotEqual = 17
key_binds k.Less = 17
key_binds k.AtMost = 17
key_binds k.Greater = 17
key_binds k.AtLeast = 17
key_binds k.Plus = 18
key_binds k.Minus = 18
key_binds k.Star = 19
key_binds k.Percent = 19
key_binds k.Div = 19
key_binds k.All = 21
key_binds k.Distinct = 21
key_binds k.Dot = 20
key_binds k.Open = 20
key_binds _ = 0

-- a name goes on as an alias
abbrev pub binds : Terminal → ℕ
binds (Fixed key) = key_binds key
binds (Name text quoted) = 12
binds _ = 0

-- of the first terminal
abbrev pub binds_at : List Terminal → ℕ
binds_at [] = 0
binds_at (t ∷ ts) = binds t

-- what is left begins with nothing that binds as tightly as the level
abbrev pub Stops : ℕ → List Terminal → Type 0
Stops level us = binds_at us < level
