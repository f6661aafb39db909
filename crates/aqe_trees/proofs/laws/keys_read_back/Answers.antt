use Rattle.std.proofs.Common.{◌≡◌, refl}
use Rattle.std.specs.Prelude.{Some}
use Rattle.aqe_trees.specs.declared.terminal.Key.{Key}
use Rattle.aqe_trees.specs.declared.terminal.Key.TheVariants as k
use Rattle.aqe_trees.specs.Keywords.{key_text, text_key}
use Rattle.aqe_trees.proofs.laws.keys_read_back.Goals as goal

read_back : (key : Key) → text_key (key_text key) ≡ Some key
read_back k.All = refl
read_back k.And = refl
read_back k.Anti = refl
read_back k.As = refl
read_back k.Asc = refl
read_back k.Between = refl
read_back k.By = refl
read_back k.Case = refl
read_back k.Cast = refl
read_back k.Create = refl
read_back k.Cross = refl
read_back k.Desc = refl
read_back k.Distinct = refl
read_back k.Div = refl
read_back k.Else = refl
read_back k.End = refl
read_back k.False = refl
read_back k.From = refl
read_back k.Full = refl
read_back k.Group = refl
read_back k.Having = refl
read_back k.In = refl
read_back k.Inner = refl
read_back k.Is = refl
read_back k.Join = refl
read_back k.Left = refl
read_back k.Like = refl
read_back k.Limit = refl
read_back k.Not = refl
read_back k.Null = refl
read_back k.Nulls = refl
read_back k.Offset = refl
read_back k.On = refl
read_back k.Or = refl
read_back k.Order = refl
read_back k.Outer = refl
read_back k.Right = refl
read_back k.Select = refl
read_back k.Semi = refl
read_back k.Set = refl
read_back k.Then = refl
read_back k.True = refl
read_back k.Union = refl
read_back k.Using = refl
read_back k.When = refl
read_back k.Where = refl
read_back k.Open = refl
read_back k.Close = refl
read_back k.Comma = refl
read_back k.Dot = refl
read_back k.Semicolon = refl
read_back k.Star = refl
read_back k.Plus = refl
read_back k.Minus = refl
read_back k.Percent = refl
read_back k.Equal = refl
read_back k.DoubleEqual = refl
read_back k.Same = refl
read_back k.NotEqual = refl
read_back k.Less = refl
read_back k.AtMost = refl
read_back k.Greater = refl
read_back k.AtLeast = refl

pub returns : goal.returns
returns c = read_back
