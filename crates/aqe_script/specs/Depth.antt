-- How many parentheses and CASEs are open at a token.
use Rattle.std.specs.Prelude.{ℕ, Bool, true, false, List, Option, Some, ◌<◌, ◌+◌, take, length, Any}
use Rattle.std.specs.List.{filter}
use Rattle.aqe_lexer.specs.declared.token.Token.{Token}
use Rattle.aqe_trees.specs.declared.terminal.Key.{Key}
use Rattle.aqe_trees.specs.declared.terminal.Key.TheVariants as k
use Rattle.aqe_script.specs.Terminals.{key_of}
use Rattle.aqe_script.specs.Statements.{parts_of}

-- the greatest open depth, and the greatest nesting, that a reader takes
abbrev pub depth_limit : ℕ
depth_limit = 128

-- `(` and CASE open
abbrev pub key_opens : Option Key → Bool
key_opens (Some k.Open) = true
key_opens (Some k.Case) = true
key_opens _ = false

-- `)` and END close
abbrev pub key_closes : Option Key → Bool
key_closes (Some k.Close) = true
key_closes (Some k.End) = true
key_closes _ = false

-- how many of some tokens open
abbrev pub opened : List ℕ → List Token → ℕ
opened source tokens = length (filter (λ token. key_opens (key_of source token)) tokens)

-- how many of some tokens close
abbrev pub closed : List ℕ → List Token → ℕ
closed source tokens = length (filter (λ token. key_closes (key_of source token)) tokens)

-- Between two semicolons, up to some token, more are opened than are closed, by more than the limit.
abbrev pub IsOpenTooDeep : List ℕ → List Token → Type 0
IsOpenTooDeep source part = (n : ℕ) × (closed source (take n part) + depth_limit < opened source (take n part))

-- somewhere in the script the open depth is above the limit
abbrev pub IsTooOpen : List ℕ → List Token → Type 0
IsTooOpen source tokens = Any (IsOpenTooDeep source) (parts_of source tokens)
