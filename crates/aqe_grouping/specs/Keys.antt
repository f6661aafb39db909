-- Keys and columns, as the definitions of grouped expressions see them.
use Rattle.std.specs.Prelude.{ℕ, List, map, Option, Some, None, Ok}
use Rattle.aqe_expr.specs.declared.expr.Expr.{Expr, Column}
use Rattle.aqe_rules.specs.declared.names.Named.{Named}
use Rattle.aqe_rules.specs.declared.typed.Typed.{Typed}
use Rattle.aqe_rules.specs.Outcomes.{Outcome}

abbrev pub exprs_of : List Typed → List Expr
exprs_of keys = map (λ k. k.expr) keys

abbrev pub names_of : List Named → List (List ℕ)
names_of columns = map (λ c. c.name) columns

-- the column of the key that was found, else what comes where none was
abbrev pub key_or : Option ℕ → Outcome Expr → Outcome Expr
key_or (Some place) other = Ok (Column place)
key_or None other = other
