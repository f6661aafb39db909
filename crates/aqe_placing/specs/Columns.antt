-- How a key is spelled over rows that are made anew.
use Rattle.std.specs.Prelude.{Bool, Option, List}
use Rattle.std.specs.List.{list_any}
use Rattle.aqe_expr.specs.declared.expr.Expr.{Expr}
use Rattle.aqe_logical.specs.declared.plan.SortKey.{SortKey}
use Rattle.aqe_rules.specs.Equality.{same_expr}
use Rattle.aqe_fitting.specs.Placing.{column_with, kept_column, key_over}
use Rattle.aqe_placing.specs.declared.placing.Remade.{Remade}
use Rattle.aqe_placing.specs.declared.placing.Remade.TheVariants.{Items, Groups}

-- a projection keeps plain columns, and groups have the keys themselves as columns
abbrev pub found_by : Remade → List Expr → Expr → Option Expr
found_by Items items = kept_column items
found_by Groups items = column_with items

-- an expression is one of the keys
abbrev pub is_among : List Expr → Expr → Bool
is_among keys e = list_any (λ k. same_expr k e) keys

-- a sort key whose expression is spelled anew
abbrev pub key_by : (Expr → Expr) → SortKey → SortKey
key_by spelled key = key_over key (spelled key.expr)
