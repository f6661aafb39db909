-- The output columns of a SELECT, with those of one item of the select list more at a time. `built` is the rule by which each
-- column is built: that of grouped queries, or that of the others, which does nothing.
use Rattle.std.specs.Prelude.{ℕ, Bool, List, [], ◌∷◌, ◌++◌, map, length, Option, Ok}
use Rattle.aqe_expr.specs.declared.expr.Expr.{Expr}
use Rattle.aqe_trees.specs.declared.expression.OrTree.{OrTree}
use Rattle.aqe_trees.specs.declared.query.ItemTree.{ItemTree}
use Rattle.aqe_rules.specs.declared.names.Named.{Named}
use Rattle.aqe_rules.specs.declared.typed.Typed.{Typed}
use Rattle.aqe_rules.specs.Expressions.{read}
use Rattle.aqe_rules.specs.Outcomes.{Outcome, upon, each}
use Rattle.aqe_rules.specs.Readings.{Place}
use Rattle.aqe_rules.specs.Sources.{Item}
use Rattle.aqe_rules.specs.Selects.{Output, output, all_columns, columns_of_all, column_output, item_outputs, output_name}

-- the output columns so far, and more behind them
abbrev pub behind : List Output → Outcome (List Output) → Outcome (List Output)
behind before more = upon more (λ m. Ok (before ++ m))

-- columns of FROM as output columns
abbrev pub columns_shown : (Typed → Outcome Typed) → List Named → Outcome (List Output)
columns_shown built columns = each (map (column_output built) columns)

-- an expression of the select list behind n output columns
abbrev pub expression : (Typed → Outcome Typed) → Place → ℕ → OrTree → Option (List ℕ) → Outcome Output
expression built place n value alias =
    upon (read value place).value (λ meaning. upon (built meaning) (λ made.
    Ok (output (output_name place.columns n alias value meaning) made)))

-- the output columns so far with those of `*`, with those of `t.*`, with an expression, and with those of any item
abbrev pub with_all : (Typed → Outcome Typed) → Bool → List Named → List Output → Outcome (List Output)
with_all built has_from columns before = behind before (upon (all_columns has_from columns) (columns_shown built))

abbrev pub with_all_of : (Typed → Outcome Typed) → List ℕ → List Item → List Output → Outcome (List Output)
with_all_of built name items before = behind before (upon (columns_of_all name items) (columns_shown built))

abbrev pub with_one : (Typed → Outcome Typed) → Place → OrTree → Option (List ℕ) → List Output → Outcome (List Output)
with_one built place value alias before = behind before (upon (expression built place (length before) value alias) (λ o. Ok (o ∷ [])))

abbrev pub with_item : (Typed → Outcome Typed) → Bool → List Item → Place → Outcome (List Output) → ItemTree → Outcome (List Output)
with_item built has_from items place so_far item =
    upon so_far (λ before. behind before (item_outputs built has_from items place (length before) item))

-- the expressions of output columns
abbrev pub exprs_of : List Output → List Expr
exprs_of outputs = map (λ o. o.value.expr) outputs
