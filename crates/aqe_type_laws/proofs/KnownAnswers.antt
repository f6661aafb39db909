-- Known answers: a check of the definitions by hand.
use Rattle.std.proofs.Common.{◌≡◌, List, [], ◌∷◌, ◌++◌, refl, sym, subst, true, false, Some, None, Ok, codes, decimal, pos}
use Rattle.aqe_values.specs.declared.schema.Field.{Field}
use Rattle.aqe_values.specs.declared.sql_type.SqlType.TheVariants as sql
use Rattle.aqe_values.specs.declared.value.Value.TheVariants as value
use Rattle.aqe_expr.specs.declared.expr.Expr.{Column, Literal}
use Rattle.aqe_logical.specs.declared.plan.Logical.{Logical, Scan}
use Rattle.aqe_logical.specs.Shapes.{projected, aggregated}
use Rattle.aqe_logical.specs.Answers.{Row}
use Rattle.aqe_logical.specs.Groups.{row_of}
use Rattle.aqe_trees.specs.declared.expression.Sign.TheVariants as sign
use Rattle.aqe_rules.specs.Outcomes.{upon}
use Rattle.aqe_rules.specs.declared.typed.Typed.{Typed}
use Rattle.aqe_rules.specs.declared.names.Named.{Named}
use Rattle.aqe_rules.specs.Operations.{typed}
use Rattle.aqe_rules.specs.Readings.{readings}
use Rattle.aqe_rules.specs.Sources.{item, columns_of, over}
use Rattle.aqe_rules.specs.Selects.{field, output, built}
use Rattle.aqe_rules.specs.Analysis.{plan_of}
use Rattle.aqe_type_laws.specs.Fits.{FitsColumns}
use Rattle.aqe_type_laws.specs.Plans.{MayBeRow, KeepsTypes}

-- a INT, b STRING
abbrev columns : List Field
columns = field (codes "a") sql.Int ∷ field (codes "b") sql.Text ∷ []

-- a row fits them with a value of each type, or NULL; a shorter or a longer one does not, nor one with a BIGINT
fits : FitsColumns columns (value.Int (pos 1) ∷ value.Null ∷ [])
fits = (tt, (tt, tt))

too_short : FitsColumns columns (value.Int (pos 1) ∷ []) → ⊥
too_short h = h.1

too_long : FitsColumns columns (value.Int (pos 1) ∷ value.Null ∷ value.Null ∷ []) → ⊥
too_long h = (h.1).1

of_another_type : FitsColumns columns (value.BigInt (pos 1) ∷ value.Null ∷ []) → ⊥
of_another_type h = h.0

-- SELECT NULL FROM t GROUP BY + NULL, where t has these columns: the key is an INT, and the column that shows it of the type of NULL
abbrev t_columns : List Named
t_columns = columns_of (item (Some (codes "t")) columns ∷ [])

abbrev the_key : Typed
the_key = typed (Literal value.Null) sql.Int

abbrev the_item : Typed
the_item = typed (Column 0) sql.NullType

abbrev shown : List Field
shown = field (codes "_c" ++ decimal 0) sql.NullType ∷ []

abbrev null_of_groups : Logical
null_of_groups = projected (Column 0 ∷ []) shown (aggregated (Literal value.Null ∷ []) [] (field [] sql.Int ∷ []) (Scan 0 columns))

key_is_an_int : (readings.with_sign sign.Plus readings.null (over t_columns)).value ≡ Ok the_key
key_is_an_int = refl

item_is_a_null : upon (readings.null (over t_columns)).value (built true (the_key ∷ []) t_columns) ≡ Ok the_item
item_is_a_null = refl

is_its_plan : plan_of (record { below = Scan 0 columns; columns = t_columns; is_grouped = true; keys = the_key ∷ []; outputs = output (codes "_c" ++ decimal 0) the_item ∷ []; having = None; distinct = false }) [] [] ≡ null_of_groups
is_its_plan = refl

-- its item has the type of NULL over the rows of groups, and not over each row that fits the columns of the Aggregate
null_of_groups-keeps : KeepsTypes null_of_groups
null_of_groups-keeps = ((tt, λ row group f all. (tt, tt)), null)
  where
    null : (row : Row) → MayBeRow (aggregated (Literal value.Null ∷ []) [] (field [] sql.Int ∷ []) (Scan 0 columns)) row → FitsColumns shown (row_of (Column 0 ∷ []) row)
    null row (f, (under, group, g, all, is)) = subst (λ x. FitsColumns shown (row_of (Column 0 ∷ []) x)) (sym is) (tt, tt)

not_of_each_row : FitsColumns (field [] sql.Int ∷ []) (value.Int (pos 1) ∷ []) × (FitsColumns shown (row_of (Column 0 ∷ []) (value.Int (pos 1) ∷ [])) → ⊥)
not_of_each_row = ((tt, tt), λ h. h.0)
