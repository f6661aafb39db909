-- Small known answers: a check of the definitions by hand.
use Rattle.std.proofs.Common.{◌≡◌, ℕ, List, [], ◌∷◌, refl, Bool, true, false, Some, None, Ok, Err, codes, decimal, pos}
use Rattle.aqe_base.specs.declared.status.AnalysisKind.TheVariants.{NoSuchTable, NoSuchColumn, Ambiguous, TypeMismatch, NotGrouped, BadPosition, UnionWidth, NestedAggregate}
use Rattle.aqe_base.specs.declared.join_kind.JoinKind.TheVariants.{Cross}
use Rattle.aqe_values.specs.declared.schema.Field.{Field}
use Rattle.aqe_values.specs.declared.sql_type.SqlType.TheVariants as sql
use Rattle.aqe_values.specs.declared.value.Value.TheVariants as value
use Rattle.aqe_expr.specs.declared.expr.UnaryOp.TheVariants as unary
use Rattle.aqe_expr.specs.declared.expr.BinaryOp.TheVariants as binary
use Rattle.aqe_expr.specs.declared.expr.Expr.{Column, Literal}
use Rattle.aqe_expr.specs.Shapes.{unary_of, binary_of}
use Rattle.aqe_logical.specs.declared.plan.Logical.{Logical, Scan}
use Rattle.aqe_logical.specs.Shapes.{projected, joined, aggregated, limited}
use Rattle.aqe_trees.specs.declared.expression.CompareOp.TheVariants as compare
use Rattle.aqe_trees.specs.declared.expression.Sign.TheVariants as sign
use Rattle.aqe_trees.specs.declared.query.ItemTree.TheVariants as tree
use Rattle.aqe_rules.specs.Outcomes.{Outcome, refused}
use Rattle.aqe_rules.specs.Operations.{typed}
use Rattle.aqe_rules.specs.Readings.{Place, Reading, readings}
use Rattle.aqe_rules.specs.Grouping.{grouped}
use Rattle.aqe_rules.specs.Sources.{Catalog, From, item, columns_of, over}
use Rattle.aqe_rules.specs.Selects.{field, at, at_position}
use Rattle.aqe_rules.specs.Unions.{union_of}
use Rattle.aqe_rules.specs.Analysis.{Core, rules}

-- the table t with the columns a INT and b BIGINT, and the table u with a STRING
abbrev t_fields : List Field
t_fields = field (codes "a") sql.Int ∷ field (codes "b") sql.BigInt ∷ []

abbrev u_fields : List Field
u_fields = field (codes "a") sql.Text ∷ []

abbrev catalog : Catalog
catalog = (codes "t", t_fields) ∷ (codes "u", u_fields) ∷ []

abbrev t_place : Place
t_place = over (columns_of (item (Some (codes "t")) t_fields ∷ []))

abbrev both_places : Place
both_places = over (columns_of (item (Some (codes "t")) t_fields ∷ item (Some (codes "u")) u_fields ∷ []))

abbrev a : Place → Reading
a = readings.column (codes "A")

abbrev b : Place → Reading
b = readings.column (codes "b")

-- names do not look at ASCII case; INT and BIGINT add to BIGINT without a cast
sum_is_bigint : (readings.sum sign.Plus a b t_place).value ≡ Ok (typed (binary_of binary.Add (Column 0) (Column 1)) sql.BigInt)
sum_is_bigint = refl

-- they are compared as BIGINTs
compared_as_bigint : (readings.compare compare.Less a b t_place).value ≡ Ok (typed (binary_of binary.Lt (unary_of unary.CastBigInt (Column 0)) (Column 1)) sql.Boolean)
compared_as_bigint = refl

-- a name that two items have is ambiguous, and told by its item it is not
two_have_it : (a both_places).value ≡ Err (refused Ambiguous (codes "A"))
two_have_it = refl

told_by_item : (readings.table_column (codes "u") (codes "a") both_places).value ≡ Ok (typed (Column 2) sql.Text)
told_by_item = refl

-- operands come before their call, and the left one before the right
first_operand_decides : (readings.sum sign.Plus (readings.column (codes "x")) (readings.literal (codes "1")) t_place).value ≡ Err (refused NoSuchColumn (codes "x"))
first_operand_decides = refl

types_do_not_fit : (readings.sum sign.Plus a (readings.literal (codes "1")) t_place).value ≡ Err (refused TypeMismatch [])
types_do_not_fit = refl

unknown_function : (readings.call (codes "nope") (a ∷ []) t_place).value ≡ Err (refused NoSuchColumn (codes "nope"))
unknown_function = refl

-- no aggregate call may stand where none is expected
nested : (readings.call (codes "max") (readings.count_all ∷ []) t_place).value ≡ Err (refused NestedAggregate (codes "count"))
nested = refl

-- the value of a call that may stand here is behind the columns
call_is_behind : (readings.negation (readings.compare compare.Equal readings.count_all (readings.number false 1 true)) (at t_place.columns (readings.count_all t_place).calls)).value ≡
    Ok (typed (unary_of unary.Not (binary_of binary.Eq (Column 2) (Literal (value.BigInt (pos 1))))) sql.Boolean)
call_is_behind = refl

-- the least INT is one literal with its sign, and one more is a BIGINT
greatest_int : (readings.number false 2147483647 false t_place).value ≡ Ok (typed (Literal (value.Int (pos 2147483647))) sql.Int)
greatest_int = refl

above_int : (readings.number false 2147483648 false t_place).value ≡ Ok (typed (Literal (value.BigInt (pos 2147483648))) sql.BigInt)
above_int = refl

-- a key is taken whole; a column that is no key is not grouped
whole_key : grouped (binary_of binary.Add (Column 0) (Column 1) ∷ []) (codes "a" ∷ codes "b" ∷ []) (unary_of unary.Neg (binary_of binary.Add (Column 0) (Column 1))) ≡ Ok (unary_of unary.Neg (Column 0))
whole_key = refl

no_key : grouped (Column 0 ∷ []) (codes "a" ∷ codes "b" ∷ []) (binary_of binary.Add (Column 0) (Column 1)) ≡ Err (refused NotGrouped (codes "b"))
no_key = refl

-- positions count from 1
first_position : at_position false 1 (sql.Int ∷ sql.Text ∷ []) ≡ Ok sql.Int
first_position = refl

past_the_end : at_position false 3 (sql.Int ∷ sql.Text ∷ []) ≡ Err (refused BadPosition (decimal 3))
past_the_end = refl

-- SELECT * FROM t, with and without DISTINCT, and over two tables
abbrev table : List ℕ → Catalog → Outcome From
table name = rules.joined (rules.table name None) []

abbrev star : Bool → List (Catalog → Outcome From) → Core
star distinct from = rules.select distinct (tree.All ∷ []) from None [] None

abbrev query : Core → Outcome Logical
query core = rules.query (rules.union core []) [] None None catalog

abbrev all_of_t : Logical
all_of_t = projected (Column 0 ∷ Column 1 ∷ []) t_fields (Scan 0 t_fields)

select_star : query (star false (table (codes "T") ∷ [])) ≡ Ok all_of_t
select_star = refl

distinct_star : query (star true (table (codes "t") ∷ [])) ≡ Ok (aggregated (Column 0 ∷ Column 1 ∷ []) [] t_fields all_of_t)
distinct_star = refl

comma_star : query (star false (table (codes "t") ∷ table (codes "u") ∷ [])) ≡
    Ok (projected (Column 0 ∷ Column 1 ∷ Column 2 ∷ []) (field (codes "a") sql.Int ∷ field (codes "b") sql.BigInt ∷ field (codes "a") sql.Text ∷ [])
    (joined Cross (Literal (value.Boolean true)) (Scan 0 t_fields) (Scan 1 u_fields)))
comma_star = refl

star_of_nothing : query (star false []) ≡ Err (refused NoSuchColumn (codes "*"))
star_of_nothing = refl

no_table : query (star false (table (codes "v") ∷ [])) ≡ Err (refused NoSuchTable (codes "v"))
no_table = refl

-- LIMIT 3
limit_of_star : rules.query (rules.union (star false (table (codes "t") ∷ [])) []) [] (Some 3) None catalog ≡ Ok (limited (Some 3) 0 all_of_t)
limit_of_star = refl

-- types are looked at before widths
widths_differ : union_of true (Scan 0 t_fields) (Scan 1 (field (codes "c") sql.Int ∷ [])) ≡ Err (refused UnionWidth [])
widths_differ = refl

types_differ : union_of true (Scan 0 t_fields) (Scan 1 u_fields) ≡ Err (refused TypeMismatch [])
types_differ = refl
