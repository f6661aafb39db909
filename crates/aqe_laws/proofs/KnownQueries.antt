-- Known answers of whole queries: a check of the definitions by hand. A part of a query that is an expression is given by what
-- is read of its tree: its meaning, whether it stands alone, and whether an aggregate function is called in it.
use Rattle.std.proofs.Common.{◌≡◌, ℕ, List, [], ◌∷◌, ◌++◌, refl, ap, Bool, true, false, Some, None, Ok, Err, codes, decimal, pos}
use Rattle.aqe_base.specs.declared.join_kind.JoinKind.TheVariants.{LeftSemi}
use Rattle.aqe_base.specs.declared.status.AnalysisKind.TheVariants.{NoSuchColumn}
use Rattle.aqe_values.specs.declared.schema.Field.{Field}
use Rattle.aqe_values.specs.declared.sort_way.SortWay.{SortWay}
use Rattle.aqe_values.specs.declared.sql_type.SqlType.{SqlType}
use Rattle.aqe_values.specs.declared.sql_type.SqlType.TheVariants as sql
use Rattle.aqe_values.specs.declared.value.Value.TheVariants as value
use Rattle.aqe_expr.specs.declared.expr.UnaryOp.TheVariants as unary
use Rattle.aqe_expr.specs.declared.expr.BinaryOp.TheVariants as binary
use Rattle.aqe_expr.specs.declared.expr.Expr.{Expr, Column, Literal}
use Rattle.aqe_expr.specs.Shapes.{unary_of, binary_of}
use Rattle.aqe_logical.specs.declared.plan.AggFun.{AggFun}
use Rattle.aqe_logical.specs.declared.plan.AggFun.TheVariants.{Count, Sum}
use Rattle.aqe_logical.specs.declared.plan.Logical.{Logical, Scan}
use Rattle.aqe_logical.specs.Shapes.{filtered, projected, joined, aggregated, united, sorted}
use Rattle.aqe_trees.specs.declared.expression.CompareOp.TheVariants as compare
use Rattle.aqe_trees.specs.declared.expression.Sign.TheVariants as sign
use Rattle.aqe_trees.specs.declared.expression.OrTree.{OrTree}
use Rattle.aqe_trees.specs.declared.query.ItemTree.TheVariants as tree
use Rattle.aqe_trees.specs.declared.query.SortTree.{SortTree}
use Rattle.aqe_rules.specs.Outcomes.{Outcome, refused}
use Rattle.aqe_rules.specs.declared.typed.Typed.{Typed}
use Rattle.aqe_rules.specs.declared.names.Named.{Named}
use Rattle.aqe_rules.specs.Operations.{typed}
use Rattle.aqe_rules.specs.Readings.{Place, Reading, Call, readings}
use Rattle.aqe_rules.specs.Looks.{Alone, a_number, a_column, something, Mention, plain}
use Rattle.aqe_rules.specs.Expressions.{read, alone_of, has_aggregate, mentions_of}
use Rattle.aqe_rules.specs.Sources.{Catalog, From, item, columns_of, over}
use Rattle.aqe_rules.specs.Selects.{output, field, built, grouping_key, having_condition, calls_of, once}
use Rattle.aqe_rules.specs.Plans.{shown, hidden, keys_of}
use Rattle.aqe_rules.specs.Unions.{union_of}
use Rattle.aqe_rules.specs.Analysis.{Core, rules, plan_of}

-- the table t with the columns a INT and b BIGINT, and the table u with c STRING
abbrev t_fields : List Field
t_fields = field (codes "a") sql.Int ∷ field (codes "b") sql.BigInt ∷ []

abbrev u_fields : List Field
u_fields = field (codes "c") sql.Text ∷ []

abbrev catalog : Catalog
catalog = (codes "t", t_fields) ∷ (codes "u", u_fields) ∷ []

abbrev scan_t : Logical
scan_t = Scan 0 t_fields

-- FROM t
abbrev from_t : List (Catalog → Outcome From)
from_t = rules.joined (rules.table (codes "t") None) [] ∷ []

-- SELECT .. ORDER BY ..
abbrev ordered_query : Core → List SortTree → Outcome Logical
ordered_query core sorts = rules.query (rules.union core []) sorts None None catalog

abbrev query : Core → Outcome Logical
query core = ordered_query core []

abbrev way : Bool → Bool → SortWay
way descending nulls_last = record { descending = descending; nulls_last = nulls_last }

abbrev by : OrTree → Bool → Bool → SortTree
by value descending nulls_last = record { value = value; descending = descending; nulls_last = nulls_last }

-- what is read of a tree
record IsRead (v : OrTree) (meaning : Place → Reading) (form : Alone) (aggregate : Bool) (mentions : List Mention) : Type 0 where
  reads : read v ≡ meaning
  stands : alone_of v ≡ form
  calls : has_aggregate v ≡ aggregate
  mentioned : mentions_of v ≡ mentions

-- `a`, `b`
abbrev IsColumn : OrTree → List ℕ → Type 0
IsColumn v name = IsRead v (readings.column name) a_column false (plain name ∷ [])

-- ORDER BY with each of the four ways: over the output columns, and over a hidden column behind two of them
pub four_ways : (v : OrTree) →
    keys_of 2 (shown (Column 0) ∷ shown (Column 1) ∷ hidden (typed (Column 5) sql.Int) ∷ hidden (typed (Column 6) sql.Int) ∷ []) (by v false false ∷ by v false true ∷ by v true false ∷ by v true true ∷ []) ≡
    record { expr = Column 0; way = way false false } ∷ record { expr = Column 1; way = way false true } ∷ record { expr = Column 2; way = way true false } ∷ record { expr = Column 3; way = way true true } ∷ []
four_ways v = refl

-- UNION: INT and BIGINT meet in BIGINT, and the INT side alone is cast, under its names
union_casts : union_of false (Scan 0 (field (codes "a") sql.Int ∷ [])) (Scan 1 (field (codes "b") sql.BigInt ∷ [])) ≡
    Ok (united (projected (unary_of unary.CastBigInt (Column 0) ∷ []) (field (codes "a") sql.BigInt ∷ []) (Scan 0 (field (codes "a") sql.Int ∷ []))) (Scan 1 (field (codes "b") sql.BigInt ∷ [])))
union_casts = refl

-- a plain UNION keeps each row once
union_once : union_of true (Scan 0 (field (codes "a") sql.Int ∷ [])) (Scan 1 (field (codes "b") sql.Int ∷ [])) ≡
    Ok (aggregated (Column 0 ∷ []) [] (field (codes "a") sql.Int ∷ []) (united (Scan 0 (field (codes "a") sql.Int ∷ [])) (Scan 1 (field (codes "b") sql.Int ∷ []))))
union_once = refl

-- SELECT * FROM t LEFT SEMI JOIN u: the left columns alone
semi_join_shows_the_left : query (rules.select false (tree.All ∷ []) (rules.joined (rules.table (codes "t") None) (record { kind = LeftSemi; source = rules.table (codes "u") None; on = None } ∷ []) ∷ []) None [] None) ≡
    Ok (projected (Column 0 ∷ Column 1 ∷ []) t_fields (joined LeftSemi (Literal (value.Boolean true)) scan_t (Scan 1 u_fields)))
semi_join_shows_the_left = refl

-- SELECT c FROM t LEFT SEMI JOIN u
semi_join_hides_the_right : (c : OrTree) → IsColumn c (codes "c") →
    query (rules.select false (tree.One c None ∷ []) (rules.joined (rules.table (codes "t") None) (record { kind = LeftSemi; source = rules.table (codes "u") None; on = None } ∷ []) ∷ []) None [] None) ≡
    Err (refused NoSuchColumn (codes "c"))
semi_join_hides_the_right c is = rw is.reads refl

-- SELECT b, a + a, b AS x FROM t: the second column has no name of its own
names_of_columns : (b s : OrTree) → IsColumn b (codes "b") → IsRead s (readings.sum sign.Plus (readings.column (codes "a")) (readings.column (codes "a"))) something false (plain (codes "a") ∷ plain (codes "a") ∷ []) →
    query (rules.select false (tree.One b None ∷ tree.One s None ∷ tree.One b (Some (codes "x")) ∷ []) from_t None [] None) ≡
    Ok (projected (Column 1 ∷ binary_of binary.Add (Column 0) (Column 0) ∷ Column 1 ∷ [])
    (field (codes "b") sql.BigInt ∷ field (codes "_c" ++ decimal 1) sql.Int ∷ field (codes "x") sql.BigInt ∷ []) scan_t)
names_of_columns b s is sum = rw (is.reads, is.stands, is.calls, sum.reads, sum.stands, sum.calls) refl

-- SELECT a AS x, b AS a FROM t WHERE x = a: an alias counts where no column has the name
where_takes_aliases : (a b e : OrTree) → IsColumn a (codes "a") → IsColumn b (codes "b") →
    IsRead e (readings.compare compare.Equal (readings.column (codes "x")) (readings.column (codes "a"))) something false (plain (codes "x") ∷ plain (codes "a") ∷ []) →
    query (rules.select false (tree.One a (Some (codes "x")) ∷ tree.One b (Some (codes "a")) ∷ []) from_t (Some e) [] None) ≡
    Ok (projected (Column 0 ∷ Column 1 ∷ []) (field (codes "x") sql.Int ∷ field (codes "a") sql.BigInt ∷ []) (filtered (binary_of binary.Eq (Column 0) (Column 0)) scan_t))
where_takes_aliases a b e is_a is_b is_e = rw (is_e.reads, is_a.reads, is_b.reads, is_a.calls, is_b.calls) refl

-- SELECT a FROM t GROUP BY a HAVING a < 5: HAVING is read over the groups, and stands above them
abbrev t_columns : List Named
t_columns = columns_of (item (Some (codes "t")) t_fields ∷ [])

abbrev is_small : Typed
is_small = typed (binary_of binary.Lt (Column 0) (Literal (value.Int (pos 5)))) sql.Boolean

having_is_over_groups : (h : OrTree) → IsRead h (readings.compare compare.Less (readings.column (codes "b")) (readings.number false 5 true)) something false (plain (codes "b") ∷ []) →
    having_condition (built true (typed (Column 1) sql.BigInt ∷ []) t_columns) (over t_columns) h ≡ Ok (typed (binary_of binary.Lt (Column 0) (Literal (value.BigInt (pos 5)))) sql.Boolean)
having_is_over_groups h is = rw is.reads refl

having_stands_above_groups : plan_of (record { below = scan_t; columns = t_columns; is_grouped = true; keys = typed (Column 0) sql.Int ∷ []; outputs = output (codes "a") (typed (Column 0) sql.Int) ∷ []; having = Some is_small; distinct = false }) [] [] ≡
    projected (Column 0 ∷ []) (field (codes "a") sql.Int ∷ []) (filtered is_small.expr (aggregated (Column 0 ∷ []) [] (field [] sql.Int ∷ []) scan_t))
having_stands_above_groups = refl

-- SELECT b FROM t GROUP BY 1: a position counts the output columns
group_position : (b one : OrTree) → IsColumn b (codes "b") → grouping_key true (item (Some (codes "t")) t_fields ∷ []) (over t_columns) (tree.One b None ∷ []) one (a_number false 1) ≡ Ok (typed (Column 1) sql.BigInt)
group_position b one is = ap (λ (r : Place → Reading). (r (over t_columns)).value) is.reads

-- SELECT b, a FROM t ORDER BY 2 DESC NULLS LAST
order_position : (a b two : OrTree) → IsColumn a (codes "a") → IsColumn b (codes "b") → IsRead two (readings.number false 2 false) (a_number false 2) false [] →
    ordered_query (rules.select false (tree.One b None ∷ tree.One a None ∷ []) from_t None [] None) (by two true true ∷ []) ≡
    Ok (sorted (record { expr = Column 1; way = way true true } ∷ []) (projected (Column 1 ∷ Column 0 ∷ []) (field (codes "b") sql.BigInt ∷ field (codes "a") sql.Int ∷ []) scan_t))
order_position a b two is_a is_b is_two = rw (is_two.stands, is_two.calls, is_a.reads, is_a.stands, is_a.calls, is_b.reads, is_b.stands, is_b.calls) refl

-- SELECT a FROM t ORDER BY b: a hidden column is dropped again
hidden_column : (a b : OrTree) → IsColumn a (codes "a") → IsColumn b (codes "b") →
    ordered_query (rules.select false (tree.One a None ∷ []) from_t None [] None) (by b false true ∷ []) ≡
    Ok (projected (Column 0 ∷ []) (field (codes "a") sql.Int ∷ []) (sorted (record { expr = Column 1; way = way false true } ∷ [])
    (projected (Column 0 ∷ Column 1 ∷ []) (field (codes "a") sql.Int ∷ field [] sql.BigInt ∷ []) scan_t)))
hidden_column a b is_a is_b = rw (is_a.reads, is_a.stands, is_a.calls, is_b.calls, is_b.stands, is_b.mentioned, is_b.reads) refl

-- SELECT DISTINCT a FROM t ORDER BY b
distinct_has_no_hidden_column : (a b : OrTree) → IsColumn a (codes "a") → IsColumn b (codes "b") →
    ordered_query (rules.select true (tree.One a None ∷ []) from_t None [] None) (by b false true ∷ []) ≡ Err (refused NoSuchColumn (codes "b"))
distinct_has_no_hidden_column a b is_a is_b = rw (is_a.reads, is_a.stands, is_a.calls, is_b.calls, is_b.stands, is_b.mentioned) refl

-- the calls of a query: select list, HAVING, ORDER BY; each once, where it is used first
calls_in_order : (s h o : OrTree) → calls_of (over t_columns) (over t_columns) (tree.One s None ∷ []) (Some h) (by o false true ∷ []) ≡
    once (((read s (over t_columns)).calls ++ []) ++ (read h (over t_columns)).calls ++ ((read o (over t_columns)).calls ++ []))
calls_in_order s h o = refl

abbrev call : AggFun → Expr → SqlType → Call
call fun arg kind = record { call = record { fun = fun; arg = arg }; kind = kind }

calls_once : once (call Sum (Column 1) sql.BigInt ∷ call Count (Column 0) sql.BigInt ∷ call Sum (Column 1) sql.BigInt ∷ call Sum (Column 0) sql.BigInt ∷ call Count (Column 0) sql.BigInt ∷ []) ≡
    call Sum (Column 1) sql.BigInt ∷ call Count (Column 0) sql.BigInt ∷ call Sum (Column 0) sql.BigInt ∷ []
calls_once = refl

-- an aggregate call over a column, as one call
call_is_read : (readings.call (codes "SUM") (readings.column (codes "a") ∷ []) (over t_columns)).calls ≡ call Sum (Column 0) sql.BigInt ∷ []
call_is_read = refl

-- the values of calls stand behind those of the keys
calls_stand_behind_keys : plan_of (record { below = scan_t; columns = t_columns; is_grouped = true; keys = typed (Column 0) sql.Int ∷ []; outputs = output (codes "x") (typed (Column 1) sql.BigInt) ∷ []; having = None; distinct = false })
    (call Sum (Column 1) sql.BigInt ∷ []) [] ≡
    projected (Column 1 ∷ []) (field (codes "x") sql.BigInt ∷ []) (aggregated (Column 0 ∷ []) (record { fun = Sum; arg = Column 1 } ∷ []) (field [] sql.Int ∷ field [] sql.BigInt ∷ []) scan_t)
calls_stand_behind_keys = refl
