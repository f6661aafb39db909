-- The laws of types.
use Rattle.std.specs.Prelude.{◌≡◌, List, All, flat_map, Ok}
use Rattle.aqe_values.specs.declared.value.Value.{Value}
use Rattle.aqe_expr.specs.Meaning.{val}
use Rattle.aqe_logical.specs.declared.plan.Logical.{Logical}
use Rattle.aqe_logical.specs.Columns.{schema_of}
use Rattle.aqe_logical.specs.Nodes.{nodes}
use Rattle.aqe_logical.specs.Answers.{Tables, Row, AnswerOf}
use Rattle.aqe_trees.specs.declared.expression.OrTree.{OrTree}
use Rattle.aqe_trees.specs.declared.query.QueryTree.{QueryTree}
use Rattle.aqe_rules.specs.declared.typed.Typed.{Typed}
use Rattle.aqe_rules.specs.Expressions.{read}
use Rattle.aqe_rules.specs.Sources.{Catalog, Item, columns_of, over}
use Rattle.aqe_rules.specs.Analysis.{Analysed}
use Rattle.aqe_type_laws.specs.Fits.{IsOf, FitsColumns}
use Rattle.aqe_type_laws.specs.Plans.{FitColumns, AnswersFit, KeepsTypes, ScansFit, TablesFit}

-- An expression over the columns of FROM that has a type has values of that type alone, over each row that fits the columns.
abbrev pub ExpressionsAreTyped : Type 0
ExpressionsAreTyped = (tree : OrTree) (items : List Item) (a : Typed) (row : List Value) →
    (read tree (over (columns_of items))).value ≡ Ok a → FitsColumns (flat_map (λ item. item.columns) items) row → IsOf (val row a.expr) a.kind

-- A plan whose nodes give what their columns say answers with rows that fit its columns, over tables that fit its scans.
abbrev pub AnswersFitTheColumns : Type 0
AnswersFitTheColumns = (tables : Tables) (plan : Logical) (l : List Row) →
    KeepsTypes plan → ScansFit tables plan → AnswerOf tables plan l → FitColumns (schema_of plan) l

-- The nodes of a query's plan give what their columns say.
abbrev pub PlansKeepTypes : Type 0
PlansKeepTypes = (tree : QueryTree) (catalog : Catalog) (plan : Logical) → Analysed tree catalog plan → KeepsTypes plan

-- So the plan of a query answers with rows that fit its columns, over tables that fit its scans.
abbrev pub PlansAreTyped : Type 0
PlansAreTyped = (tree : QueryTree) (catalog : Catalog) (plan : Logical) (tables : Tables) (l : List Row) →
    Analysed tree catalog plan → ScansFit tables plan → AnswerOf tables plan l → FitColumns (schema_of plan) l

-- So does each plan within it.
abbrev pub NodesAreTyped : Type 0
NodesAreTyped = (tree : QueryTree) (catalog : Catalog) (plan : Logical) (tables : Tables) →
    Analysed tree catalog plan → ScansFit tables plan → All (AnswersFit tables) (nodes plan)

-- Tables that fit their catalog fit the scans of the plan of each query over it.
abbrev pub TablesFitTheScans : Type 0
TablesFitTheScans = (tree : QueryTree) (catalog : Catalog) (plan : Logical) (tables : Tables) →
    Analysed tree catalog plan → TablesFit catalog tables → ScansFit tables plan
